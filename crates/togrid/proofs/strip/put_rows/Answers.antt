-- `put_rows` meets its contract: before each turn the rows below i are put.
use mathlib.Core.Path.{◌≡◌, refl, sym, ap, ◌∙◌}
use mathlib.Core.List.{List, ◌++◌}
use Prim.Native.Nat.{ℕ, ◌+◌, ◌*◌}
use native.Mathlib.Omega.{arith}
use lib.IntN.{ℤ}
use lib.ListN.{length, take, drop, length-append, length-drop}
use Rattle.finite.proofs.Joined.{joined-through}
use Rattle.fields.proofs.PutLaws.{put-none, put_next}
use Rattle.togrid.specs.Strips.{Row, numbers_bytes, grid_row}
use Rattle.togrid.proofs.TextLaws.{row-bytes, row-spelt}
use Rattle.togrid.proofs.WindowLaws.{lent-front}
use Rattle.togrid.proofs.strip.put_rows.Goals.{After-carried_row, At-loop-i, Start}
use Rattle.togrid.proofs.strip.put_rows.Goals as goal

-- what each row adds
abbrev texts : Start → ℕ → List ℕ
texts s i = let a = s.args in grid_row a.w a.h a.rows.now a.numbers.now (2 * a.first + i)

pub loop-i-init : goal.loop-i-init
loop-i-init c = (refl, put-none (texts (goal.at.loop-i-init c).Start) c.args.at c.args.out.now)

-- the start of a turn, the array with the row in it, and what is lent of it to be put
abbrev turn : After-carried_row → At-loop-i
turn c = c.before.before.before

abbrev filled : After-carried_row → List ℤ
filled c = c.carried_row.new.row ++ drop (turn c).functions-n.result (turn c).loop-i.row

abbrev lent : After-carried_row → List ℤ
lent c = take (turn c).functions-n.result (filled c)

size : (c : After-carried_row) → length (filled c) ≡ 67
size c =
    let n = (turn c).functions-n in
    simp (length-append, length-drop)
    (omega (arith, c.carried_row.ensures.0, n.ensures.0, n.ensures.1, (turn c).loop-i.invariant.0))

-- what a turn puts is its row
own : (c : After-carried_row)
    → let a = (turn c).args in
    Row a.w a.h a.rows.now a.numbers.now 3 (2 * a.first + (turn c).loop-i.i) (lent c)
own c =
    let a = (turn c).args in
    let n = (turn c).functions-n in
    let row = c.carried_row.ensures in
    lent-front (Row a.w a.h a.rows.now a.numbers.now 3 (2 * a.first + (turn c).loop-i.i)) n.result
    c.carried_row.new.row (drop n.result (turn c).loop-i.row) (row.0 ∙ sym n.ensures.0) row

same : (c : After-carried_row)
    → numbers_bytes (lent c) ≡ texts (turn c).before.before.before (turn c).loop-i.i
same c =
    let a = (turn c).args in
    row-bytes a.w a.h a.rows.now a.numbers.now (2 * a.first + (turn c).loop-i.i) (lent c) (own c)

pub put_numbers-to-requires : goal.put_numbers-to-requires
put_numbers-to-requires c =
    let step = (goal.at.put_numbers-to-requires c).After-carried_row in
    let loop = (turn step).loop-i in
    let s = (turn step).before.before.before in
    let a = s.args in
    let p = s.requires in
    let below = c.loop-i-test.true in (
      omega (
        arith,
        p.4,
        loop.auto.out,
        loop.invariant.1.0,
        joined-through (texts s) a.count loop.i below,
        ap length (same step),
      ),
      row-spelt a.w a.h a.rows.now a.numbers.now (2 * a.first + loop.i) (lent step) p.0.fit
          (omega (arith, p.2, below)) (own step),
    )

pub loop-i-preserved : goal.loop-i-preserved
loop-i-preserved c =
    let step = (goal.at.loop-i-preserved c).After-carried_row in
    let loop = (turn step).loop-i in
    let s = (turn step).before.before.before in
    let a = s.args in (
      size step,
      put_next loop.i (texts s) _ a.at a.out.now loop.to loop.out c.put_numbers-to.result
          c.put_numbers-to.new.out loop.invariant.1 c.put_numbers-to.ensures (same step),
    )
