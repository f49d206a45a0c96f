-- `fill_window` meets its contract: before each turn the rows below i have their carried values.
use mathlib.Core.Path.{sym, ◌∙◌, subst}
use Prim.Native.Nat.{◌+◌, ◌*◌, ◌≤◌, ◌<◌}
use native.Mathlib.Omega.{arith}
use lib.ListN.{length}
use Rattle.coefficients.proofs.Parts.{row_next}
use Rattle.togrid.specs.Strips.{value}
use Rattle.togrid.proofs.WindowLaws.{row_inside, rows_more}
use Rattle.togrid.proofs.strip.fill_window.Goals.{In-loop-i, Start}
use Rattle.togrid.proofs.strip.fill_window.Goals as goal

-- a turn's row stands in the window
inside : (c : In-loop-i)
    → let n = c.functions-n.result in
    let loop = c.loop-i in
    loop.i * n + n ≤ length loop.out
inside c =
    let n = c.functions-n in
    let loop = c.loop-i in
    row_inside loop.i c.args.count n.result c.loop-i-test.true
    (loop.auto.out ∙ rw n.ensures.0 c.requires.3)

pub loop-i-preserved : goal.loop-i-preserved
loop-i-preserved c =
    let turn = (goal.at.loop-i-preserved c).In-loop-i in
    let loop = c.loop-i in
    let n = c.functions-n in
    let a = c.args in
    let row = c.carried_row.ensures in (
      row_next loop.i n.result 0 (loop.invariant.0 ∙ omega arith) ∙ omega arith,
      rows_more n.result loop.i (2 * a.first) loop.from
          (value a.w a.h a.rows.now a.numbers.now (a.level + 1)) loop.out
          c.carried_row.new.row _ loop.invariant.0 (omega (arith, inside turn)) (row.0 ∙ sym n.ensures.0)
          loop.invariant.1 (λ k hk. row.1 k (subst (λ m. k < m) n.ensures.0 hk)),
    )

pub slice_bounds-carried_row-end : goal.slice_bounds-carried_row-end
slice_bounds-carried_row-end c =
    omega (arith, inside c)
