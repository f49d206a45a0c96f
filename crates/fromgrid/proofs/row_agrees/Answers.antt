-- `row_agrees`: the row that the coarser level gives, compared with the row itself.
use mathlib.Core.Path.{◌≡◌, refl, sym, ap, ◌∙◌, subst}
use mathlib.Core.List.{List, ◌++◌}
use Prim.Native.Nat.{◌+◌, ◌*◌, ◌/◌, ◌≤◌}
use native.Mathlib.Nat.{sub-zero, suc-mul, mul_comm, mul-le-mul_right, le_trans}
use native.Mathlib.Omega.{arith}
use lib.IntN.{ℤ, pos}
use lib.ListN.{length, get_or, take, drop, replicate}
use lib.Seq.{length-take-le}
use Rattle.surface.specs.Sheet.{functions}
use Rattle.surface.specs.Table.{places}
use Rattle.rows.specs.Rows.{levels_of}
use Rattle.carry.specs.Carried.{next_number}
use Rattle.carry.proofs.CarryLaws.{parents-fit}
use Rattle.carry.proofs.ChildLaws.{zeros-small}
use Rattle.coarsening.specs.Coarser.{finer}
use Rattle.coarsening.proofs.BackLaws.{few, stand-less}
use Rattle.fromgrid.specs.Converts.{in_rows}
use Rattle.fromgrid.proofs.RowLaws.{rows_whole, lent-front, row_told}
use Rattle.fromgrid.proofs.row_agrees.Goals.{After-functions-n, After-next_row, After-read_row}
use Rattle.fromgrid.proofs.row_agrees.Goals as goal

-- an array of which rows are lent
abbrev zeros : List ℤ
zeros = replicate 67 (pos 0)

front : (f : After-functions-n) → length (take f.functions-n.result zeros) ≡ f.functions-n.result
front f = length-take-le f.functions-n.result zeros (omega (arith, f.functions-n.ensures))

-- the row stands among the level's
inside : (f : After-functions-n)
    → let a = f.args in
    a.b * f.functions-n.result + f.functions-n.result ≤ places a.w a.h (a.level + 1)
inside f =
    let a = f.args in
    let n = functions a.w (a.level + 1) in
    let m = functions a.h (a.level + 1) in
    subst (λ k. a.b * k + k ≤ places a.w a.h (a.level + 1)) (sym f.functions-n.ensures.0)
    (omega (arith, mul-le-mul_right n f.requires.7, suc-mul a.b n, mul_comm n m))

small : (f : After-functions-n)
    → let a = f.args in places a.w a.h (a.level + 1) ≤ 4489
small f =
    let a = f.args in
    few a.w a.h (a.level + 1) f.requires.0 f.requires.1 (omega (arith, f.requires.2))

pub read_row-requires : goal.read_row-requires
read_row-requires c = let a = c.args in
    let f = (goal.at.read_row-requires c).After-functions-n in
    let row : a.b * c.functions-n.result + length (take c.functions-n.result zeros) ≤ places a.w a.h (a.level + 1) =
    omega (arith, front f, inside f) in
    (stand-less a.level a.body.now a.fine.now _ _ row c.requires.5, le_trans row (small f))

-- the row that was read, as it is lent
abbrev read : After-read_row → List ℤ
read r = r.read_row.new.row

size : (r : After-read_row) → length (read r) ≡ r.functions-n.result
size r =
    r.read_row.ensures.0 ∙ length-take-le r.functions-n.result zeros (omega (arith, r.functions-n.ensures))

lent : (r : After-read_row)
    → let n = r.functions-n.result in take n (read r ++ drop n zeros) ≡ read r
lent r = let n = r.functions-n.result in lent-front n (read r) (drop n zeros) (size r)

pub next_row-requires : goal.next_row-requires
next_row-requires c = let a = c.args in
    let r = (goal.at.next_row-requires c).After-read_row in
    let n = c.functions-n.ensures.0 in
    let parents = parents-fit a.w a.h a.level a.b (functions a.w a.level) refl c.requires.7 in (
      c.requires.0,
      c.requires.1,
      omega (arith, c.requires.2),
      c.requires.7,
      omega arith,
      rw (sub-zero (a.b / 2), c.requires.3) parents,
      c.requires.4,
      front (goal.at.next_row-requires c).After-functions-n ∙ n,
      ap length (lent r) ∙ size r ∙ n,
      refl,
      zeros-small,
      c.requires.6,
    )

-- the row that the coarser level gives
made : (c : After-next_row) → length c.next_row.new.row ≡ c.functions-n.result
made c =
    c.next_row.ensures.0.0
    ∙ sym c.functions-n.ensures.0

lent_row : (c : After-next_row)
    → let n = c.functions-n.result in
    take n (c.next_row.new.row ++ drop n zeros) ≡ c.next_row.new.row
lent_row c =
    let n = c.functions-n.result in
    lent-front n c.next_row.new.row (drop n zeros) (made c)

pub same-requires : goal.same-requires
same-requires c =
    let r = (goal.at.same-requires c).After-read_row in
    let made_row = (goal.at.same-requires c).After-next_row in
    ap length (lent_row made_row) ∙ made made_row ∙ sym (size r) ∙ sym (ap length (lent r))

pub returns : goal.returns
returns c = let a = c.args in
    let f = (goal.at.returns c).After-functions-n in
    let r = (goal.at.returns c).After-read_row in
    let L = a.level in
    let F = finer L a.body.now a.fine.now (functions a.w (L + 1)) in
    let C = in_rows (functions a.w L) a.coarse.now in
    let row = c.next_row.new.row in
    let told = rw (lent_row (goal.at.returns c).After-next_row, lent r) at c.same.ensures in
    row_told a.w a.h (levels_of a.rows.now) L a.b C F (read r) row
    (λ k hk. c.read_row.ensures.1 k (rw (front f, c.functions-n.ensures.0) hk)
    ∙ ap (λ n. finer L a.body.now a.fine.now n k a.b) c.functions-n.ensures.0)
    (λ k hk. c.next_row.ensures.0.1 C (rows_whole (functions a.w L) _ a.coarse.now) k hk
    ∙ ap (λ own. next_number a.w a.h (levels_of a.rows.now) L C (get_or own k (pos 0)) k a.b) (lent r))
    c.same.result c.next_row.ensures.0.0 told.0 told.1

pub overflow_mul-b : goal.overflow_mul-b
overflow_mul-b c =
    let f = (goal.at.overflow_mul-b c).After-functions-n in omega (arith, inside f, small f)
