-- `carried_row` meets its contract: the row of the next level with its own part of the coefficients.
use mathlib.Core.Path.{◌≡◌, refl}
use Prim.Native.Nat.{◌+◌, ◌*◌, ◌≤◌}
use native.Mathlib.Nat.{mul-le-mul_right}
use native.Mathlib.Omega.{arith}
use lib.ListN.{length, length-take, length-drop}
use Rattle.surface.specs.Sheet.{functions}
use Rattle.surface.specs.Table.{start}
use Rattle.coefficients.proofs.Parts.{row-end}
use Rattle.carry.proofs.ChildLaws.{zeros-small}
use Rattle.togrid.proofs.WindowLaws.{window-within, row-carried}
use Rattle.togrid.proofs.strip.carried_row.Goals.{After-start}
use Rattle.togrid.proofs.strip.carried_row.Goals as goal

-- where the row's own coefficients start, and that they stand in the slice
begins : (c : After-start)
    → let n = c.functions-n.result in
    let a = c.args in
    c.start.result + a.b * n ≡ start a.w a.h (a.level + 1) + a.b * n
begins c = omega (arith, c.start.ensures.0)

inside : (c : After-start)
    → let n = c.functions-n.result in
    let a = c.args in
    c.start.result + a.b * n + n ≤ length a.numbers.now
inside c =
    let a = c.args in
    let n = c.functions-n.result in
    rw c.requires.0.size
    (row-end a.w a.h (a.level + 1) a.b n (c.start.result + a.b * n) c.functions-n.ensures.0
    (begins c) (omega (arith, c.requires.1)) c.requires.2)

pub next_row-requires : goal.next_row-requires
next_row-requires c =
    let step = (goal.at.next_row-requires c).After-start in
    let a = c.args in
    let p = c.requires in
    let w = p.5.1 in (
      p.0.small-W,
      p.0.small-H,
      p.1,
      p.2,
      p.3,
      omega (arith, w.size, mul-le-mul_right (functions a.w a.level) p.5.2),
      window-within a.w a.h a.rows.now a.numbers.now a.level a.first p.5.0 a.coarse.now
          p.1 p.0.fit w,
      p.4,
      simp (length-take, length-drop) (omega (arith, inside step, c.functions-n.ensures.0)),
      refl,
      zeros-small,
      p.0.nested,
    )

pub returns : goal.returns
returns c = let a = c.args in
    let n = c.functions-n.result in
    row-carried a.w a.h a.rows.now a.numbers.now a.level a.b a.first c.requires.5.0
    (c.start.result + a.b * n) n a.coarse.now c.next_row.new.row c.functions-n.ensures.0
    (begins (goal.at.returns c).After-start) c.requires.5.2 c.requires.5.1 c.next_row.ensures.0

pub slice_bounds-next_row-end : goal.slice_bounds-next_row-end
slice_bounds-next_row-end c =
    omega (arith, inside (goal.at.slice_bounds-next_row-end c).After-start)
