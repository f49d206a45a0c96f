-- The quotient, or the last cell.
use mathlib.Core.Path.{ap}
use Prim.Native.Nat.{◌*◌}
use native.Mathlib.Omega.{arith}
use Rattle.activity.proofs.WindowLaws.{eighths-le}
use Rattle.surface.proofs.SplineWeight.{eighths-pos}
use Rattle.surface.proofs.SplineCell.{cell-inside}
use Rattle.point.proofs.PointLaws.{cell-found}
use borrow.Author.Rules.{rules}
use Rattle.point.proofs.cell.cell_of.Goals as goal

pub overflow_mul-steps : goal.overflow_mul-steps
overflow_mul-steps c = omega (arith, eighths-le c.args.level, c.eighths-steps.ensures)

pub overflow_sub-last : goal.overflow_sub-last
overflow_sub-last c = let i = cell-inside c.args.n c.args.level c.args.u c.requires.0 c.requires.3 c.requires.2 in
    omega (arith, i, c.functions-last.ensures.0)

pub nonzero_div-u : goal.nonzero_div-u
nonzero_div-u c = omega (arith, eighths-pos c.args.level, c.eighths-steps.ensures)

pub returns : goal.returns
returns c = let a = c.args in
    cell-found a.n a.level a.u (16 * c.eighths-steps.result) c.functions-last.result
    c.min.result c.requires.0 c.requires.3 c.requires.2 (ap (λ k. 16 * k) c.eighths-steps.ensures)
    c.functions-last.ensures.0 (search rules)
