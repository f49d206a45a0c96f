-- A point lies at most the steps of a cell into its cell, at the far edge too.
use mathlib.Core.Path.{◌≡◌, ap, ap₂, ◌∙◌}
use Prim.Native.Nat.{ℕ, ◌-◌, ◌*◌, ◌≤◌}
use native.Mathlib.Nat.{mul_comm}
use native.Mathlib.Omega.{arith}
use Rattle.surface.specs.Sheet.{steps}
use Rattle.activity.proofs.WindowLaws.{eighths-le}
use Rattle.point.proofs.PointLaws.{steps-left}
use Rattle.point.proofs.cell.place_of.Goals.{After-eighths-side, Start}
use Rattle.point.proofs.cell.place_of.Goals as goal

pub overflow_mul-side : goal.overflow_mul-side
overflow_mul-side c = let few : c.eighths-side.result ≤ 8 = rw c.eighths-side.ensures (eighths-le _) in omega arith

module _ (c : After-eighths-side) where
  abbrev start : Start
  start = c.before.before.before

  n : 16 * c.eighths-side.result ≡ steps start.args.level
  n = ap (λ e. 16 * e) c.eighths-side.ensures

  left-u : let n = 16 * c.eighths-side.result in
      let a = c.cell_of-a.result in
      (n * a ≤ start.args.u) × (start.args.u - n * a ≤ n)
  left-u =
      steps-left start.args.w start.args.level start.args.u c.cell_of-a.result _
      start.requires.0 start.requires.5 start.requires.4 c.cell_of-a.ensures.0 n

  left-v : let n = 16 * c.eighths-side.result in
      let b = c.cell_of-b.result in (n * b ≤ start.args.v) × (start.args.v - n * b ≤ n)
  left-v =
      steps-left start.args.h start.args.level start.args.v c.cell_of-b.result _
      start.requires.2 start.requires.6 start.requires.4 c.cell_of-b.ensures.0 n

  -- the same, with the factors as the definition has them

  into : (a b u : ℕ) → a ≡ b → u - 16 * c.eighths-side.result * a ≡ u - b * steps start.args.level
  into a b u e = ap (λ m. u - m) (ap₂ ◌*◌ n e ∙ mul_comm (steps start.args.level) b)

pub overflow_mul-result : goal.overflow_mul-result
overflow_mul-result c = omega (arith, (left-u c).0, (start c).ranges.u)

pub overflow_sub-result : goal.overflow_sub-result
overflow_sub-result c = omega (arith, (left-u c).0)

pub overflow_mul-result-2 : goal.overflow_mul-result-2
overflow_mul-result-2 c = omega (arith, (left-v c).0, (start c).ranges.v)

pub overflow_sub-result-2 : goal.overflow_sub-result-2
overflow_sub-result-2 c = omega (arith, (left-v c).0)

pub returns : goal.returns
returns c = let u = c.cell_of-a in
    let v = c.cell_of-b in
    record {
      side = n c;
      into_u = into c u.result _ (start c).args.u u.ensures.0;
      into_v = into c v.result _ (start c).args.v v.ensures.0;
      within_u = (left-u c).1;
      within_v = (left-v c).1;
    }
