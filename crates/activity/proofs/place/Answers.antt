-- `place` shifts both words to the places of functions 0 and 1.
use Prim.Native.Nat.{◌≤◌}
use native.Mathlib.Omega.{arith}
use Rattle.activity.proofs.WindowLaws.{eighths-le}
use Rattle.activity.proofs.place.Goals.{After-eighths-e}
use Rattle.activity.proofs.place.Goals as goal

side : (c : After-eighths-e) → c.eighths-e.result ≤ 8
side c = omega (arith, c.eighths-e.ensures, eighths-le c.args.level)

pub overflow_mul-result : goal.overflow_mul-result
overflow_mul-result c =
    omega (arith, side c)

pub overflow_sub-result : goal.overflow_sub-result
overflow_sub-result c =
    omega (arith, side c)

pub overflow_sub-result-2 : goal.overflow_sub-result-2
overflow_sub-result-2 c =
    omega (arith, side (goal.at.overflow_sub-result-2 c).After-eighths-e)
