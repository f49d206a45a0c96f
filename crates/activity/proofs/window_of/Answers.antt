-- `window_of` meets its contract: the ends of the support, cut to the sheet.
use Prim.Native.Nat.{◌*◌, ◌≤◌}
use native.Mathlib.Omega.{arith}
use Rattle.activity.proofs.WindowLaws.{eighths-le, place-le}
use Rattle.activity.proofs.window_of.Goals.{After-eighths-e}
use Rattle.activity.proofs.window_of.Goals as goal

-- the side of a cell is small, and so is its multiple
small : (c : After-eighths-e) → c.eighths-e.result ≤ 8
small c = omega (arith, eighths-le c.args.level)

at_small : (c : After-eighths-e) → c.args.a * c.eighths-e.result ≤ 528
at_small c = place-le c.args.a c.eighths-e.result c.requires.2 (small c)

pub overflow_mul-at : goal.overflow_mul-at
overflow_mul-at c =
    omega (arith, at_small c)

pub overflow_mul-before : goal.overflow_mul-before
overflow_mul-before c =
    omega (arith, small c)

pub overflow_add-at : goal.overflow_add-at
overflow_add-at c =
    omega (arith, at_small (goal.at.overflow_add-at c).After-eighths-e, small (goal.at.overflow_add-at c).After-eighths-e)
