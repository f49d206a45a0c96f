-- `rounding::whole_watts` meets its contract: the floor, and 1 more where at least D/2 is left over.
use native.Mathlib.Omega.{arith}
use Rattle.rounding.proofs.FloorLaws.{lt_z-true, lt_z-false-up, Floored, floored, tested-left}
use Rattle.rounding.proofs.FloorLaws.{whole-more, whole_same}
use Rattle.rounding.proofs.whole_watts.Goals.{After-rem_euclid-left}
use Rattle.rounding.proofs.whole_watts.Goals as goal

known : (c : After-rem_euclid-left)
    → Floored c.args.n c.div_euclid-floor.result c.rem_euclid-left.result
known c =
    floored c.args.n c.div_euclid-floor.result c.rem_euclid-left.result
    c.ranges.n
    c.div_euclid-floor.ensures
    c.rem_euclid-left.ensures.value

pub returns-then-left-lt-HALF : goal.returns-then-left-lt-HALF
returns-then-left-lt-HALF c = let d = known (goal.at.returns-then-left-lt-HALF c).After-rem_euclid-left in whole_same d (omega (arith, lt_z-true, d, tested-left d))

pub returns-else-left-lt-HALF : goal.returns-else-left-lt-HALF
returns-else-left-lt-HALF c = let d = known (goal.at.returns-else-left-lt-HALF c).After-rem_euclid-left in
    whole-more d (omega arith) (omega (arith, lt_z-false-up, d, tested-left d))
