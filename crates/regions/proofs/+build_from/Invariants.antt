-- The measure is the side, which halves.
use Rattle.regions.proofs.+build_from.Given as goal

abbrev pub decreases-build_from : goal.decreases-build_from
decreases-build_from l = l.side
