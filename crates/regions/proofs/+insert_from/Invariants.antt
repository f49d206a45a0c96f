-- The measure is the side, which halves.
use Rattle.regions.proofs.+insert_from.Given as goal

abbrev pub decreases-insert_from : goal.decreases-insert_from
decreases-insert_from l = l.side
