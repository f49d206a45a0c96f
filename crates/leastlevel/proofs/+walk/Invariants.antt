-- The measure is the side, which halves.
use Rattle.leastlevel.proofs.+walk.Given as goal

abbrev pub decreases-walk : goal.decreases-walk
decreases-walk l = l.side
