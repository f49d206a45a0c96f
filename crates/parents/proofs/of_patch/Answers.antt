-- `of_patch`: the step along u undone, then the one along v.
use Rattle.parents.proofs.Algebra.{both-back}
use Rattle.parents.proofs.of_patch.Goals as goal

pub across-requires-2 : goal.across-requires-2
across-requires-2 c = (c.requires.1, c.across.ensures.1 8388608000 c.requires.2)

pub returns : goal.returns
returns c = both-back c.args.g c.args.h c.args.p c.across.result c.across-2.result
    c.requires.0 c.requires.1 c.requires.2 c.across.ensures c.across-2.ensures
