-- `write_leaf` meets its contract.
use Rattle.regions.proofs.BuildLaws.{leaf-at}
use Rattle.regions.proofs.write_leaf.Goals as goal

pub returns : goal.returns
returns c = leaf-at c.args.at c.args.level c.args.out.now c.requires.1 c.requires.0
