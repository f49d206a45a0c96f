-- `padded` meets its contract.
use Rattle.activity.proofs.BitLaws.{padded-bit}
use Rattle.activity.proofs.padded.Goals as goal

pub returns : goal.returns
returns c = padded-bit c.args.w c.args.word c.requires
