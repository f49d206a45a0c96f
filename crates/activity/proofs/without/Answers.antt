-- `without` meets its contract.
use Rattle.activity.proofs.BitLaws.{without-bit}
use Rattle.activity.proofs.without.Goals as goal

pub returns : goal.returns
returns c = without-bit c.args.word c.args.other c.ranges.word.fits c.ranges.other.fits
