-- `span` meets its contract: 32 ones lose all but n, which then move up by x.
use Rattle.rows.proofs.RowLaws.{span-bits}
use Rattle.rows.proofs.span.Goals as goal

pub returns : goal.returns
returns c = span-bits c.args.x c.args.n c.requires.0 c.requires.1
