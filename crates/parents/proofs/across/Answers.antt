-- `across`: column l of what is returned has the parents of row l.
use Rattle.parents.proofs.Algebra.{columns-back}
use Rattle.parents.proofs.across.Goals as goal

pub returns : goal.returns
returns c = columns-back c.args.half c.args.p c.of_row-a.result c.of_row-b.result c.of_row-c.result
    c.of_row-d.result c.column.result c.column-2.result c.column-3.result c.column-4.result
    c.of_row-a.ensures c.of_row-b.ensures c.of_row-c.ensures c.of_row-d.ensures c.column.ensures
    c.column-2.ensures c.column-3.ensures c.column-4.ensures
