use Rattle.table.proofs.cause.table_cause.Goals as goal

pub returns : goal.returns
returns c = c.check.ensures.0
