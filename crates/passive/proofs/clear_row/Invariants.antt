use Rattle.passive.specs.Cleared.{kept_if}
use Rattle.passive.proofs.RowLaws.{Rule, Turn}
use Rattle.passive.proofs.clear_row.Given as goal

abbrev pub rule : Rule
rule t a z = kept_if t z

abbrev pub invariant-loop-number : goal.invariant-loop-number
invariant-loop-number l = Turn rule l.e l.initial.m l.initial.row l.initial.row l.number-index l.m l.row
