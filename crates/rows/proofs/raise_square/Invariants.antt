use Rattle.rows.specs.Rows.{Masked}
use Rattle.rows.proofs.MaskLaws.{in_levels}
use Rattle.rows.proofs.raise_square.Given as goal

abbrev pub invariant-loop-l : goal.invariant-loop-l
invariant-loop-l l = Masked (in_levels l.y l.side l.l) l.mask l.initial.rows l.rows
