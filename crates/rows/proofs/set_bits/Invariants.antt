use Rattle.rows.specs.Rows.{in_span, Masked}
use Rattle.rows.proofs.set_bits.Given as goal

abbrev pub invariant-loop-word : goal.invariant-loop-word
invariant-loop-word l = Masked (in_span 0 l.word-index) l.mask l.initial.word-items l.word-items
