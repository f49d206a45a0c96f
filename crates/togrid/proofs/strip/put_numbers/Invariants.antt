use lib.IntN.{pos}
use lib.ListN.{get_or}
use Rattle.finite.specs.Range.{joined}
use Rattle.surface.specs.Fields.{number_bytes}
use Rattle.fields.specs.Put.{Put}
use Rattle.togrid.proofs.strip.put_numbers.Given as goal

abbrev pub invariant-loop-number : goal.invariant-loop-number
invariant-loop-number l =
    Put (joined l.number-index (λ a. number_bytes (get_or l.row a (pos 0)))) l.at l.initial.out l.to l.out
