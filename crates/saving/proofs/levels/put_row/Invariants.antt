use lib.IntN.{pos}
use lib.ListN.{get_or}
use Rattle.finite.specs.Range.{joined}
use Rattle.activity.specs.Marks.{marked, From}
use Rattle.fields.specs.Put.{Put}
use Rattle.saving.specs.Saved.{bytes_if}
use Rattle.saving.proofs.levels.put_row.Given as goal

abbrev pub invariant-loop-number : goal.invariant-loop-number
invariant-loop-number l =
    From l.e l.number-index l.initial.m l.m
    × Put (joined l.number-index (λ a. bytes_if (marked l.e l.initial.m a) (get_or l.row a (pos 0)))) l.at
    l.initial.out l.to l.out
