use mathlib.Core.Path.{◌≡◌}
use Rattle.activity.specs.Marks.{mark_at, From}
use Rattle.finite.proofs.Written.{written}
use Rattle.activity.proofs.mark.mark_row.Given as goal

abbrev pub invariant-loop-mark : goal.invariant-loop-mark
invariant-loop-mark l = From l.e l.mark-index l.initial.m l.m × (l.row ≡ written l.mark-index (mark_at l.e l.initial.m) l.initial.row)
