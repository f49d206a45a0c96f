use mathlib.Core.Path.{◌≡◌}
use Rattle.activity.specs.Mark.{active_mark}
use Rattle.finite.proofs.Written.{rows_written}
use Rattle.activity.proofs.mark.mark_level.Given as goal

abbrev pub invariant-loop-b : goal.invariant-loop-b
invariant-loop-b l = l.out ≡ rows_written l.n l.b (active_mark l.w l.h l.level l.rows) l.initial.out
