use Rattle.finite.specs.Range.{joined}
use Rattle.surface.specs.Table.{coefficients}
use Rattle.rows.specs.Rows.{levels_of}
use Rattle.fields.specs.Put.{Put}
use Rattle.saving.specs.Saved.{level_under}
use Rattle.saving.proofs.levels.put_levels.Given as goal

abbrev pub invariant-loop-level : goal.invariant-loop-level
invariant-loop-level l =
    Put (joined l.level (level_under l.w l.h (levels_of l.rows) (coefficients l.w l.h l.numbers))) l.at l.initial.out
    l.to l.out
