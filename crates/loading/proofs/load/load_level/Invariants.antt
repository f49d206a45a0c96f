-- Before each turn the rows below b are loaded.
use mathlib.Core.Path.{◌≡◌}
use Rattle.surface.specs.TableFile.{loaded}
use Rattle.rows.specs.Rows.{levels_of}
use Rattle.finite.proofs.Written.{rows_written}
use Rattle.loading.specs.Levels.{rows_before}
use Rattle.loading.proofs.load.load_level.Given as goal

abbrev pub invariant-loop-b : goal.invariant-loop-b
invariant-loop-b l =
    (l.next ≡ rows_before l.w l.h (levels_of l.rows) l.level l.b)
    × (l.part ≡ rows_written l.n l.b (loaded l.w l.h (levels_of l.rows) l.level l.body) l.initial.part)
