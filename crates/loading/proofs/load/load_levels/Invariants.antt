use mathlib.Core.Path.{◌≡◌}
use mathlib.Core.List.{List, ◌++◌}
use lib.IntN.{ℤ}
use lib.ListN.{drop}
use Rattle.surface.specs.Table.{start}
use Rattle.surface.specs.Fields.{holds}
use Rattle.surface.specs.TableFile.{level_fields}
use Rattle.rows.specs.Rows.{levels_of}
use Rattle.loading.proofs.load.load_levels.Given as goal

abbrev pub invariant-loop-level : goal.invariant-loop-level
invariant-loop-level l =
    ((before : List ℤ)
    × (level_fields l.w l.h (levels_of l.rows) l.level (drop l.from l.file) ≡ holds before (drop l.at l.file))
    × (l.numbers ≡ before ++ drop (start l.w l.h l.level) l.initial.numbers))
