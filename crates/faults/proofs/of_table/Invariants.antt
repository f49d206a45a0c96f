use mathlib.Core.Path.{◌≡◌}
use mathlib.Core.Bool.{not}
use Rattle.finite.specs.Range.{every}
use Rattle.rows.specs.Rows.{levels_of}
use Rattle.faults.specs.Faults.{limits, zeros, holds_on}
use Rattle.faults.proofs.of_table.Given as goal

abbrev pub invariant-loop-level : goal.invariant-loop-level
invariant-loop-level l =
    (l.faults.over ≡ not (every l.level (λ L. holds_on limits l.w l.h (levels_of l.rows) l.numbers L)))
    × (l.faults.stray ≡ not (every l.level (λ L. holds_on zeros l.w l.h (levels_of l.rows) l.numbers L)))
