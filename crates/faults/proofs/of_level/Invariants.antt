use mathlib.Core.Path.{◌≡◌}
use mathlib.Core.Bool.{not}
use Prim.Native.Nat.{◌+◌, ◌*◌}
use Rattle.rows.specs.Rows.{levels_of}
use Rattle.surface.specs.Table.{start}
use Rattle.faults.specs.Faults.{limits, zeros}
use Rattle.faults.proofs.FaultLaws.{holds_below}
use Rattle.faults.proofs.of_level.Given as goal

abbrev pub invariant-loop-b : goal.invariant-loop-b
invariant-loop-b l =
    (l.from ≡ start l.w l.h l.level + l.b * l.n)
    × (l.faults.over ≡ not (holds_below limits l.w l.h (levels_of l.rows) l.numbers l.level l.b))
    × (l.faults.stray ≡ not (holds_below zeros l.w l.h (levels_of l.rows) l.numbers l.level l.b))
