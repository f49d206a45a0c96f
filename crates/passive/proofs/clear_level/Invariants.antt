use mathlib.Core.Path.{◌≡◌}
use mathlib.Core.List.{List}
use Prim.Native.Nat.{◌+◌, ◌*◌}
use lib.IntN.{ℤ}
use Rattle.surface.specs.Table.{start}
use Rattle.passive.specs.Cleared.{ClearedTo}
use Rattle.passive.proofs.clear_level.Given as goal

abbrev pub invariant-loop-b : goal.invariant-loop-b
invariant-loop-b l =
    (l.from ≡ start l.w l.h l.level + l.b * l.n)
    × ((before : List ℤ) → ClearedTo (start l.w l.h l.level) l.w l.h l.rows before l.initial.out → ClearedTo l.from l.w l.h l.rows before l.out)
