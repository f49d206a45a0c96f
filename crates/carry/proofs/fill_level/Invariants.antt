use mathlib.Core.Path.{◌≡◌}
use Prim.Native.Nat.{◌+◌, ◌*◌}
use lib.ListN.{length}
use Rattle.surface.specs.Table.{start}
use Rattle.carry.specs.Carried.{CarriedTo, Within}
use Rattle.patch.specs.Steps.{midway}
use Rattle.carry.proofs.fill_level.Given as goal

abbrev pub invariant-loop-b : goal.invariant-loop-b
invariant-loop-b l =
    (l.from ≡ start l.w l.h (l.coarse + 1) + l.b * l.n) × CarriedTo l.from l.w l.h l.rows l.numbers l.out
    × (length l.sums ≡ 35) × Within midway l.sums
