use Prim.Native.Nat.{◌+◌}
use Rattle.surface.specs.Table.{start}
use Rattle.carry.specs.Carried.{CarriedTo}
use Rattle.carry.proofs.fill.Given as goal

abbrev pub invariant-loop-coarse : goal.invariant-loop-coarse
invariant-loop-coarse l = CarriedTo (start l.w l.h (l.coarse + 1)) l.w l.h l.rows l.numbers l.out
