use Rattle.carry.specs.Carried.{AlongV}
use Rattle.carry.proofs.along_v.Given as goal

abbrev pub invariant-loop-c : goal.invariant-loop-c
invariant-loop-c l = AlongV l.c l.n l.b l.coarse l.sums
