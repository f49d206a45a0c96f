use mathlib.Core.Path.{◌≡◌}
use Prim.Native.Nat.{ℕ}
use lib.IntN.{pos}
use Rattle.activity.specs.Marks.{marked}
use Rattle.faults.specs.Faults.{FaultsBelow}
use Rattle.faults.proofs.of_marked.Given as goal

abbrev pub invariant-loop-a : goal.invariant-loop-a
invariant-loop-a l = (m : ℕ) → l.limit ≡ pos m → FaultsBelow l.a m (marked l.e l.marks) l.row l.over l.stray
