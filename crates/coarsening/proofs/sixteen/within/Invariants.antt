use mathlib.Core.Path.{◌≡◌}
use Prim.Native.Nat.{ℕ}
use lib.IntN.{pos}
use Rattle.coarsening.proofs.SixteenLaws.{RowWithin, RowsWithin}
use Rattle.coarsening.proofs.sixteen.within.Given as goal

abbrev pub invariant-loop-row : goal.invariant-loop-row
invariant-loop-row l = (m : ℕ) → l.limit ≡ pos m → RowsWithin m l.row-items l.row-index

abbrev pub invariant-loop-x : goal.invariant-loop-x
invariant-loop-x l =
    (m : ℕ) → l.limit ≡ pos m → RowsWithin m l.row-items l.row-index × RowWithin m l.x-items l.x-index
