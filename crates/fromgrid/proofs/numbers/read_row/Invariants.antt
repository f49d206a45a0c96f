-- Before each turn the places below k have their numbers.
use mathlib.Core.Path.{◌≡◌}
use Prim.Native.Nat.{ℕ, ◌+◌, ◌<◌}
use lib.IntN.{pos}
use lib.ListN.{get_or}
use Rattle.coarsening.specs.Coarser.{number_of}
use Rattle.fromgrid.proofs.numbers.read_row.Given as goal

abbrev pub invariant-loop-k : goal.invariant-loop-k
invariant-loop-k l =
    (i : ℕ) → i < l.k → get_or l.row i (pos 0) ≡ number_of l.level l.body l.fine (l.from + i)
