use mathlib.Core.Path.{◌≡◌}
use mathlib.Core.List.{List}
use Prim.Native.Nat.{ℕ, ◌+◌, ◌*◌}
use lib.ListN.{get_or}
use Rattle.finite.specs.Range.{joined}
use Rattle.surface.specs.Fields.{two_bytes}
use Rattle.fields.specs.Put.{Put}
use Rattle.saving.proofs.counts.put_body.Given as goal

abbrev pub texts : List ℕ → ℕ → List ℕ
texts counts L = two_bytes (get_or counts L 0)

abbrev pub invariant-loop-count : goal.invariant-loop-count
invariant-loop-count l =
    (l.to ≡ l.at + 2 * l.count-index)
    × Put (joined l.count-index (texts l.count-items)) l.at l.initial.out l.to l.out
