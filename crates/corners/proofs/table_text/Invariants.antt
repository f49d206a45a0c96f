use mathlib.Core.Path.{◌≡◌}
use Prim.Native.Nat.{◌+◌, ◌*◌, ◌≤◌}
use lib.ListN.{length}
use Rattle.finite.specs.Range.{joined}
use Rattle.corners.specs.Text.{corner_line}
use Rattle.fields.specs.Put.{Put}
use Rattle.corners.proofs.table_text.Given as goal

abbrev pub invariant-loop-v : goal.invariant-loop-v
invariant-loop-v l =
    (length l.out ≡ length l.initial.out)
    × (l.at ≤ l.initial.at + 99 * l.v)
    × Put (joined l.v (λ v. joined (l.w + 1) (corner_line l.w l.h l.tree l.numbers v))) l.initial.at l.initial.out l.at l.out
