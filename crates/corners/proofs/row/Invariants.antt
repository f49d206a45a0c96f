use mathlib.Core.Path.{◌≡◌}
use mathlib.Core.List.{List}
use Prim.Native.Nat.{ℕ, ◌+◌, ◌*◌, ◌≤◌}
use lib.ListN.{length}
use Rattle.surface.specs.Table.{Acceptable}
use Rattle.rows.specs.Rows.{level_rows}
use Rattle.finite.specs.Range.{joined}
use Rattle.corners.specs.Text.{corner_line}
use Rattle.fields.specs.Put.{Put}
use Rattle.corners.proofs.row.Given as goal

abbrev pub invariant-loop-u : goal.invariant-loop-u
invariant-loop-u l =
    (length l.out ≡ length l.initial.out)
    × (l.at ≤ l.start + 11 * l.u)
    × ((t : List ℕ) → l.rows ≡ level_rows t → Acceptable l.w l.h t l.numbers
    → Put (joined l.u (corner_line l.w l.h t l.numbers l.v)) l.start l.initial.out l.at l.out)
