-- When a box may be inserted: the regions are those of a table for which no cause of an insertion's checks applies.
use Rattle.std.specs.Prelude.{◌≡◌, List, ℕ, ℤ}
use Rattle.surface.specs.Sheet.{Box}
use Rattle.surface.specs.Calls.{refinement_cause}
use Rattle.rows.specs.Rows.{level_rows}

abbrev pub Insertable : ℕ → ℕ → Box → ℕ → List ℕ → Type 0
Insertable W H box n rows =
    (t : List ℕ) × ((cs : List ℤ) × (rows ≡ level_rows t) × (0 ≡ refinement_cause W H t cs box n))
