-- Regions as rows of bits and coefficients that belong to one acceptable table, and what a point of it reads.
use Rattle.std.specs.Prelude.{◌≡◌, Bool, true, List, ℕ, ℤ}
use Rattle.surface.specs.Table.{Acceptable, table_reading}
use Rattle.surface.specs.Slopes.{table_slopes}
use Rattle.rows.specs.Rows.{level_rows}
use Rattle.evaluation.specs.declared.Slopes.{Slopes}
use Rattle.evaluation.specs.Evaluated.{exact_slopes}

abbrev pub OfTable : ℕ → ℕ → List ℕ → List ℤ → Type 0
OfTable W H rows cs = (t : List ℕ) × (rows ≡ level_rows t) × Acceptable W H t cs

-- the exact reading, and where they are asked for the exact slopes too
abbrev pub ReadAs : ℕ → ℕ → List ℕ → List ℤ → ℕ → ℕ → Bool → Slopes → Type 0
ReadAs W H t cs u v sloped x =
    (x.watts ≡ table_reading W H t cs u v) × (sloped ≡ true → exact_slopes x ≡ table_slopes W H t cs u v)
