-- The rows of a level: the numbers of its body before a row, and the coefficients of the row.
use Rattle.std.specs.Prelude.{List, ℕ, ℤ}
use Rattle.finite.specs.Range.{total, table_from}
use Rattle.surface.specs.Sheet.{functions}
use Rattle.surface.specs.Support.{active_in_row}
use Rattle.surface.specs.TableFile.{loaded}

-- the active functions of the rows below b
abbrev pub rows_before : ℕ → ℕ → (ℕ → ℕ → ℕ) → ℕ → ℕ → ℕ
rows_before W H lev L b = total b (λ r. active_in_row W H lev L r)

-- the coefficients of row b
abbrev pub row_loaded : ℕ → ℕ → (ℕ → ℕ → ℕ) → ℕ → List ℕ → ℕ → List ℤ
row_loaded W H lev L body b = table_from 0 (functions W L) (λ a. loaded W H lev L body a b)
