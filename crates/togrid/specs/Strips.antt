-- The grid of a table by its regions and coefficients, and what the steps that put it give.
use Rattle.std.specs.Prelude.{◌≡◌, List, ℕ, ◌+◌, ◌*◌, ◌≤◌, ◌<◌, ℤ, pos, length, get_or}
use Rattle.finite.specs.Range.{joined, grid}
use Rattle.surface.specs.Sheet.{functions}
use Rattle.surface.specs.Table.{slots, coefficients}
use Rattle.surface.specs.Carry.{carried}
use Rattle.surface.specs.Fields.{number_bytes}
use Rattle.rows.specs.Rows.{levels_of, Nested}
use Rattle.carry.specs.Carried.{CarriedFit, RowsOf}

-- what the check of a table leaves of it
pub record Checked (W H : ℕ) (rows : List ℕ) (cs : List ℤ) : Type 0 where
  pub small-W : W ≤ 8
  pub small-H : H ≤ 8
  pub size : length cs ≡ slots W H
  pub nested : Nested rows
  pub fit : CarriedFit W H rows cs

-- ---- carried values, row by row

-- the carried value of function (a, b) of level L
abbrev pub value : ℕ → ℕ → List ℕ → List ℤ → ℕ → ℕ → ℕ → ℤ
value W H rows cs L a b = carried W H (levels_of rows) (coefficients W H cs) L a b

-- row b of level L has them
abbrev pub Row : ℕ → ℕ → List ℕ → List ℤ → ℕ → ℕ → List ℤ → Type 0
Row W H rows cs L b row =
    (length row ≡ functions W L) × ((a : ℕ) → a < functions W L → get_or row a (pos 0) ≡ value W H rows cs L a b)

-- m rows of level L from row `first` on have them
pub record Window (W H : ℕ) (rows : List ℕ) (cs : List ℤ) (L first m : ℕ) (s : List ℤ) : Type 0 where
  pub inside : first + m ≤ functions H L
  pub size : length s ≡ m * functions W L
  pub values : RowsOf (functions W L) m first (value W H rows cs L) s

-- ---- the bytes of numbers

-- one after the other
abbrev pub numbers_bytes : List ℤ → List ℕ
numbers_bytes s = joined (length s) (λ k. number_bytes (get_or s k (pos 0)))

-- those of row b of level 3
abbrev pub grid_row : ℕ → ℕ → List ℕ → List ℤ → ℕ → List ℕ
grid_row W H rows cs b = joined (functions W 3) (λ a. number_bytes (value W H rows cs 3 a b))

-- of m rows from row `first` on
abbrev pub grid_rows : ℕ → ℕ → List ℕ → List ℤ → ℕ → ℕ → List ℕ
grid_rows W H rows cs first m = joined m (λ i. grid_row W H rows cs (first + i))

-- the grid of the carried values
abbrev pub grid_by : ℕ → ℕ → List ℕ → List ℤ → List ℤ
grid_by W H rows cs = grid (functions W 3) (functions H 3) (λ a b. value W H rows cs 3 a b)
