-- What clearing passive places leaves, under regions as rows of bits.
use Rattle.std.specs.Prelude.{◌≡◌, Bool, cond, List, ℕ, ℤ, pos, length, get_or, take, drop}
use Rattle.finite.specs.Range.{table_from}
use Rattle.surface.specs.Support.{active}
use Rattle.surface.specs.Table.{coefficients, slice_of}
use Rattle.rows.specs.Rows.{levels_of}

-- a number that is kept if a test holds, else 0
abbrev pub kept_if : Bool → ℤ → ℤ
kept_if t z = cond t z (pos 0)

-- a row whose place a keeps its number if a test holds there
abbrev pub row_cleared : (ℕ → Bool) → List ℤ → List ℤ
row_cleared p row = table_from 0 (length row) (λ a. kept_if (p a) (get_or row a (pos 0)))

-- active coefficients are as before, passive ones are 0
abbrev pub cleared : ℕ → ℕ → List ℕ → List ℤ → ℕ → ℕ → ℕ → ℤ
cleared W H rows before L a b = kept_if (active W H (levels_of rows) L a b) (coefficients W H before L a b)

abbrev pub cleared_slice : ℕ → ℕ → List ℕ → List ℤ → List ℤ
cleared_slice W H rows before = slice_of W H (cleared W H rows before)

-- at the first k places, and all from there on is as before
pub record ClearedTo (k W H : ℕ) (rows : List ℕ) (before out : List ℤ) : Type 0 where
  pub front : take k out ≡ take k (cleared_slice W H rows before)
  pub rest : drop k out ≡ drop k before
