-- The carried values in their slice, and what the steps that write them give.
use Rattle.std.specs.Prelude.{◌≡◌, Bool, cond, List, ℕ, ◌+◌, ◌-◌, ◌*◌, ◌/◌, ◌%◌, ◌≤◌, ◌<◌, ℤ, pos, nat_abs, ◌*ℤ◌, length, get_or, take}
use Rattle.finite.specs.Range.{sum, sum2, table_from}
use Rattle.surface.specs.Sheet.{functions}
use Rattle.surface.specs.Support.{in_region}
use Rattle.surface.specs.Truncation.{weight2}
use Rattle.surface.specs.Table.{slots, coefficients, slice_of, limit}
use Rattle.surface.specs.Carry.{carried}
use Rattle.surface.specs.Patch.{stencil}
use Rattle.patch.specs.Steps.{midway}
use Rattle.rows.specs.Rows.{levels_of}

-- each carried value is at most its level's limit in size
abbrev pub CarriedFit : ℕ → ℕ → List ℕ → List ℤ → Type 0
CarriedFit W H rows cs =
    (L a b : ℕ) → L < 4 → a < functions W L → b < functions H L
    → nat_abs (carried W H (levels_of rows) (coefficients W H cs) L a b) ≤ limit L

-- each function's carried value at its place
abbrev pub carried_slice : ℕ → ℕ → List ℕ → List ℤ → List ℤ
carried_slice W H rows cs = slice_of W H (carried W H (levels_of rows) (coefficients W H cs))

-- at the first k places
pub record CarriedTo (k W H : ℕ) (rows : List ℕ) (cs out : List ℤ) : Type 0 where
  pub size : length out ≡ slots W H
  pub front : take k out ≡ take k (carried_slice W H rows cs)

-- numbers of at most m in size
abbrev pub Within : ℕ → List ℤ → Type 0
Within m s = (k : ℕ) → k < length s → nat_abs (get_or s k (pos 0)) ≤ m

-- child c of three in a row, by the weights that it sees
abbrev pub child_of : ℕ → (ℕ → ℤ) → ℤ
child_of c f = sum 3 (λ i. pos (stencil c i) *ℤ f i)

-- those stand at a place and each a step after the one before
abbrev pub child_from : List ℤ → ℕ → ℕ → ℕ → ℤ
child_from s at step c = child_of c (λ i. get_or s (at + i * step) (pos 0))

-- of a level's part in rows of n, the child along v of column c for row b of the finer level
abbrev pub column_child : List ℤ → ℕ → ℕ → ℕ → ℤ
column_child s n b c = child_of b (λ j. get_or s ((b / 2 + j) * n + c) (pos 0))

-- those of the first k columns
pub record AlongV (k n b : ℕ) (s r : List ℤ) : Type 0 where
  pub size : length r ≡ 35
  pub sums : (c : ℕ) → c < k → get_or r c (pos 0) ≡ column_child s n b c
  pub small : Within midway r

-- function a: its own coefficient if a test holds, else the child along u of the sums
abbrev pub carried_if : Bool → ℤ → List ℤ → ℕ → ℤ
carried_if t own sums a = cond t own (child_from sums (a / 2) 1 a)

-- a row with its own coefficients
abbrev pub row_carried : (ℕ → Bool) → List ℤ → List ℤ → List ℤ
row_carried p sums own = table_from 0 (length own) (λ a. carried_if (p a) (get_or own a (pos 0)) sums a)

-- ---- a row from the level before it

-- rows of n numbers, m of them: those of f from row `first` on
abbrev pub RowsOf : ℕ → ℕ → ℕ → (ℕ → ℕ → ℤ) → List ℤ → Type 0
RowsOf n m first f s = (a j : ℕ) → a < n → j < m → get_or s (j * n + a) (pos 0) ≡ f a (first + j)

-- function (a, b) of the level after L: its own number where its cut support lies in the region of its level, else the
-- two-scale sum of the numbers f of level L
abbrev pub next_number : ℕ → ℕ → (ℕ → ℕ → ℕ) → ℕ → (ℕ → ℕ → ℤ) → ℤ → ℕ → ℕ → ℤ
next_number W H lev L f own a b =
    cond
    (in_region W H lev (L + 1) a b)
    own
    (sum2 (functions W L) (functions H L) (λ c d. weight2 c d a b *ℤ f c d))

-- row b of the level after L, where the numbers f of level L stand in a slice from row `first` on
abbrev pub NextRow : ℕ → ℕ → List ℕ → ℕ → ℕ → ℕ → List ℤ → List ℤ → List ℤ → Type 0
NextRow W H rows L b first coarse own row =
    (length row ≡ functions W (L + 1))
    × ((f : ℕ → ℕ → ℤ) → RowsOf (functions W L) (b / 2 - first + b % 2 + 2) first f coarse
    → (a : ℕ) → a < functions W (L + 1)
    → get_or row a (pos 0) ≡ next_number W H (levels_of rows) L f (get_or own a (pos 0)) a b)
