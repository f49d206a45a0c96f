-- Sums, tests, minima, maxima, counts, tables and joined lists over the numbers 0 to n - 1, and over a grid of n
-- columns and m rows.
use Rattle.std.specs.Prelude.{Bool, true, ◌&&◌, cond, List, [], ◌∷◌, ◌++◌, ℕ, zero, suc, ◌+◌, min, max, ℤ, pos, ◌+ℤ◌}

-- f 0 + ... + f (n - 1)
unfoldable pub sum : ℕ → (ℕ → ℤ) → ℤ
sum zero f = pos 0
sum (suc n) f = sum n f +ℤ f n

-- the sum of f a b over a below n and b below m
abbrev pub sum2 : ℕ → ℕ → (ℕ → ℕ → ℤ) → ℤ
sum2 n m f = sum n (λ a. sum m (λ b. f a b))

-- p holds at each number below n
unfoldable pub every : ℕ → (ℕ → Bool) → Bool
every zero p = true
every (suc n) p = every n p && p n

-- p holds at each a below n and b below m
abbrev pub every2 : ℕ → ℕ → (ℕ → ℕ → Bool) → Bool
every2 n m p = every n (λ a. every m (λ b. p a b))

-- how many numbers below n have p
unfoldable pub count : ℕ → (ℕ → Bool) → ℕ
count zero p = 0
count (suc n) p = count n p + cond (p n) 1 0

-- f 0 + ... + f (n - 1), of naturals
unfoldable pub total : ℕ → (ℕ → ℕ) → ℕ
total zero f = 0
total (suc n) f = total n f + f n

-- the least of top, f 0, ..., f (n - 1)
unfoldable pub least : ℕ → ℕ → (ℕ → ℕ) → ℕ
least top zero f = top
least top (suc n) f = min (least top n f) (f n)

-- the greatest of 0, f 0, ..., f (n - 1)
unfoldable pub greatest : ℕ → (ℕ → ℕ) → ℕ
greatest zero f = 0
greatest (suc n) f = max (greatest n f) (f n)

module _ {A : Type 0} where
  -- the list f i, f (i + 1), ..., of n elements
  unfoldable pub table_from : ℕ → ℕ → (ℕ → A) → List A
  table_from i zero f = []
  table_from i (suc n) f = f i ∷ table_from (suc i) n f

  -- the lists f 0, f 1, ..., f (n - 1), one after the other
  unfoldable pub joined : ℕ → (ℕ → List A) → List A
  joined zero f = []
  joined (suc n) f = joined n f ++ f n

  -- m rows of n elements, row j first: in row b the elements f 0 b, ..., f (n - 1) b
  unfoldable pub rows_from : ℕ → ℕ → ℕ → (ℕ → ℕ → A) → List A
  rows_from j n zero f = []
  rows_from j n (suc m) f = table_from 0 n (λ a. f a j) ++ rows_from (suc j) n m f

  -- the grid of n columns and m rows as a list: the row number rises, within a row the column number
  abbrev pub grid : ℕ → ℕ → (ℕ → ℕ → A) → List A
  grid n m f = rows_from 0 n m f
