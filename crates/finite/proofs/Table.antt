-- Laws of tables and grids: their lengths, their elements, and the place b * n + a of column a in row b.
use mathlib.Core.Path.{◌≡◌, refl, sym, ap, ap₂, ◌∙◌}
use mathlib.Core.List.{List, ◌∷◌, ◌++◌}
use Prim.Native.Nat.{ℕ, zero, suc, ◌+◌, ◌*◌, ◌/◌, ◌%◌, ◌<◌, suc-le-suc}
use native.Mathlib.Nat.{add-zero, zero-add, add-suc, suc-add, zero-mul, mul-zero, suc-mul, zero-lt-suc}
use native.Mathlib.Nat.{le_of_suc-le-suc, not-suc-le-zero, mul-le-mul_right, eq_of_mul-eq-mul_right}
use native.Mathlib.Nat.{mod-lt, mod-eq_of_lt, div-add-mod', mul-add-mod_self_right, div-lt_iff_lt-mul}
use native.Mathlib.Omega.{arith}
use lib.ListN.{length, get_or, replicate, length-append, length-replicate, get_or-replicate, get_or-append}
use lib.Seq.{get_or-append-add, ext_get_or}
use Rattle.finite.specs.Range.{table_from, rows_from, grid}

-- ---- places in a grid of n columns

pub place-below : (n m a b : ℕ) → a < n → b < m → b * n + a < m * n
place-below n m a b ha hb = omega (arith, mul-le-mul_right n hb, suc-mul b n)

-- a place has one column and one row
pub place-inj : (n a b c d : ℕ) → a < n → c < n → b * n + a ≡ d * n + c → (a ≡ c) × (b ≡ d)
place-inj n a b c d ha hc e =
    let column : (x y : ℕ) → x < n → (y * n + x) % n ≡ x = λ x y h. mul-add-mod_self_right y n x ∙ mod-eq_of_lt h in
    let same : a ≡ c = sym (column a b ha) ∙ ap (λ k. k % n) e ∙ column c d hc in
    let rows : b * n ≡ d * n = omega arith in
    (same, eq_of_mul-eq-mul_right n (omega arith) b d rows)

-- each place of the grid is that of a column and a row
pub place-split : (n m p : ℕ) → p < m * n → (a : ℕ) × (b : ℕ) × (a < n) × (b < m) × (p ≡ b * n + a)
place-split zero m p h = absurd (omega (arith, mul-zero m))
place-split (suc n) m p h =
    let positive : 0 < suc n = zero-lt-suc n in
    (p % suc n, p / suc n, mod-lt p positive, (div-lt_iff_lt-mul positive).1 h, sym (div-add-mod' p (suc n)))

module _ {A : Type 0} where
  -- ---- tables

  pub length-table : (i n : ℕ) (f : ℕ → A) → length (table_from i n f) ≡ n
  unfolding table_from
  length-table i zero f = refl
  length-table i (suc n) f = ap suc (length-table (suc i) n f)

  pub get_d-table : (i n : ℕ) (f : ℕ → A) (k : ℕ) (d : A) → k < n → get_or (table_from i n f) k d ≡ f (i + k)
  unfolding table_from
  get_d-table i zero f k d h = absurd (not-suc-le-zero h)
  get_d-table i (suc n) f zero d h = ap f (sym (add-zero i))
  get_d-table i (suc n) f (suc k) d h = get_d-table (suc i) n f k d (le_of_suc-le-suc h) ∙ ap f (omega arith)

  -- tables of functions that agree on the n numbers from i on
  pub table-cong : (i n : ℕ) (f g : ℕ → A) → ((k : ℕ) → k < n → f (i + k) ≡ g (i + k))
      → table_from i n f ≡ table_from i n g
  unfolding table_from
  table-cong i zero f g h = refl
  table-cong i (suc n) f g h =
      ap₂ ◌∷◌ (rw (add-zero i) at (h 0 (zero-lt-suc n)))
      (table-cong (suc i) n f g (λ k l. rw (suc-add i k, ← add-suc i k) (h (suc k) (suc-le-suc l))))

  -- a table of one value
  pub table-const : (i n : ℕ) (x : A) → table_from i n (λ k. x) ≡ replicate n x
  unfolding table_from
  table-const i zero x = refl
  table-const i (suc n) x = ap (λ l. x ∷ l) (table-const (suc i) n x)

  -- ---- grids, from a row j on

  length-rows : (j n m : ℕ) (f : ℕ → ℕ → A) → length (rows_from j n m f) ≡ m * n
  unfolding rows_from
  length-rows j n zero f = sym (zero-mul n)
  length-rows j n (suc m) f =
      length-append (table_from 0 n (λ a. f a j)) (rows_from (suc j) n m f)
      ∙ ap₂ ◌+◌ (length-table 0 n (λ a. f a j)) (length-rows (suc j) n m f)
      ∙ omega (arith, suc-mul m n)

  get_d_rows : (j n m : ℕ) (f : ℕ → ℕ → A) (a b : ℕ) (d : A) → a < n → b < m
      → get_or (rows_from j n m f) (b * n + a) d ≡ f a (j + b)
  unfolding rows_from
  get_d_rows j n zero f a b d ha hb = absurd (not-suc-le-zero hb)
  get_d_rows j n (suc m) f a zero d ha hb =
      let row : List A = table_from 0 n (λ a. f a j) in
      let first : a < length row = rw (length-table 0 n (λ a. f a j)) ha in
      rw (zero-mul n, zero-add a, add-zero j)
      (get_or-append row (rows_from (suc j) n m f) d a first
      ∙ get_d-table 0 n (λ a. f a j) a d ha
      ∙ ap (λ k. f k j) (zero-add a))
  get_d_rows j n (suc m) f a (suc b) d ha hb =
      let row : List A = table_from 0 n (λ a. f a j) in
      let later : suc b * n + a ≡ length row + (b * n + a) =
      omega (arith, suc-mul b n, length-table 0 n (λ a. f a j)) in
      ap (λ k. get_or (row ++ rows_from (suc j) n m f) k d) later
      ∙ get_or-append-add row (rows_from (suc j) n m f) (b * n + a) d
      ∙ get_d_rows (suc j) n m f a b d ha (le_of_suc-le-suc hb)
      ∙ ap (λ k. f a k) (omega arith)

  rows-cong : (j n m : ℕ) (f g : ℕ → ℕ → A) → ((a b : ℕ) → a < n → b < m → f a (j + b) ≡ g a (j + b))
      → rows_from j n m f ≡ rows_from j n m g
  unfolding rows_from
  rows-cong j n zero f g h = refl
  rows-cong j n (suc m) f g h =
      ap₂ ◌++◌
      (table-cong 0 n (λ a. f a j) (λ a. g a j)
      (λ k l. rw (zero-add k) (rw (add-zero j) at (h k 0 l (zero-lt-suc m)))))
      (rows-cong (suc j) n m f g (λ a b la lb. rw (suc-add j b, ← add-suc j b) (h a (suc b) la (suc-le-suc lb))))

  -- ---- grids

  pub length-grid : (n m : ℕ) (f : ℕ → ℕ → A) → length (grid n m f) ≡ m * n
  length-grid n m f = length-rows 0 n m f

  -- the element of column a in row b stands at place b * n + a
  pub get_d-grid : (n m : ℕ) (f : ℕ → ℕ → A) (a b : ℕ) (d : A) → a < n → b < m → get_or (grid n m f) (b * n + a) d ≡ f a b
  get_d-grid n m f a b d ha hb = get_d_rows 0 n m f a b d ha hb ∙ ap (λ k. f a k) (zero-add b)

  pub grid-cong : (n m : ℕ) (f g : ℕ → ℕ → A) → ((a b : ℕ) → a < n → b < m → f a b ≡ g a b) → grid n m f ≡ grid n m g
  grid-cong n m f g h = rows-cong 0 n m f g (λ a b la lb. rw (zero-add b) (h a b la lb))

  -- functions with one grid agree on it
  pub grid-same : (n m : ℕ) (f g : ℕ → ℕ → A) → grid n m f ≡ grid n m g → (a b : ℕ) → a < n → b < m → f a b ≡ g a b
  grid-same n m f g e a b ha hb =
      let d = f a b in
      sym (get_d-grid n m f a b d ha hb) ∙ ap (λ l. get_or l (b * n + a) d) e ∙ get_d-grid n m g a b d ha hb

  -- a grid of one value is that value over and over
  pub grid-const : (n m : ℕ) (x : A) → grid n m (λ a b. x) ≡ replicate (m * n) x
  grid-const n m x =
      ext_get_or x (grid n m (λ a b. x)) (replicate (m * n) x)
      (length-grid n m (λ a b. x) ∙ sym (length-replicate (m * n) x))
      λ i h.
      let l : i < m * n = rw (length-grid n m (λ a b. x)) at h in
      let s = place-split n m i l in
      ap (λ k. get_or (grid n m (λ a b. x)) k x) s.4
      ∙ get_d-grid n m (λ a b. x) s.0 s.1 x s.2 s.3
      ∙ sym (get_or-replicate (m * n) i x x l)
