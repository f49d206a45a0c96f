-- Laws of tables and grids that are written place after place and row after row.
use mathlib.Core.Path.{◌≡◌, refl, sym, ap, ap₂, ◌∙◌}
use mathlib.Core.List.{List, [], ◌∷◌, ◌++◌, append_assoc, append-nil}
use Prim.Native.Nat.{ℕ, zero, suc, ◌+◌, ◌*◌, ◌≤◌, ◌<◌}
use native.Mathlib.Nat.{add-zero, zero-add, zero-mul, suc-mul, mul_comm}
use native.Mathlib.Numerals.{add-one}
use native.Mathlib.Omega.{arith}
use lib.ListN.{length, get_or, drop, take, set}
use lib.Seq.{drop-cons, drop-length, set_at, take_at, drop_at, drop-drop}
use Rattle.finite.specs.Range.{table_from, rows_from, grid}
use Rattle.finite.proofs.Table.{length-table, length-grid}

module _ {A : Type 0} where
  -- ---- tables

  -- with one element more at the end
  table_more : (i n : ℕ) (f : ℕ → A) → table_from i (suc n) f ≡ table_from i n f ++ (f (i + n) ∷ [])
  unfolding table_from
  table_more i zero f = ap (λ k. f k ∷ []) (sym (add-zero i))
  table_more i (suc n) f =
      ap (λ l. f i ∷ l) (table_more (suc i) n f)
      ∙ ap (λ k. f i ∷ table_from (suc i) n f ++ (f k ∷ [])) (omega arith)

  -- the first a places of a list are those of the table
  abbrev pub written : ℕ → (ℕ → A) → List A → List A
  written a f l = table_from 0 a f ++ drop a l

  pub written_none : (f : ℕ → A) (l : List A) → l ≡ written 0 f l
  unfolding table_from
  written_none f l = refl

  pub written_all : (a : ℕ) (f : ℕ → A) (l : List A) → a ≡ length l → written a f l ≡ table_from 0 a f
  written_all a f l h = rw (h, drop-length l) (append-nil (table_from 0 (length l) f))

  -- one store more
  pub written-more : (a : ℕ) (f : ℕ → A) (l : List A) (v : A) → a < length l → v ≡ f a
      → set (written a f l) a v ≡ written (a + 1) f l
  written-more a f l v h e =
      ap (λ t. set (table_from 0 a f ++ t) a v) (drop-cons l a v h)
      ∙ set_at (table_from 0 a f) (get_or l a v) (drop (suc a) l) v a (length-table 0 a f)
      ∙ rw (add-one a, table_more 0 a f, zero-add a, ← e)
      (sym (append_assoc (table_from 0 a f) (v ∷ []) (drop (suc a) l)))

  -- ---- grids

  -- with one row more at the end
  rows_more : (j n m : ℕ) (f : ℕ → ℕ → A)
      → rows_from j n (suc m) f ≡ rows_from j n m f ++ table_from 0 n (λ a. f a (j + m))
  unfolding rows_from
  rows_more j n zero f =
      append-nil (table_from 0 n (λ a. f a j)) ∙ ap (λ k. table_from 0 n (λ a. f a k)) (sym (add-zero j))
  rows_more j n (suc m) f =
      let row : List A = table_from 0 n (λ a. f a j) in
      let rest : List A = rows_from (suc j) n m f in
      ap (λ l. row ++ l) (rows_more (suc j) n m f)
      ∙ sym (append_assoc row rest (table_from 0 n (λ a. f a (suc j + m))))
      ∙ ap (λ k. (row ++ rest) ++ table_from 0 n (λ a. f a k)) (omega arith)

  -- the first b rows of n places of a list are those of the grid
  abbrev pub rows_written : ℕ → ℕ → (ℕ → ℕ → A) → List A → List A
  rows_written n b f l = grid n b f ++ drop (b * n) l

  pub rows_none : (n : ℕ) (f : ℕ → ℕ → A) (l : List A) → l ≡ rows_written n 0 f l
  unfolding rows_from
  rows_none n f l = ap (λ k. drop k l) (sym (zero-mul n))

  -- all m rows are written
  pub rows_all : {n m N M : ℕ} {out : List A} (b : ℕ) (f : ℕ → ℕ → A) (l : List A) → out ≡ rows_written n b f l
      → b ≤ m → m ≤ b → n ≡ N → m ≡ M → length l ≡ N * M → out ≡ grid N M f
  rows_all {n} {m} {N} {M} b f l e low high columns rows size =
      let last : b ≡ m = omega arith in
      let whole : b * n ≡ length l = ap₂ ◌*◌ (last ∙ rows) columns ∙ mul_comm M N ∙ sym size in
      e
      ∙ ap (λ t. grid n b f ++ t) (ap (λ k. drop k l) whole ∙ drop-length l)
      ∙ append-nil (grid n b f)
      ∙ ap₂ (λ n b. grid n b f) columns (last ∙ rows)

  -- row b is written in place of the k elements that stand there
  pub rows_next : (n b k : ℕ) (f : ℕ → ℕ → A) (l out row : List A) → out ≡ rows_written n b f l → k ≡ n
      → row ≡ table_from 0 n (λ a. f a b)
      → take (b * n) out ++ (row ++ drop k (drop (b * n) out)) ≡ rows_written n (b + 1) f l
  rows_next n b k f l out row e size new =
      let at : ℕ = b * n in
      let rows : List A = grid n b f in
      let before : length rows ≡ at = length-grid n b f in
      let front : take at out ≡ rows = ap (take at) e ∙ take_at rows (drop at l) at before in
      let back : drop at out ≡ drop at l = ap (drop at) e ∙ drop_at rows (drop at l) at before in
      let last : rows ++ row ≡ grid n (b + 1) f =
      ap (λ t. rows ++ t) new
      ∙ ap (λ k. rows ++ table_from 0 n (λ a. f a k)) (sym (zero-add b))
      ∙ sym (rows_more 0 n b f)
      ∙ ap (λ k. grid n k f) (sym (add-one b)) in
      let behind : at + k ≡ (b + 1) * n = rw (size, add-one b) (sym (suc-mul b n)) in
      ap₂ (λ s t. s ++ (row ++ t)) front (ap (drop k) back ∙ drop-drop k at l ∙ ap (λ i. drop i l) behind)
      ∙ sym (append_assoc rows row (drop ((b + 1) * n) l))
      ∙ ap (λ t. t ++ drop ((b + 1) * n) l) last
