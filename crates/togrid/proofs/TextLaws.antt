-- The bytes of the grid: those of a row, of rows after rows, and how long they are.
use mathlib.Core.Path.{◌≡◌, refl, sym, ap, ◌∙◌, subst}
use mathlib.Core.List.{List, ◌++◌, append_assoc, append-nil}
use Prim.Native.Nat.{ℕ, zero, suc, ◌+◌, ◌-◌, ◌*◌, ◌≤◌, ◌<◌}
use native.Mathlib.Nat.{add-zero, add-suc, zero-mul, suc-mul}
use native.Mathlib.Omega.{arith}
use lib.Dec.{lit<}
use lib.IntN.{ℤ, pos, nat_abs}
use lib.ListN.{length, get_or, length-append}
use Rattle.finite.specs.Range.{joined}
use Rattle.finite.proofs.Joined.{joined-cong}
use Rattle.finite.proofs.Table.{length-grid, get_d-grid}
use Rattle.surface.specs.Sheet.{functions}
use Rattle.surface.specs.Fields.{number_bytes}
use Rattle.fields.specs.Put.{Put}
use Rattle.fields.proofs.PutLaws.{put_both}
use Rattle.carry.specs.Carried.{CarriedFit}
use Rattle.togrid.specs.Strips.{value, Row, numbers_bytes, grid_row, grid_by}

-- ---- texts one after the other

module _ (f : ℕ → List ℕ) where
  -- those from m on after those before m
  pub joined-add : (m n : ℕ) → joined m f ++ joined n (λ i. f (m + i)) ≡ joined (m + n) f
  unfolding joined
  joined-add m zero = append-nil (joined m f) ∙ ap (λ k. joined k f) (sym (add-zero m))
  joined-add m (suc n) =
      sym (append_assoc (joined m f) (joined n (λ i. f (m + i))) (f (m + n)))
      ∙ ap (λ l. l ++ f (m + n)) (joined-add m n)
      ∙ ap (λ k. joined k f) (sym (add-suc m n))

  -- rows of n of them
  pub joined-rows : (n m : ℕ) → joined m (λ b. joined n (λ a. f (b * n + a))) ≡ joined (m * n) f
  unfolding joined
  joined-rows n zero = ap (λ k. joined k f) (sym (zero-mul n))
  joined-rows n (suc m) =
      ap (λ l. l ++ joined n (λ a. f (m * n + a))) (joined-rows n m)
      ∙ joined-add (m * n) n
      ∙ ap (λ k. joined k f) (sym (suc-mul m n))

  -- a part of them is no longer than all after what stands before it
  pub joined-part : (m n k : ℕ) → m + n ≤ k
      → length (joined m f) + length (joined n (λ i. f (m + i))) ≤ length (joined k f)
  joined-part m n k h =
      let rest = k - (m + n) in
      let all : m + n + rest ≡ k = omega arith in
      omega (
        arith,
        length-append (joined m f) (joined n (λ i. f (m + i))),
        ap length (joined-add m n),
        length-append (joined (m + n) f) (joined rest (λ i. f (m + n + i))),
        ap length (joined-add (m + n) rest),
        ap (λ i. length (joined i f)) all,
      )

  -- put after those before m
  pub put-more : (m n at : ℕ) (o : List ℕ) (r : ℕ) (p : List ℕ) (s : ℕ) (q : List ℕ) → Put (joined m f) at o r p
      → Put (joined n (λ i. f (m + i))) r p s q → Put (joined (m + n) f) at o s q
  put-more m n at o r p s q h k =
      subst (λ t. Put t at o s q) (joined-add m n) (put_both (joined m f) (joined n (λ i. f (m + i))) at o r p s q h k)

-- five bytes for each number
pub numbers-length : (f : ℕ → ℤ) (n : ℕ) → length (joined n (λ k. number_bytes (f k))) ≡ 5 * n
unfolding joined
numbers-length f zero = refl
numbers-length f (suc n) =
    omega (arith, length-append (joined n (λ k. number_bytes (f k))) (number_bytes (f n)), numbers-length f n)

-- ---- the rows of a table

module _ (W H : ℕ) (rows : List ℕ) (cs : List ℤ) where
  pub row-bytes : (b : ℕ) (row : List ℤ) → Row W H rows cs 3 b row → numbers_bytes row ≡ grid_row W H rows cs b
  row-bytes b row r =
      joined-cong (length row) _ (λ a. number_bytes (value W H rows cs 3 a b))
      (λ a h. ap number_bytes (r.1 a (subst (λ n. a < n) r.0 h)))
      ∙ ap (λ n. joined n (λ a. number_bytes (value W H rows cs 3 a b))) r.0

  -- five bytes spell each number
  pub row-spelt : (b : ℕ) (row : List ℤ) → CarriedFit W H rows cs → b < functions H 3 → Row W H rows cs 3 b row
      → (a : ℕ) → a < length row → nat_abs (get_or row a (pos 0)) < 549755813888
  row-spelt b row fit hb r a h =
      let ha : a < functions W 3 = subst (λ n. a < n) r.0 h in
      rw (r.1 a ha) (omega (arith, fit 3 a b (lit< tt) ha hb))

  -- all rows are the numbers of the grid
  pub grid-bytes : joined (functions H 3) (grid_row W H rows cs) ≡ numbers_bytes (grid_by W H rows cs)
  grid-bytes =
      let n = functions W 3 in
      let m = functions H 3 in
      let f : ℕ → List ℕ = λ k. number_bytes (get_or (grid_by W H rows cs) k (pos 0)) in
      joined-cong m _ (λ b. joined n (λ a. f (b * n + a)))
      (λ b hb. joined-cong n _ (λ a. f (b * n + a))
      (λ a ha. ap number_bytes (sym (get_d-grid n m (λ a b. value W H rows cs 3 a b) a b (pos 0) ha hb))))
      ∙ joined-rows f n m
      ∙ ap (λ k. joined k f) (sym (length-grid n m (λ a b. value W H rows cs 3 a b)))
