-- Square systems of whole numbers with an inverse: they have one solution at most, along one direction and over a grid.
use mathlib.Core.Path.{◌≡◌, refl, sym, ap, ◌∙◌, subst}
use mathlib.Core.Bool.{cond}
use Prim.Native.Nat.{ℕ, ◌+◌, ◌<◌}
use native.Mathlib.Nat.{add-zero}
use native.Mathlib.Omega.{arith}
use lib.Dec.{eqb}
use lib.IntN.{ℤ, pos, ◌*ℤ◌, zero-*ℤ, *ℤ_comm, +ℤ_idl}
use lib.Signed.{◌≤ℤ◌, ≤ℤ_refl}
use borrow.Author.Tests.{eq-eqb, ne_eqb}
use Rattle.finite.specs.Range.{sum, sum2}
use Rattle.finite.proofs.Int.{*ℤ-assoc}
use Rattle.finite.proofs.Order.{scale-reflects, ≤ℤ-antisym}
use Rattle.finite.proofs.Sum.{sum-cong, sum-scale, sum-swap, sum-window}
use Rattle.finite.proofs.Weighted.{nested}

-- a sum that has one term
pub sum_one : (n i : ℕ) (f : ℕ → ℤ) → i < n → ((k : ℕ) → (k ≡ i → ⊥) → f k ≡ pos 0) → sum n f ≡ f i
unfolding sum
sum_one n i f h z =
    sum-window n i 1 f (omega arith) (λ k l. z k (λ e. omega arith)) (λ k l. z k (λ e. omega arith))
    ∙ +ℤ_idl (f (i + 0))
    ∙ ap f (add-zero i)

-- a positive factor is taken from both sides
pub scale-cancel : (d : ℕ) (x y : ℤ) → 0 < d → pos d *ℤ x ≡ pos d *ℤ y → x ≡ y
scale-cancel d x y p e =
    ≤ℤ-antisym (scale-reflects d p (subst (λ t. (pos d *ℤ x) ≤ℤ t) e (≤ℤ_refl (pos d *ℤ x))))
    (scale-reflects d p (subst (λ t. t ≤ℤ (pos d *ℤ x)) e (≤ℤ_refl (pos d *ℤ x))))

-- the rows of B times the columns of A are d on the diagonal and 0 beside it
pub record Inverse (n d : ℕ) (A B : ℕ → ℕ → ℤ) : Type 0 where
  pub positive : 0 < d
  pub product : (i k : ℕ) → i < n → k < n → sum n (λ j. B i j *ℤ A j k) ≡ cond (eqb i k) (pos d) (pos 0)

module _ (n d : ℕ) (A B : ℕ → ℕ → ℤ) (inverse : Inverse n d A B) where
  -- the unknowns come out of the sums, d times
  pub recovered : (x : ℕ → ℤ) (i : ℕ) → i < n → sum n (λ j. B i j *ℤ sum n (λ k. A j k *ℤ x k)) ≡ pos d *ℤ x i
  recovered x i h =
      sum-cong n (λ j. B i j *ℤ sum n (λ k. A j k *ℤ x k)) (λ j. sum n (λ k. B i j *ℤ (A j k *ℤ x k)))
      (λ j _. sym (sum-scale n (B i j) (λ k. A j k *ℤ x k)))
      ∙ sum-swap n n (λ j k. B i j *ℤ (A j k *ℤ x k))
      ∙ sum-cong n (λ k. sum n (λ j. B i j *ℤ (A j k *ℤ x k))) (λ k. diagonal k *ℤ x k) column
      ∙ sum_one n i (λ k. diagonal k *ℤ x k) h
      (λ k e. ap (λ t. cond t (pos d) (pos 0) *ℤ x k) (ne_eqb i k (λ f. e (sym f))) ∙ zero-*ℤ (x k))
      ∙ ap (λ t. cond t (pos d) (pos 0) *ℤ x i) (eq-eqb i i refl)
    where
      diagonal : ℕ → ℤ
      diagonal k = cond (eqb i k) (pos d) (pos 0)

      column : (k : ℕ) → k < n → sum n (λ j. B i j *ℤ (A j k *ℤ x k)) ≡ diagonal k *ℤ x k
      column k l =
          sum-cong n (λ j. B i j *ℤ (A j k *ℤ x k)) (λ j. x k *ℤ (B i j *ℤ A j k))
          (λ j _. sym (*ℤ-assoc (B i j) (A j k) (x k)) ∙ *ℤ_comm (B i j *ℤ A j k) (x k))
          ∙ sum-scale n (x k) (λ j. B i j *ℤ A j k)
          ∙ ap (λ t. x k *ℤ t) (inverse.product i k h l)
          ∙ *ℤ_comm (x k) (diagonal k)

  -- so equal sums have equal unknowns
  pub one_solution : (x y : ℕ → ℤ)
      → ((j : ℕ) → j < n → sum n (λ k. A j k *ℤ x k) ≡ sum n (λ k. A j k *ℤ y k)) → (i : ℕ) → i < n → x i ≡ y i
  one_solution x y e i h =
      scale-cancel d (x i) (y i) inverse.positive
      (sym (recovered x i h)
      ∙ sum-cong n (λ j. B i j *ℤ sum n (λ k. A j k *ℤ x k)) (λ j. B i j *ℤ sum n (λ k. A j k *ℤ y k))
      (λ j l. ap (λ t. B i j *ℤ t) (e j l))
      ∙ recovered y i h)

-- the same over a grid, one direction after the other
pub one-grid : (n d d' : ℕ) (A B A' B' : ℕ → ℕ → ℤ) → Inverse n d A B → Inverse n d' A' B' → (x y : ℕ → ℕ → ℤ)
    → ((i j : ℕ) → i < n → j < n
    → sum2 n n (λ k l. A i k *ℤ A' j l *ℤ x k l) ≡ sum2 n n (λ k l. A i k *ℤ A' j l *ℤ y k l))
    → (k l : ℕ) → k < n → l < n → x k l ≡ y k l
one-grid n d d' A B A' B' inverse inverse' x y e k l hk hl =
    one_solution n d' A' B' inverse' (x k) (y k)
    (λ j hj. one_solution n d A B inverse (row x j) (row y j)
    (λ i hi. nested n n (A i) (A' j) x ∙ e i j hi hj ∙ sym (nested n n (A i) (A' j) y)) k hk)
    l hl
  where
    row : (ℕ → ℕ → ℤ) → ℕ → ℕ → ℤ
    row z j k = sum n (λ l. A' j l *ℤ z k l)
