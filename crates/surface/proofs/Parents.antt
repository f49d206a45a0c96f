-- The two-scale sum over a function's parents: three terms in each direction, with weights that add up to 8.
use mathlib.Core.Path.{◌≡◌, refl, sym, ap, ◌∙◌}
use mathlib.Core.Logic.{◌⊎◌, inl, inr}
use Prim.Native.Nat.{ℕ, zero, suc, ◌+◌, ◌*◌, ◌/◌, ◌%◌, ◌^◌, ◌<◌}
use native.Mathlib.Nat.{add-zero, pow-succ', mul_left_comm}
use native.Mathlib.Omega.{arith}
use lib.IntN.{ℤ, pos, ◌*ℤ◌, zero-*ℤ, +ℤ_idr}
use Rattle.finite.specs.Range.{sum, sum2}
use Rattle.finite.proofs.Sum.{sum-window, sum-cong, sum2-product}
use Rattle.finite.proofs.Weighted.{both-directions}
use Rattle.surface.specs.Sheet.{functions}
use Rattle.surface.specs.Truncation.{weight, weight2}
use Rattle.surface.specs.Patch.{stencil}
use Rattle.surface.proofs.SplineWeight.{weight-even-0, weight-even-1, weight-even-low, weight-even-high}
use Rattle.surface.proofs.SplineWeight.{weight-odd-0, weight-odd-1, weight-odd-2, weight-odd-low}
use Rattle.surface.proofs.SplineWeight.{weight-odd-high}

pub functions-step : (n L : ℕ) → functions n (suc L) + 3 ≡ 2 * functions n L
functions-step n L =
    let e : n * 2 ^ suc L ≡ 2 * (n * 2 ^ L) = ap (λ t. n * t) (pow-succ' 2 L) ∙ mul_left_comm n 2 (2 ^ L) in omega
    arith

-- a number is even or odd
pub parity : (c : ℕ) → ((m : ℕ) × (c ≡ 2 * m)) ⊎ ((m : ℕ) × (c ≡ 2 * m + 1))
parity zero = inl (0, refl)
parity (suc c) = go (parity c)
  where
    go : ((m : ℕ) × (c ≡ 2 * m)) ⊎ ((m : ℕ) × (c ≡ 2 * m + 1)) → ((m : ℕ) × (suc c ≡ 2 * m)) ⊎
        ((m : ℕ) × (suc c ≡ 2 * m + 1))
    go (inl (m, e)) = inr (m, omega arith)
    go (inr (m, e)) = inl (m + 1, omega arith)

zero-term : (w : ℕ) (x : ℤ) → w ≡ 0 → pos w *ℤ x ≡ pos 0
zero-term w x e = rw e (zero-*ℤ x)

-- the sum over all functions of level L is that over the child's three possible parents
pub parents : (n L c : ℕ) (f : ℕ → ℤ) → c < functions n (suc L)
    → sum (functions n L) (λ a. pos (weight a c) *ℤ f a) ≡ sum 3 (λ i. pos (stencil c i) *ℤ f (c / 2 + i))
unfolding sum
parents n L c f h = go (parity c)
  where
    go : ((m : ℕ) × (c ≡ 2 * m)) ⊎ ((m : ℕ) × (c ≡ 2 * m + 1))
        → sum (functions n L) (λ a. pos (weight a c) *ℤ f a) ≡ sum 3 (λ i. pos (stencil c i) *ℤ f (c / 2 + i))
    go (inl (m, e)) =
        let half : c / 2 ≡ m = omega arith in
        let rem : c % 2 ≡ 0 = omega arith in
        sum-window (functions n L) m 2 (λ a. pos (weight a c) *ℤ f a) (omega (arith, functions-step n L))
        (λ a l. zero-term (weight a c) (f a) (rw e (weight-even-low m a l)))
        (λ a l. zero-term (weight a c) (f a) (rw e (weight-even-high m a l)))
        ∙ rw (half, rem, add-zero m, e, weight-even-0 m, weight-even-1 m, zero-*ℤ (f (m + 2)), +ℤ_idr)
    go (inr (m, e)) =
        let half : c / 2 ≡ m = omega arith in
        let rem : c % 2 ≡ 1 = omega arith in
        sum-window (functions n L) m 3 (λ a. pos (weight a c) *ℤ f a) (omega (arith, functions-step n L))
        (λ a l. zero-term (weight a c) (f a) (rw e (weight-odd-low m a l)))
        (λ a l. zero-term (weight a c) (f a) (rw e (weight-odd-high m a l)))
        ∙ rw (half, rem, add-zero m, e, weight-odd-0 m, weight-odd-1 m, weight-odd-2 m)

-- "each child's sum needs 8"
pub weights-sum : (n L c : ℕ) → c < functions n (suc L) → sum (functions n L) (λ a. pos (weight a c)) ≡ pos 8
unfolding sum
weights-sum n L c h =
    sum-cong (functions n L) (λ a. pos (weight a c)) (λ a. pos (weight a c) *ℤ pos 1)
    (λ a l. ap pos (sym (native.Mathlib.Nat.mul-one (weight a c))))
    ∙ parents n L c (λ _. pos 1) h
    ∙ go (parity c)
  where
    go : ((m : ℕ) × (c ≡ 2 * m)) ⊎ ((m : ℕ) × (c ≡ 2 * m + 1)) → sum 3 (λ i. pos (stencil c i) *ℤ pos 1) ≡ pos 8
    go (inl (m, e)) = let rem : c % 2 ≡ 0 = omega arith in rw rem
    go (inr (m, e)) = let rem : c % 2 ≡ 1 = omega arith in rw rem

module _ (W H L c d : ℕ) (hc : c < functions W (suc L)) (hd : d < functions H (suc L)) where
  -- in both directions
  pub weights2-sum : sum2 (functions W L) (functions H L) (λ a b. weight2 a b c d) ≡ pos 64
  weights2-sum =
      sum2-product (functions W L) (functions H L) (λ a. pos (weight a c)) (λ b. pos (weight b d))
      ∙ rw (weights-sum W L c hc, weights-sum H L d hd)

  pub parents2 : (f : ℕ → ℕ → ℤ)
      → sum2 (functions W L) (functions H L) (λ a b. weight2 a b c d *ℤ f a b)
      ≡ sum2 3 3 (λ i j. pos (stencil c i * stencil d j) *ℤ f (c / 2 + i) (d / 2 + j))
  parents2 f =
      both-directions (functions W L) (functions H L) 3 3 (λ a. pos (weight a c)) (λ b. pos (weight b d))
      (λ i. pos (stencil c i)) (λ j. pos (stencil d j)) (λ i. c / 2 + i) (λ j. d / 2 + j)
      (λ g. parents W L c g hc) (λ g. parents H L d g hd) f
