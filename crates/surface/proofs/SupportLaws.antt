-- Supports and splines: a spline is not zero exactly inside its support, and a function that loses no term to
-- truncation is the product of two splines.
use mathlib.Core.Path.{◌≡◌, refl, sym, ap, ap₂, subst, ◌∙◌}
use mathlib.Core.Logic.{◌↔◌}
use mathlib.Core.Bool.{Bool, true, false, cond}
use Prim.Native.Nat.{ℕ, zero, suc, ◌+◌, ◌-◌, ◌*◌, ◌≤◌, ◌<◌}
use native.Mathlib.Nat.{add-mul, zero-mul, mul-zero, lt_of_mul-lt-mul_right, mul-mul-mul_comm}
use native.Mathlib.Omega.{arith}
use lib.Dec.{T}
use lib.IntN.{ℤ, pos, ◌*ℤ◌}
use Rattle.finite.proofs.Sum.{sum2-cong, sum2-product}
use Rattle.finite.proofs.Tests.{and_intro, lts-true, lts-intro}
use Rattle.surface.specs.Sheet.{functions, steps}
use Rattle.surface.specs.Spline.{cell_of, piece, spline_at}
use Rattle.surface.specs.Support.{low_end, high_end, holds_along, holds, in_region}
use Rattle.surface.specs.Truncation.{weight, weight2, truncation, truncated}
use Rattle.surface.proofs.SplinePiece.{piece-0, piece-1, piece-2, piece-3}
use Rattle.surface.proofs.SplineCell.{cell-point}
use Rattle.surface.proofs.SplineTwoScale.{two-scale-sum, spline-holds}

-- ---- where a spline is not zero

-- a piece is not zero where its point lies inside its function's support
piece_positive :
    (k s r q : ℕ) → s ≡ r + q → k * s < r + 3 * s → r < (k + 1) * s → 0 < piece k r (r + q)
piece_positive zero s r zero e low high = absurd (omega arith)
piece_positive zero s r (suc q) e low high = omega (arith, piece-0 r (suc q))
piece_positive (suc zero) s zero zero e low high = absurd (omega arith)
piece_positive (suc zero) s zero (suc q) e low high = omega (arith, piece-1 0 (suc q))
piece_positive (suc zero) s (suc r) q e low high = omega (arith, piece-1 (suc r) q)
piece_positive (suc (suc zero)) s zero zero e low high = absurd (omega arith)
piece_positive (suc (suc zero)) s zero (suc q) e low high = omega (arith, piece-2 0 (suc q))
piece_positive (suc (suc zero)) s (suc r) q e low high = omega (arith, piece-2 (suc r) q)
piece_positive (suc (suc (suc zero))) s zero q e low high = absurd (omega arith)
piece_positive (suc (suc (suc zero))) s (suc r) q e low high = omega (arith, piece-3 (suc r) q)
piece_positive (suc (suc (suc (suc k)))) s r q e low high = absurd (omega arith)

-- "It holds the points strictly inside it before the cut": these are the points where the spline is not zero
pub holds-positive :
    (n L a u : ℕ) → 0 < n → L ≤ 3 → u ≤ 128 * n → (holds_along L a u ≡ true) ↔ (0 < spline_at n L a u)
holds-positive n L a u p l b = (positive, spline-holds n L a u p l b)
  where
    c : ℕ
    c = cell_of n L u

    s : ℕ
    s = steps L

    positive : holds_along L a u ≡ true → 0 < spline_at n L a u
    positive e =
        let (low, high) = lts-true (a * s) (u + 3 * s) u ((a + 1) * s) e in
        let record { r = r; q = q; side = side; point = point; value = value } = cell-point n L u p b l in
        let after : c < a + 1 = lt_of_mul-lt-mul_right s (omega arith) in
        let k = a - c in
        let at : a ≡ c + k = omega arith in
        let whole : a * s ≡ c * s + k * s = ap (λ y. y * s) at ∙ add-mul c k s in
        subst (λ t. 0 < t) (sym (ap (λ y. spline_at n L y u) at ∙ value k))
        (piece_positive k s r q side (omega arith) (omega arith))

-- the level 3 cells of a cut support are those in whose middle the spline is not zero
pub cell-positive :
    (n L a x : ℕ) → 0 < n → L ≤ 3 → x < 8 * n
    → ((low_end L a ≤ x) × (x < high_end n L a)) ↔ (0 < spline_at n L a (16 * x + 8))
cell-positive n L a x p l h = (λ m. here.0 (inside m), λ m. cell (here.1 m))
  where
    s : ℕ
    s = steps L

    u : ℕ
    u = 16 * x + 8

    here : (holds_along L a u ≡ true) ↔ (0 < spline_at n L a u)
    here = holds-positive n L a u p l (omega arith)

    inside : (low_end L a ≤ x) × (x < high_end n L a) → holds_along L a u ≡ true
    inside m = lts-intro (a * s) (u + 3 * s) u ((a + 1) * s) (omega arith) (omega arith)

    cell : holds_along L a u ≡ true → (low_end L a ≤ x) × (x < high_end n L a)
    cell e =
        let es = lts-true (a * s) (u + 3 * s) u ((a + 1) * s) e in
        omega arith

-- ---- functions that truncation leaves whole

-- a value that is 0 wherever the test drops it is kept
kept : (t : Bool) (x y : ℕ) → (0 < x → 0 < y → t ≡ false) → cond t (pos 0) (pos (x * y)) ≡ pos (x * y)
kept false x y h = refl
kept true zero y h = ap pos (sym (zero-mul y))
kept true (suc x) zero h = ap pos (sym (mul-zero (suc x)))
kept true (suc x) (suc y) h = absurd (subst T (h (omega arith) (omega arith)) tt)

-- and its term is one of a product of sums
term : (t : Bool) (w w' x y : ℕ) (z : ℤ) → z ≡ pos (x * y) → (0 < x → 0 < y → t ≡ false)
    → pos (w * w') *ℤ cond t (pos 0) z ≡ pos (w * x) *ℤ pos (w' * y)
term t w w' x y z e h =
    ap (λ z. pos (w * w') *ℤ z) (ap (cond t (pos 0)) e ∙ kept t x y h) ∙ ap pos (mul-mul-mul_comm w w' x y)

module _ (W H : ℕ) (lev : ℕ → ℕ → ℕ) (u v : ℕ) (p_w : 0 < W) (p_h : 0 < H) (hu : u ≤ 128 * W) (hv : v ≤ 128 * H) where
  -- where no finer function whose support holds the point has its cut support in the region of its level, nothing is
  -- dropped
  pub untruncated :
      (n L a b : ℕ) → n + L ≡ 3
      → ((M c d : ℕ) → L < M → M ≤ 3 → c < functions W M → d < functions H M → holds M c d u v ≡ true
      → in_region W H lev M c d ≡ false)
      → truncated W H lev u v n L a b ≡ pos (spline_at W L a u * spline_at H L b v)
  unfolding truncation
  untruncated zero L a b e h = refl
  untruncated (suc n) L a b e h =
      sum2-cong (functions W M) (functions H M)
      (λ c d. weight2 a b c d *ℤ cond (in_region W H lev M c d) (pos 0) (truncated W H lev u v n M c d))
      (λ c d. pos (weight a c * x c) *ℤ pos (weight b d * y d))
      (λ c d lc ld. term (in_region W H lev M c d) (weight a c) (weight b d) (x c) (y d) (truncated W H lev u v n M c d)
      (untruncated n M c d (omega arith) (λ N i j l. h N i j (omega arith)))
      (λ px py. h M c d (omega arith) fine lc ld (and_intro (holds_along M c u) (holds_along M d v)
      (spline-holds W M c u p_w fine hu px) (spline-holds H M d v p_h fine hv py))))
      ∙ sum2-product (functions W M) (functions H M) (λ c. pos (weight a c * x c)) (λ d. pos (weight b d * y d))
      ∙ sym (ap₂ ◌*ℤ◌ (two-scale-sum W L a u p_w fine hu) (two-scale-sum H L b v p_h fine hv))
    where
      M : ℕ
      M = suc L

      fine : M ≤ 3
      fine = omega arith

      x : ℕ → ℕ
      x c = spline_at W M c u

      y : ℕ → ℕ
      y d = spline_at H M d v
