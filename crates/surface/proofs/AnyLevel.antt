-- At a point whose quarter square has level g, each level from g on has the exact reading and the exact slopes: the
-- carried values of the level times its splines, or times their derivatives.
use mathlib.Core.Path.{◌≡◌, sym, ap, ap₂, ◌∙◌}
use mathlib.Core.Logic.{◌⊎◌, inl, inr}
use mathlib.Core.Bool.{true, ◌&&◌}
use Prim.Native.Nat.{ℕ, zero, suc, ◌+◌, ◌-◌, ◌*◌, ◌≤◌, ◌<◌, min}
use native.Mathlib.Nat.{le_trans}
use native.Mathlib.Omega.{arith}
use lib.IntN.{ℤ, pos, ◌*ℤ◌, *ℤ_comm, zero-*ℤ, *ℤ-zero}
use Rattle.finite.specs.Range.{sum2}
use Rattle.finite.proofs.Int.{ring}
use Rattle.finite.proofs.Sum.{sum2-cong, sum2-scale, sum2-swap, sum2-product}
use Rattle.finite.proofs.Tests.{and_intro, lts-true, lts-intro}
use Rattle.surface.specs.Sheet.{functions, steps, quarter_of}
use Rattle.surface.specs.Support.{low_end, high_end, shares, holds_along, least_under}
use Rattle.surface.specs.Truncation.{weight, weight2, active_sum}
use Rattle.surface.specs.Carry.{carried}
use Rattle.surface.proofs.Along.{Along}
use Rattle.surface.proofs.Least.{least_where-le, least_under-le-3}
use Rattle.surface.proofs.Carried.{carried-sum, carried-reading}

-- a support that holds a point shares length with the quarter that holds it, at shared and far edges too
holds-shares : (n L a u : ℕ) → 0 < n → u ≤ 128 * n → holds_along L a u ≡ true → shares n L a (quarter_of n u) ≡ true
holds-shares n L a u p h e =
    let q = quarter_of n u in
    let (low, high) = lts-true (a * steps L) (u + 3 * steps L) u ((a + 1) * steps L) e in
    lts-intro (low_end L a) (2 * q + 2) (2 * q) (high_end n L a) (omega arith) (omega arith)

-- a child's term in its parent, by directions
term : (x y w w' k : ℤ) → x *ℤ y *ℤ (w *ℤ w' *ℤ k) ≡ k *ℤ (w *ℤ x *ℤ (w' *ℤ y))
term x y w w' k = simp ring

module _ (W H : ℕ) (lev : ℕ → ℕ → ℕ) (coef : ℕ → ℕ → ℕ → ℤ) (u v : ℕ) (p_w : 0 < W) (p_h : 0 < H)
    (hu : u ≤ 128 * W) (hv : v ≤ 128 * H) (x y : ℕ → ℕ → ℤ) (along_u : Along W u x) (along_v : Along H v y) where
  abbrev g : ℕ
  g = min (lev (quarter_of W u) (quarter_of H v)) 3

  -- a function whose support holds the point has the point's quarter square under its support
  least_at : (L a b : ℕ) → holds_along L a u ≡ true → holds_along L b v ≡ true → least_under W H lev L a b ≤ g
  unfolding least_under
  least_at L a b ha hb =
      let q = quarter_of W u in
      let r = quarter_of H v in
      let under = and_intro (shares W L a q) (shares H L b r) (holds-shares W L a u p_w hu ha)
      (holds-shares H L b v p_h hv hb) in
      let most = least_where-le W H lev (λ q r. shares W L a q && shares H L b r) q r (omega arith) (omega arith) in
      omega (arith, most under, least_under-le-3 W H lev L a b)

  abbrev carry : ℕ → ℕ → ℕ → ℤ
  carry L a b = carried W H lev coef L a b

  -- the functions before truncation, and the carried values of a level times them
  abbrev f : ℕ → ℕ → ℕ → ℤ
  f L a b = x L a *ℤ y L b

  abbrev at_level : ℕ → ℤ
  at_level L = sum2 (functions W L) (functions H L) (λ a b. f L a b *ℤ carry L a b)

  -- the two-scale sum of the carried values of a child's parents
  abbrev of_parents : ℕ → ℕ → ℕ → ℤ
  of_parents L c d = sum2 (functions W L) (functions H L) (λ a b. weight2 a b c d *ℤ carry L a b)

  -- a child that is not 0 at the point is a two-scale sum, from the level of the point's quarter square on
  child : (L c d : ℕ) → L < 3 → g ≤ L → f (suc L) c d *ℤ carry (suc L) c d ≡ f (suc L) c d *ℤ of_parents L c d
  child L c d l h = go (along_u.inside (suc L) c l) (along_v.inside (suc L) d l)
    where
      go : (x (suc L) c ≡ pos 0) ⊎ (holds_along (suc L) c u ≡ true)
          → (y (suc L) d ≡ pos 0) ⊎ (holds_along (suc L) d v ≡ true)
          → f (suc L) c d *ℤ carry (suc L) c d ≡ f (suc L) c d *ℤ of_parents L c d
      go (inl e) _ = rw (e, zero-*ℤ (y (suc L) d), zero-*ℤ (carry (suc L) c d), zero-*ℤ (of_parents L c d))
      go (inr _) (inl e) = rw (e, *ℤ-zero (x (suc L) c), zero-*ℤ (carry (suc L) c d), zero-*ℤ (of_parents L c d))
      go (inr a) (inr b) =
          ap (λ t. f (suc L) c d *ℤ t) (carried-sum W H lev coef L c d (le_trans (least_at (suc L) c d a b) h))

  -- from a level to the one before it, where that is no lower than the point's
  coarser : (L : ℕ) → L < 3 → g ≤ L → at_level (suc L) ≡ at_level L
  coarser L l h =
      sum2-cong (functions W M) (functions H M) (λ c d. f M c d *ℤ carry M c d)
      (λ c d. sum2 (functions W L) (functions H L) (λ a b. one a b c d))
      (λ c d lc ld. child L c d l h
      ∙ sym (sum2-scale (functions W L) (functions H L) (f M c d) (λ a b. weight2 a b c d *ℤ carry L a b)))
      ∙ sum2-swap (functions W M) (functions H M) (functions W L) (functions H L) (λ c d a b. one a b c d)
      ∙ sum2-cong (functions W L) (functions H L)
      (λ a b. sum2 (functions W M) (functions H M) (λ c d. one a b c d)) (λ a b. f L a b *ℤ carry L a b)
      (λ a b la lb. parent a b)
    where
      M : ℕ
      M = suc L

      one : ℕ → ℕ → ℕ → ℕ → ℤ
      one a b c d = f M c d *ℤ (weight2 a b c d *ℤ carry L a b)

      -- the children with a parent's weights add up to the parent
      parent : (a b : ℕ) → sum2 (functions W M) (functions H M) (λ c d. one a b c d) ≡ f L a b *ℤ carry L a b
      parent a b =
          sum2-cong (functions W M) (functions H M) (λ c d. one a b c d)
          (λ c d. carry L a b *ℤ (pos (weight a c) *ℤ x M c *ℤ (pos (weight b d) *ℤ y M d)))
          (λ c d lc ld. term (x M c) (y M d) (pos (weight a c)) (pos (weight b d)) (carry L a b))
          ∙ sum2-scale (functions W M) (functions H M) (carry L a b)
          (λ c d. pos (weight a c) *ℤ x M c *ℤ (pos (weight b d) *ℤ y M d))
          ∙ ap (λ t. carry L a b *ℤ t)
          (sum2-product (functions W M) (functions H M) (λ c. pos (weight a c) *ℤ x M c)
          (λ d. pos (weight b d) *ℤ y M d)
          ∙ sym (ap₂ ◌*ℤ◌ (along_u.two-scale L a l) (along_v.two-scale L b l)))
          ∙ *ℤ_comm (carry L a b) (f L a b)

  -- n levels below level 3
  below : (n L : ℕ) → n + L ≡ 3 → g ≤ L → active_sum W H lev coef f ≡ at_level L
  below zero L e h = let three : 3 ≡ L = omega arith in carried-reading W H lev coef f ∙ ap at_level three
  below (suc n) L e h = below n (suc L) (omega arith) (omega arith) ∙ coarser L (omega arith) h

  pub level-reading : (L : ℕ) → L ≤ 3 → g ≤ L → active_sum W H lev coef f ≡ at_level L
  level-reading L l h = below (3 - L) L (omega arith) h
