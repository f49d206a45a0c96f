-- Points along a side, at which at most as many functions of level 3 are other than 0 as there are points: readings at
-- such points along both sides decide the numbers around them.
use mathlib.Core.Path.{◌≡◌, sym, ◌∙◌}
use Prim.Native.Nat.{ℕ, ◌+◌, ◌*◌, ◌≤◌, ◌<◌}
use native.Mathlib.Omega.{arith}
use lib.Dec.{lit≤}
use lib.IntN.{ℤ, pos, ◌*ℤ◌}
use Rattle.finite.specs.Range.{sum, sum2}
use Rattle.finite.proofs.Systems.{Inverse, one-grid}
use Rattle.finite.proofs.Weighted.{both-directions}
use Rattle.surface.specs.Sheet.{functions}
use Rattle.surface.specs.Spline.{spline_at}
use Rattle.surface.specs.Truncation.{reading}
use Rattle.surface.specs.Carry.{carried}
use Rattle.surface.proofs.SplineTwoScale.{values-along}
use Rattle.surface.proofs.AnyLevel.{level-reading}

-- m points p 0, p 1, ... of a side of n, at which only the m functions of level 3 from x on can be other than 0; A has
-- their splines there
pub record Points (n m x : ℕ) (p : ℕ → ℕ) (A : ℕ → ℕ → ℤ) : Type 0 where
  pub side : 0 < n
  pub on : (i : ℕ) → i < m → p i ≤ 128 * n
  pub window : (i : ℕ) → i < m → (f : ℕ → ℤ)
      → sum (functions n 3) (λ a. pos (spline_at n 3 a (p i)) *ℤ f a) ≡ sum m (λ k. A i k *ℤ f (x + k))

module _ (W H m x y : ℕ) (p p' : ℕ → ℕ) (A : ℕ → ℕ → ℤ) (along : Points W m x p A) (across : Points H m y p' A) where
  abbrev around : (ℕ → ℕ → ℕ) → (ℕ → ℕ → ℕ → ℤ) → ℕ → ℕ → ℤ
  around lev coef k l = carried W H lev coef 3 (x + k) (y + l)

  points-reading : (lev : ℕ → ℕ → ℕ) (coef : ℕ → ℕ → ℕ → ℤ) (i j : ℕ) → i < m → j < m
      → reading W H lev coef (p i) (p' j) ≡ sum2 m m (λ k l. A i k *ℤ A j l *ℤ around lev coef k l)
  points-reading lev coef i j hi hj =
      let hu = along.on i hi in
      let hv = across.on j hj in
      level-reading W H lev coef (p i) (p' j) along.side across.side hu hv (λ L a. pos (spline_at W L a (p i)))
      (λ L b. pos (spline_at H L b (p' j))) (values-along W (p i) along.side hu)
      (values-along H (p' j) across.side hv) 3 (lit≤ tt) (omega arith)
      ∙ both-directions (functions W 3) (functions H 3) m m (λ a. pos (spline_at W 3 a (p i)))
      (λ b. pos (spline_at H 3 b (p' j))) (A i) (A j) (λ k. x + k) (λ l. y + l) (along.window i hi)
      (across.window j hj) (λ a b. carried W H lev coef 3 a b)

  -- equal readings have equal numbers around the points, whatever the regions are
  pub decided : (d : ℕ) (B : ℕ → ℕ → ℤ) → Inverse m d A B → (lev lev' : ℕ → ℕ → ℕ) (f g : ℕ → ℕ → ℕ → ℤ)
      → ((i j : ℕ) → i < m → j < m → reading W H lev f (p i) (p' j) ≡ reading W H lev' g (p i) (p' j))
      → (k l : ℕ) → k < m → l < m → around lev f k l ≡ around lev' g k l
  decided d B inverse lev lev' f g e =
      one-grid m d d A B A B inverse inverse (around lev f) (around lev' g)
      (λ i j hi hj. sym (points-reading lev f i j hi hj) ∙ e i j hi hj ∙ points-reading lev' g i j hi hj)
