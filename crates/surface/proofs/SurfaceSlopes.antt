-- The derivatives of the splines along a side, and what follows of the surface: the patch, the cells on both sides of a
-- knot, and the surface between two points of a cell.
use mathlib.Core.Path.{◌≡◌, sym, ap, ap₂, ◌∙◌}
use mathlib.Core.Bool.{Bool, true, false, cond}
use Prim.Native.Nat.{ℕ, ◌+◌, ◌-◌, ◌*◌, ◌≤◌, ◌<◌, min}
use native.Mathlib.Omega.{arith}
use lib.Dec.{leb, lit≤}
use lib.IntN.{ℤ, pos, ◌+ℤ◌, ◌-ℤ◌, ◌*ℤ◌, *ℤ-zero}
use Rattle.finite.specs.Range.{sum2}
use Rattle.finite.proofs.Int.{ring}
use Rattle.finite.proofs.Difference.{difference}
use Rattle.finite.proofs.Sum.{sum2-cong, sum2-add, sum2-scale}
use Rattle.surface.specs.Sheet.{functions, steps, quarter_of}
use Rattle.surface.specs.Spline.{cell_of, piece, spline_at}
use Rattle.surface.specs.Truncation.{value_at, active_sum}
use Rattle.surface.specs.Carry.{carried}
use Rattle.surface.specs.Patch.{patch}
use Rattle.surface.specs.Slopes.{piece_slope, slope_in, slope_at, slope_u, slope_v}
use Rattle.surface.specs.Derivatives.{bend, bend_in}
use Rattle.surface.proofs.SplineCell.{spline-in}
use Rattle.surface.proofs.Along.{Along, piece_in, piece-in, cells_meet, pieces-along}
use Rattle.surface.proofs.SplineTwoScale.{value, values, is-piece, values-along}
use Rattle.surface.proofs.SlopePiece.{slopes}
use Rattle.surface.proofs.PieceDerivative.{pieces-derive}
use Rattle.surface.proofs.Carried.{carried-reading}
use Rattle.surface.proofs.PatchReading.{patched}

module _ (n u : ℕ) (p : 0 < n) (h : u ≤ 128 * n) where
  pub slopes-along : Along n u (λ L a. slope_at n L a u)
  unfolding slope_at
  slopes-along = pieces-along piece_slope slopes n u p h

  slope-in : (L k : ℕ) → slope_at n L (cell_of n L u + k) u ≡ piece_slope k (u - cell_of n L u * steps L) (steps L)
  unfolding slope_at
  slope-in L k = piece-in piece_slope slopes n u p h L k

-- ---- the patch

module _ (W H : ℕ) (lev : ℕ → ℕ → ℕ) (coef : ℕ → ℕ → ℕ → ℤ) (u v : ℕ) (p_w : 0 < W) (p_h : 0 < H)
    (hu : u ≤ 128 * W) (hv : v ≤ 128 * H) (L : ℕ) (hL : L ≤ 3)
    (h : min (lev (quarter_of W u) (quarter_of H v)) 3 ≤ L) where
  abbrev into_u : ℕ
  into_u = u - cell_of W L u * steps L

  abbrev into_v : ℕ
  into_v = v - cell_of H L v * steps L

  pub patch-slope-u : active_sum W H lev coef (slope_u W H u v)
      ≡ sum2 4 4 (λ k l. piece_slope k into_u (steps L) *ℤ pos (piece l into_v (steps L)) *ℤ patch W H lev coef u v L k l)
  patch-slope-u =
      patched W H lev coef u v p_w p_h hu hv (λ L a. slope_at W L a u) (λ L b. pos (spline_at H L b v))
      (slopes-along W u p_w hu) (values-along H v p_h hv) L hL h
      ∙ sum2-cong 4 4
      (λ k l. slope_at W L (cell_of W L u + k) u *ℤ pos (spline_at H L (cell_of H L v + l) v)
      *ℤ patch W H lev coef u v L k l)
      (λ k l. piece_slope k into_u (steps L) *ℤ pos (piece l into_v (steps L)) *ℤ patch W H lev coef u v L k l)
      (λ k l hk hl. rw (slope-in W u p_w hu L k, spline-in H L l v))

  pub patch-slope-v : active_sum W H lev coef (slope_v W H u v)
      ≡ sum2 4 4 (λ k l. pos (piece k into_u (steps L)) *ℤ piece_slope l into_v (steps L) *ℤ patch W H lev coef u v L k l)
  patch-slope-v =
      patched W H lev coef u v p_w p_h hu hv (λ L a. pos (spline_at W L a u)) (λ L b. slope_at H L b v)
      (values-along W u p_w hu) (slopes-along H v p_h hv) L hL h
      ∙ sum2-cong 4 4
      (λ k l. pos (spline_at W L (cell_of W L u + k) u) *ℤ slope_at H L (cell_of H L v + l) v
      *ℤ patch W H lev coef u v L k l)
      (λ k l. pos (piece k into_u (steps L)) *ℤ piece_slope l into_v (steps L) *ℤ patch W H lev coef u v L k l)
      (λ k l hk hl. rw (spline-in W L k u, slope-in H v p_h hv L l))

-- ---- the surface between two points of a cell

-- a factor on the right, and on the left, multiplies each part
times-right : (x y z h k w : ℤ) → (x +ℤ h *ℤ y +ℤ k *ℤ z) *ℤ w ≡ x *ℤ w +ℤ h *ℤ (y *ℤ w) +ℤ k *ℤ (z *ℤ w)
times-right x y z h k w = simp ring

times-left : (x y z h k w : ℤ) → w *ℤ (x +ℤ h *ℤ y +ℤ k *ℤ z) ≡ w *ℤ x +ℤ h *ℤ (w *ℤ y) +ℤ k *ℤ (w *ℤ z)
times-left x y z h k w = simp ring

-- the sum over the functions follows each function
sums : (W H : ℕ) (lev : ℕ → ℕ → ℕ) (coef : ℕ → ℕ → ℕ → ℤ) (all f g e : ℕ → ℕ → ℕ → ℤ) (k l : ℤ)
    → ((a b : ℕ) → all 3 a b ≡ f 3 a b +ℤ k *ℤ g 3 a b +ℤ l *ℤ e 3 a b)
    → active_sum W H lev coef all
    ≡ active_sum W H lev coef f +ℤ k *ℤ active_sum W H lev coef g +ℤ l *ℤ active_sum W H lev coef e
sums W H lev coef all f g e k l h =
    carried-reading W H lev coef all
    ∙ sum2-cong n m (λ a b. all 3 a b *ℤ c a b)
    (λ a b. f 3 a b *ℤ c a b +ℤ k *ℤ (g 3 a b *ℤ c a b) +ℤ l *ℤ (e 3 a b *ℤ c a b))
    (λ a b _ _. ap (λ t. t *ℤ c a b) (h a b) ∙ times-right (f 3 a b) (g 3 a b) (e 3 a b) k l (c a b))
    ∙ sum2-add n m (λ a b. f 3 a b *ℤ c a b +ℤ k *ℤ (g 3 a b *ℤ c a b)) (λ a b. l *ℤ (e 3 a b *ℤ c a b))
    ∙ ap₂ ◌+ℤ◌
    (sum2-add n m (λ a b. f 3 a b *ℤ c a b) (λ a b. k *ℤ (g 3 a b *ℤ c a b))
    ∙ ap₂ ◌+ℤ◌ (sym (carried-reading W H lev coef f))
    (sum2-scale n m k (λ a b. g 3 a b *ℤ c a b) ∙ ap (λ t. k *ℤ t) (sym (carried-reading W H lev coef g))))
    (sum2-scale n m l (λ a b. e 3 a b *ℤ c a b) ∙ ap (λ t. l *ℤ t) (sym (carried-reading W H lev coef e)))
  where
    n : ℕ
    n = functions W 3

    m : ℕ
    m = functions H 3

    c : ℕ → ℕ → ℤ
    c a b = carried W H lev coef 3 a b

-- a spline of level 3 at x, by the one at u in the same cell
spline-derives : (n a u x c : ℕ) → 0 < n → u ≤ 128 * n → x ≤ 128 * n
    → c * steps 3 ≤ u → u ≤ (c + 1) * steps 3 → c * steps 3 ≤ x → x ≤ (c + 1) * steps 3
    → let h = pos x -ℤ pos u in
    pos (spline_at n 3 a x)
    ≡ pos (spline_at n 3 a u) +ℤ h *ℤ slope_at n 3 a u +ℤ h *ℤ h *ℤ bend_in c a u x
unfolding slope_at
spline-derives n a u x c p hu hx lu ru lx rx =
    sym (valued x hx lx rx) ∙ go (leb c a) ∙ λ i. valued u hu lu ru i +ℤ h *ℤ sloped i +ℤ h *ℤ h *ℤ bend_in c a u x
  where
    s : ℕ
    s = steps 3

    h : ℤ
    h = pos x -ℤ pos u

    X : ℕ
    X = x - c * s

    U : ℕ
    U = u - c * s

    same : h ≡ pos X -ℤ pos U
    same = difference x u X U (omega arith)

    valued : (y : ℕ) → y ≤ 128 * n → c * s ≤ y → y ≤ (c + 1) * s → piece_in value 3 c a y ≡ pos (spline_at n 3 a y)
    valued y hy l r = cells_meet value values n 3 a y c p hy (lit≤ tt) l r ∙ is-piece n 3 a y

    sloped : slope_in 3 c a u ≡ slope_at n 3 a u
    sloped = cells_meet piece_slope slopes n 3 a u c p hu (lit≤ tt) lu ru

    go : (t : Bool)
        → cond t (value (a - c) X s) (pos 0)
        ≡ cond t (value (a - c) U s) (pos 0) +ℤ h *ℤ cond t (piece_slope (a - c) U s) (pos 0)
        +ℤ h *ℤ h *ℤ cond t (bend (a - c) U X s) (pos 0)
    go true = rw same (pieces-derive (a - c) U X s (omega arith) (omega arith))
    go false = rw (*ℤ-zero h, *ℤ-zero (h *ℤ h))

module _ (W H : ℕ) (lev : ℕ → ℕ → ℕ) (coef : ℕ → ℕ → ℕ → ℤ) (u v : ℕ) (p_w : 0 < W) (p_h : 0 < H)
    (hu : u ≤ 128 * W) (hv : v ≤ 128 * H) where
  pub derives-u : (x c : ℕ) → x ≤ 128 * W
      → c * steps 3 ≤ u → u ≤ (c + 1) * steps 3 → c * steps 3 ≤ x → x ≤ (c + 1) * steps 3
      → let h = pos x -ℤ pos u in
      active_sum W H lev coef (value_at W H x v)
      ≡ active_sum W H lev coef (value_at W H u v) +ℤ h *ℤ active_sum W H lev coef (slope_u W H u v)
      +ℤ h *ℤ h *ℤ active_sum W H lev coef (λ L a b. bend_in c a u x *ℤ pos (spline_at H 3 b v))
  derives-u x c hx lu ru lx rx =
      let h = pos x -ℤ pos u in
      sums W H lev coef (value_at W H x v) (value_at W H u v) (slope_u W H u v)
      (λ L a b. bend_in c a u x *ℤ pos (spline_at H 3 b v)) h (h *ℤ h)
      (λ a b. ap (λ t. t *ℤ pos (spline_at H 3 b v)) (spline-derives W a u x c p_w hu hx lu ru lx rx)
      ∙ times-right (pos (spline_at W 3 a u)) (slope_at W 3 a u) (bend_in c a u x) h (h *ℤ h) (pos (spline_at H 3 b v)))

  pub derives-v : (y c : ℕ) → y ≤ 128 * H
      → c * steps 3 ≤ v → v ≤ (c + 1) * steps 3 → c * steps 3 ≤ y → y ≤ (c + 1) * steps 3
      → let h = pos y -ℤ pos v in
      active_sum W H lev coef (value_at W H u y)
      ≡ active_sum W H lev coef (value_at W H u v) +ℤ h *ℤ active_sum W H lev coef (slope_v W H u v)
      +ℤ h *ℤ h *ℤ active_sum W H lev coef (λ L a b. pos (spline_at W 3 a u) *ℤ bend_in c b v y)
  derives-v y c hy lv rv ly ry =
      let h = pos y -ℤ pos v in
      sums W H lev coef (value_at W H u y) (value_at W H u v) (slope_v W H u v)
      (λ L a b. pos (spline_at W 3 a u) *ℤ bend_in c b v y) h (h *ℤ h)
      (λ a b. ap (λ t. pos (spline_at W 3 a u) *ℤ t) (spline-derives H b v y c p_h hv hy lv rv ly ry)
      ∙ times-left (pos (spline_at H 3 b v)) (slope_at H 3 b v) (bend_in c b v y) h (h *ℤ h) (pos (spline_at W 3 a u)))
