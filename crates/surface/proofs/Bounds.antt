-- Demand 3, the bounds: carried values and readings lie between bounds of the active coefficients.
use mathlib.Core.Path.{◌≡◌, refl, sym, ap, ◌∙◌, subst}
use Prim.Native.Nat.{ℕ, zero, suc, ◌+◌, ◌*◌, ◌^◌, ◌≤◌, ◌<◌}
use native.Mathlib.Nat.{le_trans, pow-succ'}
use native.Mathlib.Decide.{dec_le}
use native.Mathlib.Omega.{arith}
use lib.Dec.{lit<, lit≤}
use lib.IntN.{ℤ, pos, ◌*ℤ◌}
use lib.Signed.{◌≤ℤ◌}
use Rattle.finite.specs.Range.{sum, sum2}
use Rattle.finite.proofs.Int.{*ℤ-assoc, *ℤ-left-comm, one-*ℤ}
use Rattle.finite.proofs.Order.{scale-reflects}
use Rattle.finite.proofs.Sum.{sum-window, sum2-cong, sum2-scale, sum2-product}
use Rattle.finite.proofs.Weighted.{weighted-low, weighted-high}
use Rattle.surface.specs.Sheet.{functions, eighths}
use Rattle.surface.specs.Support.{least_under}
use Rattle.surface.specs.Spline.{cell_of, piece, spline_at}
use Rattle.surface.specs.Truncation.{weight, weight2, value_at, reading}
use Rattle.surface.specs.Carry.{carried}
use Rattle.surface.proofs.SplinePiece.{piece-sum}
use Rattle.surface.proofs.SplineCell.{cell-point, cell-inside, spline-low, spline-far}
use Rattle.surface.proofs.Least.{least_under-parent, least_under-le-3}
use Rattle.surface.proofs.Parents.{weights2-sum}
use Rattle.surface.proofs.Carried.{factors, carried-own, carried-sum, carried-reading}

abbrev pub Between : ℤ → ℤ → ℤ → Type 0
Between lo x hi = (lo ≤ℤ x) × (x ≤ℤ hi)

-- the level 3 splines along a side add up to 6×16³ at each point
pub spline-total : (n w : ℕ) → 0 < n → w ≤ 128 * n → sum (functions n 3) (λ a. pos (spline_at n 3 a w)) ≡ pos 24576
unfolding sum eighths
spline-total n w p h =
    let i = cell-inside n 3 w p h (lit≤ tt) in
    let c = cell-point n 3 w p h (lit≤ tt) in
    let r = c.r in
    let q = c.q in
    sum-window (functions n 3) (cell_of n 3 w) 4 (λ a. pos (spline_at n 3 a w)) (omega arith)
    (λ a l. ap pos (spline-low n 3 a w l)) (λ a l. ap pos (spline-far n 3 a w l))
    ∙ rw (c.value 0, c.value 1, c.value 2, c.value 3)
    (ap pos (let s : 16 ≡ r + q = c.side in
    let t : 0 + piece 0 r (r + q) + piece 1 r (r + q) + piece 2 r (r + q) + piece 3 r (r + q) ≡ 6 * (r + q) ^ 3 =
    omega (arith, piece-sum r q) in
    t ∙ ap (λ x. 6 * x ^ 3) (sym s)))

module _ (W H : ℕ) (lev : ℕ → ℕ → ℕ) (coef : ℕ → ℕ → ℕ → ℤ) (lo hi : ℤ) (P : ℕ → ℕ → ℕ → Type 0)
    (closed : (L a b c d : ℕ) → L < 3 → 0 < weight a c → 0 < weight b d → P (suc L) c d → P L a b)
    (given : (n L a b : ℕ) → n + L ≡ 3 → a < functions W L → b < functions H L → least_under W H lev L a b ≡ L → P L a b
    → Between lo (pos (64 ^ n) *ℤ coef L a b) hi) where
  -- the parents' bounds are the child's: the weights add up to 64
  average : (n L a b : ℕ) → a < functions W (suc L) → b < functions H (suc L)
      → ((c d : ℕ) → c < functions W L → d < functions H L → 0 < weight c a * weight d b
      → Between lo (pos (64 ^ suc n) *ℤ carried W H lev coef L c d) hi)
      → Between lo
      (pos (64 ^ n) *ℤ sum2 (functions W L) (functions H L) (λ c d. weight2 c d a b *ℤ carried W H lev coef L c d))
      hi
  average n L a b ha hb h = (
    scale-reflects 64 (lit< tt) (subst (λ t. (pos 64 *ℤ lo) ≤ℤ t) total low),
    scale-reflects 64 (lit< tt) (subst (λ t. t ≤ℤ (pos 64 *ℤ hi)) total high),
  )
    where
      w : ℕ → ℕ → ℕ
      w c d = weight c a * weight d b

      x : ℕ → ℕ → ℤ
      x c d = carried W H lev coef L c d

      y : ℤ
      y = pos (64 ^ n)

      f : ℕ → ℕ → ℤ
      f c d = pos (64 ^ suc n) *ℤ x c d

      S : ℤ
      S = sum2 (functions W L) (functions H L) (λ c d. pos (w c d) *ℤ x c d)

      total : sum2 (functions W L) (functions H L) (λ c d. pos (w c d) *ℤ f c d) ≡ pos 64 *ℤ (y *ℤ S)
      total =
          sum2-cong (functions W L) (functions H L) (λ c d. pos (w c d) *ℤ f c d)
          (λ c d. pos (64 ^ suc n) *ℤ (pos (w c d) *ℤ x c d))
          (λ c d lc ld. *ℤ-left-comm (pos (w c d)) (pos (64 ^ suc n)) (x c d))
          ∙ sum2-scale (functions W L) (functions H L) (pos (64 ^ suc n)) (λ c d. pos (w c d) *ℤ x c d)
          ∙ ap (λ t. pos t *ℤ S) (pow-succ' 64 n)
          ∙ *ℤ-assoc (pos 64) y S

      low : (pos 64 *ℤ lo) ≤ℤ (sum2 (functions W L) (functions H L) (λ c d. pos (w c d) *ℤ f c d))
      low =
          subst (λ t. (t *ℤ lo) ≤ℤ (sum2 (functions W L) (functions H L) (λ c d. pos (w c d) *ℤ f c d)))
          (weights2-sum W H L a b ha hb)
          (weighted-low (functions W L) (functions H L) w f lo (λ c d lc ld p. (h c d lc ld p).0))

      high : (sum2 (functions W L) (functions H L) (λ c d. pos (w c d) *ℤ f c d)) ≤ℤ (pos 64 *ℤ hi)
      high =
          subst (λ t. (sum2 (functions W L) (functions H L) (λ c d. pos (w c d) *ℤ f c d)) ≤ℤ (t *ℤ hi))
          (weights2-sum W H L a b ha hb)
          (weighted-high (functions W L) (functions H L) w f hi (λ c d lc ld p. (h c d lc ld p).1))

  -- a carried value, in units of level 3, lies between the bounds
  pub carried-between : (L n : ℕ) → n + L ≡ 3 → (a b : ℕ) → a < functions W L → b < functions H L
      → least_under W H lev L a b ≤ L → P L a b → Between lo (pos (64 ^ n) *ℤ carried W H lev coef L a b) hi
  carried-between zero n e a b ha hb h p = unfold carried in given n 0 a b e ha hb (omega arith) p
  carried-between (suc L) n e a b ha hb h p =
      go (λ c d. carried-between L (suc n) (omega arith) c d) (dec_le (suc L) (least_under W H lev (suc L) a b))
    where
      go : ((c d : ℕ) → c < functions W L → d < functions H L → least_under W H lev L c d ≤ L → P L c d
          → Between lo (pos (64 ^ suc n) *ℤ carried W H lev coef L c d) hi)
          → Dec (suc L ≤ least_under W H lev (suc L) a b)
          → Between lo (pos (64 ^ n) *ℤ carried W H lev coef (suc L) a b) hi
      go ih (yes k) = rw (carried-own W H lev coef L a b k) (given n (suc L) a b e ha hb (omega arith) p)
      go ih (no k) =
          let m : least_under W H lev (suc L) a b ≤ L = omega arith in
          let l : L < 3 = omega arith in
          rw (carried-sum W H lev coef L a b m)
          (average n L a b ha hb (λ c d lc ld w.
          let f = factors (weight c a) (weight d b) w in
          ih c d lc ld (le_trans (least_under-parent W H lev L l c d a b f.0 f.1) m)
          (closed L c d a b l f.0 f.1 p)))

  -- and so does the reading, as a numerator over 36×2^24 times them, where P holds of each function not 0 at the point
  pub reading-between : (u v : ℕ) → 0 < W → 0 < H → u ≤ 128 * W → v ≤ 128 * H
      → ((a b : ℕ) → 0 < spline_at W 3 a u → 0 < spline_at H 3 b v → P 3 a b)
      → Between (pos 603979776 *ℤ lo) (reading W H lev coef u v) (pos 603979776 *ℤ hi)
  reading-between u v p_w p_h hu hv reach =
      rw (carried-reading W H lev coef (value_at W H u v)) (
        subst (λ t. (t *ℤ lo) ≤ℤ S) total (weighted-low (functions W 3) (functions H 3) w x lo
            (λ a b la lb p. (each a b la lb p).0)),
        subst (λ t. S ≤ℤ (t *ℤ hi)) total (weighted-high (functions W 3) (functions H 3) w x hi
            (λ a b la lb p. (each a b la lb p).1)),
      )
    where
      w : ℕ → ℕ → ℕ
      w a b = spline_at W 3 a u * spline_at H 3 b v

      x : ℕ → ℕ → ℤ
      x a b = carried W H lev coef 3 a b

      S : ℤ
      S = sum2 (functions W 3) (functions H 3) (λ a b. pos (w a b) *ℤ x a b)

      total : sum2 (functions W 3) (functions H 3) (λ a b. pos (w a b)) ≡ pos 603979776
      total =
          sum2-product (functions W 3) (functions H 3) (λ a. pos (spline_at W 3 a u)) (λ b. pos (spline_at H 3 b v))
          ∙ rw (spline-total W u p_w hu, spline-total H v p_h hv)

      each : (a b : ℕ) → a < functions W 3 → b < functions H 3 → 0 < w a b → Between lo (x a b) hi
      each a b la lb p =
          let f = factors (spline_at W 3 a u) (spline_at H 3 b v) p in
          subst (λ t. Between lo t hi) (one-*ℤ (x a b))
          (carried-between 3 0 refl a b la lb (least_under-le-3 W H lev 3 a b) (reach a b f.0 f.1))
