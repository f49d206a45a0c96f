-- The functions around the cell of a quarter square are those that have the square under their support; and around a
-- square of a level at most L the carried values of level L + 1 are subdivided from those of level L.
use mathlib.Core.Path.{◌≡◌, refl, sym, ◌∙◌, subst}
use mathlib.Core.Bool.{true, ◌&&◌}
use Prim.Native.Nat.{ℕ, zero, suc, ◌+◌, ◌*◌, ◌/◌, ◌%◌, ◌≤◌, ◌<◌}
use native.Mathlib.Omega.{arith}
use lib.IntN.{ℤ}
use Rattle.finite.proofs.Tests.{both, lts-true}
use Rattle.surface.specs.Sheet.{quarters, eighths}
use Rattle.surface.specs.Support.{low_end, high_end, shares, least_under}
use Rattle.surface.specs.Spline.{cell_of}
use Rattle.surface.specs.Carry.{carried}
use Rattle.surface.specs.Patch.{subdivided}
use Rattle.surface.proofs.Least.{least_where-attained}
use Rattle.surface.proofs.PatchReading.{patch-carried, subdivided-cong}
use Rattle.uniqueness.proofs.UnderCell.{middle, middle-on, Over, least-over-cell}
use Rattle.uniqueness.proofs.ReverseSubdivision.{at, cu, cv, at-step}
use Rattle.coarsening.specs.Coarser.{cell_at, Around, Step}
use Rattle.coarsening.proofs.BackLaws.{cell-fits}

-- the cell of level 3 that a quarter begins with lies in the quarter's cell
cell-of : (n L q : ℕ) → L ≤ 3 → q < quarters n → cell_of n L (middle (2 * q)) ≡ cell_at L q
unfolding cell_of eighths
cell-of n zero q hL hq = omega arith
cell-of n (suc zero) q hL hq = omega arith
cell-of n (suc (suc zero)) q hL hq = omega arith
cell-of n (suc (suc (suc zero))) q hL hq = omega arith
cell-of n (suc (suc (suc (suc L)))) q hL hq = absurd (omega arith)

-- ---- around and under

around-over : (n L q a : ℕ) → L ≤ 2 → q < quarters n → Around L q a → Over n L a (2 * q)
unfolding eighths
around-over n zero q a hL hq h = (omega (arith, h), omega (arith, h))
around-over n (suc zero) q a hL hq h = (omega (arith, h), omega (arith, h))
around-over n (suc (suc zero)) q a hL hq h = (omega (arith, h), omega (arith, h))
around-over n (suc (suc (suc L))) q a hL hq h = absurd (omega arith)

shares-around : (n L q a : ℕ) → L ≤ 2 → shares n L a q ≡ true → (q < quarters n) × Around L q a
unfolding eighths
shares-around n zero q a hL h =
    let s = lts-true (low_end 0 a) (2 * q + 2) (2 * q) (high_end n 0 a) h in
    (omega (arith, s), (omega (arith, s), omega (arith, s)))
shares-around n (suc zero) q a hL h =
    let s = lts-true (low_end 1 a) (2 * q + 2) (2 * q) (high_end n 1 a) h in
    (omega (arith, s), (omega (arith, s), omega (arith, s)))
shares-around n (suc (suc zero)) q a hL h =
    let s = lts-true (low_end 2 a) (2 * q + 2) (2 * q) (high_end n 2 a) h in
    (omega (arith, s), (omega (arith, s), omega (arith, s)))
shares-around n (suc (suc (suc L))) q a hL h = absurd (omega arith)

module _ (W H : ℕ) (p_w : 0 < W) (p_h : 0 < H) (lev : ℕ → ℕ → ℕ) where
  pub around-least : (L q r a b : ℕ) → L ≤ 2 → q < quarters W → r < quarters H → Around L q a → Around L r b
      → least_under W H lev L a b ≤ lev q r
  around-least L q r a b hL hq hr ha hb =
      let eq : 2 * q / 2 ≡ q = omega arith in
      let er : 2 * r / 2 ≡ r = omega arith in
      subst (λ m. least_under W H lev L a b ≤ m) (λ i. lev (eq i) (er i))
      (least-over-cell W H lev L a b (2 * q) (2 * r) p_w p_h (omega arith)
      (omega (arith, ha, cell-fits W L q (omega arith) hq)) (omega (arith, hb, cell-fits H L r (omega arith) hr))
      (around-over W L q a hL hq ha) (around-over H L r b hL hr hb))

  -- a function that has a square of level at most its own under it
  pub reached : (L a b : ℕ) → L ≤ 2 → least_under W H lev L a b ≤ L
      → (q : ℕ) × (r : ℕ) × (q < quarters W) × (r < quarters H) × (lev q r ≤ L) × Around L q a × Around L r b
  unfolding least_under
  reached L a b hL h =
      let m = least_under W H lev L a b in
      let (q, r, under, own) = least_where-attained W H lev (λ q r. shares W L a q && shares H L b r) m refl
      (omega arith) in
      let us = both (shares W L a q) (shares H L b r) under in
      let (hq, aq) = shares-around W L q a hL us.0 in
      let (hr, ar) = shares-around H L r b hL us.1 in
      (q, r, hq, hr, omega (arith, own), aq, ar)

  -- ---- a step of subdivision between carried values

  pub carried_step : (coef : ℕ → ℕ → ℕ → ℤ) (L q r : ℕ) → L ≤ 2 → q < quarters W → r < quarters H → lev q r ≤ L
      → Step L (carried W H lev coef (suc L)) (carried W H lev coef L) q r
  carried_step coef L q r hL hq hr low k l hk hl =
      let x = 2 * q in
      let y = 2 * r in
      let hx : x < 8 * W = omega arith in
      let hy : y < 8 * H = omega arith in
      let eq : q ≡ x / 2 = omega arith in
      let er : r ≡ y / 2 = omega arith in
      let low' : lev (x / 2) (y / 2) ≤ L = subst (λ m. m ≤ L) (λ i. lev (eq i) (er i)) low in
      let value : (M : ℕ) → M ≤ 3 → (i j : ℕ) → i < 4 → j < 4
      → at W H lev x y hx hy coef M i j ≡ carried W H lev coef M (cell_at M q + i) (cell_at M r + j) =
      λ M hM i j hi hj. patch-carried W H lev coef (middle x) (middle y) p_w p_h (middle-on W x hx) (middle-on H y hy) M
      hM i j hi hj ∙ (λ t. carried W H lev coef M (cell-of W M q hM hq t + i) (cell-of H M r hM hr t + j)) in
      let u = cell-of W (suc L) q (omega arith) hq in
      let v = cell-of H (suc L) r (omega arith) hr in
      sym (value (suc L) (omega arith) k l hk hl)
      ∙ at-step W H lev x y hx hy coef L (omega arith) low' k l hk hl
      ∙ subdivided-cong (cu W H lev x y hx hy (suc L) % 2) (cv W H lev x y hx hy (suc L) % 2) _ _ (omega arith)
      (omega arith) (λ i j hi hj. value L (omega arith) i j hi hj) k l hk hl
      ∙ (λ t. subdivided (u t % 2) (v t % 2)
      (λ i j. carried W H lev coef L (cell_at L q + i) (cell_at L r + j)) k l)
