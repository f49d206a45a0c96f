-- The four by four patch subdivided from level to level gives the exact reading (EVAL_THB of source document 003).
use mathlib.Core.Path.{◌≡◌, refl, sym, ap, ◌∙◌}
use mathlib.Core.Bool.{cond}
use Prim.Native.Nat.{ℕ, zero, suc, ◌+◌, ◌-◌, ◌*◌, ◌/◌, ◌%◌, ◌≤◌, ◌<◌, min}
use native.Mathlib.Nat.{add_assoc}
use native.Mathlib.Decide.{ℕ_discrete}
use native.Mathlib.Omega.{arith}
use lib.Dec.{lit≤}
use lib.IntN.{ℤ, pos, ◌*ℤ◌}
use Rattle.finite.specs.Range.{sum2}
use Rattle.finite.proofs.Sum.{sum2-cong}
use Rattle.finite.proofs.Weighted.{weighted-cong, both-directions}
use Rattle.surface.specs.Sheet.{functions, steps, quarter_of}
use Rattle.surface.specs.Support.{in_region}
use Rattle.surface.specs.Spline.{cell_of, piece, spline_at}
use Rattle.surface.specs.Truncation.{weight2, active_sum, reading}
use Rattle.surface.specs.Carry.{carried}
use Rattle.surface.specs.Patch.{stencil, subdivided, patch, evaluated, patch_reading}
use Rattle.surface.proofs.SplineCell.{cell-inside, cell-step, spline-in}
use Rattle.surface.proofs.Parents.{parents2}
use Rattle.surface.proofs.Carried.{factors}
use Rattle.surface.proofs.Along.{Along, window}
use Rattle.surface.proofs.SplineTwoScale.{values-along}
use Rattle.surface.proofs.AnyLevel.{level-reading}

-- a parent with a weight stands in the coarser patch: c is the half plus the entry's number
stencil-inside : (c i : ℕ) → c ≤ 4 → i < 3 → 0 < stencil c i → c / 2 + i < 4
stencil-inside c i hc hi w = go (ℕ_discrete (c % 2) 0) (ℕ_discrete i 2)
  where
    none : c % 2 ≡ 0 → i ≡ 2 → 0 < 0
    none e f = rw (e, f) at w

    go : Dec (c % 2 ≡ 0) → Dec (i ≡ 2) → c / 2 + i < 4
    go (yes e) (yes f) = absurd (omega (arith, none e f))
    go (yes e) (no f) = omega arith
    go (no e) f = omega arith

-- a subdivision step looks only at the sixteen entries of the coarser patch
pub subdivided-cong : (g h : ℕ) (p q : ℕ → ℕ → ℤ) → g ≤ 1 → h ≤ 1
    → ((i j : ℕ) → i < 4 → j < 4 → p i j ≡ q i j)
    → (k l : ℕ) → k < 4 → l < 4 → subdivided g h p k l ≡ subdivided g h q k l
subdivided-cong g h p q hg hh e k l hk hl =
    let c = g + k in
    let d = h + l in
    weighted-cong 3 3 (λ i j. stencil c i * stencil d j) (λ i j. p (c / 2 + i) (d / 2 + j))
    (λ i j. q (c / 2 + i) (d / 2 + j))
    (λ i j hi hj w. let f = factors (stencil c i) (stencil d j) w in
    e (c / 2 + i) (d / 2 + j) (stencil-inside c i (omega arith) hi f.0)
    (stencil-inside d j (omega arith) hj f.1))

-- a child's parents by its place in the finer patch: c' is the finer cell, c the coarser
shifted : (c c' h k : ℕ) → h ≤ 1 → c' ≡ 2 * c + h → ((c' + k) % 2 ≡ (c' % 2 + k) % 2) ×
    ((c' + k) / 2 ≡ c + (c' % 2 + k) / 2)
shifted c c' h k l e = (omega arith, omega arith)

module _ (W H : ℕ) (lev : ℕ → ℕ → ℕ) (coef : ℕ → ℕ → ℕ → ℤ) (u v : ℕ) (p_w : 0 < W) (p_h : 0 < H)
    (hu : u ≤ 128 * W) (hv : v ≤ 128 * H) where
  abbrev cu : ℕ → ℕ
  cu L = cell_of W L u

  abbrev cv : ℕ → ℕ
  cv L = cell_of H L v

  abbrev Same : ℕ → Type 0
  Same L =
      (k l : ℕ) → k < 4 → l < 4 → patch W H lev coef u v L k l ≡ carried W H lev coef L (cu L + k) (cv L + l)

  -- one subdivision step is the two-scale sum of the parents
  subdivided-parents : (L : ℕ) → L < 3 → Same L → (k l : ℕ) → k < 4 → l < 4
      → subdivided (cu (suc L) % 2) (cv (suc L) % 2) (patch W H lev coef u v L) k l
      ≡ sum2 (functions W L) (functions H L)
      (λ c d. weight2 c d (cu (suc L) + k) (cv (suc L) + l) *ℤ carried W H lev coef L c d)
  subdivided-parents L hL ih k l hk hl =
      let su = cell-step W L u p_w hL hu in
      let sv = cell-step H L v p_h hL hv in
      let eu = shifted (cu L) (cu (suc L)) su.0 k su.1 su.2 in
      let ev = shifted (cv L) (cv (suc L)) sv.0 l sv.1 sv.2 in
      let g = cu (suc L) % 2 + k in
      let h = cv (suc L) % 2 + l in
      let iu = cell-inside W (suc L) u p_w hu hL in
      let iv = cell-inside H (suc L) v p_h hv hL in
      subdivided-cong (cu (suc L) % 2) (cv (suc L) % 2) (patch W H lev coef u v L)
      (λ i j. carried W H lev coef L (cu L + i) (cv L + j)) (omega arith) (omega arith) ih k l hk hl
      ∙ sum2-cong 3 3
      (λ i j. pos (stencil g i * stencil h j) *ℤ carried W H lev coef L (cu L + (g / 2 + i)) (cv L + (h / 2 + j)))
      (λ i j. pos (stencil (cu (suc L) + k) i * stencil (cv (suc L) + l) j)
      *ℤ carried W H lev coef L ((cu (suc L) + k) / 2 + i) ((cv (suc L) + l) / 2 + j))
      (λ i j hi hj. rw (eu.0, ev.0, eu.1, ev.1, add_assoc (cu L) (g / 2) i, add_assoc (cv L) (h / 2) j))
      ∙ sym (parents2 W H L (cu (suc L) + k) (cv (suc L) + l) (omega arith) (omega arith)
      (λ c d. carried W H lev coef L c d))

  pub patch-carried : (L : ℕ) → L ≤ 3 → Same L
  unfolding patch carried
  patch-carried zero hL k l hk hl = refl
  patch-carried (suc L) hL k l hk hl =
      ap (λ t. cond (in_region W H lev (suc L) (cu (suc L) + k) (cv (suc L) + l))
      (coef (suc L) (cu (suc L) + k) (cv (suc L) + l)) t)
      (subdivided-parents L hL (patch-carried L (omega arith)) k l hk hl)

  -- the active coefficients times their truncated functions are the patch times the functions of the point's cells, at
  -- each level from that of the point's quarter square on
  pub patched : (x y : ℕ → ℕ → ℤ) → Along W u x → Along H v y
      → (L : ℕ) → L ≤ 3 → min (lev (quarter_of W u) (quarter_of H v)) 3 ≤ L
      → active_sum W H lev coef (λ L a b. x L a *ℤ y L b)
      ≡ sum2 4 4 (λ k l. x L (cu L + k) *ℤ y L (cv L + l) *ℤ patch W H lev coef u v L k l)
  patched x y along across L hL h =
      level-reading W H lev coef u v p_w p_h hu hv x y along across L hL h
      ∙ both-directions (functions W L) (functions H L) 4 4 (x L) (y L) (λ k. x L (cu L + k)) (λ l. y L (cv L + l))
      (λ k. cu L + k) (λ l. cv L + l) (window W u p_w hu x along L hL) (window H v p_h hv y across L hL)
      (λ a b. carried W H lev coef L a b)
      ∙ sum2-cong 4 4 (λ k l. x L (cu L + k) *ℤ y L (cv L + l) *ℤ carried W H lev coef L (cu L + k) (cv L + l))
      (λ k l. x L (cu L + k) *ℤ y L (cv L + l) *ℤ patch W H lev coef u v L k l)
      (λ k l hk hl. ap (λ t. x L (cu L + k) *ℤ y L (cv L + l) *ℤ t) (sym (patch-carried L hL k l hk hl)))

  -- so the exact reading is the patch's evaluation
  pub evaluated-reading : (L : ℕ) → L ≤ 3 → min (lev (quarter_of W u) (quarter_of H v)) 3 ≤ L
      → reading W H lev coef u v ≡ evaluated W H lev coef u v L
  evaluated-reading L hL h =
      patched (λ L a. pos (spline_at W L a u)) (λ L b. pos (spline_at H L b v)) (values-along W u p_w hu)
      (values-along H v p_h hv) L hL h
      ∙ sum2-cong 4 4
      (λ k l. pos (spline_at W L (cu L + k) u * spline_at H L (cv L + l) v) *ℤ patch W H lev coef u v L k l)
      (λ k l. pos (piece k (u - cu L * steps L) (steps L) * piece l (v - cv L * steps L) (steps L))
      *ℤ patch W H lev coef u v L k l)
      (λ k l hk hl. rw (spline-in W L k u, spline-in H L l v))

  -- and so at level 3 everywhere
  pub patch-reading : reading W H lev coef u v ≡ patch_reading W H lev coef u v
  unfolding patch_reading
  patch-reading = evaluated-reading 3 (lit≤ tt) (omega arith)
