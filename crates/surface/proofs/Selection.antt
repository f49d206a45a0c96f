-- Demand 2: the least level under a cut support decides the selection rule of source document 003.
use mathlib.Core.Path.{◌≡◌}
use mathlib.Core.Logic.{◌↔◌}
use mathlib.Core.Bool.{Bool, true, ◌&&◌}
use Prim.Native.Nat.{ℕ, suc, ◌+◌, ◌*◌, ◌/◌, ◌≤◌, ◌<◌, max}
use native.Mathlib.Decide.{dec_le}
use native.Mathlib.Nat.{le_refl, le_trans, mul-le-mul_right}
use native.Mathlib.Omega.{arith}
use borrow.Author.Tests.{eqb-true, eq-eqb}
use Rattle.finite.proofs.Tests.{both, and_intro, lts-true, lts-intro}
use Rattle.surface.specs.Sheet.{eighths, functions, quarters}
use Rattle.surface.specs.Support.{low_end, high_end, shares, least_under, active}
use Rattle.surface.specs.Demands.{SupportIn, Selected}
use Rattle.surface.proofs.SplineWeight.{eighths-pos}
use Rattle.surface.proofs.SplineCell.{cells-steps}
use Rattle.surface.proofs.Least.{least_where-le, le-least_where, least_under-le-3}

-- ---- the level 3 cells of a cut support along one direction, and the quarters that they lie in

-- a cut support is never empty
pub touches : (n L a : ℕ) → 0 < n → L ≤ 3 → a < functions n L → low_end L a < high_end n L a
touches n L a p l h = omega (arith, eighths-pos L, cells-steps n L l, mul-le-mul_right (eighths L) h)

-- a quarter that shares length with it holds one of its cells
pub shares-cell : (n L a q : ℕ) → low_end L a < high_end n L a → shares n L a q ≡ true
    → (x : ℕ) × (low_end L a ≤ x) × (x < high_end n L a) × (x / 2 ≡ q)
shares-cell n L a q h e =
    let es = lts-true (low_end L a) (2 * q + 2) (2 * q) (high_end n L a) e in
    (max (low_end L a) (2 * q), omega arith, omega arith, omega arith)

-- and the quarter of each of its cells is on the sheet and shares length with it
pub cell-shares : (n L a x : ℕ) → low_end L a ≤ x → x < high_end n L a
    → (shares n L a (x / 2) ≡ true) × (x / 2 < quarters n)
cell-shares n L a x low high =
    (lts-intro (low_end L a) (2 * (x / 2) + 2) (2 * (x / 2)) (high_end n L a) (omega arith) (omega arith), omega arith)

-- ---- supports and regions

-- the least level under a cut support is at least l exactly when the support lies in the region of level l
pub in-region : (W H : ℕ) (lev : ℕ → ℕ → ℕ) (l L a b : ℕ) → 0 < W → 0 < H → l ≤ 3 → L ≤ 3
    → a < functions W L → b < functions H L → (l ≤ least_under W H lev L a b) ↔ SupportIn W H lev l L a b
unfolding least_under
in-region W H lev l L a b p_w p_h hl hL ha hb = (inside, least)
  where
    under : ℕ → ℕ → Bool
    under q r = shares W L a q && shares H L b r

    inside : l ≤ least_under W H lev L a b → SupportIn W H lev l L a b
    inside h x y lx hx ly hy =
        let u = cell-shares W L a x lx hx in
        let v = cell-shares H L b y ly hy in
        le_trans h (least_where-le W H lev under (x / 2) (y / 2) u.1 v.1
        (and_intro (shares W L a (x / 2)) (shares H L b (y / 2)) u.0 v.0))

    least : SupportIn W H lev l L a b → l ≤ least_under W H lev L a b
    least h = le-least_where W H l lev under hl λ q r hq hr e.
        let es = both (shares W L a q) (shares H L b r) e in
        let u = shares-cell W L a q (touches W L a p_w hL ha) es.0 in
        let v = shares-cell H L b r (touches H L b p_h hL hb) es.1 in
        rw (u.3, v.3) at (h u.0 v.0 u.1 u.2 v.1 v.2)

-- ---- the rule

-- "A function of level L is active exactly when the least level under its cut support is L", which the rule says too
pub selection : (W H : ℕ) (lev : ℕ → ℕ → ℕ) (L a b : ℕ) → 0 < W → 0 < H
    → ((q r : ℕ) → q < quarters W → r < quarters H → lev q r ≤ 3) → L ≤ 3 → a < functions W L → b < functions H L
    → (active W H lev L a b ≡ true) ↔ Selected W H lev L a b
selection W H lev L a b p_w p_h levels hL ha hb = (rule, is-active)
  where
    m : ℕ
    m = least_under W H lev L a b

    region : (l : ℕ) → l ≤ 3 → (l ≤ m) ↔ SupportIn W H lev l L a b
    region l h = in-region W H lev l L a b p_w p_h h hL ha hb

    -- a support that is not empty lies in no region above level 3
    low : (l : ℕ) → SupportIn W H lev l L a b → l ≤ 3
    low l h =
        let tu = touches W L a p_w hL ha in
        let tv = touches H L b p_h hL hb in
        let x = low_end L a in
        let y = low_end L b in
        le_trans (h x y (le_refl x) tu (le_refl y) tv)
        (levels (x / 2) (y / 2) (cell-shares W L a x (le_refl x) tu).1 (cell-shares H L b y (le_refl y) tv).1)

    rule : active W H lev L a b ≡ true → Selected W H lev L a b
    rule e =
        let is : m ≡ L = eqb-true m L e in
        ((region L hL).0 (omega arith), λ h. omega (arith, (region (suc L) (low (suc L) h)).1 h))

    is-active : Selected W H lev L a b → active W H lev L a b ≡ true
    is-active (own, finer) = eq-eqb m L (go (dec_le (suc L) m))
      where
        go : Dec (suc L ≤ m) → m ≡ L
        go (yes h) = absurd (finer ((region (suc L) (omega (arith, least_under-le-3 W H lev L a b))).0 h))
        go (no h) = omega (arith, (region L hL).1 own)
