-- From the numbers around a cell of level 3 back to those around the coarser cells that it lies in, down to the level
-- of its quarter square: two tables with the same numbers there have the same coefficients.
use mathlib.Core.Path.{◌≡◌, refl, sym, ap₂, ◌∙◌, subst}
use Prim.Native.Nat.{ℕ, zero, suc, ◌+◌, ◌-◌, ◌*◌, ◌/◌, ◌%◌, ◌≤◌, ◌<◌}
use native.Mathlib.Omega.{arith}
use lib.Dec.{lit≤, lit<}
use lib.IntN.{ℤ, ◌*ℤ◌}
use borrow.Author.Tests.{lt-leb}
use Rattle.finite.specs.Range.{sum2}
use Rattle.finite.proofs.Systems.{one-grid}
use Rattle.surface.specs.Support.{least_under}
use Rattle.surface.specs.Spline.{cell_of}
use Rattle.surface.specs.Carry.{carried}
use Rattle.surface.specs.Patch.{subdivided, patch}
use Rattle.surface.proofs.Parents.{parents2}
use Rattle.surface.proofs.PatchReading.{patch-carried}
use Rattle.surface.proofs.Carried.{carried-own}
use Rattle.uniqueness.proofs.Inverses.{weights, weights_back, weights-inverse}
use Rattle.uniqueness.proofs.CellPoints.{point-cell}
use Rattle.uniqueness.proofs.UnderCell.{middle, middle-on, around-over, around-functions, over-around}
use Rattle.uniqueness.proofs.UnderCell.{Over, least-over-cell}

-- a step of subdivision as a sum over the sixteen numbers of the coarser patch, which are as the functions of level 0
-- of a sheet of one cell
subdivided-weights : (g h : ℕ) (p : ℕ → ℕ → ℤ) (k l : ℕ) → g ≤ 1 → h ≤ 1 → k < 4 → l < 4
    → subdivided g h p k l ≡ sum2 4 4 (λ i j. weights g k i *ℤ weights h l j *ℤ p i j)
subdivided-weights g h p k l hg hh hk hl = sym (parents2 1 1 0 (g + k) (h + l) (omega arith) (omega arith) p)

-- equal finer patches are subdivided from equal coarser ones
subdivided-once : (g h : ℕ) (p q : ℕ → ℕ → ℤ) → g ≤ 1 → h ≤ 1
    → ((k l : ℕ) → k < 4 → l < 4 → subdivided g h p k l ≡ subdivided g h q k l)
    → (i j : ℕ) → i < 4 → j < 4 → p i j ≡ q i j
subdivided-once g h p q hg hh e =
    one-grid 4 16 16 (weights g) (weights_back g) (weights h) (weights_back h) (weights-inverse g hg)
    (weights-inverse h hh) p q
    (λ k l hk hl. sym (subdivided-weights g h p k l hg hh hk hl) ∙ e k l hk hl
    ∙ subdivided-weights g h q k l hg hh hk hl)

module _ (W H : ℕ) (lev : ℕ → ℕ → ℕ) (x y : ℕ) (hx : x < 8 * W) (hy : y < 8 * H) where
  abbrev pub cu : ℕ → ℕ
  cu L = cell_of W L (middle x)

  abbrev pub cv : ℕ → ℕ
  cv L = cell_of H L (middle y)

  p_w : 0 < W
  p_w = omega arith

  p_h : 0 < H
  p_h = omega arith

  abbrev pub at : (ℕ → ℕ → ℕ → ℤ) → ℕ → ℕ → ℕ → ℤ
  at coef L k l = patch W H lev coef (middle x) (middle y) L k l

  -- above the level of the quarter square the whole patch is subdivided
  pub at-step : (coef : ℕ → ℕ → ℕ → ℤ) (L : ℕ) → L < 3 → lev (x / 2) (y / 2) ≤ L → (k l : ℕ) → k < 4 → l < 4
      → at coef (suc L) k l ≡ subdivided (cu (suc L) % 2) (cv (suc L) % 2) (at coef L) k l
  unfolding patch
  at-step coef L hL low k l hk hl =
      let a = cu (suc L) + k in
      let b = cv (suc L) + l in
      let m = least_under W H lev (suc L) a b in
      let under = least-over-cell W H lev (suc L) a b x y p_w p_h hL (around-functions W (suc L) x hx hL k hk)
      (around-functions H (suc L) y hy hL l hl) (around-over W (suc L) x hx hL k hk)
      (around-over H (suc L) y hy hL l hl) in
      rw (lt-leb (suc L) m (omega arith))

  module _ (f g : ℕ → ℕ → ℕ → ℤ) where
    abbrev Same : ℕ → Type 0
    Same L = (k l : ℕ) → k < 4 → l < 4 → at f L k l ≡ at g L k l

    back : (L : ℕ) → L < 3 → lev (x / 2) (y / 2) ≤ L → Same (suc L) → Same L
    back L hL low e =
        subdivided-once (cu (suc L) % 2) (cv (suc L) % 2) (at f L) (at g L) (omega arith) (omega arith)
        (λ k l hk hl. sym (at-step f L hL low k l hk hl) ∙ e k l hk hl ∙ at-step g L hL low k l hk hl)

    down : (n L : ℕ) → n + L ≡ 3 → lev (x / 2) (y / 2) ≤ L → Same 3 → Same L
    down zero L h low e = let three : 3 ≡ L = omega arith in subst Same three e
    down (suc n) L h low e = back L (omega arith) low (down n (suc L) (omega arith) (omega arith) e)

    -- a function over the cell that has no coarser square under it has one coefficient
    pub reversed : ((k l : ℕ) → k < 4 → l < 4
        → carried W H lev f 3 (x + k) (y + l) ≡ carried W H lev g 3 (x + k) (y + l))
        → (L a b : ℕ) → L ≤ 3 → lev (x / 2) (y / 2) ≤ L → L ≤ least_under W H lev L a b → Over W L a x → Over H L b y
        → f L a b ≡ g L a b
    reversed e L a b hL low own ou ov =
        let (au, bu) = over-around W L x hx hL a ou in
        let (av, bv) = over-around H L y hy hL b ov in
        let ku : cu L + (a - cu L) ≡ a = omega arith in
        let kv : cv L + (b - cv L) ≡ b = omega arith in
        let same = down (3 - L) L (omega arith) low three (a - cu L) (b - cv L) (omega arith) (omega arith) in
        sym (own-number f L own)
        ∙ sym (ap₂ (λ a b. carried W H lev f L a b) ku kv)
        ∙ sym (as-carried f L hL (a - cu L) (b - cv L) (omega arith) (omega arith))
        ∙ same
        ∙ as-carried g L hL (a - cu L) (b - cv L) (omega arith) (omega arith)
        ∙ ap₂ (λ a b. carried W H lev g L a b) ku kv
        ∙ own-number g L own
      where
        as-carried : (coef : ℕ → ℕ → ℕ → ℤ) (L : ℕ) → L ≤ 3 → (k l : ℕ) → k < 4 → l < 4
            → at coef L k l ≡ carried W H lev coef L (cu L + k) (cv L + l)
        as-carried coef L hL =
            patch-carried W H lev coef (middle x) (middle y) p_w p_h (middle-on W x hx) (middle-on H y hy) L hL

        -- the cell of level 3 is x itself
        in_cell : (coef : ℕ → ℕ → ℕ → ℤ) (k l : ℕ) → k < 4 → l < 4
            → at coef 3 k l ≡ carried W H lev coef 3 (x + k) (y + l)
        in_cell coef k l hk hl =
            as-carried coef 3 (lit≤ tt) k l hk hl
            ∙ ap₂ (λ c d. carried W H lev coef 3 (c + k) (d + l)) (point-cell W x 2 hx (lit< tt))
            (point-cell H y 2 hy (lit< tt))

        three : Same 3
        three k l hk hl = in_cell f k l hk hl ∙ e k l hk hl ∙ sym (in_cell g k l hk hl)

        own-number : (coef : ℕ → ℕ → ℕ → ℤ) (L : ℕ) → L ≤ least_under W H lev L a b
            → carried W H lev coef L a b ≡ coef L a b
        own-number coef zero h = unfold carried in refl
        own-number coef (suc L) h = carried-own W H lev coef L a b h
