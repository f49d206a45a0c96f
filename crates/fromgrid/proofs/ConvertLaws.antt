-- Where coefficients carry a grid's numbers, the numbers that are found level by level are the carried values; and
-- numbers that fit are carried by the coefficients that they give.
use mathlib.Core.Path.{◌≡◌, refl, sym, ap, ◌∙◌, subst}
use mathlib.Core.Bool.{false, cond}
use mathlib.Core.List.{List}
use Prim.Native.Nat.{ℕ, zero, suc, ◌+◌, ◌≤◌, ◌<◌}
use native.Mathlib.Decide.{dec_le}
use native.Mathlib.Numerals.{add-one}
use native.Mathlib.Omega.{arith}
use lib.IntN.{ℤ, pos, ◌*ℤ◌}
use lib.Dec.{leb}
use borrow.Author.Tests.{leb-false, eqb-false, lt-leb}
use Rattle.finite.specs.Range.{sum2}
use Rattle.finite.proofs.Sum.{sum2-cong}
use Rattle.finite.proofs.Tests.{pick}
use Rattle.surface.specs.Sheet.{functions}
use Rattle.surface.specs.Support.{least_under, active, in_region}
use Rattle.surface.specs.Truncation.{weight2}
use Rattle.surface.specs.Carry.{carried}
use Rattle.surface.proofs.Carried.{carried-own, carried-sum}
use Rattle.coarsening.specs.Coarser.{cell_at, Coarser, Past, Backed, Whole}
use Rattle.coarsening.proofs.BackLaws.{cell-fits}
use Rattle.fromgrid.specs.Converts.{in_rows, active_in, Agrees, Fits, Carries}
use Rattle.fromgrid.proofs.Reached.{around-least, reached, carried_step}

-- a function whose least level is not below its own carries its own coefficient
own : (W H : ℕ) (lev : ℕ → ℕ → ℕ) (coef : ℕ → ℕ → ℕ → ℤ) (L a b : ℕ) → L ≤ least_under W H lev L a b
    → carried W H lev coef L a b ≡ coef L a b
own W H lev coef zero a b h = unfold carried in refl
own W H lev coef (suc L) a b h = carried-own W H lev coef L a b h

module _ (W H : ℕ) (p_w : 0 < W) (p_h : 0 < H) (lev : ℕ → ℕ → ℕ) where
  -- numbers of the functions of a level are these
  abbrev pub Are : ℕ → (ℕ → ℕ → ℤ) → (ℕ → ℕ → ℤ) → Type 0
  Are L f g = (a b : ℕ) → a < functions W L → b < functions H L → f a b ≡ g a b

  -- ---- numbers that are carried

  module _ (coef : ℕ → ℕ → ℕ → ℤ) (G : ℕ → ℕ → ℤ) (c : Carries W H lev coef G) where
    abbrev pub value : ℕ → ℕ → ℕ → ℤ
    value = carried W H lev coef

    pub coarser : (L : ℕ) (F : ℕ → ℕ → ℤ) → L ≤ 2 → Are (L + 1) F (value (L + 1)) → Coarser W H lev L F (value L)
    coarser L F hL same q r hq hr low k l hk hl =
        let one = add-one L in
        let cu = cell-fits W (suc L) q (omega arith) hq in
        let cv = cell-fits H (suc L) r (omega arith) hr in
        let a = cell_at (suc L) q + k in
        let b = cell_at (suc L) r + l in
        same a b (subst (λ m. a < functions W m) (sym one) (omega (arith, cu)))
        (subst (λ m. b < functions H m) (sym one) (omega (arith, cv)))
        ∙ ap (λ m. value m a b) one
        ∙ carried_step W H p_w p_h lev coef L q r hL hq hr low k l hk hl

    -- none is past its limit
    pub not-past : (L : ℕ) → L ≤ 2 → Past W H L (value L) → ⊥
    not-past L hL (a, b, ha, hb, past) = omega (arith, past, c.fits L a b (omega arith) ha hb)

    pub known : (L : ℕ) (F : ℕ → ℕ → ℤ) (s : List ℤ) → L ≤ 2 → Are (L + 1) F (value (L + 1))
        → Backed W H lev L F Whole s → Are L (in_rows (functions W L) s) (value L)
    known L F s hL same backed a b ha hb = go (dec_le (least_under W H lev L a b) L)
      where
        go : Dec (least_under W H lev L a b ≤ L) → in_rows (functions W L) s a b ≡ value L a b
        go (yes h) =
            let (q, r, hq, hr, low, aq, ar) = reached W H p_w p_h lev L a b hL h in
            backed.found (value L) (coarser L F hL same) q r hq hr tt low a b aq ar
        go (no h) =
            backed.unreached a b ha hb
            (λ q r hq hr low aq ar. h (omega (arith, around-least W H p_w p_h lev L q r a b hL hq hr aq ar)))
            ∙ sym (own W H lev coef L a b (omega arith) ∙ c.passive L a b (omega arith) ha hb (omega arith))

    -- so the numbers of each level agree with those of the level before it
    pub agreed : (L : ℕ) (f g : ℕ → ℕ → ℤ) → L ≤ 2 → Are L f (value L) → Are (L + 1) g (value (L + 1))
        → Agrees W H lev L f g
    agreed L f g hL low high a b ha hb =
        pick (in_region W H lev (L + 1) a b)
        (λ t. g a b ≡ cond t (g a b) (sum2 (functions W L) (functions H L) (λ c d. weight2 c d a b *ℤ f c d)))
        (λ _. refl)
        (λ out.
        let one = add-one L in
        let under : least_under W H lev (suc L) a b ≤ L =
        subst (λ m. least_under W H lev m a b ≤ L) one
        (omega (arith, leb-false (L + 1) (least_under W H lev (L + 1) a b) out)) in
        high a b ha hb
        ∙ ap (λ m. value m a b) one
        ∙ carried-sum W H lev coef L a b under
        ∙ sum2-cong (functions W L) (functions H L) (λ c d. weight2 c d a b *ℤ value L c d)
        (λ c d. weight2 c d a b *ℤ f c d) (λ c d hc hd. ap (λ z. weight2 c d a b *ℤ z) (sym (low c d hc hd))))

  -- ---- numbers that fit

  module _ (N : ℕ → ℕ → ℕ → ℤ) (fit : Fits W H lev N) (coef : ℕ → ℕ → ℕ → ℤ)
      (given : (L a b : ℕ) → L < 4 → a < functions W L → b < functions H L
      → coef L a b ≡ active_in W H lev N L a b) where
    -- at its own place a number is the coefficient, or both are 0
    at_place : (L a b : ℕ) → L < 4 → a < functions W L → b < functions H L → L ≤ least_under W H lev L a b
        → coef L a b ≡ N L a b
    at_place L a b hL ha hb h =
        given L a b hL ha hb
        ∙ pick (active W H lev L a b) (λ t. cond t (N L a b) (pos 0) ≡ N L a b)
        (λ _. refl)
        (λ passive. sym (fit.none L a b hL ha hb (above (eqb-false (least_under W H lev L a b) L passive))))
      where
        above : (least_under W H lev L a b ≡ L → ⊥) → L < least_under W H lev L a b
        above differ = go (dec_le (least_under W H lev L a b) L)
          where
            go : Dec (least_under W H lev L a b ≤ L) → L < least_under W H lev L a b
            go (yes k) = absurd (differ (omega arith))
            go (no k) = omega arith

    pub carried-fit : (L a b : ℕ) → L < 4 → a < functions W L → b < functions H L
        → carried W H lev coef L a b ≡ N L a b
    carried-fit zero a b hL ha hb = own W H lev coef 0 a b (omega arith) ∙ at_place 0 a b hL ha hb (omega arith)
    carried-fit (suc L) a b hL ha hb =
        go (λ c d. carried-fit L c d (omega arith)) (dec_le (suc L) (least_under W H lev (suc L) a b))
      where
        go : ((c d : ℕ) → c < functions W L → d < functions H L → carried W H lev coef L c d ≡ N L c d)
            → Dec (suc L ≤ least_under W H lev (suc L) a b) → carried W H lev coef (suc L) a b ≡ N (suc L) a b
        go ih (yes h) = carried-own W H lev coef L a b h ∙ at_place (suc L) a b hL ha hb h
        go ih (no h) =
            let one = sym (add-one L) in
            let out : in_region W H lev (L + 1) a b ≡ false =
            subst (λ m. leb m (least_under W H lev m a b) ≡ false) one
            (lt-leb (suc L) (least_under W H lev (suc L) a b) (omega arith)) in
            let agree = fit.agrees L (omega arith) a b (subst (λ m. a < functions W m) one ha)
            (subst (λ m. b < functions H m) one hb) in
            carried-sum W H lev coef L a b (omega arith)
            ∙ sum2-cong (functions W L) (functions H L) (λ c d. weight2 c d a b *ℤ carried W H lev coef L c d)
            (λ c d. weight2 c d a b *ℤ N L c d)
            (λ c d hc hd. ap (λ z. weight2 c d a b *ℤ z) (ih c d hc hd))
            ∙ sym (agree ∙ ap (λ t. cond t (N (L + 1) a b)
            (sum2 (functions W L) (functions H L) (λ c d. weight2 c d a b *ℤ N L c d))) out)
            ∙ ap (λ m. N m a b) (add-one L)
