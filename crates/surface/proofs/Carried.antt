-- The active coefficients times their truncated functions, at a point or along a slope there, are the carried values
-- times the functions of level 3.
use mathlib.Core.Path.{◌≡◌, refl, sym, ap, ap₂, ◌∙◌}
use mathlib.Core.Logic.{◌⊎◌, inl, inr}
use mathlib.Core.Bool.{Bool, true, false, cond}
use Prim.Native.Nat.{ℕ, zero, suc, ◌*◌, ◌≤◌, ◌<◌}
use native.Mathlib.Nat.{le_trans, eq-zero-or-pos, zero-mul, mul-zero, pos_of_ne-zero}
use native.Mathlib.Decide.{dec_le, ℕ_discrete}
use native.Mathlib.Omega.{arith}
use lib.Dec.{leb, eqb, lit<}
use borrow.Author.Tests.{leb-false, le-leb, lt-leb, eqb-true, eqb-false, eq-eqb, ne_eqb}
use lib.IntN.{ℤ, pos, ◌+ℤ◌, ◌*ℤ◌, zero-*ℤ, *ℤ-zero, +ℤ_idr, +ℤ_idl, *ℤ_comm}
use Rattle.finite.specs.Range.{sum, sum2}
use Rattle.finite.proofs.Int.{*ℤ-assoc, *ℤ-left-comm}
use Rattle.finite.proofs.Sum.{sum2-cong, sum2-zero, sum2-add, sum2-scale, sum2-swap}
use Rattle.finite.proofs.Weighted.{weighted-cong}
use Rattle.finite.proofs.Tests.{pick}
use Rattle.surface.specs.Sheet.{functions, quarters}
use Rattle.surface.specs.Support.{least_under, active, in_region}
use Rattle.surface.specs.Truncation.{weight, weight2, truncation, active_sum}
use Rattle.surface.specs.Carry.{carried}
use Rattle.surface.proofs.Least.{least_under-parent, least_under-le-3, least_under-cong}

-- the factors of a product that is not 0
pub factors : (x y : ℕ) → 0 < x * y → (0 < x) × (0 < y)
factors x y h = (go x (λ e. rw (e, zero-mul y) at h), go y (λ e. rw (e, mul-zero x) at h))
  where
    go : (z : ℕ) → (z ≡ 0 → 0 < 0) → 0 < z
    go zero f = f refl
    go (suc z) f = omega arith

module _ (W H : ℕ) (lev : ℕ → ℕ → ℕ) (coef : ℕ → ℕ → ℕ → ℤ) where
  -- the two cases of a carried value
  pub carried-own : (L a b : ℕ) → suc L ≤ least_under W H lev (suc L) a b
      → carried W H lev coef (suc L) a b ≡ coef (suc L) a b
  unfolding carried
  carried-own L a b h = rw (le-leb (suc L) (least_under W H lev (suc L) a b) h)

  pub carried-sum : (L a b : ℕ) → least_under W H lev (suc L) a b ≤ L
      → carried W H lev coef (suc L) a b
      ≡ sum2 (functions W L) (functions H L) (λ c d. weight2 c d a b *ℤ carried W H lev coef L c d)
  unfolding carried
  carried-sum L a b h = rw (lt-leb (suc L) (least_under W H lev (suc L) a b) (omega arith))

  module _ (f : ℕ → ℕ → ℕ → ℤ) where
    abbrev trunc : ℕ → ℕ → ℕ → ℕ → ℤ
    trunc n L a b = truncation W H lev f n L a b

    abbrev least-of : ℕ → ℕ → ℕ → ℕ
    least-of L a b = least_under W H lev L a b

    abbrev carry : ℕ → ℕ → ℕ → ℤ
    carry L a b = carried W H lev coef L a b

    -- the part of the reading that levels 0 to L give: carried values times truncated functions of level L
    abbrev coarse : ℕ → ℕ → ℤ
    coarse n L =
        sum2 (functions W L) (functions H L) λ a b. cond (leb (least-of L a b) L) (carry L a b *ℤ trunc n L a b)
        (pos 0)

    -- what a child keeps of its parents' truncated functions
    abbrev kept : ℕ → ℕ → ℕ → ℕ → ℤ
    kept n L c d = cond (in_region W H lev (suc L) c d) (pos 0) (trunc n (suc L) c d)

    -- a child that lies in the region is dropped; any other collects its carried value
    collect : (n L : ℕ) → L < 3 → (c d : ℕ)
        → sum2 (functions W L) (functions H L)
        (λ a b. cond (leb (least-of L a b) L) (carry L a b *ℤ (weight2 a b c d *ℤ kept n L c d)) (pos 0))
        ≡ cond (in_region W H lev (suc L) c d) (pos 0) (carry (suc L) c d *ℤ trunc n (suc L) c d)
    collect n L l c d = go (in_region W H lev (suc L) c d) refl
      where
        x : ℤ
        x = trunc n (suc L) c d

        part : Bool → ℕ → ℕ → ℤ
        part t a b = cond (leb (least-of L a b) L) (carry L a b *ℤ (weight2 a b c d *ℤ cond t (pos 0) x)) (pos 0)

        -- a parent's weight is not 0, so its least level is at most the child's
        parent-part : (a b : ℕ) → least-of (suc L) c d ≤ L → part false a b ≡ x *ℤ (weight2 a b c d *ℤ carry L a b)
        parent-part a b h = both-cases (eq-zero-or-pos (weight a c * weight b d))
          where
            both-cases : (weight a c * weight b d ≡ 0) ⊎ (0 < weight a c * weight b d)
                → part false a b ≡ x *ℤ (weight2 a b c d *ℤ carry L a b)
            both-cases (inl e) =
                rw (e, zero-*ℤ x, *ℤ-zero (carry L a b), zero-*ℤ (carry L a b), *ℤ-zero x)
                (pick (leb (least-of L a b) L) (λ t. cond t (pos 0) (pos 0) ≡ pos 0) (λ _. refl) (λ _. refl))
            both-cases (inr p) =
                let f = factors (weight a c) (weight b d) p in
                let m : least-of L a b ≤ L = le_trans (least_under-parent W H lev L l a b c d f.0 f.1) h in
                rw (le-leb (least-of L a b) L m)
                (*ℤ-left-comm (carry L a b) (weight2 a b c d) x
                ∙ sym (*ℤ-assoc (weight2 a b c d) (carry L a b) x)
                ∙ *ℤ_comm (weight2 a b c d *ℤ carry L a b) x)

        go : (t : Bool) → in_region W H lev (suc L) c d ≡ t
            → sum2 (functions W L) (functions H L) (λ a b. part t a b) ≡ cond t (pos 0) (carry (suc L) c d *ℤ x)
        go true e =
            sum2-zero (functions W L) (functions H L) (λ a b. part true a b)
            λ a b la lb. pick (leb (least-of L a b) L)
            (λ t. cond t (carry L a b *ℤ (weight2 a b c d *ℤ pos 0)) (pos 0) ≡ pos 0)
            (λ _. rw (*ℤ-zero (weight2 a b c d), *ℤ-zero (carry L a b)))
            (λ _. refl)
        go false e =
            let h : least-of (suc L) c d ≤ L = omega (arith, leb-false (suc L) (least-of (suc L) c d) e) in
            sum2-cong (functions W L) (functions H L) (λ a b. part false a b)
            (λ a b. x *ℤ (weight2 a b c d *ℤ carry L a b))
            (λ a b la lb. parent-part a b h)
            ∙ sum2-scale (functions W L) (functions H L) x (λ a b. weight2 a b c d *ℤ carry L a b)
            ∙ ap (λ t. x *ℤ t) (sym (carried-sum L c d h))
            ∙ *ℤ_comm x (carry (suc L) c d)

    -- a level's own part, with n levels finer than it
    abbrev own : ℕ → ℕ → ℤ
    own n L = sum2 (functions W L) (functions H L) λ a b. cond (active W H lev L a b) (coef L a b *ℤ trunc n L a b)
        (pos 0)

    spread : (n L a b : ℕ) → cond (leb (least-of L a b) L) (carry L a b *ℤ trunc (suc n) L a b) (pos 0)
        ≡ sum2 (functions W (suc L)) (functions H (suc L))
        (λ c d. cond (leb (least-of L a b) L) (carry L a b *ℤ (weight2 a b c d *ℤ kept n L c d)) (pos 0))
    unfolding truncation
    spread n L a b =
        pick (leb (least-of L a b) L)
        (λ t. cond t (carry L a b *ℤ trunc (suc n) L a b) (pos 0)
        ≡ sum2 (functions W (suc L)) (functions H (suc L))
        (λ c d. cond t (carry L a b *ℤ (weight2 a b c d *ℤ kept n L c d)) (pos 0)))
        (λ _. sym (sum2-scale (functions W (suc L)) (functions H (suc L)) (carry L a b)
        (λ c d. weight2 a b c d *ℤ kept n L c d)))
        (λ _. sym (sum2-zero (functions W (suc L)) (functions H (suc L)) (λ c d. pos 0) (λ c d lc ld. refl)))

    -- a child is in the region of its level and dropped, or below it and collected; if its least level is its own, it
    -- is active
    merge : (n L c d : ℕ)
        → cond (in_region W H lev (suc L) c d) (pos 0) (carry (suc L) c d *ℤ trunc n (suc L) c d)
        +ℤ cond (active W H lev (suc L) c d) (coef (suc L) c d *ℤ trunc n (suc L) c d) (pos 0)
        ≡ cond (leb (least-of (suc L) c d) (suc L)) (carry (suc L) c d *ℤ trunc n (suc L) c d) (pos 0)
    merge n L c d = go (dec_le (suc L) (least-of (suc L) c d)) (ℕ_discrete (least-of (suc L) c d) (suc L))
      where
        m : ℕ
        m = least-of (suc L) c d

        x : ℤ
        x = trunc n (suc L) c d

        go : Dec (suc L ≤ m) → Dec (m ≡ suc L)
            → cond (leb (suc L) m) (pos 0) (carry (suc L) c d *ℤ x) +ℤ cond (eqb m (suc L)) (coef (suc L) c d *ℤ x)
            (pos 0)
            ≡ cond (leb m (suc L)) (carry (suc L) c d *ℤ x) (pos 0)
        go (no h) e = rw (
          lt-leb (suc L) m (omega arith),
          ne_eqb m (suc L) (λ p. h (omega arith)),
          le-leb m (suc L)
              (omega arith),
          +ℤ_idr,
        )
        go (yes h) (yes e) =
            rw (le-leb (suc L) m h, eq-eqb m (suc L) e, le-leb m (suc L) (omega arith), carried-own L c d h, +ℤ_idl)
        go (yes h) (no e) = rw (le-leb (suc L) m h, ne_eqb m (suc L) e, lt-leb m (suc L) (omega arith))

    coarse-step : (n L : ℕ) → L < 3 → coarse (suc n) L +ℤ own n (suc L) ≡ coarse n (suc L)
    coarse-step n L l =
        ap (λ t. t +ℤ own n (suc L))
        (sum2-cong (functions W L) (functions H L)
        (λ a b. cond (leb (least-of L a b) L) (carry L a b *ℤ trunc (suc n) L a b) (pos 0))
        (λ a b. sum2 (functions W (suc L)) (functions H (suc L))
        (λ c d. cond (leb (least-of L a b) L) (carry L a b *ℤ (weight2 a b c d *ℤ kept n L c d)) (pos 0)))
        (λ a b la lb. spread n L a b)
        ∙ sum2-swap (functions W L) (functions H L) (functions W (suc L)) (functions H (suc L))
        (λ a b c d. cond (leb (least-of L a b) L) (carry L a b *ℤ (weight2 a b c d *ℤ kept n L c d)) (pos 0))
        ∙ sum2-cong (functions W (suc L)) (functions H (suc L))
        (λ c d. sum2 (functions W L) (functions H L)
        (λ a b. cond (leb (least-of L a b) L) (carry L a b *ℤ (weight2 a b c d *ℤ kept n L c d)) (pos 0)))
        (λ c d. cond (in_region W H lev (suc L) c d) (pos 0) (carry (suc L) c d *ℤ trunc n (suc L) c d))
        (λ c d lc ld. collect n L l c d))
        ∙ sym (sum2-add (functions W (suc L)) (functions H (suc L))
        (λ c d. cond (in_region W H lev (suc L) c d) (pos 0) (carry (suc L) c d *ℤ trunc n (suc L) c d))
        (λ c d. cond (active W H lev (suc L) c d) (coef (suc L) c d *ℤ trunc n (suc L) c d) (pos 0)))
        ∙ sum2-cong (functions W (suc L)) (functions H (suc L))
        (λ c d. cond (in_region W H lev (suc L) c d) (pos 0) (carry (suc L) c d *ℤ trunc n (suc L) c d)
        +ℤ cond (active W H lev (suc L) c d) (coef (suc L) c d *ℤ trunc n (suc L) c d) (pos 0))
        (λ c d. cond (leb (least-of (suc L) c d) (suc L)) (carry (suc L) c d *ℤ trunc n (suc L) c d) (pos 0))
        (λ c d lc ld. merge n L c d)

    -- at level 0 the active functions are those whose least level is at most 0, and they carry their own coefficients
    coarse-0 : coarse 3 0 ≡ own 3 0
    unfolding carried
    coarse-0 =
        sum2-cong (functions W 0) (functions H 0)
        (λ a b. cond (leb (least-of 0 a b) 0) (carry 0 a b *ℤ trunc 3 0 a b) (pos 0))
        (λ a b. cond (active W H lev 0 a b) (coef 0 a b *ℤ trunc 3 0 a b) (pos 0))
        (λ a b la lb. ap (λ t. cond t (coef 0 a b *ℤ trunc 3 0 a b) (pos 0)) (same (least-of 0 a b)))
      where
        same : (m : ℕ) → leb m 0 ≡ eqb m 0
        same m = pick (eqb m 0) (λ t. leb m 0 ≡ t) (λ e. le-leb m 0 (omega (arith, eqb-true m 0 e)))
            (λ e. lt-leb m 0 (pos_of_ne-zero (eqb-false m 0 e)))

    -- at level 3 every function's least level is at most its own
    coarse-3 : coarse 0 3 ≡ sum2 (functions W 3) (functions H 3) (λ a b. f 3 a b *ℤ carry 3 a b)
    unfolding truncation
    coarse-3 =
        sum2-cong (functions W 3) (functions H 3)
        (λ a b. cond (leb (least-of 3 a b) 3) (carry 3 a b *ℤ trunc 0 3 a b) (pos 0))
        (λ a b. f 3 a b *ℤ carry 3 a b)
        (λ a b la lb. rw (le-leb (least-of 3 a b) 3 (least_under-le-3 W H lev 3 a b)) (*ℤ_comm (carry 3 a b) (f 3 a b)))

    -- the active coefficients times their truncated functions are the carried values times level 3's functions
    pub carried-reading : active_sum W H lev coef f
        ≡ sum2 (functions W 3) (functions H 3) (λ a b. f 3 a b *ℤ carried W H lev coef 3 a b)
    unfolding active_sum sum
    carried-reading =
        ap (λ t. t +ℤ own 2 1 +ℤ own 1 2 +ℤ own 0 3) (+ℤ_idl (own 3 0) ∙ sym coarse-0)
        ∙ ap (λ t. t +ℤ own 1 2 +ℤ own 0 3) (coarse-step 2 0 (lit< tt))
        ∙ ap (λ t. t +ℤ own 0 3) (coarse-step 1 1 (lit< tt))
        ∙ coarse-step 0 2 (lit< tt)
        ∙ coarse-3

-- the carried values depend on the levels of the sheet alone
pub carried-cong : (W H : ℕ) (f g : ℕ → ℕ → ℕ) (coef : ℕ → ℕ → ℕ → ℤ)
    → ((q r : ℕ) → q < quarters W → r < quarters H → f q r ≡ g q r)
    → (L a b : ℕ) → carried W H f coef L a b ≡ carried W H g coef L a b
unfolding carried
carried-cong W H f g coef h zero a b = refl
carried-cong W H f g coef h (suc L) a b =
    ap₂ (λ l z. cond (leb (suc L) l) (coef (suc L) a b) z) (least_under-cong W H f g h (suc L) a b)
    (weighted-cong (functions W L) (functions H L) (λ c d. weight c a * weight d b) (λ c d. carried W H f coef L c d)
    (λ c d. carried W H g coef L c d) (λ c d _ _ _. carried-cong W H f g coef h L c d))
