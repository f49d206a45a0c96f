-- The coefficients around a point bound the reading there.
use mathlib.Core.Path.{◌≡◌, sym, ap, ◌∙◌, subst}
use mathlib.Core.Logic.{◌⊎◌, inl, inr}
use mathlib.Core.Bool.{Bool, true, ◌&&◌}
use mathlib.Core.List.{List}
use Prim.Native.Nat.{ℕ, suc, ◌+◌, ◌-◌, ◌*◌, ◌^◌, ◌≤◌, ◌<◌}
use native.Mathlib.Nat.{mul_assoc, mul_comm}
use native.Mathlib.Omega.{arith}
use lib.IntN.{ℤ, pos, neg_ℤ, nat_abs, ◌*ℤ◌}
use lib.Dec.{leb, lit≤}
use lib.Pow.{pow-add}
use lib.Signed.{◌≤ℤ◌}
use borrow.Author.Tests.{leb-true, le-leb, eq-eqb}
use Rattle.finite.proofs.Int.{*ℤ-assoc}
use Rattle.finite.proofs.Order.{scale-mono, le-abs, le_parts, zarith}
use Rattle.finite.proofs.Extremum.{Lowest, Highest, Nowhere, least3, greatest3}
use Rattle.finite.proofs.Tests.{both, and_intro}
use Rattle.surface.specs.Sheet.{functions, on_sheet}
use Rattle.surface.specs.Support.{least_under, active, holds_along, holds}
use Rattle.surface.specs.Truncation.{D, reading}
use Rattle.surface.specs.Table.{levels, coefficients, limit, Acceptable}
use Rattle.surface.specs.Demands.{Bracketed}
use Rattle.surface.proofs.SplineTwoScale.{spline-holds}
use Rattle.surface.proofs.Least.{holds-parent}
use Rattle.surface.proofs.TableLaws.{sides, sound}
use Rattle.surface.proofs.Bounds.{Between, reading-between}
use Rattle.surface.proofs.Insertion.{scaled-between}

pub on-sheet : (W H u v : ℕ) → on_sheet W H u v ≡ true → (u ≤ 128 * W) × (v ≤ 128 * H)
on-sheet W H u v e =
    let e2 = both (leb u (128 * W)) (leb v (128 * H)) e in
    (leb-true u (128 * W) e2.0, leb-true v (128 * H) e2.1)

pub sheet-has : (W H u v : ℕ) → u ≤ 128 * W → v ≤ 128 * H → on_sheet W H u v ≡ true
sheet-has W H u v hu hv =
    and_intro (leb u (128 * W)) (leb v (128 * H)) (le-leb u (128 * W) hu) (le-leb v (128 * H) hv)

-- ---- readings lie between coefficients around the point

module _ (W H : ℕ) (t : List ℕ) (cs : List ℤ) (acc : Acceptable W H t cs) (u v : ℕ) (on : on_sheet W H u v ≡ true) where
  abbrev coef : ℕ → ℕ → ℕ → ℤ
  coef = coefficients W H cs

  abbrev test : ℕ → ℕ → ℕ → Bool
  test L a b = active W H (levels t) L a b && holds L a b u v

  -- a coefficient in units of level 3
  abbrev val : ℕ → ℕ → ℕ → ℤ
  val L a b = pos (64 ^ (3 - L)) *ℤ coef L a b

  -- bounds of the coefficients around the point bound the reading
  around-bounds : (lo hi : ℤ)
      → ((L a b : ℕ) → L < 4 → a < functions W L → b < functions H L → test L a b ≡ true → Between lo (val L a b) hi)
      → Between (pos 603979776 *ℤ lo) (reading W H (levels t) coef u v) (pos 603979776 *ℤ hi)
  around-bounds lo hi h =
      let s = sound W H t cs acc in
      let p_w = (sides s).0 in
      let p_h = (sides s).2 in
      let p = on-sheet W H u v on in
      reading-between W H (levels t) coef lo hi (λ L a b. holds L a b u v ≡ true)
      (λ L a b c d l wa wb e.
      let e2 = both (holds_along (suc L) c u) (holds_along (suc L) d v) e in
      and_intro (holds_along L a u) (holds_along L b v)
      (holds-parent W L l a c wa u e2.0) (holds-parent H L l b d wb v e2.1))
      (λ n L a b m ha hb act e.
      let n3 : n ≡ 3 - L = omega arith in
      rw n3 (h L a b (omega arith) ha hb
      (and_intro (active W H (levels t) L a b) (holds L a b u v) (eq-eqb (least_under W H (levels t) L a b) L act) e)))
      u v p_w p_h p.0 p.1
      (λ a b ha hb. and_intro (holds_along 3 a u) (holds_along 3 b v)
      (spline-holds W 3 a u p_w (lit≤ tt) p.0 ha) (spline-holds H 3 b v p_h (lit≤ tt) p.1 hb))

  -- some active function's support holds the point
  somewhere : Nowhere 4 (λ L. functions W L) (λ L. functions H L) test → ⊥
  somewhere none =
      let b = around-bounds (pos 1) (pos 0) (λ L a b hL ha hb e. absurd (none L a b hL ha hb e)) in
      omega (zarith, le_parts b.0, le_parts b.1)

  abbrev R : ℤ
  R = reading W H (levels t) coef u v

  -- from units of level 3 over 36×2^24 to watts over D
  in-watts : (L : ℕ) (c : ℤ) → L < 4 → pos (64 ^ L) *ℤ (pos 603979776 *ℤ (pos (64 ^ (3 - L)) *ℤ c)) ≡ pos D *ℤ c
  in-watts L c hL =
      let e : L + (3 - L) ≡ 3 = omega arith in
      let k : 64 ^ L * (603979776 * 64 ^ (3 - L)) ≡ D =
      ap (λ x. 64 ^ L * x) (mul_comm 603979776 (64 ^ (3 - L)))
      ∙ sym (mul_assoc (64 ^ L) (64 ^ (3 - L)) 603979776)
      ∙ ap (λ x. x * 603979776) (sym (pow-add 64 L (3 - L)) ∙ ap (λ x. 64 ^ x) e) in
      ap (λ x. pos (64 ^ L) *ℤ x) (sym (*ℤ-assoc (pos 603979776) (pos (64 ^ (3 - L))) c))
      ∙ sym (*ℤ-assoc (pos (64 ^ L)) (pos (603979776 * 64 ^ (3 - L))) c)
      ∙ ap (λ x. pos x *ℤ c) k

  bracket : Lowest 4 (λ L. functions W L) (λ L. functions H L) test val
      → Highest 4 (λ L. functions W L) (λ L. functions H L) test val → Bracketed W H t cs u v R
  bracket l h =
      let b = around-bounds (val l.L l.a l.b) (val h.L h.a h.b)
      (λ L a b hL ha hb e. (l.least L a b hL ha hb e, h.greatest L a b hL ha hb e)) in
      let tl = both (active W H (levels t) l.L l.a l.b) (holds l.L l.a l.b u v) l.holds in
      let th = both (active W H (levels t) h.L h.a h.b) (holds h.L h.a h.b u v) h.holds in
      record {
        low = record {
          L = l.L;
          a = l.a;
          b = l.b;
          level = l.L-in;
          along_u = l.a_in;
          along_v = l.b-in;
          is_active =
              tl.0;
          is_around = tl.1;
        };
        high = record {
          L = h.L;
          a = h.a;
          b = h.b;
          level = h.L-in;
          along_u = h.a_in;
          along_v = h.b-in;
          is_active
              = th.0;
          is_around = th.1;
        };
        at_least =
            subst (λ x. x ≤ℤ (pos (64 ^ l.L) *ℤ R)) (in-watts l.L (coef l.L l.a l.b) l.L-in)
            (scale-mono (64 ^ l.L) b.0);
        at_most =
            subst (λ x. (pos (64 ^ h.L) *ℤ R) ≤ℤ x) (in-watts h.L (coef h.L h.a h.b) h.L-in)
            (scale-mono (64 ^ h.L) b.1);
      }

  pub bracketed : Bracketed W H t cs u v R
  bracketed =
      go (least3 4 (λ L. functions W L) (λ L. functions H L) test val)
      (greatest3 4 (λ L. functions W L) (λ L. functions H L) test val)
    where
      go : Nowhere 4 (λ L. functions W L) (λ L. functions H L) test ⊎ Lowest 4 (λ L. functions W L)
          (λ L. functions H L) test val
          → Nowhere 4 (λ L. functions W L) (λ L. functions H L) test ⊎ Highest 4 (λ L. functions W L)
          (λ L. functions H L) test val
          → Bracketed W H t cs u v R
      go (inl e) h = absurd (somewhere e)
      go (inr l) (inl e) = absurd (somewhere e)
      go (inr l) (inr h) = bracket l h

  -- 32,000×D bounds the numerator
  pub fits : nat_abs R ≤ 32000 * D
  fits =
      let s = sound W H t cs acc in
      let b = around-bounds (neg_ℤ (pos (limit 3))) (pos (limit 3))
      (λ L a b hL ha hb e. scaled-between (3 - L) L (coef L a b) (omega arith)
      (s.limits L a b hL ha hb (both (active W H (levels t) L a b) (holds L a b u v) e).0)) in
      le-abs R b.0 b.1
