-- The least level under a support: bounds, and that it rises from a function to its children and with the regions.
use mathlib.Core.Path.{◌≡◌, refl, sym, ap, ◌∙◌, subst}
use mathlib.Core.Bool.{Bool, true, false, ◌&&◌, cond}
use Prim.Native.Nat.{ℕ, suc, ◌+◌, ◌-◌, ◌*◌, ◌≤◌, ◌<◌, min}
use native.Mathlib.Nat.{le_trans, le_of_eq, le_antisymm}
use native.Mathlib.Nat.{mul-le-mul_right, mul_assoc, mul_comm, add-mul}
use native.Mathlib.Omega.{arith}
use lib.Dec.{eqb}
use Rattle.finite.specs.Range.{least}
use Rattle.finite.proofs.Minima.{least-le-top, least-le, le-least, least-attained}
use Rattle.finite.proofs.Tests.{both, and_intro, lts-true, lts-intro, pick, total-cong, count-cong}
use Rattle.surface.specs.Sheet.{eighths, steps, functions, quarters}
use Rattle.surface.specs.Support.{low_end, high_end, shares, holds_along, least_where, least_under}
use Rattle.surface.specs.Support.{active_in_row, active_count}
use Rattle.surface.specs.Truncation.{weight}
use Rattle.surface.proofs.SplineWeight.{weight-parent, eighths-step}

-- ---- minima over the quarter squares of the sheet

module _ (W H : ℕ) where
  pub least_where-le : (lev : ℕ → ℕ → ℕ) (p : ℕ → ℕ → Bool) (q r : ℕ) → q < quarters W → r < quarters H → p q r ≡ true
      → least_where W H lev p ≤ lev q r
  least_where-le lev p q r hq hr e =
      le_trans (least-le 3 (quarters W) (λ q. least 3 (quarters H) (λ r. cond (p q r) (lev q r) 3)) q hq)
      (subst (λ t. least 3 (quarters H) (λ r. cond (p q r) (lev q r) 3) ≤ cond t (lev q r) 3) e
      (least-le 3 (quarters H) (λ r. cond (p q r) (lev q r) 3) r hr))

  pub le-least_where : (m : ℕ) (lev : ℕ → ℕ → ℕ) (p : ℕ → ℕ → Bool) → m ≤ 3
      → ((q r : ℕ) → q < quarters W → r < quarters H → p q r ≡ true → m ≤ lev q r) → m ≤ least_where W H lev p
  le-least_where m lev p t h =
      le-least 3 (quarters W) m (λ q. least 3 (quarters H) (λ r. cond (p q r) (lev q r) 3)) t
      λ q hq. le-least 3 (quarters H) m (λ r. cond (p q r) (lev q r) 3) t
      λ r hr. pick (p q r) (λ b. m ≤ cond b (lev q r) 3) (h q r hq hr) (λ _. t)

  -- a least level below 3 is that of a square
  pub least_where-attained : (lev : ℕ → ℕ → ℕ) (p : ℕ → ℕ → Bool) (m : ℕ) → least_where W H lev p ≡ m → m < 3
      → (q : ℕ) × (r : ℕ) × (p q r ≡ true) × (lev q r ≡ m)
  least_where-attained lev p m e l =
      let column : ℕ → ℕ → ℕ = λ q r. cond (p q r) (lev q r) 3 in
      let (q, _, eq) = least-attained 3 (quarters W) (λ q. least 3 (quarters H) (column q)) m e l in
      let (r, _, er) = least-attained 3 (quarters H) (column q) m eq l in
      let (t, f) = square (p q r) (lev q r) er in
      (q, r, t, f)
    where
      square : (t : Bool) (k : ℕ) → cond t k 3 ≡ m → (t ≡ true) × (k ≡ m)
      square true k h = (refl, h)
      square false k h = absurd (omega arith)

  pub least_under-le-3 : (lev : ℕ → ℕ → ℕ) (L a b : ℕ) → least_under W H lev L a b ≤ 3
  unfolding least_under
  least_under-le-3 lev L a b = least-le-top 3 (quarters W) _

  -- regions that rise raise the least level under each support
  pub least_under-raise : (old new : ℕ → ℕ → ℕ) → ((q r : ℕ) → q < quarters W → r < quarters H → old q r ≤ new q r)
      → (L a b : ℕ) → least_under W H old L a b ≤ least_under W H new L a b
  unfolding least_under
  least_under-raise old new h L a b =
      let p : ℕ → ℕ → Bool = λ q r. shares W L a q && shares H L b r in
      le-least_where (least_where W H old p) new p (least-le-top 3 (quarters W) _)
      (λ q r hq hr e. le_trans (least_where-le old p q r hq hr e) (h q r hq hr))

  -- the least level depends on the levels of the sheet alone
  pub least_under-cong : (f g : ℕ → ℕ → ℕ) → ((q r : ℕ) → q < quarters W → r < quarters H → f q r ≡ g q r)
      → (L a b : ℕ) → least_under W H f L a b ≡ least_under W H g L a b
  least_under-cong f g h L a b =
      le_antisymm (least_under-raise f g (λ q r hq hr. le_of_eq (h q r hq hr)) L a b)
      (least_under-raise g f (λ q r hq hr. le_of_eq (sym (h q r hq hr))) L a b)

  -- so as many functions of a level are active
  pub active_count-cong : (f g : ℕ → ℕ → ℕ) → ((q r : ℕ) → q < quarters W → r < quarters H → f q r ≡ g q r)
      → (L : ℕ) → active_count W H f L ≡ active_count W H g L
  unfolding active_count active_in_row
  active_count-cong f g h L =
      total-cong (functions H L) _ _
      λ b _. count-cong (functions W L) _ _ λ a _. ap (λ l. eqb l L) (least_under-cong f g h L a b)

-- ---- a parent's support contains its children's

module _ (n L : ℕ) (l : L < 3) (a c : ℕ) (w : 0 < weight a c) where
  -- with cells of side x at level L + 1: the parent's ends reach as far as the child's
  low-ends : (x : ℕ) → a * (2 * x) ≤ c * x + 3 * x
  low-ends x =
      subst (λ t. t ≤ c * x + 3 * x) (mul_comm x (2 * a) ∙ ap (λ t. t * x) (mul_comm 2 a) ∙ mul_assoc a 2 x)
      (subst (λ t. x * (2 * a) ≤ t) (mul_comm x (c + 3) ∙ add-mul c 3 x)
      (native.Mathlib.Nat.mul-le-mul_left x (weight-parent a c w).0))

  high-ends : (x : ℕ) → (c + 1) * x ≤ (a + 1) * (2 * x)
  high-ends x =
      let h : c + 1 ≤ (a + 1) * 2 = omega (arith, (weight-parent a c w).1) in
      subst (λ t. (c + 1) * x ≤ t) (mul_assoc (a + 1) 2 x) (mul-le-mul_right x h)

  pub shares-parent : (q : ℕ) → shares n (suc L) c q ≡ true → shares n L a q ≡ true
  shares-parent q e =
      let x = eighths (suc L) in
      let es : (low_end (suc L) c < 2 * q + 2) × (2 * q < high_end n (suc L) c) =
      lts-true (low_end (suc L) c) (2 * q + 2) (2 * q) (high_end n (suc L) c) e in
      let s : eighths L ≡ 2 * x = eighths-step L l in
      let low : a * (2 * x) - 3 * (2 * x) < 2 * q + 2 = omega (arith, low-ends x) in
      let high : 2 * q < min ((a + 1) * (2 * x)) (8 * n) = omega (arith, high-ends x) in
      lts-intro (low_end L a) (2 * q + 2) (2 * q) (high_end n L a) (rw s low) (rw s high)

  pub holds-parent : (u : ℕ) → holds_along (suc L) c u ≡ true → holds_along L a u ≡ true
  holds-parent u e =
      let x = steps (suc L) in
      let es : (c * x < u + 3 * x) × (u < (c + 1) * x) = lts-true (c * x) (u + 3 * x) u ((c + 1) * x) e in
      let s : steps L ≡ 2 * x = omega (arith, eighths-step L l) in
      let low : a * (2 * x) < u + 3 * (2 * x) = omega (arith, low-ends x) in
      let high : u < (a + 1) * (2 * x) = omega (arith, high-ends x) in
      lts-intro (a * steps L) (u + 3 * steps L) u ((a + 1) * steps L) (rw s low) (rw s high)

-- "the least level under a parent is at most that under its child"
pub least_under-parent : (W H : ℕ) (lev : ℕ → ℕ → ℕ) (L : ℕ) → L < 3 → (a b c d : ℕ) → 0 < weight a c → 0 < weight b d
    → least_under W H lev L a b ≤ least_under W H lev (suc L) c d
unfolding least_under
least_under-parent W H lev L l a b c d wa wb =
    let p : ℕ → ℕ → Bool = λ q r. shares W L a q && shares H L b r in
    let p' : ℕ → ℕ → Bool = λ q r. shares W (suc L) c q && shares H (suc L) d r in
    le-least_where W H (least_where W H lev p) lev p' (least-le-top 3 (quarters W) _)
    (λ q r hq hr e. least_where-le W H lev p q r hq hr
    (and_intro (shares W L a q) (shares H L b r)
    (shares-parent W L l a c wa q (both (shares W (suc L) c q) (shares H (suc L) d r) e).0)
    (shares-parent H L l b d wb r (both (shares W (suc L) c q) (shares H (suc L) d r) e).1)))
