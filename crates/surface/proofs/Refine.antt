-- Demand 3, refinement: where the regions rise and the carried values become the coefficients, no reading moves, and
-- no slope does.
use mathlib.Core.Path.{◌≡◌, sym, ap, ◌∙◌}
use Prim.Native.Nat.{ℕ, zero, suc, ◌*◌, ◌≤◌, ◌<◌}
use native.Mathlib.Nat.{le_trans}
use native.Mathlib.Decide.{dec_le}
use native.Mathlib.Omega.{arith}
use lib.Dec.{lit≤}
use borrow.Author.Tests.{eq-eqb}
use lib.IntN.{ℤ, ◌*ℤ◌}
use Rattle.finite.proofs.Sum.{sum2-cong}
use Rattle.finite.proofs.Weighted.{weighted-cong}
use Rattle.surface.specs.Sheet.{functions, quarters}
use Rattle.surface.specs.Support.{least_under}
use Rattle.surface.specs.Truncation.{weight, active_sum}
use Rattle.surface.specs.Carry.{carried, carried_over}
use Rattle.surface.proofs.Least.{least_under-parent, least_under-raise, least_under-le-3}
use Rattle.surface.proofs.Carried.{factors, carried-own, carried-sum, carried-reading}

module _ (W H : ℕ) (old new : ℕ → ℕ → ℕ) (rise : (q r : ℕ) → q < quarters W → r < quarters H → old q r ≤ new q r)
    (coef : ℕ → ℕ → ℕ → ℤ) where
  abbrev after : ℕ → ℕ → ℕ → ℤ
  after L a b = carried_over W H old new coef L a b

  -- an active function's new coefficient is its carried value
  pub carried_over-active : (L a b : ℕ) → least_under W H new L a b ≡ L → after L a b ≡ carried W H old coef L a b
  carried_over-active L a b e = rw (eq-eqb (least_under W H new L a b) L e)

  -- so each function at or above its level under the new regions carries what it carried before
  pub carried_same : (L : ℕ) → L ≤ 3 → (a b : ℕ) → least_under W H new L a b ≤ L
      → carried W H new after L a b ≡ carried W H old coef L a b
  carried_same zero l a b h = unfold carried in carried_over-active 0 a b (omega arith)
  carried_same (suc L) l a b h =
      go (λ c d hc. carried_same L (omega arith) c d hc) (dec_le (suc L) (least_under W H new (suc L) a b))
    where
      go : ((c d : ℕ) → least_under W H new L c d ≤ L → carried W H new after L c d ≡ carried W H old coef L c d)
          → Dec (suc L ≤ least_under W H new (suc L) a b)
          → carried W H new after (suc L) a b ≡ carried W H old coef (suc L) a b
      go ih (yes k) = carried-own W H new after L a b k ∙ carried_over-active (suc L) a b (omega arith)
      go ih (no k) =
          let k1 : least_under W H new (suc L) a b ≤ L = omega arith in
          let k2 : least_under W H old (suc L) a b ≤ L = le_trans (least_under-raise W H old new rise (suc L) a b) k1 in
          carried-sum W H new after L a b k1
          ∙ weighted-cong (functions W L) (functions H L) (λ c d. weight c a * weight d b)
          (λ c d. carried W H new after L c d) (λ c d. carried W H old coef L c d)
          (λ c d lc ld p. let f = factors (weight c a) (weight d b) p in
          ih c d (le_trans (least_under-parent W H new L (omega arith) c d a b f.0 f.1) k1))
          ∙ sym (carried-sum W H old coef L a b k2)

  pub refine-reading : (f : ℕ → ℕ → ℕ → ℤ) → active_sum W H new after f ≡ active_sum W H old coef f
  refine-reading f =
      carried-reading W H new after f
      ∙ sum2-cong (functions W 3) (functions H 3) (λ a b. f 3 a b *ℤ carried W H new after 3 a b)
      (λ a b. f 3 a b *ℤ carried W H old coef 3 a b)
      (λ a b la lb. ap (λ t. f 3 a b *ℤ t) (carried_same 3 (lit≤ tt) a b (least_under-le-3 W H new 3 a b)))
      ∙ sym (carried-reading W H old coef f)
