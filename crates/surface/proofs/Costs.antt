-- The cost of an exact reading: where it is given, that it is the nearest, where it is 0, the greatest there is, and
-- that it stays where the reading does.
use mathlib.Core.Path.{◌≡◌, refl, sym}
use Prim.Native.Nat.{ℕ, zero, suc, ◌*◌, ◌≤◌}
use native.Mathlib.Nat.{le_refl, mul-le-mul}
use native.Mathlib.Omega.{arith}
use lib.IntN.{ℤ, pos, negsuc, nat_abs}
use lib.Dec.{ltb, leb→le}
use borrow.Author.Tests.{ltb-false, le-ltb}
use Rattle.surface.specs.Truncation.{D}
use Rattle.surface.specs.Table.{cause, ◌or_else◌, table_reading}
use Rattle.surface.specs.Calls.{answer, reading_cause, exact_outcome, cost_of, cost_outcome}
use Rattle.surface.specs.Demands.{after_all}
use Rattle.surface.specs.Costs.{CostGiven, CostNearest, NoCost, CostFits, CostFollows, RefinementMovesNoCost}
use Rattle.surface.proofs.Causes.{or_else-none, cause-off}
use Rattle.surface.proofs.RefusalLaws.{answer-gives, answer-refused}
use Rattle.surface.proofs.Demands.{reading-fits, refinement-moves-no-reading}

pub cost-given : CostGiven
unfolding cost_outcome exact_outcome
cost-given W H t cs u v tariff c = (
  λ e.
      let g =
      answer-gives (reading_cause W H t cs u v or_else cause 11 (ltb 99999 tariff))
      (cost_of (table_reading W H t cs u v) tariff) c e in
      let k = or_else-none (reading_cause W H t cs u v) (cause 11 (ltb 99999 tariff)) g.0 in
      (table_reading W H t cs u v, rw k.0, ltb-false 99999 tariff (cause-off 10 (ltb 99999 tariff) k.1), g.1),
  λ h.
      let g = answer-gives (reading_cause W H t cs u v) (table_reading W H t cs u v) h.0 h.1 in
      rw (g.0, le-ltb 99999 tariff h.2, g.1, h.3),
)

pub cost-nearest : CostNearest
cost-nearest n tariff c = (λ e. (omega arith, omega arith), λ h. omega arith)

pub no-cost : NoCost
no-cost (pos n) tariff h = omega (arith, mul-le-mul (leb→le n 0 h.le) (le_refl tariff))
no-cost (negsuc n) tariff h = refl

-- 32,000×D times 99,999 at most
within : (n : ℤ) (tariff c : ℕ) → nat_abs n ≤ 32000 * D → tariff ≤ 99999 → cost_of n tariff ≡ c → c ≤ 3199968
within (pos n) tariff c h k e = omega (arith, mul-le-mul h k)
within (negsuc n) tariff c h k e = omega arith

pub cost-fits : CostFits
cost-fits W H t cs u v tariff c e =
    let g = (cost-given W H t cs u v tariff c).0 e in
    within g.0 tariff c (reading-fits W H t cs u v g.0 g.1) g.2 g.3

pub cost-follows : CostFollows
unfolding cost_outcome exact_outcome
cost-follows W₁ H₁ W₂ H₂ t₁ t₂ c₁ c₂ u₁ v₁ u₂ v₂ e tariff =
    go (reading_cause W₁ H₁ t₁ c₁ u₁ v₁) (reading_cause W₂ H₂ t₂ c₂ u₂ v₂) (table_reading W₁ H₁ t₁ c₁ u₁ v₁)
    (table_reading W₂ H₂ t₂ c₂ u₂ v₂) e
  where
    go : (c d : ℕ) (x y : ℤ) → answer c x ≡ answer d y
        → answer (c or_else cause 11 (ltb 99999 tariff)) (cost_of x tariff)
        ≡ answer (d or_else cause 11 (ltb 99999 tariff)) (cost_of y tariff)
    go zero d x y e = let g = answer-gives d y x (sym e) in rw (g.0, g.1)
    go (suc c) d x y e = let g = answer-refused d y (suc c) (sym e) in rw g.0

pub refinement-moves-no-cost : RefinementMovesNoCost
refinement-moves-no-cost W H c ss acc u v tariff =
    cost-follows W H W H (after_all W H c ss).tree c.tree (after_all W H c ss).numbers c.numbers u v u v
    ((refinement-moves-no-reading W H c ss acc).1 u v).0 tariff
