-- Document 02, Three: "From now on the cost is rounded once, from the exact reading times the tariff over 1,000, halves
-- upward. Exact readings of zero or less still cost 0." What is claimed of the cost, each proved under its name in
-- proofs/Costs.antt.
use Rattle.std.specs.Prelude.{◌≡◌, ◌↔◌, List, ℕ, ◌+◌, ◌*◌, ◌≤◌, ◌<◌, ℤ, pos, ◌≤ℤ◌}
use Rattle.surface.specs.Truncation.{D}
use Rattle.surface.specs.Table.{Acceptable}
use Rattle.surface.specs.Calls.{gives, exact_outcome, cost_of, cost_outcome}
use Rattle.surface.specs.Demands.{Contents, Step, after_all}

-- A cost is given where the exact reading is and the tariff is at most 99,999, and nowhere else; it is the reading's.
abbrev pub CostGiven : Type 0
CostGiven =
    (W H : ℕ) (t : List ℕ) (cs : List ℤ) (u v tariff c : ℕ)
    → (cost_outcome W H t cs u v tariff ≡ gives c)
    ↔ ((n : ℤ) × (exact_outcome W H t cs u v ≡ gives n) × (tariff ≤ 99999) × (cost_of n tariff ≡ c))

-- Rounded to the nearest, halves upward, of a reading not below zero: the cost is the one whole number c for which n/D
-- watts times the tariff over 1,000 is at least c − 1/2 and below c + 1/2.
abbrev pub CostNearest : Type 0
CostNearest =
    (n tariff c : ℕ)
    → (cost_of (pos n) tariff ≡ c)
    ↔ ((2 * c * (1000 * D) ≤ 2 * (n * tariff) + 1000 * D) × (2 * (n * tariff) < (2 * c + 1) * (1000 * D)))

-- "Exact readings of zero or less still cost 0."
abbrev pub NoCost : Type 0
NoCost = (n : ℤ) (tariff : ℕ) → n ≤ℤ pos 0 → cost_of n tariff ≡ 0

-- The greatest cost there is: 32,000 watts at 99,999. (That it is given is a case, bench/specs/CostCases.antt.)
abbrev pub CostFits : Type 0
CostFits =
    (W H : ℕ) (t : List ℕ) (cs : List ℤ) (u v tariff c : ℕ)
    → cost_outcome W H t cs u v tariff ≡ gives c → c ≤ 3199968

-- The cost comes from the exact outcome and the tariff alone: where two exact calls answer the same, so do the costs.
abbrev pub CostFollows : Type 0
CostFollows =
    (W₁ H₁ W₂ H₂ : ℕ) (t₁ t₂ : List ℕ) (c₁ c₂ : List ℤ) (u₁ v₁ u₂ v₂ : ℕ)
    → exact_outcome W₁ H₁ t₁ c₁ u₁ v₁ ≡ exact_outcome W₂ H₂ t₂ c₂ u₂ v₂
    → (tariff : ℕ) → cost_outcome W₁ H₁ t₁ c₁ u₁ v₁ tariff ≡ cost_outcome W₂ H₂ t₂ c₂ u₂ v₂ tariff

-- Document 00: "I must be able to say that refining moved no figure". Nor does it move a cost: the list is demand 3's.
abbrev pub RefinementMovesNoCost : Type 0
RefinementMovesNoCost =
    (W H : ℕ) (c : Contents) (ss : List Step) → Acceptable W H c.tree c.numbers
    → (u v tariff : ℕ)
    → cost_outcome W H (after_all W H c ss).tree (after_all W H c ss).numbers u v tariff
    ≡ cost_outcome W H c.tree c.numbers u v tariff
