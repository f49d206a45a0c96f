-- Document 02, Three: cases of the cost, on 1 by 1 tables whose readings can be worked by hand. Each says what a point
-- reads, the watts shown, and the cost by document 01's rule, which the request replaces, and by the new one.
use Rattle.std.specs.Prelude.{◌≡◌, List, ◌∷◌, [], ◌++◌, ℕ, ◌+◌, ◌*◌, ◌/◌, ◌^◌, ◌≤◌, ◌<◌, ℤ, pos, negsuc, neg_ℤ, ◌+ℤ◌, ◌*ℤ◌, replicate}
use Rattle.surface.specs.Truncation.{D}
use Rattle.surface.specs.Calls.{gives, fresh_outcome, exact_outcome, whole_watts, display_outcome, cost_of, cost_outcome}
use Rattle.bench.specs.Bench.{rows, zeros, flat}

-- Document 01: "those whole watts times the tariff ... over 1,000, nearest, halves upward; 0 for watts of 0 or less"
abbrev pub former_cost : ℤ → ℕ → ℕ
former_cost (pos watts) tariff = (2 * (watts * tariff) + 1000) / 2000
former_cost (negsuc watts) tariff = 0

-- A point of a table, its numerator over D, the watts shown, and the cost at a tariff, formerly and now.
pub record CostCase : Type 0 where
  pub tree : List ℕ
  pub numbers : List ℤ
  pub u : ℕ
  pub v : ℕ
  pub numerator : ℤ
  pub watts : ℤ
  pub tariff : ℕ
  pub formerly : ℕ
  pub cost : ℕ

pub record Holds (c : CostCase) : Type 0 where
  pub exact : exact_outcome 1 1 c.tree c.numbers c.u c.v ≡ gives c.numerator
  pub display : display_outcome 1 1 c.tree c.numbers c.u c.v ≡ gives c.watts
  pub former : former_cost c.watts c.tariff ≡ c.formerly
  pub costs : cost_outcome 1 1 c.tree c.numbers c.u c.v c.tariff ≡ gives c.cost

-- ---- the tables

-- Columns −k, 0, k, 2k, equal in all rows: k×u/128 watts.
abbrev pub slope : ℤ → List ℤ
slope k = rows 4 (neg_ℤ k ∷ pos 0 ∷ k ∷ (k +ℤ k) ∷ []) ++ zeros 195

-- Columns −1, 0, 1, 2, so u/128 watts at (u, 5).
abbrev pub on_slope : (u tariff : ℕ) (watts : ℤ) (formerly cost : ℕ) → CostCase
on_slope u tariff watts formerly cost =
    record {
      tree = flat;
      numbers = slope (pos 1);
      u = u;
      v = 5;
      numerator = pos (u * (36 * 2 ^ 35));
      watts = watts;
      tariff = tariff;
      formerly = formerly;
      cost = cost;
    }

-- A fresh table of so many watts, at (9, 9).
abbrev pub of_fresh : (watts : ℤ) (tariff formerly cost : ℕ) → CostCase
of_fresh watts tariff formerly cost =
    record {
      tree = flat;
      numbers = (fresh_outcome 1 1 watts flat (zeros 211)).numbers;
      u = 9;
      v = 9;
      numerator = pos D *ℤ watts;
      watts = watts;
      tariff = tariff;
      formerly = formerly;
      cost = cost;
    }

-- All of level 3, where each coefficient is k, but for function (0, 0), which has m more: each adds 1/D watt at (1, 1).
abbrev pub of_finest : (k m : ℕ) (tariff formerly cost : ℕ) → CostCase
of_finest k m tariff formerly cost =
    record {
      tree = 4 ∷ 4 ∷ 4 ∷ 3 ∷ replicate 9 0;
      numbers = zeros 90 ++ (replicate 36 (pos k) ++ (pos (k + m) ∷ replicate 84 (pos k)));
      u = 1;
      v = 1;
      numerator = pos (k * (36 * 2 ^ 24) + m);
      watts = pos 0;
      tariff = tariff;
      formerly = formerly;
      cost = cost;
    }

-- ---- the cases

pub record CostCases : Type 0 where
  -- "An exact reading of 31/64 watt at tariff 99,999 now costs 48": it is 48.437...
  pub standby : Holds (on_slope 62 99999 (pos 0) 0 48)
  -- "A kiln on standby reads 0.49 watt and shows a cost of zero": at 50,000 it is 24.5, and the two readings next to it
  -- cost 24 and 25.
  pub below49 : Holds (of_finest 128450 338228674 50000 0 24)
  pub above49 : Holds (of_finest 128450 338228675 50000 0 25)
  pub around49 :
      (100 * (128450 * (36 * 2 ^ 24) + 338228674) < 49 * D) × (49 * D < 100 * (128450 * (36 * 2 ^ 24) + 338228675))
  -- The least reading above zero is 1 over D.
  pub least_above_zero : Holds (of_finest 0 1 99999 0 0)
  -- "Exact readings of zero or less still cost 0": zero, and 1/64 watt below it, which would be 1.56 above.
  pub zero : Holds (on_slope 0 99999 (pos 0) 0 0)
  pub below_zero :
      Holds
      (record {
        tree = flat;
        numbers = slope (neg_ℤ (pos 1));
        u = 2;
        v = 5;
        numerator = neg_ℤ (pos (36 * 2 ^ 36));
        watts = pos 0;
        tariff = 99999;
        formerly = 0;
        cost = 0;
      })
  -- 9 watts below zero, which shows as −9.
  pub far_below : Holds (of_fresh (neg_ℤ (pos 9)) 99999 0 0)
  -- The rules differ by one, both ways: 1/4 watt at 2,000 is 0.5, "halves upward"; 3/4 watt at 600 is 0.45.
  pub one_more : Holds (on_slope 32 2000 (pos 0) 0 1)
  pub one_less : Holds (on_slope 96 600 (pos 1) 1 0)
  -- Half a watt shows as 1, and costs what half a watt does.
  pub half : Holds (on_slope 64 99999 (pos 1) 100 50)
  -- "rounded once": half a watt at 2,999 is 1,499.5 over 1,000; rounded to 1,500 first, it would cost 2.
  pub once : Holds (on_slope 64 2999 (pos 1) 3 1)
  -- "Fresh table of 1 watt: tariff 1,499 costs 1, tariff 1,500 costs 2."
  pub one_watt : Holds (of_fresh (pos 1) 1499 1 1)
  pub one_watt_half : Holds (of_fresh (pos 1) 1500 2 2)
  -- The greatest cost there is (CostFits): numerator times tariff is 5×10^23, which 64 bits do not hold.
  pub greatest : Holds (of_fresh (pos 32000) 99999 3199968 3199968)

-- ---- how far the rules are apart

-- Of a reading not below zero, at most what half a watt costs, rounded up. (Below zero both cost 0.)
abbrev pub CostMoved : Type 0
CostMoved =
    (n tariff : ℕ)
    → (cost_of (pos n) tariff ≤ former_cost (whole_watts (pos n)) tariff + (tariff + 1999) / 2000)
    × (former_cost (whole_watts (pos n)) tariff ≤ cost_of (pos n) tariff + (tariff + 1999) / 2000)
