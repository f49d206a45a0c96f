-- The cases of the cost: each reading by its patch, which computes, and the rest by it. How far the rules are apart.
use mathlib.Core.Path.{◌≡◌, refl, sym, ap, ◌∙◌}
use Prim.Native.Nat.{ℕ, ◌+◌, ◌*◌, ◌/◌, ◌%◌, ◌≤◌, min}
use native.Mathlib.Nat.{le_refl, mul-le-mul, add-mul, mul_assoc}
use native.Mathlib.Omega.{arith}
use lib.Dec.{lit≤, lit<}
use Rattle.finite.specs.Range.{sum, every, least, greatest, table_from, rows_from}
use Rattle.finite.proofs.Division.{split-times}
use Rattle.surface.specs.Sheet.{eighths}
use Rattle.surface.specs.Quadtree.{parse, well_formed, level_at}
use Rattle.surface.specs.Support.{least_under}
use Rattle.surface.specs.Spline.{cell_of, piece}
use Rattle.surface.specs.Truncation.{D}
use Rattle.surface.specs.Patch.{patch, evaluated, stop_level}
use Rattle.surface.specs.Table.{levels, start, coefficients, slice_from, within_limits, passive_zero, region_cause}
use Rattle.surface.specs.Table.{table_cause}
use Rattle.surface.specs.Calls.{fresh_outcome, reading_cause, whole_watts, cost_of}
use Rattle.bench.specs.CostCases.{CostCase, Holds, former_cost, CostCases, CostMoved}
use Rattle.bench.proofs.BenchLaws.{read, figures}

-- by what computes: the causes, the patch of a level, and the roundings
holds : (L : ℕ) (c : CostCase) → reading_cause 1 1 c.tree c.numbers c.u c.v ≡ 0 → c.u ≤ 128 → c.v ≤ 128
    → L ≤ 3 → min (stop_level 1 1 (levels c.tree) c.u c.v) 3 ≤ L
    → evaluated 1 1 (levels c.tree) (coefficients 1 1 c.numbers) c.u c.v L ≡ c.numerator
    → whole_watts c.numerator ≡ c.watts → former_cost c.watts c.tariff ≡ c.formerly
    → c.tariff ≤ 99999 → cost_of c.numerator c.tariff ≡ c.cost → Holds c
holds L c none hu hv small stops value whole former fair cost =
    let e = read c.tree c.numbers c.u c.v L c.numerator none hu hv small stops value in
    let p = figures 1 1 c.tree c.numbers c.u c.v c.tariff c.numerator e fair in
    record { exact = e; display = (rw whole at p).0; former = former; costs = (rw cost at p).1 }

pub cost-cases : CostCases
unfolding reading_cause table_cause region_cause within_limits passive_zero every least_under least greatest eighths levels
    level_at parse well_formed start coefficients patch sum cell_of piece whole_watts fresh_outcome slice_from table_from
    rows_from
cost-cases =
    record {
      standby = holds 0 _ refl (lit≤ tt) (lit≤ tt) (lit≤ tt) (lit≤ tt) refl refl refl (lit≤ tt) refl;
      below49 = holds 3 _ refl (lit≤ tt) (lit≤ tt) (lit≤ tt) (lit≤ tt) refl refl refl (lit≤ tt) refl;
      above49 = holds 3 _ refl (lit≤ tt) (lit≤ tt) (lit≤ tt) (lit≤ tt) refl refl refl (lit≤ tt) refl;
      around49 = (lit< tt, lit< tt);
      least_above_zero = holds 3 _ refl (lit≤ tt) (lit≤ tt) (lit≤ tt) (lit≤ tt) refl refl refl (lit≤ tt) refl;
      zero = holds 0 _ refl (lit≤ tt) (lit≤ tt) (lit≤ tt) (lit≤ tt) refl refl refl (lit≤ tt) refl;
      below_zero = holds 0 _ refl (lit≤ tt) (lit≤ tt) (lit≤ tt) (lit≤ tt) refl refl refl (lit≤ tt) refl;
      far_below = holds 0 _ refl (lit≤ tt) (lit≤ tt) (lit≤ tt) (lit≤ tt) refl refl refl (lit≤ tt) refl;
      one_more = holds 0 _ refl (lit≤ tt) (lit≤ tt) (lit≤ tt) (lit≤ tt) refl refl refl (lit≤ tt) refl;
      one_less = holds 0 _ refl (lit≤ tt) (lit≤ tt) (lit≤ tt) (lit≤ tt) refl refl refl (lit≤ tt) refl;
      half = holds 0 _ refl (lit≤ tt) (lit≤ tt) (lit≤ tt) (lit≤ tt) refl refl refl (lit≤ tt) refl;
      once = holds 0 _ refl (lit≤ tt) (lit≤ tt) (lit≤ tt) (lit≤ tt) refl refl refl (lit≤ tt) refl;
      one_watt = holds 0 _ refl (lit≤ tt) (lit≤ tt) (lit≤ tt) (lit≤ tt) refl refl refl (lit≤ tt) refl;
      one_watt_half = holds 0 _ refl (lit≤ tt) (lit≤ tt) (lit≤ tt) (lit≤ tt) refl refl refl (lit≤ tt) refl;
      greatest = holds 0 _ refl (lit≤ tt) (lit≤ tt) (lit≤ tt) (lit≤ tt) refl refl refl (lit≤ tt) refl;
    }

-- 2×n + D times the tariff, by the watts shown and what is left over of it
shown-times : (n t : ℕ) → 2 * (n * t) + D * t ≡ 2 * D * ((2 * n + D) / (2 * D) * t) + (2 * n + D) % (2 * D) * t
shown-times n t =
    ap (λ m. m + D * t) (sym (mul_assoc 2 n t)) ∙ sym (add-mul (2 * n) D t) ∙ split-times (2 * D) (2 * n + D) t

pub cost-moved : CostMoved
unfolding whole_watts
cost-moved n t =
    let e = shown-times n t in
    let small : (2 * n + D) % (2 * D) * t ≤ 2 * D * t = mul-le-mul (omega arith) (le_refl t) in
    (omega (arith, e, small), omega (arith, e, small))
