-- The cases of the slopes: each by its patch, which computes.
use mathlib.Core.Path.{◌≡◌, refl, ◌∙◌}
use mathlib.Core.List.{List}
use Prim.Native.Nat.{ℕ, ◌≤◌, min}
use lib.Dec.{lit≤, lit<}
use lib.IntN.{ℤ}
use Rattle.finite.specs.Range.{sum, every, least, greatest}
use Rattle.surface.specs.Sheet.{eighths}
use Rattle.surface.specs.Quadtree.{parse, well_formed, level_at}
use Rattle.surface.specs.Support.{least_under}
use Rattle.surface.specs.Spline.{cell_of, piece}
use Rattle.surface.specs.Patch.{patch, evaluated, stop_level}
use Rattle.surface.specs.Table.{levels, start, coefficients, within_limits, passive_zero, region_cause, table_cause}
use Rattle.surface.specs.Calls.{reading_cause}
use Rattle.surface.specs.Slopes.{piece_slope, slopes_outcome}
use Rattle.surface.specs.Derivatives.{evaluated_u, evaluated_v}
use Rattle.surface.proofs.Demands.{any-level}
use Rattle.surface.proofs.Derivatives.{patch-slopes}
use Rattle.bench.specs.SlopeCases.{SlopesAre, SlopeCases}

-- by the patch of any level from that of the point's quarter square on
slopes-are : (L : ℕ) (t : List ℕ) (cs : List ℤ) (u v : ℕ) (watts along_u along_v : ℤ)
    → reading_cause 1 1 t cs u v ≡ 0 → u ≤ 128 → v ≤ 128 → L ≤ 3 → min (stop_level 1 1 (levels t) u v) 3 ≤ L
    → evaluated 1 1 (levels t) (coefficients 1 1 cs) u v L ≡ watts
    → evaluated_u 1 1 (levels t) (coefficients 1 1 cs) u v L ≡ along_u
    → evaluated_v 1 1 (levels t) (coefficients 1 1 cs) u v L ≡ along_v
    → SlopesAre t cs u v watts along_u along_v
unfolding slopes_outcome
slopes-are L t cs u v watts along_u along_v none hu hv small stops e f g =
    let value = (any-level 1 1 (levels t) (coefficients 1 1 cs) u v (lit< tt) (lit< tt) hu hv L small stops).1 in
    let slopes = patch-slopes 1 1 (levels t) (coefficients 1 1 cs) u v (lit< tt) (lit< tt) hu hv L small stops in
    record { given = rw (none, value ∙ e, slopes.0 ∙ f, slopes.1 ∙ g) }

pub slope-cases : SlopeCases
unfolding reading_cause table_cause region_cause within_limits passive_zero every least_under least greatest eighths levels
    level_at parse well_formed start coefficients patch sum cell_of piece piece_slope slopes_outcome
slope-cases =
    record {
      plane = slopes-are 0 _ _ _ _ _ _ _ refl (lit≤ tt) (lit≤ tt) (lit≤ tt) (lit≤ tt) refl refl refl;
      far_edge = slopes-are 0 _ _ _ _ _ _ _ refl (lit≤ tt) (lit≤ tt) (lit≤ tt) (lit≤ tt) refl refl refl;
      far_corner = slopes-are 0 _ _ _ _ _ _ _ refl (lit≤ tt) (lit≤ tt) (lit≤ tt) (lit≤ tt) refl refl refl;
      corner = slopes-are 0 _ _ _ _ _ _ _ refl (lit≤ tt) (lit≤ tt) (lit≤ tt) (lit≤ tt) refl refl refl;
      bent = slopes-are 0 _ _ _ _ _ _ _ refl (lit≤ tt) (lit≤ tt) (lit≤ tt) (lit≤ tt) refl refl refl;
      last_cell = slopes-are 0 _ _ _ _ _ _ _ refl (lit≤ tt) (lit≤ tt) (lit≤ tt) (lit≤ tt) refl refl refl;
      refined = slopes-are 3 _ _ _ _ _ _ _ refl (lit≤ tt) (lit≤ tt) (lit≤ tt) (lit≤ tt) refl refl refl;
      steepest = slopes-are 3 _ _ _ _ _ _ _ refl (lit≤ tt) (lit≤ tt) (lit≤ tt) (lit≤ tt) refl refl refl;
      steepest_down = slopes-are 3 _ _ _ _ _ _ _ refl (lit≤ tt) (lit≤ tt) (lit≤ tt) (lit≤ tt) refl refl refl;
      off_sheet = refl;
      lowest = refl;
    }
