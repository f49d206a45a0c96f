-- Slopes that compute, of a sheet of level 0: each refuses a misreading of what a slope is.
use mathlib.Core.Path.{◌≡◌, refl, ◌∙◌}
use mathlib.Core.List.{List, [], ◌∷◌, ◌++◌}
use Prim.Native.Nat.{ℕ, ◌*◌, ◌/◌, ◌^◌, ◌≤◌, min}
use lib.Dec.{lit≤, lit<}
use lib.IntN.{ℤ, pos, neg_ℤ}
use lib.ListN.{replicate}
use Rattle.finite.specs.Range.{sum}
use Rattle.surface.specs.Sheet.{eighths}
use Rattle.surface.specs.Quadtree.{parse, level_at}
use Rattle.surface.specs.Spline.{cell_of, piece}
use Rattle.surface.specs.Truncation.{D}
use Rattle.surface.specs.Patch.{patch, evaluated, stop_level}
use Rattle.surface.specs.Table.{levels, start, coefficients}
use Rattle.surface.specs.Slopes.{piece_slope, slope_d, ExactSlopes, table_slopes}
use Rattle.surface.specs.Derivatives.{evaluated_u, evaluated_v}
use Rattle.surface.proofs.Greatest.{stop-level}
use Rattle.surface.proofs.Demands.{any-level}
use Rattle.surface.proofs.Derivatives.{patch-slopes}

-- the tree of one byte, 1 by 1
abbrev flat : List ℕ
flat = 0 ∷ []

-- by the level 0 patch, which computes
by-patch : (cs : List ℤ) (u v : ℕ) (e : ExactSlopes) → u ≤ 128 → v ≤ 128
    → evaluated 1 1 (levels flat) (coefficients 1 1 cs) u v 0 ≡ e.watts
    → evaluated_u 1 1 (levels flat) (coefficients 1 1 cs) u v 0 ≡ e.along_u
    → evaluated_v 1 1 (levels flat) (coefficients 1 1 cs) u v 0 ≡ e.along_v → table_slopes 1 1 flat cs u v ≡ e
unfolding levels level_at parse
by-patch cs u v e hu hv value along_u along_v =
    let stops : min (stop_level 1 1 (levels flat) u v) 3 ≤ 0 =
    rw (stop-level 1 1 (levels flat) u v (lit< tt) (lit< tt)) (lit≤ tt) in
    let read = (any-level 1 1 (levels flat) (coefficients 1 1 cs) u v (lit< tt) (lit< tt) hu hv 0 (lit≤ tt) stops).1 in
    let slopes = patch-slopes 1 1 (levels flat) (coefficients 1 1 cs) u v (lit< tt) (lit< tt) hu hv 0 (lit≤ tt) stops in
    let w = read ∙ value in
    let x = slopes.0 ∙ along_u in
    let y = slopes.1 ∙ along_v in
    λ i. record { watts = w i; along_u = x i; along_v = y i }

-- Columns −1,000, 0, 1,000, 2,000, equal in all rows, rise 1,000 watts for a cell along u: 125 for an eighth, and none
-- along v.
abbrev row : List ℤ
row = neg_ℤ (pos 1000) ∷ pos 0 ∷ pos 1000 ∷ pos 2000 ∷ []

abbrev columns : List ℤ
columns = row ++ (row ++ (row ++ (row ++ replicate 195 (pos 0))))

pub plane : table_slopes 1 1 flat columns 37 90
    ≡ record { watts = pos (37000 * (D / 128)); along_u = pos (125 * slope_d); along_v = pos 0 }
unfolding sum cell_of piece piece_slope eighths patch start coefficients
plane = by-patch columns 37 90 _ (lit≤ tt) (lit≤ tt) refl refl refl

-- Only the last function is 1. At the far corner its splines are 1 over 6, and rise by 3 over 6 for a cell.
abbrev last : List ℤ
last = replicate 15 (pos 0) ++ (pos 1 ∷ replicate 195 (pos 0))

pub far-corner : table_slopes 1 1 flat last 128 128
    ≡ record { watts = pos (128 ^ 6); along_u = pos (3 * 128 ^ 5); along_v = pos (3 * 128 ^ 5) }
unfolding sum cell_of piece piece_slope eighths patch start coefficients
far-corner = by-patch last 128 128 _ (lit≤ tt) (lit≤ tt) refl refl refl
