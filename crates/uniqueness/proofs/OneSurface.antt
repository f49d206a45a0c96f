-- One surface has one set of coefficients, how few points are enough, and what a grid has of it.
use mathlib.Core.Path.{◌≡◌, sym, ap, ap₂, ◌∙◌}
use mathlib.Core.Bool.{true, ◌&&◌}
use mathlib.Core.List.{List}
use Prim.Native.Nat.{ℕ, ◌+◌, ◌-◌, ◌*◌, ◌/◌, ◌<◌}
use native.Mathlib.Nat.{le_refl}
use native.Mathlib.Omega.{arith}
use lib.Dec.{lit≤}
use lib.IntN.{ℤ, pos, ◌*ℤ◌}
use lib.ListN.{drop}
use lib.Seq.{get_or-drop}
use Rattle.finite.proofs.Sum.{sum2-cong}
use Rattle.finite.proofs.Tests.{pick}
use Rattle.surface.specs.Sheet.{functions, steps}
use Rattle.surface.specs.Spline.{cell_of, piece}
use Rattle.surface.specs.Support.{shares, least_under, active}
use Rattle.surface.specs.Carry.{carried}
use Rattle.surface.specs.Patch.{patch, patch_reading}
use Rattle.surface.specs.Table.{levels, start, coefficients, region_cause, table_cause, Acceptable}
use Rattle.surface.specs.Calls.{exact_outcome}
use Rattle.surface.specs.Grid.{grid_number}
use Rattle.surface.proofs.Causes.{or_else-none}
use Rattle.surface.proofs.Least.{le-least_where}
use Rattle.surface.proofs.SplineCell.{cell-inside}
use Rattle.surface.proofs.Carried.{carried-own}
use Rattle.surface.proofs.PatchReading.{patch-carried, patch-reading}
use Rattle.surface.proofs.TableLaws.{sound, sides}
use Rattle.surface.proofs.Slices.{same_numbers}
use Rattle.surface.proofs.Around.{on-sheet, sheet-has}
use Rattle.surface.proofs.Demands.{same_outcome}
use Rattle.uniqueness.specs.OneSurface.{OneSurface, SixteenthsAgree, Sixteenths, SixteenPoints, SixteenEach}
use Rattle.uniqueness.specs.OneSurface.{TwentyFivePoints, FullGrid, OneTableOfGrid}
use Rattle.uniqueness.proofs.Points.{decided}
use Rattle.uniqueness.proofs.CellPoints.{cell_point, cell_values, cell-points}
use Rattle.uniqueness.proofs.QuarterPoints.{quarter_point, collocation, quarter-points}
use Rattle.uniqueness.proofs.Inverses.{cell_values_back, values-inverse, collocation_back, collocation-inverse}
use Rattle.uniqueness.proofs.Shown.{same-reading, shown-once, each-shown}
use Rattle.uniqueness.proofs.Grids.{reads-acceptable, grid-of-carried}

pub sixteen-points : SixteenPoints
sixteen-points W H t c d acc acc' L a b x y shows agree =
    let hx : x < 8 * W = let h = shows.high_u in omega arith in
    let hy : y < 8 * H = let h = shows.high_v in omega arith in
    shown-once W H t c d acc acc' L a b x y shows
    (decided W H 4 x y (cell_point x) (cell_point y) cell_values (cell-points W x hx) (cell-points H y hy) 73728
    cell_values_back values-inverse (levels t) (levels t) (coefficients W H c) (coefficients W H d)
    (λ i j hi hj. same-reading W H t t c d acc acc' (cell_point x i) (cell_point y j)
    (sheet-has W H (cell_point x i) (cell_point y j) (omega arith) (omega arith))
    (agree i j (omega arith) (omega arith))))

-- readings that agree every 8 steps of a quarter square have equal numbers around each of its cells, whatever the trees
-- are
around-cell : (W H : ℕ) (s t : List ℕ) (c d : List ℤ) → Acceptable W H s c → Acceptable W H t d → (x y : ℕ)
    → x < 8 * W → y < 8 * H
    → ((i j : ℕ) → i < 5 → j < 5
    → exact_outcome W H s c (quarter_point (x / 2) i) (quarter_point (y / 2) j)
    ≡ exact_outcome W H t d (quarter_point (x / 2) i) (quarter_point (y / 2) j))
    → (k l : ℕ) → k < 4 → l < 4
    → carried W H (levels s) (coefficients W H c) 3 (x + k) (y + l)
    ≡ carried W H (levels t) (coefficients W H d) 3 (x + k) (y + l)
around-cell W H s t c d acc acc' x y hx hy agree k l hk hl =
    let q = x / 2 in
    let r = y / 2 in
    let f = coefficients W H c in
    let g = coefficients W H d in
    -- x is one of the two cells of its quarter
    let eu : 2 * q + (x - 2 * q + k) ≡ x + k = omega arith in
    let ev : 2 * r + (y - 2 * r + l) ≡ y + l = omega arith in
    sym (ap₂ (λ a b. carried W H (levels s) f 3 a b) eu ev)
    ∙ decided W H 5 (2 * q) (2 * r) (quarter_point q) (quarter_point r) collocation (quarter-points W q (omega arith))
    (quarter-points H r (omega arith)) 147456 collocation_back collocation-inverse (levels s) (levels t) f g
    (λ i j hi hj. same-reading W H s t c d acc acc' (quarter_point q i) (quarter_point r j)
    (sheet-has W H (quarter_point q i) (quarter_point r j) (omega arith) (omega arith)) (agree i j hi hj))
    (x - 2 * q + k) (y - 2 * r + l) (omega arith) (omega arith)
    ∙ ap₂ (λ a b. carried W H (levels t) g 3 a b) eu ev

pub twenty-five-points : TwentyFivePoints
twenty-five-points W H t c d acc acc' L a b x y shows agree =
    let hx : x < 8 * W = let h = shows.high_u in omega arith in
    let hy : y < 8 * H = let h = shows.high_v in omega arith in
    shown-once W H t c d acc acc' L a b x y shows
    (around-cell W H t t c d acc acc' x y hx hy (λ i j hi hj. agree i j (omega arith) (omega arith)))

-- active functions with equal coefficients are all that there is: the others have 0
same-active : (W H : ℕ) (t : List ℕ) (c d : List ℤ) → Acceptable W H t c → Acceptable W H t d
    → ((L a b : ℕ) → L < 4 → a < functions W L → b < functions H L → active W H (levels t) L a b ≡ true
    → coefficients W H c L a b ≡ coefficients W H d L a b)
    → c ≡ d
same-active W H t c d acc acc' same =
    let s = sound W H t c acc in
    let s' = sound W H t d acc' in
    same_numbers W H c d s.size s'.size
    λ L a b hL ha hb. pick (active W H (levels t) L a b) (λ _. coefficients W H c L a b ≡ coefficients W H d L a b)
    (λ act. same L a b hL ha hb act)
    (λ passive. s.passive L a b hL ha hb passive ∙ sym (s'.passive L a b hL ha hb passive))

pub sixteen-each : SixteenEach
sixteen-each W H t c d acc acc' each =
    same-active W H t c d acc acc'
    λ L a b hL ha hb act.
    let (x, y, shows, agree) = each L a b hL ha hb act in
    sixteen-points W H t c d acc acc' L a b x y shows agree

accepted-regions : (W H : ℕ) (t : List ℕ) (cs : List ℤ) → Acceptable W H t cs → region_cause W H t ≡ 0
unfolding table_cause
accepted-regions W H t cs acc = (or_else-none (region_cause W H t) _ acc).0

-- "two acceptable tables with one sheet and one tree, whose exact readings agree at every point of the 1/128 grid, have
-- the same coefficients throughout"
pub one-surface : OneSurface
one-surface W H t c d acc acc' agree =
    sixteen-each W H t c d acc acc'
    λ L a b hL ha hb act.
    let (x, y, shows) = each-shown W H t (accepted-regions W H t c acc) L a b hL ha hb act in
    let hx : x < 8 * W = let h = shows.high_u in omega arith in
    let hy : y < 8 * H = let h = shows.high_v in omega arith in (
      x,
      y,
      shows,
      λ i j hi hj.
          agree (cell_point x i) (cell_point y j)
          (sheet-has W H (cell_point x i) (cell_point y j) (omega arith) (omega arith)),
    )

-- a reading is made of the numbers of level 3 around its cell
pub sixteenths-agree : SixteenthsAgree
unfolding patch_reading
sixteenths-agree W H s t c d acc acc' agree u v on =
    let (p_w, _, p_h, _) = sides (sound W H s c acc) in
    let (hu, hv) = on-sheet W H u v on in
    let f = coefficients W H c in
    let g = coefficients W H d in
    let x = cell_of W 3 u in
    let y = cell_of H 3 v in
    let iu = cell-inside W 3 u p_w hu (lit≤ tt) in
    let iv = cell-inside H 3 v p_h hv (lit≤ tt) in
    let w : ℕ → ℕ → ℤ = λ k l. pos (piece k (u - x * steps 3) (steps 3) * piece l (v - y * steps 3) (steps 3)) in
    same_outcome W H s t c d acc acc' u v
    (patch-reading W H (levels s) f u v p_w p_h hu hv
    ∙ sum2-cong 4 4 (λ k l. w k l *ℤ patch W H (levels s) f u v 3 k l)
    (λ k l. w k l *ℤ patch W H (levels t) g u v 3 k l)
    (λ k l hk hl. ap (λ z. w k l *ℤ z)
    (patch-carried W H (levels s) f u v p_w p_h hu hv 3 (lit≤ tt) k l hk hl
    ∙ around-cell W H s t c d acc acc' x y (omega arith) (omega arith)
    (λ i j hi hj. agree (quarter_point (x / 2) i) (quarter_point (y / 2) j)
    (sheet-has W H (quarter_point (x / 2) i) (quarter_point (y / 2) j) (omega arith) (omega arith)) (omega arith)
    (omega arith)) k l hk hl
    ∙ sym (patch-carried W H (levels t) g u v p_w p_h hu hv 3 (lit≤ tt) k l hk hl)))
    ∙ sym (patch-reading W H (levels t) g u v p_w p_h hu hv))

pub sixteenths : Sixteenths
sixteenths W H t c d acc acc' agree =
    one-surface W H t c d acc acc' (sixteenths-agree W H t t c d acc acc' agree)

-- ---- a grid

pub full-grid : FullGrid
unfolding coefficients least_under
full-grid W H t cs acc fine = grid-of-carried W H t cs (drop (start W H 3) cs) acc (λ a b _ _. own a b)
  where
    -- no square is coarser, so each function has its own coefficient
    own : (a b : ℕ) → carried W H (levels t) (coefficients W H cs) 3 a b ≡ grid_number W (drop (start W H 3) cs) a b
    own a b =
        carried-own W H (levels t) (coefficients W H cs) 2 a b
        (le-least_where W H 3 (levels t) (λ q r. shares W 3 a q && shares H 3 b r) (le_refl 3)
        (λ q r hq hr _. omega (arith, fine q r hq hr)))
        ∙ sym (get_or-drop (start W H 3) cs (b * functions W 3 + a) (pos 0))

pub one-table-of-grid : OneTableOfGrid
one-table-of-grid W H t grid c d reads reads' =
    one-surface W H t c d (reads-acceptable W H t c grid reads) (reads-acceptable W H t d grid reads')
    (λ u v on. reads u v on ∙ sym (reads' u v on))
