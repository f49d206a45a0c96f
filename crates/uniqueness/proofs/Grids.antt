-- A table reads as a grid exactly where its carried values of level 3 are the grid's numbers.
use mathlib.Core.Path.{◌≡◌, sym, ap, ap₂, ◌∙◌}
use mathlib.Core.Bool.{true, ◌&&◌}
use mathlib.Core.List.{List}
use Prim.Native.Nat.{ℕ, ◌+◌, ◌-◌, ◌*◌, ◌<◌, min}
use native.Mathlib.Nat.{le_refl}
use native.Mathlib.Omega.{arith}
use lib.IntN.{ℤ, ◌*ℤ◌, *ℤ_comm}
use Rattle.finite.proofs.Sum.{sum2-cong}
use Rattle.surface.specs.Sheet.{functions, on_sheet}
use Rattle.surface.specs.Support.{shares, least_under}
use Rattle.surface.specs.Truncation.{value_at, reading}
use Rattle.surface.specs.Carry.{carried}
use Rattle.surface.specs.Table.{levels, coefficients, Acceptable}
use Rattle.surface.specs.Grid.{grid_number, grid_reading, ReadsAs}
use Rattle.surface.proofs.Least.{le-least_where}
use Rattle.surface.proofs.Carried.{carried-own, carried-reading}
use Rattle.surface.proofs.TableLaws.{sound, sides}
use Rattle.surface.proofs.Around.{sheet-has}
use Rattle.surface.proofs.Demands.{reading-given}
use Rattle.uniqueness.proofs.Points.{decided}
use Rattle.uniqueness.proofs.CellPoints.{cell_point, cell_values, cell-points}
use Rattle.uniqueness.proofs.Inverses.{cell_values_back, values-inverse}

-- equal readings at the points of the sheet have equal carried values of level 3, whatever the regions are
pub same-carried : (W H : ℕ) → 0 < W → 0 < H → (lev lev' : ℕ → ℕ → ℕ) (f g : ℕ → ℕ → ℕ → ℤ)
    → ((u v : ℕ) → on_sheet W H u v ≡ true → reading W H lev f u v ≡ reading W H lev' g u v)
    → (a b : ℕ) → a < functions W 3 → b < functions H 3 → carried W H lev f 3 a b ≡ carried W H lev' g 3 a b
same-carried W H p_w p_h lev lev' f g e a b ha hb =
    -- a cell that holds the function, the last one for those past it
    let x = min a (8 * W - 1) in
    let y = min b (8 * H - 1) in
    let hx : x < 8 * W = omega arith in
    let hy : y < 8 * H = omega arith in
    let ea : x + (a - x) ≡ a = omega arith in
    let eb : y + (b - y) ≡ b = omega arith in
    sym (ap₂ (λ a b. carried W H lev f 3 a b) ea eb)
    ∙ decided W H 4 x y (cell_point x) (cell_point y) cell_values (cell-points W x hx) (cell-points H y hy) 73728
    cell_values_back values-inverse lev lev' f g
    (λ i j hi hj. e (cell_point x i) (cell_point y j)
    (sheet-has W H (cell_point x i) (cell_point y j) (omega arith) (omega arith)))
    (a - x) (b - y) (omega arith) (omega arith)
    ∙ ap₂ (λ a b. carried W H lev' g 3 a b) ea eb

-- what carries a grid's numbers reads as the grid
pub carried-grid : (W H : ℕ) (lev : ℕ → ℕ → ℕ) (coef : ℕ → ℕ → ℕ → ℤ) (grid : List ℤ)
    → ((a b : ℕ) → a < functions W 3 → b < functions H 3 → carried W H lev coef 3 a b ≡ grid_number W grid a b)
    → (u v : ℕ) → reading W H lev coef u v ≡ grid_reading W H grid u v
unfolding grid_reading
carried-grid W H lev coef grid e u v =
    carried-reading W H lev coef (value_at W H u v)
    ∙ sum2-cong (functions W 3) (functions H 3) (λ a b. value_at W H u v 3 a b *ℤ carried W H lev coef 3 a b)
    (λ a b. grid_number W grid a b *ℤ value_at W H u v 3 a b)
    (λ a b ha hb. *ℤ_comm (value_at W H u v 3 a b) (carried W H lev coef 3 a b)
    ∙ ap (λ c. c *ℤ value_at W H u v 3 a b) (e a b ha hb))

-- ---- a grid as coefficients of its own, with every square at level 3

abbrev pub fine : ℕ → ℕ → ℕ
fine q r = 3

abbrev pub grid_coefficients : ℕ → List ℤ → ℕ → ℕ → ℕ → ℤ
grid_coefficients W grid L a b = grid_number W grid a b

pub fine-own : (W H : ℕ) (grid : List ℤ) (a b : ℕ)
    → carried W H fine (grid_coefficients W grid) 3 a b ≡ grid_number W grid a b
unfolding least_under
fine-own W H grid a b =
    carried-own W H fine (grid_coefficients W grid) 2 a b
    (le-least_where W H 3 fine (λ q r. shares W 3 a q && shares H 3 b r) (le_refl 3) (λ q r hq hr _. le_refl 3))

pub fine-reading : (W H : ℕ) (grid : List ℤ) (u v : ℕ)
    → reading W H fine (grid_coefficients W grid) u v ≡ grid_reading W H grid u v
fine-reading W H grid u v =
    carried-grid W H fine (grid_coefficients W grid) grid (λ a b _ _. fine-own W H grid a b) u v

-- ---- tables that read as a grid

-- a table that is read at the near corner is acceptable
pub reads-acceptable : (W H : ℕ) (t : List ℕ) (cs grid : List ℤ) → ReadsAs W H t cs grid → Acceptable W H t cs
reads-acceptable W H t cs grid reads =
    ((reading-given W H t cs 0 0 _).0 (reads 0 0 (sheet-has W H 0 0 (omega arith) (omega arith)))).0

pub carried-of-grid : (W H : ℕ) (t : List ℕ) (cs grid : List ℤ) → ReadsAs W H t cs grid
    → (a b : ℕ) → a < functions W 3 → b < functions H 3
    → carried W H (levels t) (coefficients W H cs) 3 a b ≡ grid_number W grid a b
carried-of-grid W H t cs grid reads a b ha hb =
    let (p_w, _, p_h, _) = sides (sound W H t cs (reads-acceptable W H t cs grid reads)) in
    same-carried W H p_w p_h (levels t) fine (coefficients W H cs) (grid_coefficients W grid)
    (λ u v on. ((reading-given W H t cs u v (grid_reading W H grid u v)).0 (reads u v on)).2
    ∙ sym (fine-reading W H grid u v))
    a b ha hb
    ∙ fine-own W H grid a b

pub grid-of-carried : (W H : ℕ) (t : List ℕ) (cs grid : List ℤ) → Acceptable W H t cs
    → ((a b : ℕ) → a < functions W 3 → b < functions H 3
    → carried W H (levels t) (coefficients W H cs) 3 a b ≡ grid_number W grid a b)
    → ReadsAs W H t cs grid
grid-of-carried W H t cs grid acc e u v on =
    (reading-given W H t cs u v (grid_reading W H grid u v)).1
    (acc, on, carried-grid W H (levels t) (coefficients W H cs) grid e u v)
