-- The pairs of tables that agree and have other coefficients: acceptable and carried by computing, their readings by
-- the theorems.
use mathlib.Core.Path.{◌≡◌, refl, sym, ap, ap₂, ◌∙◌}
use mathlib.Core.Bool.{true}
use mathlib.Core.List.{List, [], ◌∷◌}
use Prim.Native.Nat.{ℕ, ◌*◌, ◌/◌, ◌%◌, ◌^◌, ◌≤◌, ◌<◌}
use native.Mathlib.Nat.{zero-add}
use native.Mathlib.Omega.{arith}
use lib.Dec.{lit<, lit≤}
use lib.IntN.{ℤ, pos, nat_abs, ◌*ℤ◌, *ℤ_comm}
use lib.ListN.{get_or, replicate, drop, get_or-replicate}
use Rattle.finite.specs.Range.{sum, every, least, joined, table_from, rows_from, grid}
use Rattle.finite.proofs.Int.{ring}
use Rattle.finite.proofs.Sum.{sum-cong, sum-scale, sum2-cong, sum2-product}
use Rattle.finite.proofs.Table.{get_d-table, grid-same}
use Rattle.surface.specs.Sheet.{Box, eighths, on_sheet}
use Rattle.surface.specs.Quadtree.{bytes, parse, well_formed, level_at, region_tree}
use Rattle.surface.specs.Support.{least_under}
use Rattle.surface.specs.Spline.{cell_of, piece, spline_at}
use Rattle.surface.specs.Truncation.{weight, value_at}
use Rattle.surface.specs.Carry.{carried}
use Rattle.surface.specs.Table.{levels, start, coefficients, slice_from, within_limits, passive_zero, region_cause}
use Rattle.surface.specs.Table.{table_cause, Acceptable, table_reading}
use Rattle.surface.specs.Calls.{new_tree, new_coefficients, reading_cause, whole_watts, display_outcome}
use Rattle.surface.specs.Grid.{grid_number, grid_reading}
use Rattle.surface.proofs.TableLaws.{sound}
use Rattle.surface.proofs.Bounds.{spline-total}
use Rattle.surface.proofs.Insertion.{insertion-reading}
use Rattle.surface.proofs.Around.{on-sheet}
use Rattle.surface.proofs.Demands.{reading-given, same_outcome}
use Rattle.uniqueness.specs.Pairs.{whole_at, sevens, sevens_finer, OtherTree, rows_of, zeros, vanishing, OtherPoints}
use Rattle.uniqueness.specs.Pairs.{standby_number, standby, OtherWatts}
use Rattle.uniqueness.proofs.Shown.{same-reading}
use Rattle.uniqueness.proofs.OneSurface.{full-grid}

-- ---- over two trees

sevens-acceptable : Acceptable 1 1 (0 ∷ []) sevens
unfolding table_cause region_cause within_limits passive_zero every least_under least eighths levels level_at parse well_formed
    start coefficients
sevens-acceptable = refl

finer-acceptable : Acceptable 1 1 (whole_at 1) sevens_finer
unfolding table_cause region_cause within_limits passive_zero every least_under least eighths levels level_at parse well_formed
    start coefficients
finer-acceptable = refl

-- the second is the first with its whole sheet inserted at level 1
abbrev sheet : Box
sheet = record { u0 = 0; v0 = 0; u1 = 4; v1 = 4 }

finer-tree : new_tree (0 ∷ []) sheet 1 ≡ whole_at 1
unfolding new_tree bytes region_tree levels level_at parse
finer-tree = refl

finer-numbers : new_coefficients 1 1 (0 ∷ []) sevens sheet 1 ≡ sevens_finer
unfolding new_coefficients slice_from table_from rows_from carried weight sum least_under least eighths levels level_at parse
    start coefficients
finer-numbers = refl

-- two slices with other numbers at a place differ
differ-at : (p : ℕ) (c d : List ℤ) → get_or c p (pos 0) ≡ pos 0 → (nat_abs (get_or d p (pos 0)) ≡ 0 → ⊥) → c ≡ d → ⊥
differ-at p c d z n e = n (ap (λ l. nat_abs (get_or l p (pos 0))) (sym e) ∙ ap nat_abs z)

pub other-tree : OtherTree
other-tree =
    record {
      first = sevens-acceptable;
      second = finer-acceptable;
      agree = λ u v _.
          same_outcome 1 1 (0 ∷ []) (whole_at 1) sevens sevens_finer sevens-acceptable finer-acceptable u v
          (sym (insertion-reading 1 1 (0 ∷ []) sevens (sound 1 1 (0 ∷ []) sevens sevens-acceptable) sheet 1 (lit≤ tt)
          (lit≤ tt) (lit≤ tt) (value_at 1 1 u v))
          ∙ ap₂ (λ t cs. table_reading 1 1 t cs u v) finer-tree finer-numbers);
      differ = λ e. differ-at 0 sevens_finer sevens refl (λ z. omega arith) (sym e);
    }

-- ---- the same row in each row of level 3

vanishing-acceptable : Acceptable 1 1 (whole_at 3) (rows_of vanishing)
unfolding table_cause region_cause within_limits passive_zero every least_under least eighths levels level_at parse well_formed
    start coefficients joined
vanishing-acceptable = refl

zeros-acceptable : Acceptable 1 1 (whole_at 3) zeros
unfolding table_cause region_cause within_limits passive_zero every least_under least eighths levels level_at parse well_formed
    start coefficients joined
zeros-acceptable = refl

standby-acceptable : Acceptable 1 1 (whole_at 3) standby
unfolding table_cause region_cause within_limits passive_zero every least_under least eighths levels level_at parse well_formed
    start coefficients joined
standby-acceptable = refl

all-fine : grid 4 4 (levels (whole_at 3)) ≡ grid 4 4 (λ q r. 3)
unfolding table_from rows_from levels level_at parse
all-fine = refl

-- each number of the grid is that of its column
abbrev Columns : List ℤ → Type 0
Columns row = grid 11 11 (grid_number 1 (drop (start 1 1 3) (rows_of row))) ≡ grid 11 11 (λ a b. get_or row a (pos 0))

vanishing-columns : Columns vanishing
unfolding table_from rows_from start joined
vanishing-columns = refl

zeros-columns : Columns (replicate 11 (pos 0))
unfolding table_from rows_from start joined
zeros-columns = refl

standby-columns : Columns (replicate 11 (pos standby_number))
unfolding table_from rows_from start joined
standby-columns = refl

-- the row times the splines of level 3 at u
abbrev along : List ℤ → ℕ → ℤ
along row u = sum 11 (λ a. pos (spline_at 1 3 a u) *ℤ get_or row a (pos 0))

-- so the reading is that of the row along u, times the splines along v, which add up to 6×16³
rows-read : (row : List ℤ) → Acceptable 1 1 (whole_at 3) (rows_of row) → Columns row → (u v : ℕ) → on_sheet 1 1 u v ≡ true
    → table_reading 1 1 (whole_at 3) (rows_of row) u v ≡ along row u *ℤ pos 24576
unfolding grid_reading
rows-read row acc columns u v on =
    let (hu, hv) = on-sheet 1 1 u v on in
    let g = grid_number 1 (drop (start 1 1 3) (rows_of row)) in
    let x : ℕ → ℤ = λ a. pos (spline_at 1 3 a u) in
    let y : ℕ → ℤ = λ b. pos (spline_at 1 3 b v) in
    ((reading-given 1 1 (whole_at 3) (rows_of row) u v _).0
    (full-grid 1 1 (whole_at 3) (rows_of row) acc
    (λ q r hq hr. grid-same 4 4 (levels (whole_at 3)) (λ q r. 3) all-fine q r hq hr) u v on)).2
    ∙ sum2-cong 11 11 (λ a b. g a b *ℤ (x a *ℤ y b)) (λ a b. x a *ℤ get_or row a (pos 0) *ℤ y b)
    (λ a b ha hb. ap (λ t. t *ℤ (x a *ℤ y b)) (grid-same 11 11 g (λ a b. get_or row a (pos 0)) columns a b ha hb)
    ∙ sorted (x a) (y b) (get_or row a (pos 0)))
    ∙ sum2-product 11 11 (λ a. x a *ℤ get_or row a (pos 0)) y
    ∙ ap (λ t. along row u *ℤ t) (spline-total 1 v (lit< tt) hv)
  where
    sorted : (x y w : ℤ) → w *ℤ (x *ℤ y) ≡ x *ℤ w *ℤ y
    sorted x y w = simp ring

-- a row of one number
constant-along : (n u : ℕ) → u ≤ 128 → along (replicate 11 (pos n)) u ≡ pos n *ℤ pos 24576
constant-along n u hu =
    sum-cong 11 (λ a. pos (spline_at 1 3 a u) *ℤ get_or (replicate 11 (pos n)) a (pos 0))
    (λ a. pos n *ℤ pos (spline_at 1 3 a u))
    (λ a h. ap (λ t. pos (spline_at 1 3 a u) *ℤ t) (get_or-replicate 11 a (pos n) (pos 0) h)
    ∙ *ℤ_comm (pos (spline_at 1 3 a u)) (pos n))
    ∙ sum-scale 11 (pos n) (λ a. pos (spline_at 1 3 a u))
    ∙ ap (λ t. pos n *ℤ t) (spline-total 1 u (lit< tt) hu)

zeros-read : (u v : ℕ) → on_sheet 1 1 u v ≡ true → table_reading 1 1 (whole_at 3) zeros u v ≡ pos 0
zeros-read u v on =
    rows-read (replicate 11 (pos 0)) zeros-acceptable zeros-columns u v on
    ∙ ap (λ t. t *ℤ pos 24576) (constant-along 0 u (on-sheet 1 1 u v on).0)

-- ---- at every knot

vanishing-knots : table_from 0 9 (λ i. along vanishing (16 * i)) ≡ replicate 9 (pos 0)
unfolding table_from sum spline_at cell_of piece eighths
vanishing-knots = refl

vanishing-along : (u : ℕ) → u ≤ 128 → u % 16 ≡ 0 → along vanishing u ≡ pos 0
vanishing-along u h z =
    let i = u / 16 in
    let e : u ≡ 16 * i = omega arith in
    let l : i < 9 = omega arith in
    let at : ℕ → ℤ = λ i. along vanishing (16 * i) in
    ap (along vanishing) e
    ∙ sym (get_d-table 0 9 at i (pos 0) l ∙ ap at (zero-add i))
    ∙ ap (λ l. get_or l i (pos 0)) vanishing-knots
    ∙ get_or-replicate 9 i (pos 0) (pos 0) l

-- half way into the first cell the splines are 1, 23, 23 and 1 over 48
vanishing-half : nat_abs (along vanishing 8 *ℤ pos 24576) ≡ 18 * 8 ^ 3 * 24576
unfolding sum spline_at cell_of piece eighths
vanishing-half = refl

no_zero : along vanishing 8 *ℤ pos 24576 ≡ pos 0 → ⊥
no_zero e = let z : 18 * 8 ^ 3 * 24576 ≡ 0 = sym vanishing-half ∙ ap nat_abs e in omega arith

pub other-points : OtherPoints
unfolding joined
other-points =
    record {
      first = vanishing-acceptable;
      second = zeros-acceptable;
      agree = λ u v on z.
          same_outcome 1 1 (whole_at 3) (whole_at 3) (rows_of vanishing) zeros vanishing-acceptable zeros-acceptable u v
          (rows-read vanishing vanishing-acceptable vanishing-columns u v on
          ∙ ap (λ t. t *ℤ pos 24576) (vanishing-along u (on-sheet 1 1 u v on).0 z)
          ∙ sym (zeros-read u v on));
      between = λ e.
          no_zero
          (sym (rows-read vanishing vanishing-acceptable vanishing-columns 8 0 refl)
          ∙ same-reading 1 1 (whole_at 3) (whole_at 3) (rows_of vanishing) zeros vanishing-acceptable zeros-acceptable 8 0
          refl e
          ∙ zeros-read 8 0 refl);
      differ = λ e. differ-at 90 zeros (rows_of vanishing) refl (λ z. omega arith) (sym e);
    }

-- ---- whole watts

standby-read : (u v : ℕ) → on_sheet 1 1 u v ≡ true
    → table_reading 1 1 (whole_at 3) standby u v ≡ pos standby_number *ℤ pos 24576 *ℤ pos 24576
standby-read u v on =
    rows-read (replicate 11 (pos standby_number)) standby-acceptable standby-columns u v on
    ∙ ap (λ t. t *ℤ pos 24576) (constant-along standby_number u (on-sheet 1 1 u v on).0)

-- 31/64 watt is shown as 0
standby-watts : whole_watts (pos standby_number *ℤ pos 24576 *ℤ pos 24576) ≡ pos 0
unfolding whole_watts
standby-watts = refl

zero-watts : whole_watts (pos 0) ≡ pos 0
unfolding whole_watts
zero-watts = refl

pub other-watts : OtherWatts
unfolding joined display_outcome reading_cause
other-watts =
    record {
      first = standby-acceptable;
      second = zeros-acceptable;
      shown = λ u v on. (
        rw (standby-acceptable, on, standby-read u v on, standby-watts),
        rw (zeros-acceptable, on, zeros-read u v on, zero-watts),
      );
      differ = λ e. differ-at 90 zeros standby refl (λ z. omega arith) (sym e);
    }
