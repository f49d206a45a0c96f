-- The bench sheet's starred cases: by computation and, where a case speaks of a reading, of every point or of
-- thousands of functions, by the laws first.
use mathlib.Core.Path.{◌≡◌, refl, ap, ◌∙◌, subst}
use mathlib.Core.Bool.{true, ◌&&◌, cond}
use mathlib.Core.List.{List, [], ◌∷◌}
use Prim.Native.Nat.{ℕ, ◌*◌, ◌^◌, ◌≤◌, ◌<◌}
use native.Mathlib.Nat.{le_refl, le_antisymm, one-le-pow, mul_comm, mul_left_comm}
use native.Mathlib.Omega.{arith}
use lib.IntN.{pos, ◌*ℤ◌}
use lib.ListN.{length, replicate, length-replicate}
use lib.Dec.{eqb, lit<, lit≤}
use lib.Signed.{◌≤ℤ◌}
use borrow.Author.Tests.{le-ltb, eq-eqb}
use Rattle.finite.specs.Range.{sum, every, least, greatest, table_from, rows_from, total, count}
use Rattle.finite.proofs.Order.{scale-reflects, ≤ℤ-antisym}
use Rattle.finite.proofs.Table.{grid-cong, grid-const}
use Rattle.finite.proofs.Tests.{total-cong, count-cong}
use Rattle.surface.specs.Sheet.{good_side, functions, eighths, on_sheet}
use Rattle.surface.specs.Quadtree.{parse, well_formed, level_at, visits}
use Rattle.surface.specs.Support.{shares, least_under, active, active_in_row, active_count}
use Rattle.surface.specs.Spline.{cell_of, piece}
use Rattle.surface.specs.Truncation.{D}
use Rattle.surface.specs.Patch.{patch}
use Rattle.surface.specs.Table.{levels, places, start, coefficients, within_limits, passive_zero}
use Rattle.surface.specs.Table.{region_cause, table_cause, Acceptable, table_reading}
use Rattle.surface.specs.Calls.{activity_bytes, activity_cause, activity_outcome, least_outcome}
use Rattle.surface.specs.Calls.{reading_cause, exact_outcome}
use Rattle.surface.specs.Demands.{Around}
use Rattle.bench.specs.Bench.{rows, zeros, refined, columns_s, S, flat, first, second, columns_carried}
use Rattle.bench.specs.Bench.{carried_s, level700, ActivityIs, Equal, Finest, OneOnEight, BenchSheet}
use Rattle.bench.proofs.Computed.{inserted, visited, two-by-one}
use Rattle.surface.proofs.Least.{least_under-le-3, le-least_where}
use Rattle.surface.proofs.TableLaws.{formed-tree, place-in-slice, acceptable}
use Rattle.surface.proofs.Around.{bracketed}
use Rattle.bench.proofs.BenchLaws.{eq_z, columns-by, everywhere-by, zero-coefficient, activity-is, tree-gives}
use Rattle.bench.proofs.BenchLaws.{read, last-point, wide-least, wide-enquiry, wide-commit}

-- ---- every active coefficient 700 watts

level700-acceptable : Acceptable 2 1 refined level700
unfolding table_cause region_cause within_limits passive_zero every least_under least eighths levels level_at parse
    well_formed
    start coefficients
level700-acceptable = refl

-- each active coefficient of level L is 64^L×700, each other 0
level700-every : (L a b : ℕ) → L < 4 → a < functions 2 L → b < functions 1 L
    → coefficients 2 1 level700 L a b ≡ cond (active 2 1 (levels refined) L a b) (pos (64 ^ L * 700)) (pos 0)
unfolding every least_under least eighths levels level_at parse start coefficients eq_z
level700-every =
    everywhere-by 2 1 (coefficients 2 1 level700)
    (λ L a b. cond (active 2 1 (levels refined) L a b) (pos (64 ^ L * 700)) (pos 0)) refl

level700-at : (u v : ℕ) (f : Around 2 1 refined u v)
    → coefficients 2 1 level700 f.L f.a f.b ≡ pos (64 ^ f.L * 700)
level700-at u v f = level700-every f.L f.a f.b f.level f.along_u f.along_v ∙ rw f.is_active

-- 64^L×700 over 64^L is 700
level700-reading : (u v : ℕ) → on_sheet 2 1 u v ≡ true → table_reading 2 1 refined level700 u v ≡ pos (700 * D)
level700-reading u v on =
    let b = bracketed 2 1 refined level700 level700-acceptable u v on in
    ≤ℤ-antisym
    (scale-reflects (64 ^ b.high.L) (one-le-pow b.high.L 64 (lit< tt))
    (subst (λ x. (pos (64 ^ b.high.L) *ℤ table_reading 2 1 refined level700 u v) ≤ℤ x) (value b.high)
    b.at_most))
    (scale-reflects (64 ^ b.low.L) (one-le-pow b.low.L 64 (lit< tt))
    (subst (λ x. x ≤ℤ (pos (64 ^ b.low.L) *ℤ table_reading 2 1 refined level700 u v)) (value b.low)
    b.at_least))
  where
    value : (f : Around 2 1 refined u v)
        → pos D *ℤ coefficients 2 1 level700 f.L f.a f.b ≡ pos (64 ^ f.L) *ℤ pos (700 * D)
    value f =
        ap (λ x. pos D *ℤ x) (level700-at u v f)
        ∙ ap pos (mul_left_comm D (64 ^ f.L) 700 ∙ ap (λ x. 64 ^ f.L * x) (mul_comm D 700))

level700-outcome : Equal
unfolding exact_outcome reading_cause
level700-outcome u v on = rw (level700-acceptable, on, level700-reading u v on)

-- ---- a whole sheet of level 3

abbrev finest : List ℕ
finest = 3 ∷ []

least3 : (L a b : ℕ) → least_under 8 8 (levels finest) L a b ≡ 3
unfolding least_under levels level_at parse
least3 L a b =
    le_antisymm (least_under-le-3 8 8 (levels finest) L a b)
    (le-least_where 8 8 3 (levels finest) (λ q r. shares 8 L a q && shares 8 L b r) (le_refl 3)
    (λ q r hq hr e. le_refl 3))

-- of a level all functions are active, or none
activity3 : (L : ℕ) → L ≤ 3 → ActivityIs 8 8 finest L (replicate (places 8 8 L) (cond (eqb 3 L) 1 0))
unfolding activity_bytes region_cause parse well_formed
activity3 L h =
    activity-is 8 8 finest L (replicate (places 8 8 L) (cond (eqb 3 L) 1 0)) refl h
    (length-replicate (places 8 8 L) (cond (eqb 3 L) 1 0))
    (grid-cong {A = ℕ} (functions 8 L) (functions 8 L) (λ a b. cond (active 8 8 (levels finest) L a b) 1 0)
    (λ a b. cond (eqb 3 L) 1 0) (λ a b ha hb. rw (least3 L a b))
    ∙ grid-const (functions 8 L) (functions 8 L) (cond (eqb 3 L) 1 0))

counts3 : (L : ℕ) → active_count 8 8 (levels finest) L
    ≡ total (functions 8 L) (λ b. count (functions 8 L) (λ a. eqb 3 L))
unfolding active_count active_in_row
counts3 L =
    total-cong (functions 8 L) _ (λ b. count (functions 8 L) (λ a. eqb 3 L))
    (λ b _. count-cong (functions 8 L) _ (λ a. eqb 3 L) (λ a _. rw (least3 L a b)))

level3-activity : Finest
unfolding table_from total count
level3-activity = (
  rw (counts3 0, counts3 1, counts3 2, counts3 3),
  activity3 0 (lit≤ tt),
  activity3 1 (lit≤ tt),
  activity3 2 (lit≤ tt),
  activity3 3 (lit≤ tt),
)

-- ---- trees

bad-tree : (W H : ℕ) → good_side W ≡ true → good_side H ≡ true → region_cause W H (4 ∷ 0 ∷ 0 ∷ 0 ∷ 0 ∷ []) ≡ 2
unfolding region_cause parse well_formed
bad-tree W H w h = rw (w, h)

one-on-eight : OneOnEight
unfolding least_outcome activity_outcome activity_cause region_cause parse well_formed levels level_at least greatest visits
    start
one-on-eight = (
  refl,
  λ L out h e. rw (le-ltb 3 L h, eq-eqb (length out) (places 8 8 L) e),
  acceptable 8 8 (1 ∷ []) (zeros 6196) (record {
    side-W = refl;
    side-H = refl;
    tree = formed-tree 8 8 (1 ∷ []) refl;
    size = length-replicate 6196 (pos 0);
    limits = λ L a b hL ha hb _.
        rw (zero-coefficient 8 8 6196 L a b (place-in-slice 8 8 L a b hL ha hb)) (omega arith);
    passive = λ L a b hL ha hb _. zero-coefficient 8 8 6196 L a b (place-in-slice 8 8 L a b hL ha hb);
  }),
)

-- ---- the table

pub bench-sheet : BenchSheet
unfolding reading_cause table_cause region_cause within_limits passive_zero every least_under least greatest eighths levels
    level_at parse well_formed start coefficients patch sum cell_of piece eq_z activity_bytes table_from rows_from active_count
    active_in_row total count
bench-sheet =
    record {
      columns_of_s = columns-by 1 1 S 0 columns_s refl;
      slope = (read flat S 64 5 0 (pos 79164837199872000) refl (lit≤ tt) (lit≤ tt) (lit≤ tt) (lit≤ tt) refl, refl);
      corners = (
        everywhere-by 1 1 (coefficients 1 1 first) _ refl,
        read flat first 0 0 0 (pos (2 ^ 42)) refl (lit≤ tt) (lit≤ tt) (lit≤ tt) (lit≤ tt) refl,
        read flat first 128 128 0 (pos 0) refl (lit≤ tt) (lit≤ tt) (lit≤ tt) (lit≤ tt) refl,
      );
      next_corner = (
        everywhere-by 1 1 (coefficients 1 1 second) _ refl,
        read flat second 0 0 0 (pos (2 ^ 46)) refl (lit≤ tt) (lit≤ tt) (lit≤ tt) (lit≤ tt) refl,
      );
      inserted = inserted;
      columns_inserted = columns-by 1 1 carried_s 1 columns_carried refl;
      all_of_level_one = (
        refl,
        activity-is 1 1 refined 0 (replicate 16 0) refl (lit≤ tt) refl refl,
        activity-is 1 1 refined 1 (replicate 25 1) refl (lit≤ tt) refl refl,
        activity-is 1 1 refined 2 (replicate 49 0) refl (lit≤ tt) refl refl,
        activity-is 1 1 refined 3 (replicate 121 0) refl (lit≤ tt) refl refl,
      );
      visited = visited;
      two_by_one = two-by-one;
      sixteen_and_ten = (
        refl,
        activity-is 2 1 refined 0 (rows 4 (0 ∷ replicate 4 1)) refl (lit≤ tt) refl refl,
        activity-is 2 1 refined 1 (rows 5 (1 ∷ 1 ∷ replicate 5 0)) refl (lit≤ tt) refl refl,
        activity-is 2 1 refined 2 (replicate 77 0) refl (lit≤ tt) refl refl,
        activity-is 2 1 refined 3 (replicate 209 0) refl (lit≤ tt) refl refl,
      );
      every700 = (refl, level700-every);
      equal = level700-outcome;
      finest = level3-activity;
      trees = (
        λ W H w h. tree-gives W H (4 ∷ 0 ∷ 0 ∷ 0 ∷ 0 ∷ []) 1 (bad-tree W H w h),
        tree-gives 1 1 (1 ∷ []) 1 refl,
      );
      one_on_eight = one-on-eight;
      last_points = (
        last-point,
        read flat S 128 5 0 (pos (1000 * D)) refl (lit≤ tt) (lit≤ tt) (lit≤ tt) (lit≤ tt) refl,
        (last-point flat S refl).exact_past 5,
      );
      wide_box = (
        wide-least,
        wide-enquiry,
        wide-commit,
        wide-least flat refl,
        wide-enquiry flat S 1 refl,
      );
    }
