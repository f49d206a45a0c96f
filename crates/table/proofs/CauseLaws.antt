-- The cause at each way out of `region_cause`, `box_cause` and `table_cause`.
use mathlib.Core.Path.{◌≡◌, sym, ap, ◌∙◌}
use mathlib.Core.Bool.{Bool, true, not, not-not, ◌&&◌, and-false}
use mathlib.Core.List.{List}
use Prim.Native.Nat.{ℕ, ◌≤◌, ◌<◌}
use borrow.Author.Tests.{ltb-true, leb-true, lt-ltb, le-ltb, le-leb, lt-leb}
use lib.Dec.{leb, ltb, eqb}
use lib.IntN.{ℤ}
use lib.ListN.{length}
use Rattle.finite.specs.Range.{every}
use Rattle.finite.proofs.Tests.{every-cong, every2-cong, both}
use Rattle.surface.specs.Sheet.{Box, good_side, functions, quarters}
use Rattle.surface.specs.Table.{cause, ◌or_else◌, tree_of, formed, levels, slots, coefficients}
use Rattle.surface.specs.Table.{within_limits, passive_zero, region_cause, table_cause}
use Rattle.surface.specs.Calls.{box_cause}
use Rattle.surface.proofs.TableLaws.{regions-good}
use Rattle.surface.proofs.Causes.{first, cause-none}
use Rattle.boxes.specs.Boxes.{InSheet}
use Rattle.answers.specs.declared.Refusal.{Refusal}
use Rattle.answers.specs.Refusals.{number}
use Rattle.answers.proofs.AnswerLaws.{number-positive}
use Rattle.rows.specs.Rows.{levels_of, level_rows}
use Rattle.rows.proofs.RowLaws.{rows-least}
use Rattle.faults.specs.Faults.{Test, limits, zeros, holds_at, holds_on}

-- ---- causes 1 and 2

-- by the test of the sides and that of the tree
abbrev pub region : Bool → Bool → ℕ
region s f = cause 1 (not s) or_else cause 2 (not f)

pub region-by : (W H : ℕ) (t : List ℕ) (s f : Bool) → s ≡ (good_side W && good_side H) → f ≡ formed W H (tree_of t)
    → region s f ≡ region_cause W H t
unfolding region_cause
region-by W H t s f p q = ap (λ s. region s f) p ∙ ap (region (good_side W && good_side H)) q

-- no cause 1 or 2
pub region-none : (W H : ℕ) (t : List ℕ) → 0 ≡ region_cause W H t
    → (0 < W) × (W ≤ 8) × (H ≤ 8) × (formed W H (tree_of t) ≡ true)
region-none W H t e = let g = regions-good W H t (sym e) in (g.0, g.1, g.3, g.4)

-- ---- causes 3 to 5

-- by the first two causes and the tests of the length, the limits and the passive places
abbrev pub table : ℕ → Bool → Bool → Bool → ℕ
table r n l z = r or_else cause 3 (not n) or_else cause 4 (not l) or_else cause 5 (not z)

module _ (W H : ℕ) (t : List ℕ) (cs : List ℤ) where
  pub table-by : (n l z : Bool) → 0 ≡ region_cause W H t → n ≡ eqb (length cs) (slots W H)
      → l ≡ within_limits W H (levels t) (coefficients W H cs) → z ≡ passive_zero W H (levels t) (coefficients W H cs)
      → table 0 n l z ≡ table_cause W H t cs
  unfolding table_cause
  table-by n l z e p q s =
      ap (λ r. table r n l z) e
      ∙ ap (λ n. table (region_cause W H t) n l z) p
      ∙ ap (λ l. table (region_cause W H t) (eqb (length cs) (slots W H)) l z) q
      ∙ ap
      (table (region_cause W H t) (eqb (length cs) (slots W H)) (within_limits W H (levels t) (coefficients W H cs))) s

  pub table-region : (e : Refusal) → number e ≡ region_cause W H t
      → (number e ≡ table_cause W H t cs) × ¬ (number e ≡ 0)
  unfolding table_cause
  table-region e q = (first q (number-positive e) _, number-positive e)

-- ---- the rows in place of the tree

module _ (W H : ℕ) (t : List ℕ) (cs : List ℤ) (rows : List ℕ) (hW : W ≤ 8) (hH : H ≤ 8) (e : rows ≡ level_rows t) where
  by_rows : (p : Test)
      → every 4 (λ L. holds_on p W H (levels_of rows) cs L) ≡ every 4 (λ L. holds_on p W H (levels t) cs L)
  by_rows p =
      every-cong 4 (λ L. holds_on p W H (levels_of rows) cs L) (λ L. holds_on p W H (levels t) cs L)
      λ L _. every2-cong (functions W L) (functions H L) (λ a b. holds_at p W H (levels_of rows) cs L a b)
      (λ a b. holds_at p W H (levels t) cs L a b)
      λ a b _ _. ap (λ v. p L (eqb v L) (coefficients W H cs L a b)) (rows-least W H t rows L a b hW hH e)

  -- a flag of the faults under the rows, with its value
  flag : (p : Test) {f g : Bool} → f ≡ not (every 4 (λ L. holds_on p W H (levels_of rows) cs L)) → f ≡ not g
      → g ≡ every 4 (λ L. holds_on p W H (levels t) cs L)
  flag p {f} {g} h k =
      sym (not-not g)
      ∙ ap not (sym k ∙ h)
      ∙ not-not (every 4 (λ L. holds_on p W H (levels_of rows) cs L))
      ∙ by_rows p

  pub limits-flag : {f g : Bool} → f ≡ not (every 4 (λ L. holds_on limits W H (levels_of rows) cs L)) → f ≡ not g
      → g ≡ within_limits W H (levels t) (coefficients W H cs)
  unfolding within_limits
  limits-flag h k = flag limits h k

  pub zeros-flag : {f g : Bool} → f ≡ not (every 4 (λ L. holds_on zeros W H (levels_of rows) cs L)) → f ≡ not g
      → g ≡ passive_zero W H (levels t) (coefficients W H cs)
  unfolding passive_zero
  zeros-flag h k = flag zeros h k

-- ---- cause 7

module _ (W H : ℕ) (b : Box) where
  pub no-width : b.u1 ≤ b.u0 → 7 ≡ box_cause W H b
  no-width h = simp (le-ltb b.u0 b.u1 h)

  pub no-height : b.v1 ≤ b.v0 → 7 ≡ box_cause W H b
  no-height h = simp (le-ltb b.v0 b.v1 h, and-false)

  pub past-u : quarters W < b.u1 → 7 ≡ box_cause W H b
  past-u h = simp (lt-leb b.u1 (quarters W) h, and-false)

  pub past-v : quarters H < b.v1 → 7 ≡ box_cause W H b
  past-v h = simp (lt-leb b.v1 (quarters H) h, and-false)

  pub in-sheet : b.u0 < b.u1 → b.v0 < b.v1 → b.u1 ≤ quarters W → b.v1 ≤ quarters H → 0 ≡ box_cause W H b
  in-sheet u v w h =
      simp (
        lt-ltb b.u0 b.u1 u,
        lt-ltb b.v0 b.v1 v,
        le-leb b.u1 (quarters W) w,
        le-leb b.v1 (quarters H) h,
      )

-- a box of no cause 7 has area and lies in the sheet
pub box-none : (W H : ℕ) (b : Box) → 0 ≡ box_cause W H b → InSheet W H b
box-none W H b e =
    let wide = ltb b.u0 b.u1 in
    let high = ltb b.v0 b.v1 in
    let right = leb b.u1 (quarters W) in
    let top = leb b.v1 (quarters H) in
    let all = both (wide && high) (right && top) (cause-none 6 (wide && high && (right && top)) (sym e)) in
    let area = both wide high all.0 in
    let ends = both right top all.1 in (
      ltb-true b.u0 b.u1 area.0,
      ltb-true b.v0 b.v1 area.1,
      leb-true b.u1 (quarters W) ends.0,
      leb-true b.v1 (quarters H) ends.1,
    )
