-- Each way out of `activity_of` gives the outcome of document 01.
use Rattle.std.proofs.lemmas.Result.{err_from_is_err_and}
use mathlib.Core.Path.{◌≡◌, refl, sym, ap, ap₂, ◌∙◌}
use mathlib.Core.Bool.{cond}
use mathlib.Core.List.{List}
use Prim.Native.Nat.{ℕ, ◌*◌, ◌≤◌}
use borrow.Author.Tests.{lt-ltb, le-ltb, eq-eqb, ne_eqb}
use lib.Dec.{eqb}
use lib.ListN.{length}
use Rattle.finite.proofs.Table.{grid-cong}
use Rattle.surface.specs.Sheet.{functions}
use Rattle.surface.specs.Support.{active}
use Rattle.surface.specs.Table.{levels, places, region_cause}
use Rattle.surface.specs.Calls.{activity_bytes, activity_cause, activity_outcome}
use Rattle.surface.proofs.Causes.{first, past}
use Rattle.rows.specs.Rows.{level_rows}
use Rattle.rows.proofs.RowLaws.{rows-nested, rows-least}
use Rattle.activity.specs.Mark.{level_marks, active_mark}
use Rattle.answers.specs.declared.Refusal as Causes
use Rattle.answers.proofs.AnswerLaws.{number-positive, slice-refused, slice-done}
use Rattle.table.proofs.CauseLaws.{region-none}
use Rattle.query.proofs.activity_of.Goals.{Else-out-places, In_ok-region_cause}
use Rattle.query.proofs.activity_of.Goals as goal

-- the marks under the rows are the bytes under the tree
marks : (W H : ℕ) (t : List ℕ) (L : ℕ) (rows new : List ℕ) → W ≤ 8 → H ≤ 8 → rows ≡ level_rows t
    → new ≡ level_marks W H L rows → new ≡ activity_bytes W H t L
unfolding activity_bytes
marks W H t L rows new hW hH e m =
    m
    ∙ grid-cong (functions W L) (functions H L) (active_mark W H L rows) (λ a b. cond (active W H (levels t) L a b) 1 0)
    λ a b _ _. ap (λ l. cond (eqb l L) 1 0)
    (rows-least W H t rows L a b hW hH e)

pub returns-in_err-region_cause : goal.returns-in_err-region_cause
unfolding activity_outcome activity_cause
returns-in_err-region_cause c =
    let p = err_from_is_err_and c.from_residual.result c.from_residual.ensures.1 in
    let e = c.in_err-region_cause.field-0.0 in
    rw (p.1, p.2) (slice-refused e (first c.in_err-region_cause.ensures.0 (number-positive e) _) tt _ _)

-- past causes 1 and 2
none : (c : In_ok-region_cause)
    → let a = c.args in 0 ≡ region_cause a.w a.h a.tree.now
none c = c.in_ok-region_cause.ensures.0

-- the rows are those of the tree's levels
painted : (c : In_ok-region_cause)
    → let a = c.args in
    c.region_cause.new.rows ≡ level_rows a.tree.now
painted c = c.in_ok-region_cause.ensures.1 refl

pub returns-then-level-gt3 : goal.returns-then-level-gt3
unfolding activity_outcome activity_cause
returns-then-level-gt3 c = slice-refused Causes.TheVariants.Level
    (past (none (goal.at.returns-then-level-gt3 c).In_ok-region_cause) (rw (lt-ltb 3 _ c.if-level-gt3.true))) tt _ _

pub places-requires : goal.places-requires
places-requires c = let a = c.args in
    let sides = region-none a.w a.h a.tree.now (none (goal.at.places-requires c).In_ok-region_cause) in
    (sides.1, sides.2, c.if-level-gt3.false)

pub returns-then-out-places : goal.returns-then-out-places
unfolding activity_outcome activity_cause
returns-then-out-places c = slice-refused Causes.TheVariants.OutputLength
    (past (none (goal.at.returns-then-out-places c).In_ok-region_cause)
    (rw (le-ltb 3 _ c.if-level-gt3.false, ne_eqb _ _ (λ p. c.if-out-places.true (p ∙ sym c.places.ensures.0)))))
    tt _ _

-- past cause 16
size : (c : Else-out-places)
    → let a = c.args in
    length a.out.now ≡ places a.w a.h a.level
size c = c.if-out-places.false ∙ c.places.ensures.0

pub functions-n-requires : goal.functions-n-requires
functions-n-requires c = let a = c.args in
    ((region-none a.w a.h a.tree.now (none (goal.at.functions-n-requires c).In_ok-region_cause)).1, c.if-level-gt3.false)

pub functions-m-requires : goal.functions-m-requires
functions-m-requires c = let a = c.args in
    ((region-none a.w a.h a.tree.now (none (goal.at.functions-m-requires c).In_ok-region_cause)).2, c.if-level-gt3.false)

pub mark_level-requires : goal.mark_level-requires
mark_level-requires c = let a = c.args in
    let t = a.tree.now in
    let sides = region-none a.w a.h t (none (goal.at.mark_level-requires c).In_ok-region_cause) in
    let n = c.functions-n.ensures.0 in
    let m = c.functions-m.ensures.0 in
    (sides.1, sides.2, c.if-level-gt3.false, n, m, size (goal.at.mark_level-requires c).Else-out-places ∙ sym (ap₂ ◌*◌ n m), rw (painted (goal.at.mark_level-requires c).In_ok-region_cause) (rows-nested (levels t)))

pub returns : goal.returns
unfolding activity_outcome activity_cause
returns c = let a = c.args in
    let t = a.tree.now in
    let sides = region-none a.w a.h t (none (goal.at.returns c).In_ok-region_cause) in
    slice-done (past (none (goal.at.returns c).In_ok-region_cause) (rw (le-ltb 3 _ c.if-level-gt3.false, eq-eqb _ _ (size (goal.at.returns c).Else-out-places)))) refl
    (marks a.w a.h t a.level _ _ sides.1 sides.2 (painted (goal.at.returns c).In_ok-region_cause) c.mark_level.ensures)
    a.out.now
