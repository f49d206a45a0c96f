-- Each way out of `check` gives the cause of document 01.
use Rattle.std.proofs.lemmas.Result.{err_from_is_err_and}
use mathlib.Core.Path.{◌≡◌, refl, sym, ◌∙◌}
use mathlib.Core.Bool.{Bool, true, false, not, not-not}
use native.Mathlib.Omega.{arith}
use borrow.Author.Tests.{eq-eqb, ne_eqb}
use lib.ListN.{length}
use Rattle.surface.specs.Table.{levels, slots, region_cause, table_cause}
use Rattle.rows.specs.Rows.{level_rows}
use Rattle.rows.proofs.RowLaws.{rows-nested}
use Rattle.table.proofs.CauseLaws.{region-none, table, table-by, table-region, limits-flag, zeros-flag}
use Rattle.table.proofs.cause.check.Goals.{After-of_table-f, Else-numbers-slots, In_ok-region_cause}
use Rattle.table.proofs.cause.check.Goals as goal

pub returns-in_err-region_cause : goal.returns-in_err-region_cause
returns-in_err-region_cause c = let a = c.args in
    let p = err_from_is_err_and c.from_residual.result c.from_residual.ensures.1 in
    let t = table-region a.w a.h a.t.now a.numbers.now _ c.in_err-region_cause.ensures.0 in
    rw (p.1, p.2) (t.0, λ e. absurd (t.1 e))

-- past the first two causes
none : (c : In_ok-region_cause)
    → let a = c.args in 0 ≡ region_cause a.w a.h a.t.now
none c = c.in_ok-region_cause.ensures.0

pub start-slots-requires : goal.start-slots-requires
start-slots-requires c = let a = c.args in
    let sides = region-none a.w a.h a.t.now (none c) in
    (sides.1, sides.2, omega arith)

pub returns-then-numbers-slots : goal.returns-then-numbers-slots
returns-then-numbers-slots c = let a = c.args in
    let cs = a.numbers.now in
    let other : length cs ≡ slots a.w a.h → ⊥ = λ e. c.if-numbers-slots.true (e ∙ sym c.start-slots.ensures.0) in (
      table-by a.w a.h a.t.now cs false _ _ (none (goal.at.returns-then-numbers-slots c).In_ok-region_cause) (sym (ne_eqb (length cs) (slots a.w a.h) other))
          refl refl,
      λ e. absurd (omega arith),
    )

-- past the third
size : (c : Else-numbers-slots)
    → let a = c.args in length a.numbers.now ≡ slots a.w a.h
size c = c.if-numbers-slots.false ∙ c.start-slots.ensures.0

-- the rows are those of the tree's levels
painted : (c : In_ok-region_cause)
    → c.region_cause.new.rows ≡ level_rows c.args.t.now
painted c = c.in_ok-region_cause.ensures.1 refl

pub of_table-f-requires : goal.of_table-f-requires
of_table-f-requires c = let a = c.args in
    let sides = region-none a.w a.h a.t.now (none (goal.at.of_table-f-requires c).In_ok-region_cause) in
    (sides.1, sides.2, size c, rw (painted (goal.at.of_table-f-requires c).In_ok-region_cause) (rows-nested (levels a.t.now)))

-- by the flags of the faults
flagged : (c : After-of_table-f) (l z : Bool) → c.of_table-f.result.over ≡ not l
    → c.of_table-f.result.stray ≡ not z
    → let a = c.args in
    table 0 true l z ≡ table_cause a.w a.h a.t.now a.numbers.now
flagged c l z over stray =
    let rows = c.region_cause.new.rows in
    let a = c.args in
    let cs = a.numbers.now in
    let t = a.t.now in
    let past = c.in_ok-region_cause.ensures.0 in
    let painted = c.in_ok-region_cause.ensures.1 refl in
    let sides = region-none a.w a.h t past in
    table-by a.w a.h t cs true l z past (sym (eq-eqb (length cs) (slots a.w a.h) (c.if-numbers-slots.false ∙ c.start-slots.ensures.0)))
    (limits-flag a.w a.h t cs rows sides.1 sides.2 painted
    c.of_table-f.ensures.limited over)
    (zeros-flag a.w a.h t cs rows sides.1 sides.2 painted
    c.of_table-f.ensures.zeroed stray)

pub returns-then-f : goal.returns-then-f
returns-then-f c = let stray = c.of_table-f.result.stray in
    (flagged (goal.at.returns-then-f c).After-of_table-f false (not stray) c.if-f.true (sym (not-not stray)), λ e. absurd (omega arith))

pub returns-then-f-2 : goal.returns-then-f-2
returns-then-f-2 c = (flagged (goal.at.returns-then-f-2 c).After-of_table-f true false c.if-f.false c.if-f-2.true, λ e. absurd (omega arith))

pub returns : goal.returns
returns c = (
  flagged (goal.at.returns c).After-of_table-f true true c.if-f.false c.if-f-2.false,
  λ _. painted (goal.at.returns c).In_ok-region_cause,
)
