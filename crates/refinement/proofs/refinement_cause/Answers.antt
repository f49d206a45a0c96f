-- Each way out of `refinement_cause` gives the lowest cause of what is read.
use Rattle.std.proofs.lemmas.Result.{err_from_is_err_and}
use mathlib.Core.Path.{◌≡◌, refl, sym}
use mathlib.Core.Bool.{and-false}
use native.Mathlib.Omega.{arith}
use borrow.Author.Tests.{le-leb, lt-leb}
use Rattle.surface.specs.Table.{table_cause}
use Rattle.surface.specs.Calls.{box_cause}
use Rattle.surface.proofs.Causes.{first, past}
use Rattle.surface.proofs.TableLaws.{sound, sides}
use Rattle.answers.proofs.AnswerLaws.{number-positive}
use Rattle.boxes.specs.Boxes.{box_of}
use Rattle.refinement.proofs.refinement_cause.Goals.{In_ok-box_cause, In_ok-check}
use Rattle.refinement.proofs.refinement_cause.Goals as goal

pub returns-in_err-check : goal.returns-in_err-check
returns-in_err-check c =
    let p = err_from_is_err_and c.from_residual.result c.from_residual.ensures.1 in
    let positive = number-positive c.in_err-check.field-0.0 in
    rw (p.1, p.2) (first c.in_err-check.ensures.0 positive _, λ e. absurd (positive e))

-- past the causes of the table
table_none : (c : In_ok-check)
    → let a = c.args in 0 ≡ table_cause a.w a.h a.tree.now a.numbers.now
table_none c = c.in_ok-check.ensures.0

pub box_cause-requires : goal.box_cause-requires
box_cause-requires c = let a = c.args in
    let s = sides (sound a.w a.h a.tree.now a.numbers.now (sym (table_none c))) in
    (s.1, s.3)

pub returns-in_err-box_cause : goal.returns-in_err-box_cause
returns-in_err-box_cause c =
    let r = c.from_residual-in_err-box_cause in
    let p = err_from_is_err_and r.result r.ensures.1 in
    let positive = number-positive c.in_err-box_cause.field-0.0 in
    let found = past (table_none (goal.at.returns-in_err-box_cause c).In_ok-check) (first c.in_err-box_cause.ensures positive _) in
    rw (p.1, p.2) (found, λ e. absurd (positive e))

-- past the box's
box-none : (c : In_ok-box_cause)
    → let a = c.args in 0 ≡ box_cause a.w a.h (box_of a.b)
box-none c = c.in_ok-box_cause.ensures

pub returns-then-level-lt1 : goal.returns-then-level-lt1
returns-then-level-lt1 c = (
  past (table_none (goal.at.returns-then-level-lt1 c).In_ok-check) (past (box-none (goal.at.returns-then-level-lt1 c).In_ok-box_cause) (rw (lt-leb 1 _ c.if-level-lt1.true))),
  λ z. absurd (omega arith),
)

pub returns-then-level-gt3 : goal.returns-then-level-gt3
returns-then-level-gt3 c = (
  past (table_none (goal.at.returns-then-level-gt3 c).In_ok-check) (past (box-none (goal.at.returns-then-level-gt3 c).In_ok-box_cause) (simp (lt-leb _ 3 c.if-level-gt3.true, and-false))),
  λ z. absurd (omega arith),
)

pub returns : goal.returns
returns c = (
  past (table_none (goal.at.returns c).In_ok-check)
      (past (box-none (goal.at.returns c).In_ok-box_cause) (rw (le-leb 1 _ c.if-level-lt1.false, le-leb _ 3 c.if-level-gt3.false))),
  λ _. c.in_ok-check.ensures.1 refl,
)
