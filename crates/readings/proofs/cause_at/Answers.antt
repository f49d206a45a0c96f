-- The cause of the table, or that of the point along u or along v.
use Rattle.std.proofs.lemmas.Result.{err_from_is_err_and}
use mathlib.Core.Path.{refl}
use mathlib.Core.Bool.{and-false}
use Prim.Native.Nat.{◌≤◌, ◌<◌}
use native.Mathlib.Omega.{arith}
use borrow.Author.Tests.{le-leb, lt-leb}
use Rattle.surface.specs.Calls.{reading_cause}
use Rattle.surface.proofs.Causes.{first, past}
use Rattle.surface.proofs.TableLaws.{sound, sides}
use Rattle.answers.proofs.AnswerLaws.{number-positive}
use Rattle.readings.proofs.cause_at.Goals.{In_ok-check}
use Rattle.readings.proofs.cause_at.Goals as goal

pub returns-in_err-check : goal.returns-in_err-check
unfolding reading_cause
returns-in_err-check c =
    let p = err_from_is_err_and c.from_residual.result c.from_residual.ensures.1 in
    let positive = number-positive c.in_err-check.field-0.0 in
    rw (p.1, p.2) (first c.in_err-check.ensures.0 positive _, λ e. absurd (positive e))

-- the sides of an acceptable table
within : (c : In_ok-check) → let a = c.args in (0 < a.w) × (a.w ≤ 8) × (0 < a.h) × (a.h ≤ 8)
within c = let a = c.args in sides (sound a.w a.h a.tree.now a.numbers.now (rw c.in_ok-check.ensures.0 refl))

pub overflow_mul-w : goal.overflow_mul-w
overflow_mul-w c = omega (arith, within c)

pub returns-then-w-u : goal.returns-then-w-u
unfolding reading_cause
returns-then-w-u c = (past c.in_ok-check.ensures.0 (simp (lt-leb _ _ c.if-w-u.true)), λ e. absurd (omega arith))

pub overflow_mul-h : goal.overflow_mul-h
overflow_mul-h c = omega (arith, within (goal.at.overflow_mul-h c).In_ok-check)

pub returns-then-h-v : goal.returns-then-h-v
unfolding reading_cause
returns-then-h-v c = (
  past c.in_ok-check.ensures.0 (simp (lt-leb _ _ c.if-h-v.true, and-false)),
  λ e. absurd (omega arith),
)

pub returns : goal.returns
unfolding reading_cause
returns c = (
  past c.in_ok-check.ensures.0 (simp (le-leb _ _ c.if-w-u.false, le-leb _ _ c.if-h-v.false)),
  λ e. c.in_ok-check.ensures.1 refl,
)
