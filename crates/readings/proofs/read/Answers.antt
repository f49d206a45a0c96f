-- The cause, or what the point reads.
use Rattle.std.proofs.lemmas.Result.{err_from_is_err_and}
use mathlib.Core.Path.{refl}
use Rattle.surface.specs.Calls.{exact_outcome}
use Rattle.surface.specs.Slopes.{slopes_outcome}
use Rattle.answers.proofs.AnswerLaws.{refused-with, gives-with}
use Rattle.readings.proofs.ReadingLaws.{readable}
use Rattle.readings.proofs.read.Goals as goal

pub returns-in_err-cause_at : goal.returns-in_err-cause_at
unfolding exact_outcome
returns-in_err-cause_at c =
    let p = err_from_is_err_and c.from_residual.result c.from_residual.ensures.1 in
    rw (p.1, p.2) (refused-with c.in_err-cause_at.field-0.0 c.in_err-cause_at.ensures.0 _)

pub read_at-requires : goal.read_at-requires
read_at-requires c = let a = c.args in
    let (acc, hu, hv) = readable a.w a.h a.tree.now a.numbers.now a.u a.v c.in_ok-cause_at.ensures.0 in
    (hu, hv, (a.tree.now, c.in_ok-cause_at.ensures.1 refl, acc))

pub returns : goal.returns
unfolding exact_outcome slopes_outcome
returns c = let a = c.args in
    let none = c.in_ok-cause_at.ensures in
    let (acc, hu, hv) = readable a.w a.h a.tree.now a.numbers.now a.u a.v none.0 in
    let found = c.read_at.ensures a.tree.now (none.1 refl) acc in
    (gives-with none.0 found.0, λ e. gives-with none.0 (found.1 e))
