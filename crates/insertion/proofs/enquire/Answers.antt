-- `enquire` gives the outcome of document 02: a refusal, or the slip that the table gives.
use Rattle.std.proofs.lemmas.Result.{err_from_is_err_and}
use mathlib.Core.Path.{refl}
use Rattle.surface.specs.Enquiry.{enquiry_outcome}
use Rattle.answers.proofs.AnswerLaws.{refused-with, gives-with}
use Rattle.insertion.proofs.enquire.Goals.{In_ok-refinement_cause}
use Rattle.insertion.proofs.enquire.Goals as goal

pub returns-in_err-refinement_cause : goal.returns-in_err-refinement_cause
unfolding enquiry_outcome
returns-in_err-refinement_cause c =
    let p = err_from_is_err_and c.from_residual.result c.from_residual.ensures.1 in
    rw (p.1, p.2) (refused-with c.in_err-refinement_cause.field-0.0 c.in_err-refinement_cause.ensures.0 _)

pub insert-slip-requires : goal.insert-slip-requires
insert-slip-requires c =
    let a = c.args in
    ((a.tree.now, (a.numbers.now, c.in_ok-refinement_cause.ensures.1 refl, c.in_ok-refinement_cause.ensures.0)), refl)

pub returns : goal.returns
unfolding enquiry_outcome
returns c =
    let a = c.args in
    let none = c.in_ok-refinement_cause.ensures in
    gives-with none.0 (c.insert-slip.ensures.0 a.tree.now a.numbers.now (none.1 refl) none.0)
