-- `write_file` refuses with the table's cause, or leaves the rest to `write_checked`.
use Rattle.std.proofs.lemmas.Result.{err_from_is_err_and}
use mathlib.Core.Path.{refl, sym, subst}
use Rattle.surface.specs.Calls.{SliceMeets}
use Rattle.surface.specs.Saving.{save_cause, save_outcome}
use Rattle.surface.proofs.Causes.{first}
use Rattle.surface.proofs.TableLaws.{Sound, sound, sides}
use Rattle.answers.specs.Answers.{value_answer}
use Rattle.answers.proofs.AnswerLaws.{number-positive, slice-refused}
use Rattle.saving.specs.Saved.{note_lent}
use Rattle.saving.proofs.FileLaws.{checked, same_outcome}
use Rattle.saving.proofs.write_file.Goals.{In_ok-check}
use Rattle.saving.proofs.write_file.Goals as goal

pub returns-in_err-check : goal.returns-in_err-check
unfolding save_outcome save_cause
returns-in_err-check c = let p = err_from_is_err_and c.from_residual.result c.from_residual.ensures.1 in
    let e = c.in_err-check.field-0.0 in
    rw (p.1, p.2) (slice-refused e (first c.in_err-check.ensures.0 (number-positive e) _) _ _ _)

good : (c : In_ok-check) → let a = c.args in Sound a.w a.h a.tree.now a.numbers.now
good c = let a = c.args in sound a.w a.h a.tree.now a.numbers.now (sym c.in_ok-check.ensures.0)

pub write_checked-requires : goal.write_checked-requires
write_checked-requires c = let a = c.args in
    checked a.w a.h a.tree.now a.numbers.now _ (good (goal.at.write_checked-requires c).In_ok-check)
    (c.in_ok-check.ensures.1 refl)

pub returns : goal.returns
returns c = let a = c.args in
    let s = sides (good (goal.at.returns c).In_ok-check) in
    subst (λ o. SliceMeets o (value_answer c.write_checked.result) c.write_checked.new.out)
    (same_outcome a.w a.h s.1 s.3 a.tree.now _ a.numbers.now (c.in_ok-check.ensures.1 refl) (note_lent a.note) a.out.now
    c.in_ok-check.ensures.0)
    c.write_checked.ensures
