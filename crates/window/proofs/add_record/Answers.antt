-- `add_record` gives the outcome of document 02: a refusal with nothing written, or one place set and the new state.
use Rattle.std.proofs.lemmas.Result.{err_from_is_err_and}
use mathlib.Core.Path.{◌≡◌, sym, ap, ap₂, subst, ◌∙◌}
use borrow.Author.Tests.{ltb-false}
use lib.Dec.{ltb, lit<}
use lib.IntN.{nat_abs}
use lib.ListN.{length, set}
use mir.Syntax.{w32, w64}
use mir.Val.{SFits, to_z, of_z}
use mir.ValLaws.{to_z-of_z}
use Rattle.finite.proofs.Signed.{abs-fits}
use Rattle.surface.specs.Table.{cause}
use Rattle.surface.proofs.Causes.{or_else-none, cause-off}
use Rattle.surface.specs.Window.{window_cause, record_cause, record_outcome}
use Rattle.answers.specs.Answers.{state_told}
use Rattle.answers.proofs.AnswerLaws.{slice-refused, slice-done}
use Rattle.window.proofs.add_record.Goals.{Start}
use Rattle.window.proofs.add_record.Goals as goal

-- the cause of the record as the machine has it
same : (c : Start) → let a = c.args in
    let cause = record_cause (length a.window.now) (state_told a.state) in cause (to_z w64 (of_z w64 a.watts)) ≡ cause a.watts
same c = let a = c.args in
    ap (record_cause (length a.window.now) (state_told a.state)) (to_z-of_z w64 a.watts c.ranges.watts)

pub returns-in_err-record_cause : goal.returns-in_err-record_cause
unfolding record_outcome
returns-in_err-record_cause c =
    let p = err_from_is_err_and c.from_residual.result c.from_residual.ensures.1 in
    let found = c.in_err-record_cause.ensures ∙ same (goal.at.returns-in_err-record_cause c).Start in
    rw (p.1, p.2) (slice-refused c.in_err-record_cause.field-0.0 found _ _ _)

pub returns : goal.returns
unfolding record_outcome
returns c = let a = c.args in
    let read_back = to_z-of_z w64 a.watts c.ranges.watts in
    let none = c.in_ok-record_cause.ensures ∙ same (goal.at.returns c).Start in
    let two = or_else-none (window_cause (length a.window.now) (state_told a.state)) (cause 23 (ltb 32000 (nat_abs a.watts)))
    (sym none) in
    let small = ltb-false 32000 (nat_abs a.watts) (cause-off 22 (ltb 32000 (nat_abs a.watts)) two.1) in
    slice-done none c.new_state.ensures
    (ap₂ (set a.window.now) c.place_after-at.ensures.0
    (to_z-of_z w32 (to_z w64 (of_z w64 a.watts)) (subst (SFits w32) (sym read_back) (abs-fits a.watts small (lit< tt))) ∙ read_back))
    a.window.now
