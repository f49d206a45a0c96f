-- `display` rounds the exact reading, or refuses as `exact` does.
use Rattle.std.proofs.lemmas.Result.{err_from_is_err_and}
use mathlib.Core.Path.{◌≡◌, ap, ◌∙◌}
use mir.Syntax.{w64}
use mir.Val.{of_z, to_z}
use mir.ValLaws.{to_z-of_z}
use borrow.Author.Rules.{sfits_of}
use Rattle.surface.specs.Calls.{gives, whole_watts}
use Rattle.readings.proofs.ReadingLaws.{numerator-fits, display-given, display-refused}
use Rattle.readings.proofs.display.Goals as goal

pub returns-in_err-n : goal.returns-in_err-n
returns-in_err-n c = let a = c.args in
    let p = err_from_is_err_and c.from_residual.result c.from_residual.ensures.1 in
    rw (p.1, p.2) (display-refused a.w a.h a.tree.now a.numbers.now a.u a.v _ c.in_err-n.ensures)

pub returns : goal.returns
returns c = let a = c.args in
    let n = c.in_ok-n.n in
    let fits = numerator-fits a.w a.h a.tree.now a.numbers.now a.u a.v n c.in_ok-n.ensures in
    let rounded = c.whole_watts.result in
    let same : to_z w64 (of_z w64 rounded) ≡ whole_watts n =
    to_z-of_z w64 rounded (sfits_of c.whole_watts.type_inv)
    ∙ c.whole_watts.ensures.0
    ∙ ap whole_watts (to_z-of_z w64 n fits) in
    ap gives same ∙ display-given a.w a.h a.tree.now a.numbers.now a.u a.v n c.in_ok-n.ensures
