-- The watts of what was read, or its refusal.
use Rattle.std.proofs.lemmas.Result.{err_from_is_err_and}
use mathlib.Core.Path.{ap, ◌∙◌}
use mir.Syntax.{w64}
use mir.ValLaws.{to_z-of_z}
use Rattle.surface.specs.Calls.{gives}
use Rattle.readings.proofs.ReadingLaws.{numerator-fits}
use Rattle.readings.proofs.exact.Goals as goal

pub returns-in_err-x : goal.returns-in_err-x
returns-in_err-x c =
    let p = err_from_is_err_and c.from_residual.result c.from_residual.ensures.1 in
    rw (p.1, p.2) c.in_err-x.ensures

pub returns : goal.returns
returns c = let a = c.args in
    let x = c.in_ok-x.x in
    let found = c.in_ok-x.ensures.0 in
    ap gives (to_z-of_z w64 x.watts (numerator-fits a.w a.h a.tree.now a.numbers.now a.u a.v x.watts found)) ∙ found
