-- `watts` is the f64 of the exact reading, or the refusal of `exact`.
use Rattle.std.proofs.lemmas.Result.{err_from_is_err_and}
use mathlib.Core.Path.{subst}
use mir.Syntax.{w64}
use mir.ValLaws.{to_z-of_z}
use Prim.Native.Nat.{◌^◌}
use Rattle.surface.specs.Truncation.{D}
use Rattle.surface.specs.FloatReading.{Near}
use Rattle.readings.proofs.ReadingLaws.{numerator-fits, watts-given, watts-refused}
use Rattle.readings.proofs.watts.Goals as goal

pub returns-in_err-n : goal.returns-in_err-n
returns-in_err-n c = let a = c.args in
    let p = err_from_is_err_and c.from_residual.result c.from_residual.ensures.1 in
    rw (p.1, p.2) (watts-refused a.w a.h a.tree.now a.numbers.now a.u a.v _ c.in_err-n.ensures)

pub returns : goal.returns
returns c = let a = c.args in
    let n = c.in_ok-n.n in
    let fits = numerator-fits a.w a.h a.tree.now a.numbers.now a.u a.v n c.in_ok-n.ensures in
    watts-given a.w a.h a.tree.now a.numbers.now a.u a.v n c.in_ok-n.ensures c.watts.result
    (subst (λ z. Near (2 ^ 30) D z c.watts.result) (to_z-of_z w64 n fits) c.watts.ensures)
