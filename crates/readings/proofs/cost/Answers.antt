-- `cost` is that of the exact reading, or refuses as `exact` does, then for the tariff.
use Rattle.std.proofs.lemmas.Result.{err_from_is_err_and}
use mathlib.Core.Path.{sym, ap, ◌∙◌}
use mir.Syntax.{w64}
use mir.ValLaws.{to_z-of_z}
use Rattle.surface.specs.Calls.{cost_of}
use Rattle.surface.proofs.Costs.{cost-given}
use Rattle.readings.proofs.ReadingLaws.{numerator-fits, tariff-refused, cost-refused}
use Rattle.readings.proofs.cost.Goals as goal

pub returns-in_err-n : goal.returns-in_err-n
returns-in_err-n c = let a = c.args in
    let p = err_from_is_err_and c.from_residual.result c.from_residual.ensures.1 in
    rw (p.1, p.2) (cost-refused a.w a.h a.tree.now a.numbers.now a.u a.v _ c.in_err-n.ensures a.tariff)

pub returns-then-tariff-gt99999 : goal.returns-then-tariff-gt99999
returns-then-tariff-gt99999 c = let a = c.args in
    tariff-refused a.w a.h a.tree.now a.numbers.now a.u a.v c.in_ok-n.n c.in_ok-n.ensures a.tariff
    c.if-tariff-gt99999.true

pub returns : goal.returns
returns c = let a = c.args in
    let n = c.in_ok-n.n in
    let fits = numerator-fits a.w a.h a.tree.now a.numbers.now a.u a.v n c.in_ok-n.ensures in
    let price = c.cost_of.ensures ∙ ap (λ m. cost_of m a.tariff) (to_z-of_z w64 n fits) in
    sym
    ((cost-given a.w a.h a.tree.now a.numbers.now a.u a.v a.tariff c.cost_of.result).1
    (n, sym c.in_ok-n.ensures, c.if-tariff-gt99999.false, sym price))
