-- `rounding::cost_of` meets its contract: readings below zero cost nothing, and the others the nearest whole number.
use mathlib.Core.Path.{◌≡◌}
use native.Mathlib.Omega.{arith}
use lib.IntN.{pos}
use lib.Signed.{mag}
use mir.Syntax.{w64}
use mir.Val.{to_z, of_z}
use Rattle.finite.proofs.Signed.{not-below, as_is}
use Rattle.rounding.proofs.CostLaws.{cost-some, product-fits}
use Rattle.rounding.proofs.cost_of.Goals.{Else-n-lt0}
use Rattle.rounding.proofs.cost_of.Goals as goal

kept : (c : Else-n-lt0) → to_z w64 (of_z w64 c.args.n) ≡ pos (mag c.args.n)
kept c = as_is c.args.n c.ranges.n c.if-n-lt0.false

pub overflow_mul-result-2 : goal.overflow_mul-result-2
overflow_mul-result-2 c = product-fits (omega arith) c.requires

pub returns : goal.returns
returns c = cost-some c.args.tariff (not-below c.args.n c.ranges.n c.if-n-lt0.false) (kept c)
