use mathlib.Core.Path.{◌≡◌}
use mathlib.Core.Bool.{true}
use Rattle.finite.specs.Range.{every}
use Rattle.fields.proofs.NumberLaws.{kept}
use Rattle.fields.proofs.number.within.Given as goal

abbrev pub invariant-loop-k : goal.invariant-loop-k
invariant-loop-k l = true ≡ every l.k (kept l.most l.body)
