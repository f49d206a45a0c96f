use mathlib.Core.Path.{◌≡◌}
use Rattle.finite.proofs.Written.{written}
use Rattle.coefficients.proofs.fill.Given as goal

-- the places before the next one have the number
abbrev pub invariant-loop-place : goal.invariant-loop-place
invariant-loop-place l = l.s ≡ written l.place-index (λ k. l.number) l.initial.s
