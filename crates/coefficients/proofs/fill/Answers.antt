-- `fill` meets its contract: after i turns the first i places have the number.
use mathlib.Core.Path.{◌≡◌, refl, ap, ap₂, ◌∙◌}
use native.Mathlib.Omega.{arith}
use lib.ListN.{length, replicate, set}
use mir.Syntax.{w64}
use mir.Val.{to_z, of_z}
use mir.ValLaws.{to_z-of_z}
use Rattle.finite.proofs.Table.{table-const}
use Rattle.finite.proofs.Written.{written_none, written-more, written_all}
use Rattle.coefficients.proofs.fill.Goals as goal

pub loop-place-init : goal.loop-place-init
loop-place-init c = written_none _ _

pub loop-place-preserved : goal.loop-place-preserved
loop-place-preserved c =
    let z = to_z w64 (of_z w64 c.args.number) in
    let i = c.loop-place.place-index in
    ap (λ l. set l i z) c.loop-place.invariant ∙ written-more i (λ k. z) c.args.s.now z c.loop-place-test.true refl

pub returns : goal.returns
returns c =
    let i = c.loop-place.place-index in
    let z = to_z w64 (of_z w64 c.args.number) in
    let all : i ≡ length c.args.s.now = omega arith in
    c.loop-place.invariant
    ∙ written_all i (λ k. z) c.args.s.now all
    ∙ table-const 0 i z
    ∙ ap₂ replicate all (to_z-of_z w64 c.args.number c.ranges.number)
