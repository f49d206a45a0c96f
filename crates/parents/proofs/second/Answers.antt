-- `second`: 16 times the parent is a difference of its children.
use mathlib.Core.Path.{◌∙◌}
use lib.Dec.{lit<}
use lib.IntN.{pos, ◌-ℤ◌, ◌*ℤ◌}
use lib.Signed.{quot_z}
use Rattle.patch.proofs.Size.{literal, holds, mul_holds}
use Rattle.parents.proofs.Sizes.{sub_holds, quot-holds}
use Rattle.parents.proofs.Algebra.{second_is, second-size}
use Rattle.parents.proofs.second.Goals as goal

pub returns : goal.returns
returns c = let b = mul_holds (literal 4 (lit< tt)) (holds c.args.b c.requires.1 (lit< tt)) (lit< tt) in
    let ba = sub_holds b (holds c.args.a c.requires.0 (lit< tt)) (lit< tt) in
    let bac = sub_holds ba (holds c.args.c c.requires.2 (lit< tt)) (lit< tt) in
    let x = quot-holds 16 bac (lit< tt) in (
      λ p q r ea eb ec. x.same ∙ (λ i. quot_z (pos 4 *ℤ eb i -ℤ ea i -ℤ ec i) (pos 16)) ∙ second_is p q r,
      λ m ha hb hc. rw x.same (second-size c.args.a c.args.b c.args.c ha hb hc),
    )
