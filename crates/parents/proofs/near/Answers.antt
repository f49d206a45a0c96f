-- `near`: each parent is what its call gives.
use mathlib.Core.Path.{◌≡◌, sym, subst}
use Prim.Native.Nat.{◌*◌, ◌≤◌}
use borrow.Author.Rules.{sfits_of}
use lib.Dec.{lit<}
use lib.IntN.{nat_abs}
use mir.Syntax.{w64}
use mir.Val.{to_z, of_z}
use mir.ValLaws.{to_z-of_z}
use Rattle.patch.proofs.Size.{kept}
use Rattle.patch.proofs.Four.{four}
use Rattle.parents.specs.Parents.{wide, SecondOf, OtherOf, ParentsOf}
use Rattle.parents.proofs.Algebra.{near-is}
use Rattle.parents.proofs.near.Goals.{After-other-p2, After-second-p1}
use Rattle.parents.proofs.near.Goals as goal

-- what the calls give, of the numbers themselves
second-of : (n : After-second-p1)
    → SecondOf n.args.a n.args.b n.args.c n.second-p1.result
second-of n =
    rw (
      kept n.args.a n.requires.0 (lit< tt),
      kept n.args.b n.requires.1 (lit< tt),
      kept n.args.c n.requires.2 (lit< tt),
    ) at n.second-p1.ensures

second-small : (n : After-second-p1) → nat_abs n.second-p1.result ≤ 6 * wide
second-small n = (second-of n).1 wide n.requires.0 n.requires.1 n.requires.2

second-kept : (n : After-second-p1) → to_z w64 (of_z w64 n.second-p1.result) ≡ n.second-p1.result
second-kept n = to_z-of_z w64 n.second-p1.result (sfits_of n.second-p1.type_inv)

other-of : (n : After-other-p2)
    → OtherOf n.args.c n.second-p1.result n.other-p2.result
other-of n =
    rw (kept n.args.c n.requires.2 (lit< tt), second-kept n.before)
    at n.other-p2.ensures

other-kept : (n : After-other-p2) → to_z w64 (of_z w64 n.other-p2.result) ≡ n.other-p2.result
other-kept n = to_z-of_z w64 n.other-p2.result (sfits_of n.other-p2.type_inv)

pub third-requires : goal.third-requires
third-requires c = (
  rw (kept c.args.d c.requires.3 (lit< tt)) c.requires.3,
  rw (second-kept (goal.at.third-requires c).After-second-p1) (second-small (goal.at.third-requires c).After-second-p1),
  rw (other-kept (goal.at.third-requires c).After-other-p2) ((other-of (goal.at.third-requires c).After-other-p2).1 wide c.requires.2 (second-small (goal.at.third-requires c).After-second-p1)),
)

pub returns : goal.returns
returns c = let k0 = sym (to_z-of_z w64 c.other.result (sfits_of c.other.type_inv)) in
    let k1 = sym (second-kept (goal.at.returns c).After-second-p1) in
    let k2 = sym (other-kept (goal.at.returns c).After-other-p2) in
    let k3 = sym (to_z-of_z w64 c.third.result (sfits_of c.third.type_inv)) in
    subst (ParentsOf 0 c.args.a c.args.b c.args.c c.args.d) (four k0 k1 k2 k3)
    (near-is (second-of (goal.at.returns c).After-second-p1) (other-of (goal.at.returns c).After-other-p2)
    (rw (kept c.args.a c.requires.0 (lit< tt), second-kept (goal.at.returns c).After-second-p1) at c.other.ensures)
    (rw (kept c.args.d c.requires.3 (lit< tt), second-kept (goal.at.returns c).After-second-p1, other-kept (goal.at.returns c).After-other-p2) at c.third.ensures))
