-- `read_row` meets its contract: before each turn the places below k have their numbers.
use mathlib.Core.Path.{◌≡◌, refl, ◌∙◌}
use Prim.Native.Nat.{◌+◌, ◌*◌, ◌≤◌}
use native.Mathlib.Omega.{arith}
use borrow.Author.Rules.{rules, sfits_of}
use lib.ListN.{length}
use mir.Syntax.{w64}
use mir.Val.{to_z}
use mir.ValLaws.{to_z-of_z}
use Rattle.coarsening.specs.Coarser.{number_of}
use Rattle.coarsening.proofs.SixteenLaws.{in_body, in-slice}
use Rattle.fromgrid.proofs.NumberLaws.{set_more}
use Rattle.fromgrid.proofs.numbers.read_row.Goals.{Else-level-eq2, In-loop-k, Joined-level-eq2, Then-level-eq2}
use Rattle.fromgrid.proofs.numbers.read_row.Goals.{else-level-eq2, then-level-eq2}
use Rattle.fromgrid.proofs.numbers.read_row.Goals as goal

-- the number stands in the body, or in the slice
body-long : (c : Then-level-eq2)
    → 5 * (c.args.from + length c.args.row.now) ≤ length c.args.body.now
body-long c = c.requires.0.0 c.if-level-eq2.true

slice-long : (c : Else-level-eq2)
    → c.args.from + length c.args.row.now ≤ length c.args.fine.now
slice-long c = c.requires.0.1 c.if-level-eq2.false

pub read-requires : goal.read-requires
read-requires c = omega (arith, body-long c)

pub bounds-fine-from : goal.bounds-fine-from
bounds-fine-from c = omega (arith, slice-long c)

-- the number of a turn
new : (c : Joined-level-eq2)
    → to_z w64 c.if-level-eq2.number-bits
    ≡ number_of c.args.level c.args.body.now c.args.fine.now (c.args.from + c.loop-k.k)
new c =
    let a = c.args in
    let p = a.from + c.loop-k.k in
    elim c.if-level-eq2.branch [
      | then-level-eq2 w ↦ w.number-is ∙ to_z-of_z w64 _ (sfits_of w.read.type_inv) ∙ w.read.ensures
          ∙ in_body a.level a.body.now a.fine.now p p w.if-level-eq2.true refl
      | else-level-eq2 w ↦ w.number-is ∙ to_z-of_z w64 _ (search rules)
          ∙ in-slice a.level a.body.now a.fine.now p p w.if-level-eq2.false refl
    ]

pub loop-k-preserved : goal.loop-k-preserved
loop-k-preserved c = let loop = c.loop-k in
    let a = c.args in
    set_more (λ i. number_of a.level a.body.now a.fine.now (a.from + i)) loop.row loop.k
    (to_z w64 c.if-level-eq2.number-bits) (omega (arith, loop.auto.row, c.loop-k-test.true))
    (new (goal.at.loop-k-preserved c).Joined-level-eq2) loop.invariant

pub returns : goal.returns
returns c = (c.loop-k.auto.row, λ k l. c.loop-k.invariant k (omega (arith, c.loop-k-test.false)))
