-- Each way out of `fresh_cause` gives the cause of document 01.
use mathlib.Core.Path.{◌≡◌, sym, ap, ◌∙◌}
use mathlib.Core.Bool.{not, ◌&&◌}
use native.Mathlib.Omega.{arith}
use borrow.Author.Rules.{sfits_of}
use lib.Dec.{ltb}
use lib.IntN.{pos, nat_abs}
use mir.Syntax.{w64}
use mir.Val.{to_z, of_z}
use mir.ValLaws.{to_z-of_z}
use Rattle.finite.proofs.Tests.{both}
use Rattle.surface.specs.Sheet.{good_side}
use Rattle.surface.specs.Table.{cause, limit}
use Rattle.surface.proofs.TableLaws.{good-side}
use Rattle.surface.proofs.Causes.{past, cause-none}
use Rattle.coefficients.proofs.Sizes.{limit-below}
use Rattle.edit.proofs.fresh_cause.Goals.{After-limit, After-past, Else-not-good_sides}
use Rattle.edit.proofs.fresh_cause.Goals as goal

pub returns-then-not-good_sides : goal.returns-then-not-good_sides
returns-then-not-good_sides c = rw (← c.good_sides.ensures, c.if-not-good_sides.true-raw)

-- past cause 1
good : (c : Else-not-good_sides)
    → let a = c.args in 0 ≡ cause 1 (not (good_side a.w && good_side a.h))
good c = ap (cause 1) (sym c.if-not-good_sides.false-raw ∙ ap not c.good_sides.ensures)

-- the limit as the machine has it
bound : (c : After-limit) → to_z w64 (of_z w64 c.limit.result) ≡ pos (limit 0)
bound c = to_z-of_z w64 c.limit.result (sfits_of c.limit.type_inv) ∙ c.limit.ensures

-- the number's test
size : (c : After-past)
    → c.past.result ≡ ltb (limit 0) (nat_abs c.args.number)
size c =
    c.past.ensures (limit 0) ((let it : to_z w64 (of_z w64 c.limit.result) ≡ pos (limit 0) = to_z-of_z w64 c.limit.result (sfits_of c.limit.type_inv) ∙ c.limit.ensures in it))
    ∙ ap (λ z. ltb (limit 0) (nat_abs z)) (to_z-of_z w64 c.args.number c.ranges.number)

pub returns-then-past : goal.returns-then-past
returns-then-past c = past (good (goal.at.returns-then-past c).Else-not-good_sides) (rw (← (size (goal.at.returns-then-past c).After-past), c.if-past.true))

pub outputs_cause-requires : goal.outputs_cause-requires
outputs_cause-requires c = let a = c.args in
    let both-good = cause-none 0 (good_side a.w && good_side a.h) (sym (good (goal.at.outputs_cause-requires c).Else-not-good_sides)) in
    let sides = both (good_side a.w) (good_side a.h) both-good in
    ((good-side a.w sides.0).1, (good-side a.h sides.1).1)

pub returns : goal.returns
returns c = past (good (goal.at.returns c).Else-not-good_sides)
    (past (ap (cause 10) (sym c.if-past.false ∙ size (goal.at.returns c).After-past)) c.outputs_cause.ensures)

pub past-requires : goal.past-requires
past-requires c =
    (limit 0, bound c, limit-below 0 (omega arith))
