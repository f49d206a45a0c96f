-- `of_marked` meets its contract: the two flags say the faults among the first coefficients.
use mathlib.Core.Path.{◌≡◌, refl, sym, ap, ◌∙◌}
use native.Mathlib.Omega.{arith}
use borrow.Author.Rules.{sfits_of}
use lib.Dec.{ltb}
use lib.IntN.{pos, nat_abs}
use lib.ListN.{length, get_or}
use mir.Syntax.{w64}
use mir.ValLaws.{to_z-of_z}
use Rattle.activity.specs.Marks.{marked}
use Rattle.faults.proofs.RowFaultLaws.{none, zero_more, stray-more, past_more, within_more}
use Rattle.faults.proofs.of_marked.Goals.{then-past, else-past}
use Rattle.faults.proofs.of_marked.Goals as goal

pub loop-a-init : goal.loop-a-init
loop-a-init c m e = none m (marked c.args.e c.args.marks) c.args.row.now refl refl

pub loop-a-preserved-then-c-eq0 : goal.loop-a-preserved-then-c-eq0
loop-a-preserved-then-c-eq0 c m e = zero_more (c.loop-a.invariant m e) (sfits_of c.c-1.given) c.if-c-eq0.true

pub loop-a-preserved-then-not-is_marked : goal.loop-a-preserved-then-not-is_marked
loop-a-preserved-then-not-is_marked c m e =
    stray-more (c.loop-a.invariant m e) (sfits_of c.c-1.given) c.if-c-eq0.false (sym c.if-not-is_marked.ensures)

pub loop-a-preserved : goal.loop-a-preserved
loop-a-preserved c m e =
    let before = c.loop-a.invariant m e in
    let fits = sfits_of c.c-1.given in
    let here = sym c.if-not-is_marked.ensures in
    let read = ap (λ z. ltb m (nat_abs z)) (to_z-of_z w64 (get_or c.args.row.now c.loop-a.a (pos 0)) fits) in
    elim c.if-past.branch [
      | then-past w ↦ rw w.over-is (past_more before fits here (w.if-past.ensures m e ∙ read))
      | else-past w ↦ rw w.over-is (within_more before fits here (w.if-past.ensures m e ∙ read))
    ]

pub returns : goal.returns
returns c m e = let all : c.loop-a.a ≡ length c.args.row.now = omega arith in
    rw all at (c.loop-a.invariant m (to_z-of_z w64 c.args.limit c.ranges.limit ∙ e))
