-- `mark_row` meets its contract: before each turn the marks of the places before the index are written.
use mathlib.Core.Path.{ap, ◌∙◌}
use Prim.Native.Nat.{◌%◌}
use native.Mathlib.Omega.{arith}
use lib.ListN.{set}
use Rattle.activity.specs.Marks.{mark_at}
use Rattle.finite.proofs.Written.{written_none, written-more}
use Rattle.activity.proofs.StepLaws.{from-none, from_next, from-here}
use Rattle.activity.proofs.mark.mark_row.Goals as goal

pub loop-mark-init : goal.loop-mark-init
loop-mark-init c = (from-none _ _, written_none _ _)

pub loop-mark-preserved : goal.loop-mark-preserved
loop-mark-preserved c = let loop = c.loop-mark in
    let args = c.args in
    let a = loop.mark-index in
    let marks = mark_at args.e args.marks in (
      from_next args.e a args.marks loop.m _ loop.invariant.0 c.next-m.ensures,
      ap (λ l. set l a (loop.m.even % 2)) loop.invariant.1
          ∙ written-more a marks args.row.now (loop.m.even % 2) (omega arith)
          (from-here args.e a args.marks loop.m loop.invariant.0),
    )
