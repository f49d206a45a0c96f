-- Before each turn the places before the index are cleared.
use mathlib.Core.Path.{sym, ap, ◌∙◌}
use Prim.Native.Nat.{◌%◌}
use native.Mathlib.Omega.{arith}
use borrow.Author.Tests.{le-leb}
use lib.Dec.{leb}
use lib.IntN.{pos}
use lib.ListN.{get_or, set}
use Rattle.passive.specs.Cleared.{kept_if}
use Rattle.passive.proofs.RowLaws.{turn-none, turn-here, turn-set}
use Rattle.passive.proofs.clear_row.Invariants.{rule}
use Rattle.passive.proofs.clear_row.Goals.{then-m-eq0, else-m-eq0}
use Rattle.passive.proofs.clear_row.Goals as goal

pub loop-number-init : goal.loop-number-init
loop-number-init c = turn-none rule _ _ _ _

pub loop-number-preserved : goal.loop-number-preserved
loop-number-preserved c = let loop = c.loop-number in
    let args = c.args in
    let row = args.row.now in
    let i = loop.number-index in
    turn-set rule args.e args.marks row row i (omega arith) loop.invariant c.next-m.ensures
    (elim c.if-m-eq0.branch [
      | then-m-eq0 w ↦ w.row-is
          ∙ ap (λ x. set loop.row i (kept_if (leb 1 x) (get_or row i (pos 0)))) (sym w.if-m-eq0.true)
      | else-m-eq0 w ↦ w.row-is
          ∙ ap (set loop.row i) (turn-here rule args.e args.marks row row i loop.invariant)
          ∙ ap (λ t. set loop.row i (kept_if t (get_or row i (pos 0)))) (sym (le-leb 1 (loop.m.even % 2) (omega arith)))
    ])
