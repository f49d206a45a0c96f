-- `is_marked` meets its contract.
use mathlib.Core.Path.{refl}
use Prim.Native.Nat.{◌%◌}
use borrow.Author.Tests.{eq-eqb, ne_eqb}
use Rattle.finite.specs.Bits.{bit}
use Rattle.activity.proofs.is_marked.Goals.{Start, else-a-eq0, then-a-eq0}
use Rattle.activity.proofs.is_marked.Goals as goal

pub returns : goal.returns
unfolding bit
returns c = let a = c.args.a in
    elim c.if-a-eq0.branch [ then-a-eq0 w ↦ rw (eq-eqb (a % 2) 0 w.if-a-eq0.true, w.word-is) refl | else-a-eq0 w ↦ rw (ne_eqb (a % 2) 0 w.if-a-eq0.false, w.word-is) refl ]
