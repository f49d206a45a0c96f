-- `stands` tests the bit at the place of the function's support.
use mathlib.Core.Path.{◌≡◌, sym, ap}
use Prim.Native.Nat.{◌%◌}
use native.Mathlib.Nat.{mod-lt, zero-lt-suc}
use native.Mathlib.Omega.{arith}
use lib.Dec.{leb}
use Rattle.finite.specs.Bits.{bit}
use Rattle.activity.proofs.RegionLaws.{even_place, odd_place}
use Rattle.activity.proofs.stands.Goals.{else-a-eq0, then-a-eq0}
use Rattle.activity.proofs.stands.Goals as goal

pub returns : goal.returns
unfolding bit
returns c = let g = c.args in
    elim c.if-a-eq0.branch [
      | then-a-eq0 w ↦ rw w.word-is (sym (ap (leb 1)
          (even_place g.e g.even g.odd g.a c.requires.1 w.if-a-eq0.true)))
      | else-a-eq0 w ↦ let one : g.a % 2 ≡ 1 = omega (arith, w.if-a-eq0.false, mod-lt g.a (zero-lt-suc 1)) in
          rw w.word-is (sym (ap (leb 1) (odd_place g.e g.even g.odd g.a c.requires.1 one)))
    ]
