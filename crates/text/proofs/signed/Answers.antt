use mathlib.Core.Path.{◌≡◌, sym, ap, ◌∙◌, subst}
use mathlib.Core.List.{[], ◌∷◌, ◌++◌}
use Prim.Native.Nat.{suc, ◌+◌}
use native.Mathlib.Numerals.{add-one}
use native.Mathlib.Omega.{arith}
use lib.IntN.{pos, negsuc, nat_abs, ◌-ℤ◌}
use lib.ListN.{length}
use lib.Signed.{mag}
use mir.Syntax.{w64}
use mir.Val.{to_z, of_z}
use Rattle.finite.proofs.Signed.{below, not-below, as_is, mirrored, mirrored-back, fits-pos, cast-up}
use Rattle.text.specs.Text.{decimal, signed}
use Rattle.fields.specs.Put.{Put}
use Rattle.fields.proofs.PutLaws.{put_both}
use Rattle.text.proofs.signed.Goals.{Else-n-lt0, Then-n-lt0}
use Rattle.text.proofs.signed.Goals as goal

-- below zero: a minus, and −1 − n back from its bits
below-text : (c : Then-n-lt0)
    → let n = c.args.n in signed n ≡ (45 ∷ []) ++ decimal (suc (mag n))
below-text c = ap signed (below c.args.n c.ranges.n c.if-n-lt0.true)

turned : (c : Then-n-lt0) → let n = c.args.n in negsuc 0 -ℤ to_z w64 (of_z w64 n) ≡ pos (mag n)
turned c = mirrored c.args.n c.ranges.n c.if-n-lt0.true

turned-back : (c : Then-n-lt0)
    → let n = c.args.n in to_z w64 (of_z w64 (negsuc 0 -ℤ to_z w64 (of_z w64 n))) ≡ pos (mag n)
turned-back c = mirrored-back c.args.n c.ranges.n c.if-n-lt0.true

number : (c : Then-n-lt0)
    → let n = c.args.n in
    nat_abs (to_z w64 (of_z w64 (negsuc 0 -ℤ to_z w64 (of_z w64 n)))) + 1 ≡ suc (mag n)
number c = ap (λ z. nat_abs z + 1) (turned-back c) ∙ add-one (mag c.args.n)

-- not below zero: the number as it is
plain : (c : Else-n-lt0) → let n = c.args.n in to_z w64 (of_z w64 n) ≡ pos (mag n)
plain c = as_is c.args.n c.ranges.n c.if-n-lt0.false

plain-text : (c : Else-n-lt0)
    → let n = c.args.n in signed n ≡ decimal (nat_abs (to_z w64 (of_z w64 n)))
plain-text c =
    ap signed (not-below c.args.n c.ranges.n c.if-n-lt0.false) ∙ sym (ap (λ z. decimal (nat_abs z)) (plain c))

pub put_byte-next-requires : goal.put_byte-next-requires
put_byte-next-requires c = omega (arith, ap length (below-text (goal.at.put_byte-next-requires c).Then-n-lt0), c.requires)

pub overflow_sub-n : goal.overflow_sub-n
overflow_sub-n c = fits-pos (turned (goal.at.overflow_sub-n c).Then-n-lt0) c.ranges.n.sfits

pub overflow_cast-n : goal.overflow_cast-n
overflow_cast-n c = cast-up (turned-back (goal.at.overflow_cast-n c).Then-n-lt0) c.ranges.n.sfits

pub overflow_add-n : goal.overflow_add-n
overflow_add-n c = omega (arith, ap nat_abs (turned-back (goal.at.overflow_add-n c).Then-n-lt0), c.ranges.n.sfits)

pub decimal-requires : goal.decimal-requires
decimal-requires c = rw (number (goal.at.decimal-requires c).Then-n-lt0)
    (omega (arith, c.put_byte-next.ensures.0, c.put_byte-next.auto.out, ap length (below-text (goal.at.decimal-requires c).Then-n-lt0), c.requires))

pub returns-then-n-lt0 : goal.returns-then-n-lt0
returns-then-n-lt0 c = let a = c.args in
    let r = c.decimal.result in
    let o = c.decimal.new.out in
    let m = suc (mag a.n) in
    let rest =
    subst (λ k. Put (decimal k) c.put_byte-next.result c.put_byte-next.new.out r o) (number (goal.at.returns-then-n-lt0 c).Then-n-lt0) c.decimal.ensures in
    rw (below-text (goal.at.returns-then-n-lt0 c).Then-n-lt0)
    (put_both (45 ∷ []) (decimal m) a.at a.out.now c.put_byte-next.result c.put_byte-next.new.out r o
    c.put_byte-next.ensures rest)

pub overflow_cast-n-2 : goal.overflow_cast-n-2
overflow_cast-n-2 c = cast-up (plain c) c.ranges.n.sfits

pub decimal-requires-2 : goal.decimal-requires-2
decimal-requires-2 c = rw (← plain-text (goal.at.decimal-requires-2 c).Else-n-lt0) c.requires

pub returns : goal.returns
returns c = rw (plain-text (goal.at.returns c).Else-n-lt0) c.decimal-2.ensures
