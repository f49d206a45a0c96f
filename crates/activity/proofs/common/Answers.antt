-- `common` meets its contract: before each turn the words before the index are taken together.
use mathlib.Core.Path.{◌≡◌}
use Prim.Native.Nat.{◌+◌, ◌-◌}
use native.Mathlib.Omega.{arith}
use lib.ListN.{length, take, drop, length-take, length-drop}
use Rattle.finite.proofs.Bits.{bit-ones}
use Rattle.finite.specs.Range.{least}
use Rattle.activity.proofs.BitLaws.{common-more}
use Rattle.activity.proofs.common.Goals.{Start}
use Rattle.activity.proofs.common.Goals as goal

-- the words from .. to are as many
size : (c : Start) → let a = c.args in
    length (take (a.to - a.from) (drop a.from a.rows.now)) ≡ a.to - a.from
size c = let a = c.args in
    omega (arith, length-take (a.to - a.from) (drop a.from a.rows.now), length-drop a.from a.rows.now)

pub loop-row-init : goal.loop-row-init
unfolding least
loop-row-init c = let from = c.args.from in
    let none : from + 0 - from ≡ 0 = omega arith in
    λ q l. rw none (bit-ones 32 q l)

pub loop-row-preserved : goal.loop-row-preserved
loop-row-preserved c = let a = c.args in
    let loop = c.loop-row in
    common-more a.rows.now a.from a.to loop.row-index loop.word (omega (arith, size (goal.at.loop-row-preserved c).Start))
    loop.invariant
