-- After each turn the patch is that of the level reached, and the last level reached is the one to stop at.
use mathlib.Core.Path.{◌≡◌, ◌∙◌, subst}
use Prim.Native.Nat.{◌-◌}
use native.Mathlib.Omega.{arith}
use Rattle.point.specs.Patches.{PatchAt}
use Rattle.point.proofs.PatchLaws.{Readable, point-ready, finer-ready, stop-small}
use Rattle.point.proofs.stop.patch_of.Goals.{Start}
use Rattle.point.proofs.stop.patch_of.Goals as goal

-- a point of the sheet, and rows and coefficients of an acceptable table
given : (s : Start)
    → let a = s.args in Readable a.w a.h a.rows.now a.numbers.now a.u a.v
given s = (s.requires.0, s.requires.1, s.requires.2)

pub coarsest-patch-requires : goal.coarsest-patch-requires
coarsest-patch-requires c = let a = c.args in point-ready a.w a.h a.rows.now a.numbers.now a.u a.v (given c)

pub loop-level-init : goal.loop-level-init
loop-level-init c = (omega arith, c.coarsest-patch.ensures c.args.rows.now)

pub finer-next-requires : goal.finer-next-requires
finer-next-requires c = let a = c.args in
    let g = given (goal.at.finer-next-requires c).Start in
    let n = point-ready a.w a.h a.rows.now a.numbers.now a.u a.v g in
    let three = stop-small a.w a.h a.u a.v a.rows.now n.0 n.2 in
    finer-ready a.w a.h a.rows.now a.numbers.now a.u a.v g c.loop-level.level c.loop-level.patch (omega arith)
    (omega (arith, three, c.requires.3, c.loop-level-test.true)) c.loop-level.invariant.1

pub returns : goal.returns
returns c = let a = c.args in
    let last : c.loop-level.level - 1 ≡ a.stop = omega arith in
    subst (λ L. PatchAt a.w a.h a.rows.now a.numbers.now a.u a.v L c.loop-level.patch)
    (last ∙ c.requires.3) c.loop-level.invariant.1
