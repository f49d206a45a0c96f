-- Before each turn the levels up to `coarse` hold their carried values.
use mathlib.Core.Path.{◌≡◌, ◌∙◌}
use Prim.Native.Nat.{◌+◌}
use native.Mathlib.Omega.{arith}
use Rattle.surface.specs.Table.{coefficients}
use Rattle.surface.specs.Carry.{carried}
use Rattle.surface.proofs.TableLaws.{start-before}
use Rattle.rows.specs.Rows.{levels_of}
use Rattle.passive.proofs.SliceLaws.{slice-whole}
use Rattle.carry.proofs.CarryLaws.{level-zero}
use Rattle.carry.proofs.fill.Goals as goal

pub copy-requires : goal.copy-requires
copy-requires c = omega (arith, c.places.ensures.0, start-before c.args.w c.args.h 0 4 (omega arith))

pub loop-coarse-init : goal.loop-coarse-init
loop-coarse-init c = let copied = c.copy in
    let few = c.places in
    let a = c.args in
    level-zero a.w a.h a.rows.now a.numbers.now few.result _ c.requires.2
    (copied.ensures.0 ∙ c.requires.3) few.ensures.0 copied.ensures.1

pub returns : goal.returns
returns c = let loop = c.loop-coarse in
    let a = c.args in
    let all : loop.coarse + 1 ≡ 4 = omega arith in
    slice-whole a.w a.h
    (carried a.w a.h (levels_of a.rows.now) (coefficients a.w a.h a.numbers.now)) loop.out
    loop.invariant.size (rw all at loop.invariant.front)
