-- Before each turn the levels below are cleared.
use mathlib.Core.Path.{◌≡◌, refl, ◌∙◌}
use native.Mathlib.Omega.{arith}
use Rattle.surface.specs.Table.{start}
use Rattle.passive.specs.Cleared.{cleared}
use Rattle.passive.proofs.SliceLaws.{slice-whole}
use Rattle.passive.proofs.clear.Goals as goal

pub loop-level-init : goal.loop-level-init
unfolding start
loop-level-init c = record { front = refl; rest = refl }

pub returns : goal.returns
returns c = let loop = c.loop-level in
    let a = c.args in
    let all : loop.level ≡ 4 = omega arith in
    slice-whole a.w a.h (cleared a.w a.h a.rows.now a.out.now) loop.out (loop.auto.out ∙ c.requires.2)
    (rw all at loop.invariant.front)
