-- Each entry by its region, its own coefficient and the subdivided value.
use mathlib.Core.Path.{◌∙◌}
use Prim.Native.Nat.{◌-◌}
use native.Mathlib.Omega.{arith}
use Rattle.surface.specs.Table.{coefficients}
use Rattle.rows.specs.Rows.{levels_of}
use Rattle.patch.specs.Patches.{entry}
use Rattle.point.proofs.PatchLaws.{next-entry}
use Rattle.point.proofs.step.finer.Goals as goal

pub returns : goal.returns
returns c = λ k l hk hl.
    let a = c.args in
    c.choose_all.ensures k l hk hl
    ∙ next-entry a.w a.h (levels_of a.rows.now) (coefficients a.w a.h a.numbers.now) a.u a.v
    (a.level - 1) a.level k l (omega arith) (entry a.p) c.cell_of-a.result
    c.cell_of-b.result _ hk hl c.cell_of-a.ensures.0 c.cell_of-b.ensures.0
    c.requires.10 (c.near_region-inside.ensures k l hk hl) (c.of_level-own.ensures k l hk hl)
    (c.subdivide-coarse.ensures k l hk hl)
