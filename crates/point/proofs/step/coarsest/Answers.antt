-- The own coefficients of the point's cell.
use mathlib.Core.Path.{ap₂, ◌∙◌}
use Prim.Native.Nat.{◌+◌}
use Rattle.surface.specs.Patch.{patch}
use Rattle.surface.specs.Table.{coefficients}
use Rattle.point.proofs.step.coarsest.Goals as goal

pub returns : goal.returns
unfolding patch
returns c = λ rows k l hk hl.
    let a = c.args in
    c.of_level.ensures k l hk hl
    ∙ ap₂ (λ i j. coefficients a.w a.h a.numbers.now 0 (i + k) (j + l)) c.cell_of-a.ensures.0
    c.cell_of-b.ensures.0
