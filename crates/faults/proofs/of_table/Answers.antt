-- Before each turn the flags say the faults of the levels below.
use mathlib.Core.Path.{refl}
use Rattle.faults.proofs.FaultLaws.{none-lost, lost-more}
use Rattle.faults.proofs.of_table.Goals as goal

pub loop-level-preserved : goal.loop-level-preserved
loop-level-preserved c = let loop = c.loop-level in (
  lost-more loop.level _ loop.invariant.0 c.of_level-found.ensures.limited refl,
  lost-more loop.level _ loop.invariant.1 c.of_level-found.ensures.zeroed refl,
)

pub loop-level-init : goal.loop-level-init
loop-level-init c = (none-lost _ c.default-faults.ensures.0, none-lost _ c.default-faults.ensures.1)
