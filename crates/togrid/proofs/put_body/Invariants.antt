use Prim.Native.Nat.{◌*◌}
use Rattle.finite.specs.Range.{joined}
use Rattle.fields.specs.Put.{Put}
use Rattle.togrid.specs.Strips.{grid_row}
use Rattle.togrid.proofs.put_body.Given as goal

abbrev pub invariant-loop-y : goal.invariant-loop-y
invariant-loop-y l = Put (joined (8 * l.y) (grid_row l.w l.h l.rows l.numbers)) l.at l.initial.out l.to l.out
