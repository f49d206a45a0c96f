use mathlib.Core.Path.{◌≡◌}
use Prim.Native.Nat.{◌+◌, ◌*◌}
use lib.ListN.{length}
use Rattle.finite.specs.Range.{joined}
use Rattle.fields.specs.Put.{Put}
use Rattle.togrid.specs.Strips.{grid_row}
use Rattle.togrid.proofs.strip.put_rows.Given as goal

abbrev pub invariant-loop-i : goal.invariant-loop-i
invariant-loop-i l =
    (length l.row ≡ 67)
    × Put (joined l.i (λ i. grid_row l.w l.h l.rows l.numbers (2 * l.first + i))) l.at l.initial.out l.to l.out
