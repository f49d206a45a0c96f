use mathlib.Core.Path.{◌≡◌}
use Prim.Native.Nat.{◌+◌, ◌*◌}
use Rattle.carry.specs.Carried.{RowsOf}
use Rattle.togrid.specs.Strips.{value}
use Rattle.togrid.proofs.strip.fill_window.Given as goal

abbrev pub invariant-loop-i : goal.invariant-loop-i
invariant-loop-i l =
    (l.from ≡ l.i * l.n)
    × RowsOf l.n l.i (2 * l.first) (value l.w l.h l.rows l.numbers (l.level + 1)) l.out
