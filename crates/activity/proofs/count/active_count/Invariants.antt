use mathlib.Core.Path.{◌≡◌}
use Prim.Native.Nat.{◌*◌, ◌≤◌}
use Rattle.finite.specs.Range.{total}
use Rattle.surface.specs.Support.{active_in_row}
use Rattle.rows.specs.Rows.{levels_of}
use Rattle.activity.proofs.count.active_count.Given as goal

abbrev pub invariant-loop-b : goal.invariant-loop-b
invariant-loop-b l = (l.found ≤ 67 * l.b) × (l.found ≡ total l.b (λ r. active_in_row l.w l.h (levels_of l.rows) l.level r))
