use Prim.Native.Nat.{◌+◌}
use Rattle.surface.specs.Sheet.{functions}
use Rattle.rows.specs.Rows.{levels_of}
use Rattle.coarsening.specs.Coarser.{finer}
use Rattle.coarsening.proofs.RowLaws.{Met}
use Rattle.coarsening.proofs.back_row.Given as goal

abbrev pub invariant-loop-x : goal.invariant-loop-x
invariant-loop-x l =
    Met l.w l.h (levels_of l.rows) l.level (finer l.level l.body l.fine (functions l.w (l.level + 1))) l.y l.waiting
    l.done l.x l.coarse
