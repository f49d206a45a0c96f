use Prim.Native.Nat.{◌+◌, ◌<◌}
use Rattle.surface.specs.Sheet.{functions}
use Rattle.rows.specs.Rows.{levels_of}
use Rattle.coarsening.specs.Coarser.{cell_at, finer, Backed}
use Rattle.coarsening.proofs.back_level.Given as goal

abbrev pub invariant-loop-y : goal.invariant-loop-y
invariant-loop-y l =
    Backed l.w l.h (levels_of l.rows) l.level (finer l.level l.body l.fine (functions l.w (l.level + 1)))
    (λ q r. cell_at l.level r < l.y) l.coarse
