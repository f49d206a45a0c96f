-- Before each turn the rows below b agree.
use Prim.Native.Nat.{ℕ, ◌+◌, ◌<◌}
use Rattle.surface.specs.Sheet.{functions}
use Rattle.rows.specs.Rows.{levels_of}
use Rattle.coarsening.specs.Coarser.{finer}
use Rattle.fromgrid.specs.Converts.{in_rows, AgreesAt}
use Rattle.fromgrid.proofs.agrees.Given as goal

abbrev pub invariant-loop-b : goal.invariant-loop-b
invariant-loop-b l =
    (j : ℕ) → j < l.b → (a : ℕ) → a < functions l.w (l.level + 1)
    → AgreesAt l.w l.h (levels_of l.rows) l.level (in_rows (functions l.w l.level) l.coarse)
    (finer l.level l.body l.fine (functions l.w (l.level + 1))) a j
