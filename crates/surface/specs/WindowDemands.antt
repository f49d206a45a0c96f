-- Demand 1 of both calls of a window: which numbers each refuses with, and that a refused record leaves the slice.
use Rattle.std.specs.Prelude.{List, [], ◌∷◌, ℤ}
use Rattle.surface.specs.Window.{WindowState, record_outcome, figures_outcome}
use Rattle.surface.specs.Demands.{RefusesWith, WritesSliceOrNothing}

pub record WindowRefusals : Type 0 where
  pub add_record : (window : List ℤ) (s : WindowState) (watts : ℤ)
      → WritesSliceOrNothing (22 ∷ 23 ∷ []) (record_outcome window s watts) window
  pub window_figures : (window : List ℤ) (s : WindowState) → RefusesWith (22 ∷ []) (figures_outcome window s)
