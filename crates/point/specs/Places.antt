-- Where a point lies in its cell of a level.
use Rattle.std.specs.Prelude.{◌≡◌, ℕ, ◌-◌, ◌*◌, ◌≤◌}
use Rattle.surface.specs.Sheet.{steps}
use Rattle.surface.specs.Spline.{cell_of}
use Rattle.point.specs.declared.cell.Place.{Place}

pub record PlaceOf (W H L u v : ℕ) (p : Place) : Type 0 where
  pub side : p.steps ≡ steps L
  pub into_u : p.r ≡ u - cell_of W L u * steps L
  pub into_v : p.s ≡ v - cell_of H L v * steps L
  pub within_u : p.r ≤ p.steps
  pub within_v : p.s ≤ p.steps
