-- What evaluating a patch gives.
use Rattle.std.specs.Prelude.{◌≡◌, List, ℕ, ◌*◌, ◌<◌, ℤ, pos, ◌*ℤ◌}
use Rattle.finite.specs.Range.{sum2}
use Rattle.surface.specs.Sheet.{steps}
use Rattle.surface.specs.Spline.{piece}
use Rattle.surface.specs.Slopes.{piece_slope, ExactSlopes}
use Rattle.surface.specs.Table.{limit}
use Rattle.patch.specs.Patches.{entry, Bounded}
use Rattle.evaluation.specs.declared.Slopes.{Slopes}

-- a patch of the level with n steps to a cell, whose limit its entries keep
abbrev pub OfLevel : ℕ → List (List ℤ) → Type 0
OfLevel n p = (L : ℕ) × (L < 4) × (n ≡ steps L) × Bounded (limit L) p

-- the sixteen entries times the sixteen splines of that level
abbrev pub Evaluated : ℕ → List (List ℤ) → ℕ → ℕ → ℤ → Type 0
Evaluated n p r s x = x ≡ sum2 4 4 (λ k l. pos (piece k r n * piece l s n) *ℤ entry p k l)

-- the same with the derivatives of the splines of one direction, beside the value
pub record SlopesEvaluated (n : ℕ) (p : List (List ℤ)) (r s : ℕ) (x : Slopes) : Type 0 where
  pub watts : Evaluated n p r s x.watts
  pub along_u : x.along_u ≡ sum2 4 4 (λ k l. piece_slope k r n *ℤ pos (piece l s n) *ℤ entry p k l)
  pub along_v : x.along_v ≡ sum2 4 4 (λ k l. pos (piece k r n) *ℤ piece_slope l s n *ℤ entry p k l)

-- what such a record is for document 02
abbrev pub exact_slopes : Slopes → ExactSlopes
exact_slopes x = record { watts = x.watts; along_u = x.along_u; along_v = x.along_v }
