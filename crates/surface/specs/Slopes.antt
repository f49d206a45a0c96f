-- Document 02, Two: "One record holds the watts and both slopes as f64. Slopes are in watts per eighth of a cell, along
-- u and along v. Each lies within 2^-20 of the exact derivative of the surface, worked as a fraction." That these are
-- the derivatives, and what else is claimed of them, is stated in Derivatives.
use Rattle.std.specs.Prelude.{cond, List, [], ◌∷◌, ℕ, ◌+◌, ◌-◌, ◌*◌, ◌/◌, ◌^◌, ℤ, pos, neg_ℤ, ◌-ℤ◌, ◌*ℤ◌, leb, Float, get_or}
use Rattle.surface.specs.Sheet.{steps}
use Rattle.surface.specs.Spline.{cell_of, spline_at}
use Rattle.surface.specs.Truncation.{D}
use Rattle.surface.specs.Table.{table_sum, table_reading}
use Rattle.surface.specs.Calls.{Answer, answer, reading_cause}
use Rattle.surface.specs.FloatReading.{Near, Meets}

-- ---- the derivatives of the splines

-- Of "(1−t)³, 3t³−6t²+4, −3t³+3t²+3t+1 and t³, each over 6" the derivatives in t are −3(1−t)², 9t²−12t, −9t²+6t+3 and
-- 3t², each over 6. The k-th at t = r/s, times 6s².
unfoldable pub piece_slope : ℕ → ℕ → ℕ → ℤ
piece_slope k r s =
    get_or
    (neg_ℤ (pos (3 * (s - r) ^ 2))
    ∷ (pos (9 * r ^ 2) -ℤ pos (12 * (r * s)))
    ∷ (pos (6 * (r * s) + 3 * s ^ 2) -ℤ pos (9 * r ^ 2))
    ∷ pos (3 * r ^ 2)
    ∷ [])
    k
    (pos 0)

-- The derivative at u of the spline with index a of level L, by the polynomials of the level L cell c. In t it is over
-- 6×(steps L)²; a cell has `steps L` steps, so that per step it is over 6×(steps L)³, as the spline itself is.
abbrev pub slope_in : ℕ → ℕ → ℕ → ℕ → ℤ
slope_in L c a u = cond (leb c a) (piece_slope (a - c) (u - c * steps L) (steps L)) (pos 0)

-- By the cell that holds the point: "At the far edges the last cell's polynomial counts."
unfoldable pub slope_at : ℕ → ℕ → ℕ → ℕ → ℤ
slope_at n L a u = slope_in L (cell_of n L u) a u

-- ---- the derivatives of the surface

-- A function (a, b) of level L at (u, v) is a product of two splines: its derivative along u, and along v.
abbrev pub slope_u : ℕ → ℕ → ℕ → ℕ → ℕ → ℕ → ℕ → ℤ
slope_u W H u v L a b = slope_at W L a u *ℤ pos (spline_at H L b v)

abbrev pub slope_v : ℕ → ℕ → ℕ → ℕ → ℕ → ℕ → ℕ → ℤ
slope_v W H u v L a b = pos (spline_at W L a u) *ℤ slope_at H L b v

-- "in watts per eighth of a cell": an eighth is 16 steps, so n/D watts per step are n/(D/16) watts per eighth.
abbrev pub slope_d : ℕ
slope_d = D / 16

-- "the exact derivative of the surface, worked as a fraction", along u and along v: the active coefficients times the
-- derivatives of their truncated functions, as numerators over D/16; beside them the exact reading, over D.
pub record ExactSlopes : Type 0 where
  pub watts : ℤ
  pub along_u : ℤ
  pub along_v : ℤ

abbrev pub table_slopes : ℕ → ℕ → List ℕ → List ℤ → ℕ → ℕ → ExactSlopes
table_slopes W H t cs u v =
    record {
      watts = table_reading W H t cs u v;
      along_u = table_sum W H t cs (slope_u W H u v);
      along_v = table_sum W H t cs (slope_v W H u v);
    }

-- ---- the call

-- "Checks are those of a float reading."
unfoldable pub slopes_outcome : ℕ → ℕ → List ℕ → List ℤ → ℕ → ℕ → Answer ExactSlopes
slopes_outcome W H t cs u v = answer (reading_cause W H t cs u v) (table_slopes W H t cs u v)

-- "One record holds the watts and both slopes as f64."
pub record FloatSlopes : Type 0 where
  pub watts : Float
  pub along_u : Float
  pub along_v : Float

-- "Watts keep the bound of 2^-30"; each slope "lies within 2^-20".
pub record NearSlopes (e : ExactSlopes) (x : FloatSlopes) : Type 0 where
  pub watts : Near (2 ^ 30) D e.watts x.watts
  pub along_u : Near (2 ^ 20) slope_d e.along_u x.along_u
  pub along_v : Near (2 ^ 20) slope_d e.along_v x.along_v

-- The record that goes with an exact outcome: each of its numbers lies within its bound.
abbrev pub SlopesMeet : Answer ExactSlopes → Answer FloatSlopes → Type 0
SlopesMeet = Meets NearSlopes
