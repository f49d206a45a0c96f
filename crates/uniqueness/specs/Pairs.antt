-- Why one tree, exact readings and so many points are asked for: three pairs of tables of the sheet 1 by 1, each
-- without one of these. They agree, and have other coefficients. Proved in proofs/Pairs.antt.
use Rattle.std.specs.Prelude.{◌≡◌, true, List, [], ◌∷◌, ◌++◌, ℕ, ◌%◌, ℤ, pos, negsuc, replicate}
use Rattle.finite.specs.Range.{joined}
use Rattle.surface.specs.Sheet.{on_sheet}
use Rattle.surface.specs.Table.{Acceptable}
use Rattle.surface.specs.Calls.{gives, exact_outcome, display_outcome}
use Rattle.uniqueness.specs.OneSurface.{Agree}

-- The tree of that sheet all at level n, 1 to 3.
abbrev pub whole_at : ℕ → List ℕ
whole_at n = 4 ∷ 4 ∷ 4 ∷ n ∷ replicate 9 0

-- ---- the same readings over two trees

-- Sixteen coefficients of level 0, each 7 watts.
abbrev pub sevens : List ℤ
sevens = replicate 16 (pos 7) ++ replicate 195 (pos 0)

-- Twenty-five coefficients of level 1, each 448/64 watts.
abbrev pub sevens_finer : List ℤ
sevens_finer = replicate 16 (pos 0) ++ (replicate 25 (pos 448) ++ replicate 170 (pos 0))

pub record OtherTree : Type 0 where
  pub first : Acceptable 1 1 (0 ∷ []) sevens
  pub second : Acceptable 1 1 (whole_at 1) sevens_finer
  pub agree : Agree 1 1 (0 ∷ []) sevens (whole_at 1) sevens_finer
  pub differ : sevens ≡ sevens_finer → ⊥

-- ---- the same readings every 16 steps

-- Coefficients of level 3, the same eleven in each of its eleven rows.
abbrev pub rows_of : List ℤ → List ℤ
rows_of row = replicate 90 (pos 0) ++ joined 11 (λ _. row)

abbrev pub zeros : List ℤ
zeros = rows_of (replicate 11 (pos 0))

-- Coefficients of a spline that is 0 at each knot of level 3, where three splines are 1, 4 and 1 over 6: each is minus
-- four times the one before it, minus the one before that.
abbrev pub vanishing : List ℤ
vanishing =
    pos 1 ∷ pos 0 ∷ negsuc 0 ∷ pos 4 ∷ negsuc 14 ∷ pos 56 ∷ negsuc 208 ∷ pos 780 ∷ negsuc 2910 ∷ pos 10864
    ∷ negsuc 40544 ∷ []

-- They agree at every point whose u is a knot of level 3, so at every corner of a cell of level 3, and not half way
-- between two of them.
pub record OtherPoints : Type 0 where
  pub first : Acceptable 1 1 (whole_at 3) (rows_of vanishing)
  pub second : Acceptable 1 1 (whole_at 3) zeros
  pub agree : (u v : ℕ) → on_sheet 1 1 u v ≡ true → u % 16 ≡ 0
      → exact_outcome 1 1 (whole_at 3) (rows_of vanishing) u v ≡ exact_outcome 1 1 (whole_at 3) zeros u v
  pub between : exact_outcome 1 1 (whole_at 3) (rows_of vanishing) 8 0 ≡ exact_outcome 1 1 (whole_at 3) zeros 8 0 → ⊥
  pub differ : rows_of vanishing ≡ zeros → ⊥

-- ---- the same whole watts

-- Coefficients of 31/64 watt, in units of 1/64^3 watt.
abbrev pub standby_number : ℕ
standby_number = 126976

abbrev pub standby : List ℤ
standby = rows_of (replicate 11 (pos standby_number))

-- A display shows 0 at every point of either.
pub record OtherWatts : Type 0 where
  pub first : Acceptable 1 1 (whole_at 3) standby
  pub second : Acceptable 1 1 (whole_at 3) zeros
  pub shown : (u v : ℕ) → on_sheet 1 1 u v ≡ true
      → (display_outcome 1 1 (whole_at 3) standby u v ≡ gives (pos 0))
      × (display_outcome 1 1 (whole_at 3) zeros u v ≡ gives (pos 0))
  pub differ : standby ≡ zeros → ⊥
