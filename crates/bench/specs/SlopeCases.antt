-- Document 02, Two: cases of the slopes, on 1 by 1 tables whose slopes can be worked by hand. Each says what a point
-- reads, and its slopes along u and along v, as numerators over D and over D/16.
use Rattle.std.specs.Prelude.{◌≡◌, List, ◌∷◌, [], ◌++◌, ℕ, ◌+◌, ◌-◌, ◌*◌, ◌/◌, ◌^◌, ℤ, pos, neg_ℤ, replicate}
use Rattle.surface.specs.Truncation.{D}
use Rattle.surface.specs.Calls.{gives, refused}
use Rattle.surface.specs.Slopes.{slope_d, slopes_outcome}
use Rattle.bench.specs.Bench.{rows, zeros, flat, S}

-- The slopes at (u, v) are these.
pub record SlopesAre (t : List ℕ) (cs : List ℤ) (u v : ℕ) (watts along_u along_v : ℤ) : Type 0 where
  pub given : slopes_outcome 1 1 t cs u v ≡ gives (record { watts = watts; along_u = along_u; along_v = along_v })

-- Only function (−2, 0) of level 0 is 1: its index is 1 along u and 3 along v, where the splines are 3t³−6t²+4 and t³,
-- each over 6.
abbrev pub one : List ℤ
one = zeros 13 ++ (pos 1 ∷ zeros 197)

-- Only function (0, 0) of level 0 is 1, t³ over 6 in both directions.
abbrev pub last : List ℤ
last = zeros 15 ++ (pos 1 ∷ zeros 195)

-- All of level 3.
abbrev pub finest : List ℕ
finest = 4 ∷ 4 ∷ 4 ∷ 3 ∷ replicate 9 0

-- There, −32,000 watts in the first two columns and 32,000 in the other nine, equal in all rows; and the same along v.
abbrev pub steep_u : List ℤ
steep_u = zeros 90 ++ rows 11 (replicate 2 (neg_ℤ (pos 8388608000)) ++ replicate 9 (pos 8388608000))

abbrev pub steep_v : List ℤ
steep_v = zeros 90 ++ (replicate 22 (pos 8388608000) ++ replicate 99 (neg_ℤ (pos 8388608000)))

pub record SlopeCases : Type 0 where
  -- S rises 1,000 watts for a cell along u, so 125 for an eighth of one, and not along v: at a point inside, at the far
  -- edges and at the sheet's corner.
  pub plane : SlopesAre flat S 37 90 (pos (1000 * 37 * (D / 128))) (pos (125 * slope_d)) (pos 0)
  pub far_edge : SlopesAre flat S 128 5 (pos (1000 * D)) (pos (125 * slope_d)) (pos 0)
  pub far_corner : SlopesAre flat S 128 128 (pos (1000 * D)) (pos (125 * slope_d)) (pos 0)
  pub corner : SlopesAre flat S 0 0 (pos 0) (pos (125 * slope_d)) (pos 0)
  -- Inside a cell, where it bends: 9t²−12t along u and 3t² along v, t being 5/128 and 77/128.
  pub bent :
      SlopesAre flat one 5 77 (pos 3821082142339) (neg_ℤ (pos ((12 * 5 * 128 - 9 * 5 ^ 2) * 77 ^ 3)))
      (pos ((3 * 5 ^ 3 + 4 * 128 ^ 3 - 6 * 5 ^ 2 * 128) * (3 * 77 ^ 2)))
  -- "At the far edges the last cell's polynomial counts": 3t² over 6 at t = 1, in both directions.
  pub last_cell : SlopesAre flat last 128 128 (pos (128 ^ 6)) (pos (3 * 128 ^ 5)) (pos (3 * 128 ^ 5))
  -- A refined table: of level 3 throughout, each coefficient 7 but for function (0, 0), which has 5 more. At (1, 1)
  -- that one's splines are t³, t being 1/16; the level 0 coefficients are all 0.
  pub refined :
      SlopesAre finest (zeros 90 ++ (replicate 36 (pos 7) ++ (pos 12 ∷ replicate 84 (pos 7)))) 1 1
      (pos (7 * (36 * 2 ^ 24) + 5)) (pos 15) (pos 15)
  -- The steepest there is (SlopesFit), at the middle of the first cell of level 3: 48,000 watts, up along u and down
  -- along v.
  pub steepest : SlopesAre finest steep_u 8 8 (pos 0) (pos (48000 * slope_d)) (pos 0)
  pub steepest_down : SlopesAre finest steep_v 8 8 (pos 0) (pos 0) (neg_ℤ (pos (48000 * slope_d)))
  -- "Checks are those of a float reading": a point off the sheet, and with it a tree that is not of the form.
  pub off_sheet : slopes_outcome 1 1 flat S 129 5 ≡ refused 6
  pub lowest : slopes_outcome 1 1 (5 ∷ []) S 129 5 ≡ refused 2
