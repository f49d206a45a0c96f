-- Grids of the full-grid dialect on a sheet of 1 by 1, which compute: what a reader can work by hand from documents 01
-- and 02. A wrong definition is tried on these, beside it.
use mathlib.Core.Path.{◌≡◌, refl, ap}
use mathlib.Core.List.{List, [], ◌∷◌, ◌++◌}
use Prim.Native.Nat.{ℕ}
use lib.IntN.{ℤ, pos, neg_ℤ}
use lib.ListN.{replicate, take, drop}
use Rattle.finite.specs.Range.{sum, every, least, table_from, rows_from, joined}
use Rattle.surface.specs.Sheet.{eighths}
use Rattle.surface.specs.Quadtree.{parse, well_formed, level_at}
use Rattle.surface.specs.Support.{least_under}
use Rattle.surface.specs.Truncation.{weight}
use Rattle.surface.specs.Carry.{carried}
use Rattle.surface.specs.Table.{levels, start, coefficients, within_limits, passive_zero, region_cause, table_cause}
use Rattle.surface.specs.Calls.{Answer, refused, gives}
use Rattle.surface.specs.Fields.{Judged, declined, contains, field, all_within}
use Rattle.surface.specs.TableFile.{Sides, sides_field}
use Rattle.surface.specs.Grid.{grid_file, grid_of, write_grid_cause, write_grid_outcome, Grid, grid_field}
use Rattle.surface.specs.Grid.{grid_contents, Converted, no_table, the_table, read_grid_cause, read_grid_outcome}

-- ---- towards the grid

-- the tree of the whole sheet at level 2, and one level 2 coefficient of 1/64^2 watt, function (−2, −3)'s
abbrev level_two : List ℕ
level_two = 4 ∷ 4 ∷ 4 ∷ 2 ∷ replicate 9 0

abbrev one_of_two : List ℤ
one_of_two = replicate 42 (pos 0) ++ (pos 1 ∷ replicate 168 (pos 0))

-- Its level 3 functions are 0 to 3 of the first row, and of the second: weights 4, 6, 4, 1 times 4, then times 1.
pub grid-carried : take 13 (grid_of 1 1 level_two one_of_two)
    ≡ pos 16 ∷ pos 24 ∷ pos 16 ∷ pos 4 ∷ (replicate 7 (pos 0) ++ (pos 4 ∷ pos 6 ∷ []))
unfolding grid_of rows_from table_from carried sum weight least_under least eighths levels level_at parse coefficients start
grid-carried = refl

-- "sheet, then every level 3 coefficient, as tags 1 and 19 only": five bytes each, high byte first
pub grid-written : (grid_file 1 1 (neg_ℤ (pos 2) ∷ pos 258 ∷ replicate 119 (pos 0))
    ≡ 1 ∷ 0 ∷ 2 ∷ 1 ∷ 1 ∷ 19 ∷ 2 ∷ 93 ∷ 255 ∷ 255 ∷ 255 ∷ 255 ∷ 254 ∷ 0 ∷ 0 ∷ 0 ∷ 1 ∷ 2 ∷ replicate 595 0)
    × (take 8 (grid_file 2 1 (replicate 209 (pos 0))) ≡ 1 ∷ 0 ∷ 2 ∷ 2 ∷ 1 ∷ 19 ∷ 4 ∷ 21 ∷ [])
unfolding grid_file joined
grid-written = (refl, refl)

abbrev flat : List ℕ
flat = 0 ∷ []

abbrev zeros : List ℤ
zeros = replicate 211 (pos 0)

-- "A grid output too short gives 18, judged last": an active coefficient past its limit, and a passive one that is not
-- 0, come before it
pub eighteen-last : (write_grid_cause 1 1 flat (pos 32001 ∷ replicate 210 (pos 0)) [] ≡ 4)
    × (write_grid_cause 1 1 flat (replicate 210 (pos 0) ++ (pos 1 ∷ [])) [] ≡ 5)
    × (write_grid_cause 1 1 flat zeros (replicate 612 7) ≡ 18)
unfolding write_grid_cause table_cause region_cause within_limits passive_zero every least_under least eighths levels level_at
    parse well_formed start coefficients grid_file grid_of joined rows_from table_from carried sum weight
eighteen-last = (refl, refl, refl)

-- "the grid's length in bytes is returned"; "bytes past the grid are untouched"
pub past-the-grid : ((write_grid_outcome 1 1 flat zeros (replicate 615 7)).result ≡ gives 613)
    × (drop 613 (write_grid_outcome 1 1 flat zeros (replicate 615 7)).after ≡ 7 ∷ 7 ∷ [])
unfolding write_grid_outcome write_grid_cause table_cause region_cause within_limits passive_zero every least_under least eighths
    levels level_at parse well_formed start coefficients grid_file grid_of joined rows_from table_from carried sum weight
past-the-grid = (refl, refl)

-- ---- a grid in byte order

-- the sides, and the head of tag 19
abbrev sheet : List ℕ
sheet = 1 ∷ 0 ∷ 2 ∷ 1 ∷ 1 ∷ []

-- a grid whose first number has these five bytes and whose others are 0, and what stands after it
abbrev grid_then : List ℕ → List ℕ → List ℕ
grid_then first after = sheet ++ 19 ∷ 2 ∷ 93 ∷ first ++ replicate 600 0 ++ after

abbrev five : ℕ → ℕ → ℕ → ℕ → ℕ → List ℕ
five a b c d e = a ∷ b ∷ c ∷ d ∷ e ∷ []

abbrev grid_with : ℤ → Grid
grid_with z = record { W = 1; H = 1; numbers = z ∷ replicate 120 (pos 0) }

-- "Grid coefficients past their limit give 4": 32,000×64^3 is within it and one more is not, also below zero; that is
-- judged with the contents, before what stands after them.
pub limit-judged : (grid_contents (grid_then (five 1 244 0 0 0) []) ≡ contains (grid_with (pos 8388608000)))
    × (grid_contents (grid_then (five 1 244 0 0 1) []) ≡ declined 4)
    × (grid_contents (grid_then (five 254 12 0 0 0) []) ≡ contains (grid_with (neg_ℤ (pos 8388608000))))
    × (grid_contents (grid_then (five 254 11 255 255 255) (9 ∷ [])) ≡ declined 4)
unfolding grid_contents sides_field grid_field field all_within every table_from
limit-judged = (refl, refl, refl, refl)

-- the grid of the table whose coefficients are all 0
pub zeros-judged : grid_contents (grid_then (replicate 5 0) []) ≡ contains (grid_with (pos 0))
unfolding grid_contents sides_field grid_field field all_within every table_from
zeros-judged = refl

-- "tags 1 and 19 only": a tree, counts or a field of level 0 after the sides is 13, a note after the grid 15; another
-- length is 14, before a body that is not whole, which is 12; the sides are judged first.
pub tags-judged : (grid_contents (sheet ++ 2 ∷ 0 ∷ 1 ∷ 0 ∷ []) ≡ declined 13)
    × (grid_contents (sheet ++ 3 ∷ 0 ∷ 8 ∷ replicate 8 0) ≡ declined 13)
    × (grid_contents (sheet ++ 16 ∷ 2 ∷ 93 ∷ replicate 605 0) ≡ declined 13)
    × (grid_contents (grid_then (replicate 5 0) (32 ∷ 0 ∷ 0 ∷ [])) ≡ declined 15)
    × (grid_contents (sheet ++ 19 ∷ 2 ∷ 92 ∷ []) ≡ declined 14)
    × (grid_contents (sheet ++ 19 ∷ 2 ∷ 94 ∷ replicate 606 0) ≡ declined 14)
    × (grid_contents (sheet ++ 19 ∷ 2 ∷ 93 ∷ replicate 604 0) ≡ declined 12)
    × (grid_contents sheet ≡ declined 12)
    × (grid_contents (1 ∷ 0 ∷ 2 ∷ 1 ∷ 9 ∷ 3 ∷ []) ≡ declined 1)
unfolding grid_contents sides_field grid_field field all_within every table_from
tags-judged = (refl, refl, refl, refl, refl, refl, refl, refl, refl)

-- ---- from a grid

-- "after the checks of both inputs, ... and before 16": 2, then 21, then 16
pub read-order : (read_grid_cause 1 1 (5 ∷ []) no_table [] ≡ 2)
    × (read_grid_cause 1 1 flat no_table [] ≡ 21)
    × (read_grid_cause 1 1 flat no_table zeros ≡ 21)
    × (read_grid_cause 1 1 flat (the_table zeros) [] ≡ 16)
    × (read_grid_cause 1 1 flat (the_table zeros) zeros ≡ 0)
unfolding start well_formed parse level_at
read-order = (refl, refl, refl, refl, refl)

-- what reading a grid over a tree answers, by which table there is
abbrev answer-by : Judged Grid → List ℕ → Converted → List ℤ → Answer Sides
answer-by j t c out = (read_grid_outcome j t c out).result

abbrev answered : List ℕ → List ℕ → Converted → List ℤ → Answer Sides
answered file t c out = answer-by (grid_contents file) t c out

-- "the grid's first": what a grid is declined for comes before 2; "W and H are returned"
pub grid-first : (answered (grid_then (five 1 244 0 0 1) []) (5 ∷ []) no_table [] ≡ refused 4)
    × (answered (grid_then (replicate 5 0) (32 ∷ 0 ∷ 0 ∷ [])) (5 ∷ []) no_table [] ≡ refused 15)
    × (answered (grid_then (five 1 244 0 0 0) []) (5 ∷ []) no_table [] ≡ refused 2)
    × (answered (grid_then (replicate 5 0) []) flat (the_table zeros) zeros ≡ gives (record { W = 1; H = 1 }))
unfolding start well_formed parse level_at
grid-first = (
  ap (λ j. answer-by j (5 ∷ []) no_table []) limit-judged.1,
  ap (λ j. answer-by j (5 ∷ []) no_table []) tags-judged.3,
  ap (λ j. answer-by j (5 ∷ []) no_table []) limit-judged.0,
  ap (λ j. answer-by j flat (the_table zeros) zeros) zeros-judged,
)
