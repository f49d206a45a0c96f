-- The definitions applied to small cases, which compute: what a reader can work by hand from document 01.
use mathlib.Core.Path.{◌≡◌, refl}
use mathlib.Core.Bool.{true, false, ◌&&◌, cond}
use mathlib.Core.List.{List, [], ◌∷◌, ◌++◌}
use Prim.Native.Nat.{ℕ, ◌+◌, ◌*◌, ◌-◌, ◌^◌}
use lib.IntN.{pos, neg_ℤ, ◌-ℤ◌}
use lib.Dec.{leb, ltb}
use lib.ListN.{drop, replicate}
use Rattle.finite.specs.Range.{sum, every, count, total, least, greatest, table_from, joined}
use Rattle.surface.specs.Sheet.{Box, eighths, quarter_of}
use Rattle.surface.specs.Quadtree.{leaf, split, bytes, parse, well_formed, level_at, region_tree, visits}
use Rattle.surface.specs.Support.{least_under, active, active_in_row, active_count, active_before}
use Rattle.surface.specs.Support.{least_where, greatest_where, in_box}
use Rattle.surface.specs.Patch.{stop_level}
use Rattle.surface.specs.Spline.{cell_of, piece, spline_at}
use Rattle.surface.specs.Truncation.{D, weight, truncation, truncated}
use Rattle.surface.specs.Carry.{raised, carried}
use Rattle.surface.specs.Table.{levels, start, coefficients, within_limits, passive_zero, region_cause, table_cause}
use Rattle.surface.specs.Calls.{Answer, refused, gives, whole_watts, cost_of}
use Rattle.surface.specs.Fields.{Judged, declined, Part, holds, field, all_within}
use Rattle.surface.specs.Note.{none, noted, note_field, NotePart, no_part}
use Rattle.surface.specs.TableFile.{sides_field, tree_field, counts_agree, counts_field, level_field, level_fields}
use Rattle.surface.specs.TableFile.{file_contents, FileResult, file_outcome, level_body, counts_body, file_with}
use Rattle.surface.specs.BenchLoading.{bench_outcome}
use Rattle.surface.specs.Saving.{save_cause, save_outcome}
use Rattle.surface.specs.Grid.{grid_reading}

-- ---- the far edge

-- "There the last cell's polynomial is used": at the far edge of one cell the four splines are 0, 1/6, 4/6, 1/6.
pub far-edge : table_from 0 4 (λ a. spline_at 1 0 a 128) ≡ 0 ∷ 128 ^ 3 ∷ 4 * 128 ^ 3 ∷ 128 ^ 3 ∷ []
unfolding table_from spline_at cell_of piece eighths
far-edge = refl

-- ---- activity

-- the box 0,0 to 4,4 raised to level 1 on level 0
abbrev pub corner : Box
corner = record { u0 = 0; v0 = 0; u1 = 4; v1 = 4 }

abbrev pub on_corner : ℕ → ℕ → ℕ
on_corner = raised (λ q r. 0) corner 1

-- Supports are cut to the sheet: on 1 by 1 all of a row of level 1 is active, on 2 by 1 the first two functions.
pub whole_row : table_from {A = ℕ} 0 5 (λ a. cond (active 1 1 on_corner 1 a 0) 1 0) ≡ replicate 5 1
unfolding table_from least_under least eighths
whole_row = refl

pub half-row : table_from {A = ℕ} 0 7 (λ a. cond (active 2 1 on_corner 1 a 0) 1 0) ≡ 1 ∷ 1 ∷ replicate 5 0
unfolding table_from least_under least eighths
half-row = refl

-- ---- truncation

-- 1 by 1, level 1 but for the four quarter squares in the middle, which have level 3. No level 2 function's support
-- lies among those four, and one of level 3 does.
abbrev pub islet : ℕ → ℕ → ℕ
islet q r = cond (leb 1 q && ltb q 3 && (leb 1 r && ltb r 3)) 3 1

-- Function (−1, −1) of level 1, truncated, in the middle: worked by fractions. (Untruncated, and truncated against
-- level 2 only, it is 2^40 there.)
pub three-levels : truncated 1 1 islet 64 64 2 1 2 2 ≡ pos 579820584960
unfolding truncation sum least_under least eighths weight spline_at cell_of piece
three-levels = refl

-- ---- carrying

-- S's columns −1,000, 0, 1,000, 2,000 become −32,000, 0, 32,000, 64,000, 96,000 at level 1.
pub carried_row : table_from 0 5 (λ a. carried 1 1 (λ q r. 0) (λ L c d. pos (1000 * c) -ℤ pos 1000) 1 a 0)
    ≡ neg_ℤ (pos 32000) ∷ pos 0 ∷ pos 32000 ∷ pos 64000 ∷ pos 96000 ∷ []
unfolding table_from carried least_under least eighths weight sum
carried_row = refl

-- ---- trees

-- "four children that are equal leaves are not allowed": a square of one level is one leaf
pub merged-tree : bytes (region_tree 2 0 0 on_corner) ≡ 1 ∷ []
unfolding bytes region_tree
merged-tree = refl

-- the corner's square of side 8: a split of one leaf of level 1 and three of level 0
pub corner-tree : bytes (region_tree 3 0 0 on_corner) ≡ 4 ∷ 1 ∷ 0 ∷ 0 ∷ 0 ∷ []
unfolding bytes region_tree
corner-tree = refl

-- of the corner's tree the root and the south-west child are visited for the corner; no child only touched by the box
pub visited-corner : visits corner 3 0 0 (split (leaf 1) (leaf 0) (leaf 0) (leaf 0)) ≡ 2
unfolding visits
visited-corner = refl

-- for the whole square all five nodes are, though the first child has level 0
pub no-early-stop : visits (record { u0 = 0; v0 = 0; u1 = 8; v1 = 8 }) 3 0 0 (split (leaf 0) (leaf 1) (leaf 0) (leaf 0))
    ≡ 5
unfolding visits level_at
no-early-stop = refl

-- ---- the greatest level

-- Under the sheet's westernmost column of quarter squares lies level 1 alone, though level 3 lies beside it; under the
-- four at the sheet's corner lie 1 and 3.
pub under-boxes : (greatest_where 1 1 islet (in_box (record { u0 = 0; v0 = 0; u1 = 1; v1 = 4 })) ≡ 1)
    × (greatest_where 1 1 islet (in_box (record { u0 = 0; v0 = 0; u1 = 2; v1 = 2 })) ≡ 3)
    × (least_where 1 1 islet (in_box (record { u0 = 0; v0 = 0; u1 = 2; v1 = 2 })) ≡ 1)
unfolding greatest least
under-boxes = (refl, refl, refl)

-- "on a shared edge the one of greater u or v, at a far edge the last": before, on and after the edge of two quarters
pub shared-edge : table_from 31 3 (λ u. quarter_of 1 u) ≡ 0 ∷ 1 ∷ 1 ∷ []
unfolding table_from
shared-edge = refl

pub far-quarter : table_from 127 2 (λ u. quarter_of 1 u) ≡ 3 ∷ 3 ∷ []
unfolding table_from
far-quarter = refl

-- so a reading stops at level 3 on the edge towards the middle, and at level 1 before it and at the far edge
pub stops : (stop_level 1 1 islet 32 32 ≡ 3) × (stop_level 1 1 islet 31 32 ≡ 1) × (stop_level 1 1 islet 128 64 ≡ 1)
unfolding greatest
stops = (refl, refl, refl)

-- ---- rounding

-- "halves upward, also below zero (−0.5 gives 0)": −1.5 gives −1, what lies below it −2, and a half 1
pub rounded : (whole_watts (neg_ℤ (pos (18 * 2 ^ 42))) ≡ pos 0)
    × (whole_watts (neg_ℤ (pos (54 * 2 ^ 42))) ≡ neg_ℤ (pos 1))
    × (whole_watts (neg_ℤ (pos (54 * 2 ^ 42 + 1))) ≡ neg_ℤ (pos 2))
    × (whole_watts (pos (18 * 2 ^ 42)) ≡ pos 1)
unfolding whole_watts
rounded = (refl, refl, refl, refl)

-- "rounded once": 31/64 watt at 99,999 is 48.4 and costs 48, 3/4 watt at 600 is 0.45 and costs 0, half a watt at 2,999
-- is 1.4995 and costs 1; "halves upward": 1/4 watt at 2,000 costs 1 and what lies below it 0; "Exact readings of zero
-- or less still cost 0", also 1/64 watt below; 32,000 watts at 99,999, whose product no 64 bits hold
pub priced : (cost_of (pos (36 * 31 * 2 ^ 36)) 99999 ≡ 48)
    × (cost_of (pos (27 * 2 ^ 42)) 600 ≡ 0)
    × (cost_of (pos (18 * 2 ^ 42)) 2999 ≡ 1)
    × (cost_of (pos (9 * 2 ^ 42)) 2000 ≡ 1)
    × (cost_of (pos (9 * 2 ^ 42 - 1)) 2000 ≡ 0)
    × (cost_of (pos 0) 99999 ≡ 0)
    × (cost_of (neg_ℤ (pos (36 * 2 ^ 36))) 99999 ≡ 0)
    × (cost_of (pos (32000 * D)) 99999 ≡ 3199968)
priced = (refl, refl, refl, refl, refl, refl, refl, refl)

-- ---- the counts in a file

-- "levels 0 to 3", "high byte first": on 1 by 1 at level 0 sixteen functions of level 0 are active
abbrev pub sixteen : List ℕ
sixteen = 0 ∷ 16 ∷ 0 ∷ 0 ∷ 0 ∷ 0 ∷ 0 ∷ 0 ∷ []

pub counts-written : counts_body (active_count 1 1 (λ q r. 0)) ≡ sixteen
unfolding counts_body joined active_count active_in_row total count least_under least eighths
counts-written = refl

abbrev judged_flat : List ℕ → Judged (Part (List ℕ))
judged_flat = counts_field (active_count 1 1 (λ q r. 0))

-- What stands after the field is left; a count of one more, and the bytes or the levels in another order, are 20; a
-- body that is not whole is 12 before it, another length 14; another tag is left for the levels.
pub counts-judged : (judged_flat (3 ∷ 0 ∷ 8 ∷ sixteen ++ 16 ∷ []) ≡ holds sixteen (16 ∷ []))
    × (judged_flat (3 ∷ 0 ∷ 8 ∷ 0 ∷ 16 ∷ 0 ∷ 0 ∷ 0 ∷ 0 ∷ 0 ∷ 1 ∷ []) ≡ declined 20)
    × (judged_flat (3 ∷ 0 ∷ 8 ∷ 16 ∷ 0 ∷ 0 ∷ 0 ∷ 0 ∷ 0 ∷ 0 ∷ 0 ∷ []) ≡ declined 20)
    × (judged_flat (3 ∷ 0 ∷ 8 ∷ 0 ∷ 0 ∷ 0 ∷ 0 ∷ 0 ∷ 0 ∷ 0 ∷ 16 ∷ []) ≡ declined 20)
    × (judged_flat (3 ∷ 0 ∷ 8 ∷ 0 ∷ 17 ∷ []) ≡ declined 12)
    × (judged_flat (3 ∷ 0 ∷ 7 ∷ sixteen) ≡ declined 14)
    × (judged_flat (16 ∷ 3 ∷ []) ≡ holds [] (16 ∷ 3 ∷ []))
unfolding counts_field counts_agree field active_count active_in_row every total count least_under least eighths
counts-judged = (refl, refl, refl, refl, refl, refl, refl)

-- ---- the note in a file

-- Nothing, or another byte, is left for the end; a note of no bytes is not none, and what follows a note is left; a
-- head or a body that is not whole is 12, a length above 64 is 14 before it, and 64 bytes are a note.
pub note-judged : (note_field [] ≡ holds none [])
    × (note_field (31 ∷ []) ≡ holds none (31 ∷ []))
    × (note_field (32 ∷ 0 ∷ 0 ∷ []) ≡ holds (noted []) [])
    × (note_field (32 ∷ 0 ∷ 2 ∷ 7 ∷ 8 ∷ 32 ∷ []) ≡ holds (noted (7 ∷ 8 ∷ [])) (32 ∷ []))
    × (note_field (32 ∷ 0 ∷ []) ≡ declined 12)
    × (note_field (32 ∷ 0 ∷ 2 ∷ 7 ∷ []) ≡ declined 12)
    × (note_field (32 ∷ 0 ∷ 65 ∷ []) ≡ declined 14)
    × (note_field (32 ∷ 0 ∷ 64 ∷ replicate 64 7) ≡ holds (noted (replicate 64 7)) [])
unfolding note_field field
note-judged = (refl, refl, refl, refl, refl, refl, refl, refl)

-- the file of a 1 by 1 table of zeros without the counts, 101 bytes, and these after it
abbrev zeros_then : List ℕ → List ℕ
zeros_then x = file_with false none 1 1 (0 ∷ []) (replicate 211 (pos 0)) ++ x

-- the bench loader's answer and the note it tells of, with so many places to write to
abbrev told : List ℕ → ℕ → Answer FileResult × NotePart
told x n = let o = bench_outcome (zeros_then x) (9 ∷ []) (replicate n (pos 9)) in (o.loaded.result, o.note)

abbrev read_zeros : Answer FileResult
read_zeros = gives (record { tree_length = 1; W = 1; H = 1 })

-- Where the note stands in the file; an empty one is not none; the note is judged before 16, and a refused call says
-- none.
pub note-told : (told (32 ∷ 0 ∷ 2 ∷ 7 ∷ 8 ∷ []) 211 ≡ (read_zeros, record { stands = true; offset = 104; size = 2 }))
    × (told (32 ∷ 0 ∷ 0 ∷ []) 211 ≡ (read_zeros, record { stands = true; offset = 104; size = 0 }))
    × (told [] 211 ≡ (read_zeros, no_part))
    × (told (32 ∷ 0 ∷ 2 ∷ 7 ∷ 8 ∷ []) 210 ≡ (refused 16, no_part))
    × (told (32 ∷ 0 ∷ 65 ∷ []) 210 ≡ (refused 14, no_part))
    × (told (32 ∷ 0 ∷ 0 ∷ 9 ∷ []) 210 ≡ (refused 15, no_part))
    × (told (19 ∷ []) 210 ≡ (refused 15, no_part))
unfolding bench_outcome file_outcome file_contents sides_field tree_field counts_field level_fields level_field note_field field
    all_within well_formed parse levels level_at file_with level_body joined coefficients start active_count active_in_row
    active_before total count every least_under least eighths table_from
note-told = (refl, refl, refl, refl, refl, refl, refl)

-- ---- grids

-- 2 by 1, one number, the first of the second row of nineteen: its splines are 1/6 at u = 0, and 23/48 half way into
-- the first cell of level 3 along v.
pub grid-read : grid_reading 2 1 (replicate 19 (pos 0) ++ (pos 1 ∷ replicate 189 (pos 0))) 0 8
    ≡ pos (16 ^ 3 * (23 * 8 ^ 3))
unfolding grid_reading sum spline_at cell_of piece eighths
grid-read = refl

-- ---- saving

-- 18 is "judged last": a coefficient past its limit comes before an output that is too short
pub eighteen-last : save_cause 1 1 (0 ∷ []) (pos 32001 ∷ replicate 210 (pos 0)) none [] ≡ 4
unfolding save_cause table_cause region_cause within_limits passive_zero every least_under least eighths levels level_at parse
    well_formed start coefficients file_with counts_body active_count active_in_row total count level_body joined
eighteen-last = refl

-- "bytes past the file are untouched": the file of a 1 by 1 table of zeros has 112, 11 of them for the counts
pub past-the-file : ((save_outcome 1 1 (0 ∷ []) (replicate 211 (pos 0)) none (replicate 114 7)).result ≡ gives 112)
    × (drop 112 (save_outcome 1 1 (0 ∷ []) (replicate 211 (pos 0)) none (replicate 114 7)).after ≡ 7 ∷ 7 ∷ [])
unfolding save_outcome save_cause table_cause region_cause within_limits passive_zero every least_under least eighths levels
    level_at parse well_formed start coefficients file_with counts_body active_count active_in_row total count level_body joined
past-the-file = (refl, refl)

-- 14 comes after the table's causes and before 18; 64 bytes are no cause for it
pub long-note : (save_cause 1 1 (0 ∷ []) (replicate 211 (pos 0)) (noted (replicate 65 7)) [] ≡ 14)
    × (save_cause 1 1 (0 ∷ []) (pos 32001 ∷ replicate 210 (pos 0)) (noted (replicate 65 7)) [] ≡ 4)
    × (save_cause 1 1 (0 ∷ []) (replicate 211 (pos 0)) (noted (replicate 64 7)) [] ≡ 18)
unfolding save_cause table_cause region_cause within_limits passive_zero every least_under least eighths levels level_at parse
    well_formed start coefficients file_with counts_body active_count active_in_row total count level_body joined
long-note = (refl, refl, refl)

-- The note is last; an output that has no room for it is too short.
pub note-written : ((save_outcome 1 1 (0 ∷ []) (replicate 211 (pos 0)) (noted (7 ∷ [])) (replicate 117 9)).result
    ≡ gives 116)
    × (drop 112 (save_outcome 1 1 (0 ∷ []) (replicate 211 (pos 0)) (noted (7 ∷ [])) (replicate 117 9)).after
    ≡ 32 ∷ 0 ∷ 1 ∷ 7 ∷ 9 ∷ [])
    × ((save_outcome 1 1 (0 ∷ []) (replicate 211 (pos 0)) (noted (7 ∷ [])) (replicate 115 9)).result ≡ refused 18)
unfolding save_outcome save_cause table_cause region_cause within_limits passive_zero every least_under least eighths levels
    level_at parse well_formed start coefficients file_with counts_body active_count active_in_row total count level_body joined
note-written = (refl, refl, refl)
