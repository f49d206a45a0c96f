-- What a judged part of a file says of the file, by positions.
use Rattle.std.specs.Prelude.{◌≡◌, true, cond, List, [], ℕ, zero, suc, ◌+◌, ◌-◌, ◌≤◌, ◌<◌, ltb, ℤ, length, get_or}
use Rattle.std.specs.Prelude.{take, drop, Result, Ok, Err}
use Rattle.surface.specs.Support.{active_count}
use Rattle.surface.specs.Table.{cause, ◌or_else◌, slots}
use Rattle.surface.specs.Calls.{length_cause}
use Rattle.surface.specs.Fields.{Judged, declined, contains, unless, Part, holds, in_part}
use Rattle.surface.specs.Note.{Note, none, noted, note_field, NotePart, no_part}
use Rattle.surface.specs.TableFile.{Sides, sides_field, tree_field, counts_field, level_fields, File, end_cause}
use Rattle.surface.specs.TableFile.{file_contents}
use Rattle.answers.specs.declared.Refusal.{Refusal}
use Rattle.answers.specs.declared.Sheet.{Sheet}
use Rattle.answers.specs.Refusals.{number}
use Rattle.fields.specs.Positions.{body_at}
use Rattle.rows.specs.Rows.{levels_of, Nested, level_rows}

-- ---- where things stand in a file: the sides after the first head, the tree after the second

abbrev pub sheet_w : List ℕ → ℕ
sheet_w file = get_or file 3 0

abbrev pub sheet_h : List ℕ → ℕ
sheet_h file = get_or file 4 0

abbrev pub sides_of : List ℕ → Sides
sides_of file = record { W = sheet_w file; H = sheet_h file }

-- the tree, whose field ends before a position
abbrev pub tree_in : List ℕ → ℕ → List ℕ
tree_in file end = take (end - 8) (drop 8 file)

-- ---- the sides and the tree

-- the sides that stand after the first head are good
pub record SidesStand (file : List ℕ) (W H : ℕ) : Type 0 where
  pub here : (W ≡ sheet_w file) × (H ≡ sheet_h file)
  pub side-W : (0 < W) × (W ≤ 8)
  pub side-H : (0 < H) × (H ≤ 8)
  pub size : 5 ≤ length file
  pub field : sides_field file ≡ holds (sides_of file) (drop 5 file)

abbrev pub sides_judged : Result Sheet Refusal → List ℕ → Type 0
sides_judged (Ok s) file = SidesStand file s.w s.h
sides_judged (Err e) file = sides_field file ≡ declined (number e)

-- the field of the tree after that of the sides, and the rows of the tree
abbrev pub tree_judged : Result ℕ Refusal → List ℕ → ℕ → ℕ → List ℕ → Type 0
tree_judged (Ok end) file W H rows =
    (8 ≤ end)
    × (end ≤ length file)
    × (rows ≡ level_rows (tree_in file end))
    × (tree_field W H (drop 5 file) ≡ holds (tree_in file end) (drop end file))
tree_judged (Err e) file W H rows = tree_field W H (drop 5 file) ≡ declined (number e)

-- what follows the levels of a file with this sheet and tree
abbrev pub last_judged : ℕ → ℕ → List ℕ → List ℤ → List ℕ → File
last_judged W H t numbers rest =
    in_part (note_field rest) λ note rest2.
    unless (end_cause rest2) (contains (record { W = W; H = H; tree = t; numbers = numbers; note = note }))

-- the tree's field ends before a position, where the counts or the levels are due
pub record Front (file : List ℕ) (end W H : ℕ) (rows : List ℕ) : Type 0 where
  pub small-W : W ≤ 8
  pub small-H : H ≤ 8
  pub low : 8 ≤ end
  pub size : end ≤ length file
  pub nested : Nested rows
  pub contents : file_contents file
      ≡ in_part (counts_field (active_count W H (levels_of rows)) (drop end file)) λ counts rest.
      in_part (level_fields W H (levels_of rows) 4 rest) (last_judged W H (tree_in file end))

abbrev pub head_judged : Result ℕ Refusal → List ℕ → List ℕ → Type 0
head_judged (Ok end) file rows = Front file end (sheet_w file) (sheet_h file) rows
head_judged (Err e) file rows = file_contents file ≡ declined (number e)

-- ---- the counts

-- that of a level, among those that were found
abbrev pub count_of : List ℕ → ℕ → ℕ
count_of counts L = get_or counts L 0

-- the tree's field ends before one position, and the levels are due at another
pub record Head (file : List ℕ) (end from W H : ℕ) (rows : List ℕ) : Type 0 where
  pub small-W : W ≤ 8
  pub small-H : H ≤ 8
  pub low : 8 ≤ end
  pub size : end ≤ length file
  pub inside : from ≤ length file
  pub nested : Nested rows
  pub contents : file_contents file
      ≡ in_part (level_fields W H (levels_of rows) 4 (drop from file)) (last_judged W H (tree_in file end))

-- ---- the levels

-- a part ends before a position of the file
abbrev pub ends_at : {A : Type 0} → List ℕ → ℕ → Judged (Part A) → Type 0
ends_at {A} file end j = (end ≤ length file) × ((a : A) × (j ≡ holds a (drop end file)))

-- a body ends in the file
abbrev pub inside : Result ℕ Refusal → List ℕ → Type 0
inside (Ok end) file = end ≤ length file
inside (Err e) file = Unit {0}

abbrev pub judged_as : {A : Type 0} → Result ℕ Refusal → List ℕ → Judged (Part A) → Type 0
judged_as (Ok end) file j = ends_at file end j
judged_as (Err e) file j = j ≡ declined (number e)

-- the levels that stand from a position on hold these coefficients
abbrev pub levels_hold : List ℕ → ℕ → ℕ → ℕ → List ℕ → List ℤ → Type 0
levels_hold file from W H rows numbers =
    (rest : List ℕ) × (level_fields W H (levels_of rows) 4 (drop from file) ≡ holds numbers rest)

-- ---- the note

-- the note between two positions, or none where nothing stands between them
abbrev pub note_at : List ℕ → ℕ → ℕ → Note
note_at file at end = cond (ltb at end) (noted (body_at file at end)) none

-- the field of the note at a position ends before another, and has a whole head; or a refusal
abbrev pub note_judged : Result ℕ Refusal → List ℕ → ℕ → Type 0
note_judged (Ok end) file at =
    (end ≤ length file)
    × (at ≤ end)
    × (at < end → at + 3 ≤ end)
    × (note_field (drop at file) ≡ holds (note_at file at end) (drop end file))
note_judged (Err e) file at = note_field (drop at file) ≡ declined (number e)

-- what follows the levels, by its cause: a note or nothing up to the end of the file, or a refusal
abbrev pub EndJudged : ℕ → List ℕ → ℕ → Type 0
EndJudged zero file at =
    (at < length file → at + 3 ≤ length file) × (note_field (drop at file) ≡ holds (note_at file at (length file)) [])
EndJudged (suc c) file at =
    (W H : ℕ) (t : List ℕ) (numbers : List ℤ) → last_judged W H t numbers (drop at file) ≡ declined (suc c)

-- the part of a file of so many bytes that is the note at a position, or none
abbrev pub part_from : ℕ → ℕ → NotePart
part_from at n = cond (ltb at n) (record { stands = true; offset = at + 3; size = n - (at + 3) }) no_part

-- ---- the call

-- the cause of what follows the levels, then 16 and 17, of the outputs for a tree of so many bytes
abbrev pub lastly : ℕ → ℕ → ℕ → ℕ → List ℕ → List ℤ → ℕ
lastly after W H bytes tree_out numbers_out =
    after or_else length_cause (slots W H) numbers_out or_else cause 17 (ltb (length tree_out) bytes)
