-- Document 01, "The table file", with the fields of document 02, "Counts in the file" and "A bench note": what loading
-- a file gives, judged in byte order: "whole head, tag, length, whole body, contents; after the last field 15, 16, 17";
-- and the file of a table.
use Rattle.std.specs.Prelude.{Bool, true, ◌&&◌, cond, List, [], ◌∷◌, ◌++◌, ℕ, zero, suc, ◌+◌, ◌*◌, ℤ, pos, ltb, eqb, length, get_or}
use Rattle.finite.specs.Range.{every, grid, joined}
use Rattle.surface.specs.Sheet.{good_side, functions}
use Rattle.surface.specs.Support.{active, active_count, active_before}
use Rattle.surface.specs.Table.{cause, tree_of, formed, levels, coefficients, limit}
use Rattle.surface.specs.Calls.{Written, refused, written, outputs_cause}
use Rattle.surface.specs.Fields.{Judged, declined, contains, unless, Part, holds, in_part, field, checked}
use Rattle.surface.specs.Fields.{two_bytes_at, number_at, all_within, two_bytes, field_bytes, number_bytes}
use Rattle.surface.specs.Note.{Note, note_field, note_bytes}

-- ---- the sides and the tree

pub record Sides : Type 0 where
  pub W : ℕ
  pub H : ℕ

-- "tag 1, W and H, a byte each"
abbrev pub sides_in : List ℕ → Sides
sides_in b = record { W = get_or b 0 0; H = get_or b 1 0 }

abbrev pub good_sides : Sides → Bool
good_sides s = good_side s.W && good_side s.H

unfoldable pub sides_field : List ℕ → Judged (Part Sides)
sides_field s = checked (field 1 2 2 s) 1 (λ b. good_sides (sides_in b)) sides_in

-- "tag 2, the tree"; "Tag 2's length is 1 to 1,365."
unfoldable pub tree_field : ℕ → ℕ → List ℕ → Judged (Part (List ℕ))
tree_field W H s = checked (field 2 1 1365 s) 2 (λ t. formed W H (tree_of t)) (λ t. t)

-- ---- the counts

-- "four two-byte active counts, high byte first, levels 0 to 3": each one is the tree's, which is n L for level L.
unfoldable pub counts_agree : (ℕ → ℕ) → List ℕ → Bool
counts_agree n b = every 4 (λ L. eqb (two_bytes_at b L) (n L))

-- "a field of tag 3 after tag 2, eight bytes"; 20 is "a count differs from the tree's, with the contents of tag 3".
-- "Files lacking it are still loaded": where another tag stands, no byte is taken, and tag 16 is due.
unfoldable pub counts_field : (ℕ → ℕ) → List ℕ → Judged (Part (List ℕ))
counts_field n s = cond (eqb (get_or s 0 0) 3) (checked (field 3 8 8 s) 20 (counts_agree n) (λ b. b)) (holds [] s)

-- ---- the coefficients

-- "the active coefficients ... in slice order": function (a, b) takes the next number of its level's body when active.
abbrev pub loaded : ℕ → ℕ → (ℕ → ℕ → ℕ) → ℕ → List ℕ → ℕ → ℕ → ℤ
loaded W H lev L b a c = cond (active W H lev L a c) (number_at b (active_before W H lev L a c)) (pos 0)

-- The part of the coefficient slice for level L.
abbrev pub level_loaded : ℕ → ℕ → (ℕ → ℕ → ℕ) → ℕ → List ℕ → List ℤ
level_loaded W H lev L b = grid (functions W L) (functions H L) (λ a c. loaded W H lev L b a c)

-- "tags 16 to 19, the active coefficients of levels 0 to 3": one level. A coefficient past its limit is 4.
unfoldable pub level_field : ℕ → ℕ → (ℕ → ℕ → ℕ) → ℕ → List ℕ → Judged (Part (List ℤ))
level_field W H lev L s =
    let n = active_count W H lev L in
    checked (field (16 + L) (5 * n) (5 * n) s) 4 (all_within (limit L) n) (level_loaded W H lev L)

-- The levels below n, one after the other, with the slice of their coefficients.
unfoldable pub level_fields : ℕ → ℕ → (ℕ → ℕ → ℕ) → ℕ → List ℕ → Judged (Part (List ℤ))
level_fields W H lev zero s = holds [] s
level_fields W H lev (suc L) s =
    in_part (level_fields W H lev L s) λ before rest.
    in_part (level_field W H lev L rest) λ numbers rest2.
    holds (before ++ numbers) rest2

-- ---- the whole file

-- What a file holds: a refusal number, or the sheet, the tree, the coefficient slice and a note or none.
pub record Loaded : Type 0 where
  pub W : ℕ
  pub H : ℕ
  pub tree : List ℕ
  pub numbers : List ℤ
  pub note : Note

abbrev pub File : Type 0
File = Judged Loaded

-- What follows the last field: "bytes after the last field" are 15.
abbrev pub end_cause : List ℕ → ℕ
end_cause s = cause 15 (ltb 0 (length s))

-- "in this order, all present", but for the counts and the note
unfoldable pub file_contents : List ℕ → File
file_contents s =
    in_part (sides_field s) λ sides rest.
    let W = sides.W in
    let H = sides.H in
    in_part (tree_field W H rest) λ t rest2.
    in_part (counts_field (active_count W H (levels t)) rest2) λ counts rest3.
    in_part (level_fields W H (levels t) 4 rest3) λ numbers rest4.
    in_part (note_field rest4) λ note rest5.
    unless (end_cause rest5) (contains (record { W = W; H = H; tree = t; numbers = numbers; note = note }))

-- ---- the call

-- "A call that writes a tree returns its length, file reading W and H too."
pub record FileResult : Type 0 where
  pub tree_length : ℕ
  pub W : ℕ
  pub H : ℕ

abbrev pub file_outcome_of : File → List ℕ → List ℤ → Written FileResult
file_outcome_of (declined n) tree_out numbers_out = record { result = refused n; tree = tree_out; numbers = numbers_out }
file_outcome_of (contains f) tree_out numbers_out =
    written
    (outputs_cause f.W f.H f.tree tree_out numbers_out)
    (record { tree_length = length f.tree; W = f.W; H = f.H })
    f.tree
    f.numbers
    tree_out
    numbers_out

-- "Reading fills a tree buffer and a coefficient slice." Document 02: "The controller's loader passes over it", the
-- note.
unfoldable pub file_outcome : List ℕ → List ℕ → List ℤ → Written FileResult
file_outcome file tree_out numbers_out = file_outcome_of (file_contents file) tree_out numbers_out

-- ---- the file of a table

-- What function (a, b) of level L adds to its level's body: its coefficient when active.
abbrev pub place_bytes : ℕ → ℕ → (ℕ → ℕ → ℕ) → (ℕ → ℕ → ℕ → ℤ) → ℕ → ℕ → ℕ → List ℕ
place_bytes W H lev coef L a b = cond (active W H lev L a b) (number_bytes (coef L a b)) []

-- "the active coefficients ... in slice order": "in a level j rises, within a row i rises". Row b, and the level.
abbrev pub row_bytes : ℕ → ℕ → (ℕ → ℕ → ℕ) → (ℕ → ℕ → ℕ → ℤ) → ℕ → ℕ → List ℕ
row_bytes W H lev coef L b = joined (functions W L) (λ a. place_bytes W H lev coef L a b)

unfoldable pub level_body : ℕ → ℕ → (ℕ → ℕ → ℕ) → (ℕ → ℕ → ℕ → ℤ) → ℕ → List ℕ
level_body W H lev coef L = joined (functions H L) (λ b. row_bytes W H lev coef L b)

-- "four two-byte active counts, high byte first, levels 0 to 3"; n L is that of level L.
unfoldable pub counts_body : (ℕ → ℕ) → List ℕ
counts_body n = joined 4 (λ L. two_bytes (n L))

-- "in this order, all present: tag 1, W and H, a byte each; tag 2, the tree; tags 16 to 19, the active coefficients of
-- levels 0 to 3"; document 02: "a field of tag 3 after tag 2", and a note, "last in the file". With the counts, or
-- lacking them; with a note, or none.
unfoldable pub file_with : Bool → Note → ℕ → ℕ → List ℕ → List ℤ → List ℕ
file_with counts note W H t cs =
    field_bytes 1 (W ∷ H ∷ [])
    ++ field_bytes 2 t
    ++ cond counts (field_bytes 3 (counts_body (active_count W H (levels t)))) []
    ++ joined 4 (λ L. field_bytes (16 + L) (level_body W H (levels t) (coefficients W H cs) L))
    ++ note_bytes note

-- Document 02: "Each acceptable table has one file", for a note or none; "The writer always puts it", the field of the
-- counts.
abbrev pub file_of : Note → ℕ → ℕ → List ℕ → List ℤ → List ℕ
file_of note W H t cs = file_with true note W H t cs
