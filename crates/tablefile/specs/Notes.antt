-- Document 02, "A bench note": what the controller's loader makes of a note, where a note stands in a file, and the
-- file without it. Proved in proofs/NoteTold.antt and proofs/NoteAfter.antt.
use Rattle.std.specs.Prelude.{◌≡◌, Bool, true, List, ◌++◌, ℕ, ◌-◌, ℤ, length, take}
use Rattle.surface.specs.Support.{active_count}
use Rattle.surface.specs.Table.{levels, Acceptable}
use Rattle.surface.specs.Fields.{declined, contains, unless, in_part, Bytes}
use Rattle.surface.specs.Note.{Note, none, note_field, note_bytes, note_fits, part_of, note_in}
use Rattle.surface.specs.TableFile.{Loaded, File, end_cause, file_contents, file_outcome, file_with, file_of}
use Rattle.tablefile.specs.Counts.{with_counts}

-- ---- passed over

-- A file that is not refused with 12, "file ends inside a head or body", and that has no note, if it loads. (What
-- stands after a file that is cut short is taken for what it lacks: 12 may become 13 or 14. A second note is 15.)
pub record Bare (s : List ℕ) : Type 0 where
  pub whole : ¬ (file_contents s ≡ declined 12)
  pub no_note : (f : Loaded) → file_contents s ≡ contains f → f.note ≡ none

-- Such is the file of each acceptable table for no note, with the counts or without them.
abbrev pub BareFiles : Type 0
BareFiles =
    (counts : Bool) (W H : ℕ) (t : List ℕ) (cs : List ℤ) → Acceptable W H t cs → Bare (file_with counts none W H t cs)

-- "two files that differ only in the note, its presence included, give it the same answer": answer and outputs, by the
-- one without. A file that is refused for what stands before the note is among them.
abbrev pub NotePassedOver : Type 0
NotePassedOver =
    (s : List ℕ) (note : Note) → Bare s → note_fits note ≡ true → (tree_out : List ℕ) (numbers_out : List ℤ)
    → file_outcome (s ++ note_bytes note) tree_out numbers_out ≡ file_outcome s tree_out numbers_out

-- What a file without a note holds with these bytes after it: "unless the field itself is malformed under 12 or 14, or
-- bytes follow it"; "After tag 19 a byte other than 32 is 15, and so is any byte past the note."
abbrev pub followed_by : List ℕ → File → File
followed_by x (declined n) = declined n
followed_by x (contains f) =
    in_part (note_field x) λ note rest.
    unless (end_cause rest)
    (contains (record { W = f.W; H = f.H; tree = f.tree; numbers = f.numbers; note = note }))

-- So whatever these bytes are.
abbrev pub NoteFollows : Type 0
NoteFollows = (s x : List ℕ) → Bare s → file_contents (s ++ x) ≡ followed_by x (file_contents s)

-- ---- where it stands

-- The part of a file that is told for its note is the note.
abbrev pub NoteIsPart : Type 0
NoteIsPart =
    (s : List ℕ) → Bytes s → (f : Loaded) → file_contents s ≡ contains f → note_in s (part_of s f.note) ≡ f.note

-- ---- the file without it

-- A file that ends with this note, up to it.
abbrev pub up_to : Note → List ℕ → List ℕ
up_to note s = take (length s - length (note_bytes note)) s

-- "after the controller's loader the note is gone": the file, for no note, of what an accepted file loads is that file
-- up to its note, with the counts added where it lacks them.
abbrev pub SavedWithout : Type 0
SavedWithout =
    (s : List ℕ) → Bytes s → (f : Loaded) → file_contents s ≡ contains f
    → file_of none f.W f.H f.tree f.numbers
    ≡ with_counts (active_count f.W f.H (levels f.tree)) (up_to f.note s)
