-- Document 02, "A bench note": the bench loader. The whole outcome on every input.
use Rattle.std.specs.Prelude.{List, ℕ, ℤ}
use Rattle.surface.specs.Calls.{Answer, refused, gives, Written}
use Rattle.surface.specs.Fields.{declined, contains}
use Rattle.surface.specs.Note.{Note, none, NotePart, no_part, part_of}
use Rattle.surface.specs.TableFile.{File, file_contents, FileResult, file_outcome}

-- The note in what a file holds.
abbrev pub note_of : File → Note
note_of (declined n) = none
note_of (contains f) = f.note

-- "with none there, or a refused call, it says none and the part is empty"
abbrev pub note_part : {A : Type 0} → Answer A → List ℕ → Note → NotePart
note_part (refused n) file known = no_part
note_part (gives a) file known = part_of file known

-- The controller's answer and outputs, and the note.
pub record Benched : Type 0 where
  pub loaded : Written FileResult
  pub note : NotePart

-- "The bench loader also says whether a note stands there and returns the note as the part of the file it is"
unfoldable pub bench_outcome : List ℕ → List ℕ → List ℤ → Benched
bench_outcome file tree_out numbers_out =
    let o = file_outcome file tree_out numbers_out in
    record { loaded = o; note = note_part o.result file (note_of (file_contents file)) }
