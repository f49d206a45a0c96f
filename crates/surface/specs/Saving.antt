-- Document 02, "Saving a table": "Add the writer for document 01's file", with "A bench note": "The writer takes a note
-- or none". The whole outcome on every input.
use Rattle.std.specs.Prelude.{not, List, ℕ, ℤ, ltb, length}
use Rattle.surface.specs.Table.{cause, ◌or_else◌, table_cause}
use Rattle.surface.specs.Calls.{put, Done, done}
use Rattle.surface.specs.Note.{Note, note_fits}
use Rattle.surface.specs.TableFile.{file_of}

-- 14: "a lent note above 64 bytes"
abbrev pub note_cause : Note → ℕ
note_cause note = cause 14 (not (note_fits note))

-- 18: "file output shorter than the file"
abbrev pub file_out_cause : List ℕ → List ℕ → ℕ
file_out_cause file out = cause 18 (ltb (length out) (length file))

-- "Tables are checked as elsewhere"; 14 is "the lowest that applies" after them, and 18 is "judged last"
unfoldable pub save_cause : ℕ → ℕ → List ℕ → List ℤ → Note → List ℕ → ℕ
save_cause W H t cs note out =
    table_cause W H t cs or_else note_cause note or_else file_out_cause (file_of note W H t cs) out

-- "The file's length is returned"; "bytes past the file are untouched"
unfoldable pub save_outcome : ℕ → ℕ → List ℕ → List ℤ → Note → List ℕ → Done ℕ ℕ
save_outcome W H t cs note out =
    let file = file_of note W H t cs in
    done (save_cause W H t cs note out) (length file) (put file out) out
