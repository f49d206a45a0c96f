-- Document 02, "A bench note": "a note of 0 to 64 bytes with a table, tag 32, last in the file, optional". The field as
-- it is read and as it is written, and the part of a file that a note is.
use Rattle.std.specs.Prelude.{Bool, true, false, cond, List, [], ℕ, ◌-◌, leb, eqb, length, get_or, take, drop}
use Rattle.surface.specs.Fields.{Judged, Part, holds, in_part, field, field_bytes}

-- "a note or none". A note of no bytes stands there and is not none.
pub data Note : Type 0 where
  none : Note
  noted : List ℕ → Note

-- "optional", "tag 32", "0 to 64 bytes". Where another byte follows the levels, or none, no byte is taken. Bytes that
-- are left then are 15, as is "any byte past the note".
unfoldable pub note_field : List ℕ → Judged (Part Note)
note_field s =
    cond (eqb (get_or s 0 0) 32) (in_part (field 32 0 64 s) λ b rest. holds (noted b) rest) (holds none s)

-- ---- written

-- What a note adds to a file.
abbrev pub note_bytes : Note → List ℕ
note_bytes none = []
note_bytes (noted b) = field_bytes 32 b

-- "0 to 64 bytes"
abbrev pub note_fits : Note → Bool
note_fits none = true
note_fits (noted b) = leb (length b) 64

-- "The writer takes a note or none": these bytes, or none, whatever stands in their place.
abbrev pub lent_note : Bool → List ℕ → Note
lent_note stands b = cond stands (noted b) none

-- ---- the part of a file that a note is

-- "whether a note stands there", and the part of the file, by its first byte and its length
pub record NotePart : Type 0 where
  pub stands : Bool
  pub offset : ℕ
  pub size : ℕ

-- "it says none and the part is empty"
abbrev pub no_part : NotePart
no_part = record { stands = false; offset = 0; size = 0 }

-- "the note as the part of the file it is": being "last in the file", it ends where the file does.
abbrev pub part_of : List ℕ → Note → NotePart
part_of file none = no_part
part_of file (noted b) = record { stands = true; offset = length file - length b; size = length b }

-- The bytes of a part.
abbrev pub bytes_in : List ℕ → NotePart → List ℕ
bytes_in file p = take p.size (drop p.offset file)

-- What a part of a file is: a note, or none.
abbrev pub note_in : List ℕ → NotePart → Note
note_in file p = lent_note p.stands (bytes_in file p)
