-- Document 02, "Each acceptable table has one file", "Files lacking it are still loaded" and "a note ... last in the
-- file, optional": a file loads a table if and only if it is the table's file with the counts or without them and with
-- any note or none. Proved in proofs/Saved.antt.
use Rattle.std.specs.Prelude.{◌≡◌, Bool, true, List, ℕ, ◌≤◌, ℤ, length}
use Rattle.surface.specs.Support.{active_count}
use Rattle.surface.specs.Table.{levels, Acceptable}
use Rattle.surface.specs.Fields.{contains, Bytes}
use Rattle.surface.specs.Note.{Note, note_bytes, note_fits}
use Rattle.surface.specs.TableFile.{Loaded, file_contents, file_with, file_of}
use Rattle.tablefile.specs.Counts.{has_counts, with_counts}

-- Loading the file of an acceptable table, with the counts or lacking them and with a note or none, restores its sheet,
-- tree and coefficients, and the note; the file is made of bytes if the note is.
abbrev pub SavedLoads : Type 0
SavedLoads =
    (counts : Bool) (note : Note) (W H : ℕ) (t : List ℕ) (cs : List ℤ) → Acceptable W H t cs → note_fits note ≡ true
    → (file_contents (file_with counts note W H t cs)
    ≡ contains (record { W = W; H = H; tree = t; numbers = cs; note = note }))
    × (Bytes (note_bytes note) → Bytes (file_with counts note W H t cs))

-- A file that is loaded is the one of what it loads, byte for byte, with the counts if it has them; its note has 0 to
-- 64 bytes.
abbrev pub LoadedIs : Type 0
LoadedIs =
    (s : List ℕ) → Bytes s → (f : Loaded) → file_contents s ≡ contains f
    → (s ≡ file_with (has_counts s) f.note f.W f.H f.tree f.numbers) × (note_fits f.note ≡ true)

-- "saving what was loaded reproduces the bytes only of files that had it": the file of what an accepted file loads, its
-- note among it, is that file, or that file with the counts added.
abbrev pub SavedOfLoaded : Type 0
SavedOfLoaded =
    (s : List ℕ) → Bytes s → (f : Loaded) → file_contents s ≡ contains f
    → file_of f.note f.W f.H f.tree f.numbers
    ≡ with_counts (active_count f.W f.H (levels f.tree)) s

-- No file is longer than 32,443 bytes: 5 for the sides, 1,368 for the tree, 11 for the counts, four heads of 3, 5 for
-- each of 6,196 places and 67 for the note.
abbrev pub LongestFile : Type 0
LongestFile =
    (note : Note) (W H : ℕ) (t : List ℕ) (cs : List ℤ) → Acceptable W H t cs → note_fits note ≡ true
    → length (file_of note W H t cs) ≤ 32443
