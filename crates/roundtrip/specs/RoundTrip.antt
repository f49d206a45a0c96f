-- Document 02, "Saving a table", of the calls `write_file`, `read_file` and `read_bench`, from their promises alone:
-- "Each acceptable table has one file; loading it restores the same tree and coefficients"; with "Counts in the file":
-- "saving what was loaded reproduces the bytes only of files that had it"; and "A bench note": "Saving after the bench
-- loader keeps it; after the controller's loader the note is gone." Proved in proofs/RoundTrip.antt.
use Rattle.std.specs.Prelude.{◌≡◌, Bool, true, List, ◌++◌, ℕ, ◌+◌, ◌≤◌, ℤ, length, take, Result}
use Rattle.surface.specs.Support.{active_count}
use Rattle.surface.specs.Table.{levels, slots, Acceptable}
use Rattle.surface.specs.Calls.{gives}
use Rattle.surface.specs.Fields.{Bytes}
use Rattle.surface.specs.Note.{Note, none, note_bytes, note_fits, part_of, note_in}
use Rattle.surface.specs.TableFile.{file_contents, FileResult, file_with, file_of}
use Rattle.surface.specs.BenchLoading.{note_of}
use Rattle.surface.specs.Demands.{Contents}
use Rattle.tablefile.specs.Counts.{has_counts, with_counts, Tells}
use Rattle.tablefile.specs.Notes.{Bare, up_to}
use Rattle.answers.specs.declared.Refusal.{Refusal}
use Rattle.answers.specs.declared.Loaded.{Loaded}
use Rattle.answers.specs.declared.Bench.{Bench}
use Rattle.answers.specs.Answers.{file_answer, bench_answer, bench_note, value_answer}
use Rattle.demands.specs.FilePromises.{ReadPromise, BenchPromise, WritePromise}

-- The outputs of reading a file hold the table c on a sheet W by H: 16 and 17 do not apply.
pub record HoldTable (W H : ℕ) (c : Contents) (tree_out : List ℕ) (numbers_out : List ℤ) : Type 0 where
  pub tree : length c.tree ≤ length tree_out
  pub numbers : length numbers_out ≡ slots W H

-- The table c on a sheet W by H was read: its sides and its tree's length were returned, its tree stands in the tree
-- output up to that length, and its coefficients in the numbers output.
pub record Restored (W H : ℕ) (c : Contents) (r : FileResult) (tree : List ℕ) (numbers : List ℤ) : Type 0 where
  pub side_w : r.W ≡ W
  pub side_h : r.H ≡ H
  pub tree_length : r.tree_length ≡ length c.tree
  pub same_tree : take r.tree_length tree ≡ c.tree
  pub same_numbers : numbers ≡ c.numbers

-- The table that reading left: "the tree output up to the returned length, with the coefficients written".
abbrev pub read_table : FileResult → List ℕ → List ℤ → Contents
read_table r tree numbers = record { tree = take r.tree_length tree; numbers = numbers }

-- The file of the table c on a sheet W by H, with a note or none.
abbrev pub saved_file : Note → ℕ → ℕ → Contents → List ℕ
saved_file note W H c = file_of note W H c.tree c.numbers

-- The note of a file, or none, and the file up to it.
abbrev pub file_note : List ℕ → Note
file_note file = note_of (file_contents file)

abbrev pub noteless : List ℕ → List ℕ
noteless file = up_to (file_note file) file

-- A file that was loaded, with the counts of the table that reading left: the file itself where it has counts, else
-- with the field added after tag 2.
abbrev pub completed : FileResult → List ℕ → List ℕ → List ℕ
completed r tree file = with_counts (active_count r.W r.H (levels (take r.tree_length tree))) file

-- ---- saving, then loading

-- Each acceptable table is saved, with each note of 0 to 64 bytes or none, to each output that is as long as its file
-- or longer: the file's length is returned, and the file stands at the front of the output. One of 32,443 bytes is
-- always long enough.
abbrev pub Saves : Type 0
Saves =
    (W H : ℕ) (c : Contents) (note : Note) (out : List ℕ) → Acceptable W H c.tree c.numbers
    → note_fits note ≡ true
    → (length (saved_file note W H c) ≤ 32443)
    × (length (saved_file note W H c) ≤ length out
    → (r : Result ℕ Refusal) (after : List ℕ) → WritePromise W H c note out r after
    → (value_answer r ≡ gives (length (saved_file note W H c)))
    × (take (length (saved_file note W H c)) after ≡ saved_file note W H c))

-- "loading it restores the same tree and coefficients", by the controller's loader
abbrev pub LoadingRestores : Type 0
LoadingRestores =
    (W H : ℕ) (c : Contents) (note : Note) (out : List ℕ) (r : Result ℕ Refusal) (after : List ℕ)
    → WritePromise W H c note out r after → (n : ℕ) → value_answer r ≡ gives n
    → (tree_out : List ℕ) (numbers_out : List ℤ) → HoldTable W H c tree_out numbers_out
    → (s : Result Loaded Refusal) (tree : List ℕ) (numbers : List ℤ)
    → ReadPromise (take n after) tree_out numbers_out s tree numbers
    → (f : FileResult) × (file_answer s ≡ gives f) × Restored W H c f tree numbers

-- and by the bench loader, which also tells of the note that was saved: it says none where none was
abbrev pub BenchRestores : Type 0
BenchRestores =
    (W H : ℕ) (c : Contents) (note : Note) (out : List ℕ) (r : Result ℕ Refusal) (after : List ℕ)
    → WritePromise W H c note out r after → (n : ℕ) → value_answer r ≡ gives n
    → (tree_out : List ℕ) (numbers_out : List ℤ) → HoldTable W H c tree_out numbers_out
    → (s : Result Bench Refusal) (tree : List ℕ) (numbers : List ℤ)
    → BenchPromise (take n after) tree_out numbers_out s tree numbers
    → ((f : FileResult) × (bench_answer s ≡ gives f) × Restored W H c f tree numbers)
    × (bench_note s ≡ part_of (take n after) note)
    × (note_in (take n after) (bench_note s) ≡ note)

-- Of each file that is loaded, the part that is told of lies in the file and is the file's note; none where it has
-- none.
abbrev pub LoadedNote : Type 0
LoadedNote =
    (file tree_out : List ℕ) (numbers_out : List ℤ) → Bytes file
    → (s : Result Bench Refusal) (tree : List ℕ) (numbers : List ℤ)
    → BenchPromise file tree_out numbers_out s tree numbers
    → (f : FileResult) → bench_answer s ≡ gives f
    → ((bench_note s).offset + (bench_note s).size ≤ length file)
    × (bench_note s ≡ part_of file (file_note file))
    × (note_in file (bench_note s) ≡ file_note file)

-- ---- loading, then saving

-- What is saved to an output that is long enough is this file.
abbrev pub Rewrites : List ℕ → Result ℕ Refusal → List ℕ → Type 0
Rewrites file r after = (value_answer r ≡ gives (length file)) × (take (length file) after ≡ file)

-- "Saving after the bench loader keeps it", with the note that it told of; "saving what was loaded reproduces the bytes
-- only of files that had it": what is saved is the file that was loaded, with the counts added where it lacks them; the
-- same bytes only where it has them.
abbrev pub SavingKeeps : Type 0
SavingKeeps =
    (file tree_out : List ℕ) (numbers_out : List ℤ) → Bytes file
    → (s : Result Bench Refusal) (tree : List ℕ) (numbers : List ℤ)
    → BenchPromise file tree_out numbers_out s tree numbers
    → (f : FileResult) → bench_answer s ≡ gives f
    → (out : List ℕ) → length (completed f tree file) ≤ length out
    → (r : Result ℕ Refusal) (after : List ℕ)
    → WritePromise f.W f.H (read_table f tree numbers) (note_in file (bench_note s)) out r after
    → Rewrites (completed f tree file) r after × (completed f tree file ≡ file → has_counts file ≡ true)

-- "after the controller's loader the note is gone": what is saved for no note is the file that was loaded up to its
-- note, with the counts added where it lacks them; the same bytes only where it has them, and no note.
abbrev pub SavingDrops : Type 0
SavingDrops =
    (file tree_out : List ℕ) (numbers_out : List ℤ) → Bytes file
    → (s : Result Loaded Refusal) (tree : List ℕ) (numbers : List ℤ)
    → ReadPromise file tree_out numbers_out s tree numbers
    → (f : FileResult) → file_answer s ≡ gives f
    → (out : List ℕ) → length (completed f tree (noteless file)) ≤ length out
    → (r : Result ℕ Refusal) (after : List ℕ) → WritePromise f.W f.H (read_table f tree numbers) none out r after
    → Rewrites (completed f tree (noteless file)) r after
    × (completed f tree (noteless file) ≡ file → (has_counts file ≡ true) × (file_note file ≡ none))

-- ---- files of one table

-- "Each acceptable table has one file", "Files lacking it are still loaded": a file loads a table, to outputs that hold
-- the table, if and only if it is the table's file with the counts or without them, and with any note or none.
abbrev pub FilesOfTable : Type 0
FilesOfTable =
    (W H : ℕ) (c : Contents) (file tree_out : List ℕ) (numbers_out : List ℤ) → Bytes file
    → (s : Result Loaded Refusal) (tree : List ℕ) (numbers : List ℤ)
    → ReadPromise file tree_out numbers_out s tree numbers
    → ((f : FileResult) → file_answer s ≡ gives f → Restored W H c f tree numbers
    → (counts : Bool) × (note : Note) × (note_fits note ≡ true)
    × (file ≡ file_with counts note W H c.tree c.numbers))
    × (Acceptable W H c.tree c.numbers → HoldTable W H c tree_out numbers_out
    → (counts : Bool) (note : Note) → note_fits note ≡ true → file ≡ file_with counts note W H c.tree c.numbers
    → (f : FileResult) × (file_answer s ≡ gives f) × Restored W H c f tree numbers)

-- "two files that differ only in the note, its presence included, give it the same answer", and the same outputs
abbrev pub PassesOver : Type 0
PassesOver =
    (file : List ℕ) → Bare file → (note₁ note₂ : Note) → note_fits note₁ ≡ true → note_fits note₂ ≡ true
    → (tree_out : List ℕ) (numbers_out : List ℤ)
    → (s₁ : Result Loaded Refusal) (tree₁ : List ℕ) (numbers₁ : List ℤ)
    → ReadPromise (file ++ note_bytes note₁) tree_out numbers_out s₁ tree₁ numbers₁
    → (s₂ : Result Loaded Refusal) (tree₂ : List ℕ) (numbers₂ : List ℤ)
    → ReadPromise (file ++ note_bytes note₂) tree_out numbers_out s₂ tree₂ numbers₂
    → (file_answer s₁ ≡ file_answer s₂) × (tree₁ ≡ tree₂) × (numbers₁ ≡ numbers₂)

-- ---- the counts

-- "The stand's browser shows how many functions a table has": the counts stand in each file that saving writes, and are
-- the saved table's.
abbrev pub SavedCountsTell : Type 0
SavedCountsTell =
    (W H : ℕ) (c : Contents) (note : Note) (out : List ℕ) (r : Result ℕ Refusal) (after : List ℕ)
    → WritePromise W H c note out r after → (n : ℕ) → value_answer r ≡ gives n
    → (has_counts (take n after) ≡ true) × Tells W H c.tree (take n after)

-- Those in a file that is loaded are the loaded table's.
abbrev pub LoadedCountsTell : Type 0
LoadedCountsTell =
    (file tree_out : List ℕ) (numbers_out : List ℤ) (s : Result Loaded Refusal) (tree : List ℕ) (numbers : List ℤ)
    → ReadPromise file tree_out numbers_out s tree numbers
    → (f : FileResult) → file_answer s ≡ gives f → has_counts file ≡ true
    → Tells f.W f.H (take f.tree_length tree) file

-- All of it.
pub record RoundTrip : Type 0 where
  pub saves : Saves
  pub restores : LoadingRestores
  pub bench_restores : BenchRestores
  pub loaded_note : LoadedNote
  pub keeps : SavingKeeps
  pub drops : SavingDrops
  pub files : FilesOfTable
  pub passes_over : PassesOver
  pub saved_counts : SavedCountsTell
  pub loaded_counts : LoadedCountsTell
