-- The same of the calls that a test stand links, `kiln_write_file`, `kiln_read_file` and `kiln_read_bench`, in their
-- codes, lengths and buffers. A code is 0, or the refusal number. Proved in proofs/LinkedRoundTrip.antt.
use Rattle.std.specs.Prelude.{◌≡◌, Bool, true, List, ◌++◌, ℕ, ◌+◌, ◌≤◌, ℤ, ltb, length, take}
use Rattle.surface.specs.Table.{Acceptable}
use Rattle.surface.specs.Fields.{Bytes}
use Rattle.surface.specs.Note.{Note, none, note_bytes, note_fits, NotePart, part_of, note_in}
use Rattle.surface.specs.TableFile.{FileResult, file_with}
use Rattle.surface.specs.Demands.{Contents}
use Rattle.tablefile.specs.Counts.{has_counts, Tells}
use Rattle.tablefile.specs.Notes.{Bare}
use Rattle.demands.specs.FilePromises.{KilnReadPromise, KilnBenchPromise, KilnWritePromise}
use Rattle.roundtrip.specs.RoundTrip.{HoldTable, Restored, read_table, saved_file, file_note, noteless, completed}

-- What stands at the three parameters of `kiln_read_file`, and at the further three of `kiln_read_bench`.
abbrev pub standing : ℕ → ℕ → ℕ → FileResult
standing tree_length w h = record { tree_length = tree_length; W = w; H = h }

abbrev pub noted_part : ℕ → ℕ → ℕ → NotePart
noted_part noted offset size = record { stands = ltb 0 noted; offset = offset; size = size }

-- ---- saving, then loading

-- Each acceptable table is saved, with each note of 0 to 64 bytes or none, to each output that is as long as its file
-- or longer: the file's length is told, and the file stands at the front of the output. One of 32,443 bytes is always
-- long enough.
abbrev pub LinkedSaves : Type 0
LinkedSaves =
    (W H : ℕ) (c : Contents) (note : Note) (out : List ℕ) → Acceptable W H c.tree c.numbers
    → note_fits note ≡ true
    → (length (saved_file note W H c) ≤ 32443)
    × (length (saved_file note W H c) ≤ length out
    → (code n₀ n : ℕ) (after : List ℕ) → KilnWritePromise W H c note out code n₀ n after
    → (code ≡ 0) × (n ≡ length (saved_file note W H c)) × (take n after ≡ saved_file note W H c))

-- "loading it restores the same tree and coefficients"
abbrev pub LinkedLoadingRestores : Type 0
LinkedLoadingRestores =
    (W H : ℕ) (c : Contents) (note : Note) (out : List ℕ) (code n₀ n : ℕ) (after : List ℕ)
    → KilnWritePromise W H c note out code n₀ n after → code ≡ 0
    → (tree_out : List ℕ) (numbers_out : List ℤ) → HoldTable W H c tree_out numbers_out
    → (code₂ tree_length₀ tree_length w₀ w h₀ h : ℕ) (tree : List ℕ) (numbers : List ℤ)
    → KilnReadPromise (take n after) tree_out numbers_out code₂ tree_length₀ tree_length w₀ w h₀ h tree numbers
    → (code₂ ≡ 0) × Restored W H c (standing tree_length w h) tree numbers

-- and the note, by the bench loader
abbrev pub LinkedBenchRestores : Type 0
LinkedBenchRestores =
    (W H : ℕ) (c : Contents) (note : Note) (out : List ℕ) (code n₀ n : ℕ) (after : List ℕ)
    → KilnWritePromise W H c note out code n₀ n after → code ≡ 0
    → (tree_out : List ℕ) (numbers_out : List ℤ) → HoldTable W H c tree_out numbers_out
    → (code₂ tree_length₀ tree_length w₀ w h₀ h noted₀ noted offset₀ offset size₀ size : ℕ) (tree : List ℕ)
    (numbers : List ℤ)
    → KilnBenchPromise (take n after) tree_out numbers_out code₂ tree_length₀ tree_length w₀ w h₀ h noted₀ noted offset₀
    offset size₀ size tree numbers
    → ((code₂ ≡ 0) × Restored W H c (standing tree_length w h) tree numbers)
    × (noted_part noted offset size ≡ part_of (take n after) note)
    × (note_in (take n after) (noted_part noted offset size) ≡ note)

-- Of each file that is loaded, the part that is told of lies in the file and is the file's note; none where it has
-- none.
abbrev pub LinkedLoadedNote : Type 0
LinkedLoadedNote =
    (file tree_out : List ℕ) (numbers_out : List ℤ) → Bytes file
    → (code tree_length₀ tree_length w₀ w h₀ h noted₀ noted offset₀ offset size₀ size : ℕ) (tree : List ℕ)
    (numbers : List ℤ)
    → KilnBenchPromise file tree_out numbers_out code tree_length₀ tree_length w₀ w h₀ h noted₀ noted offset₀ offset size₀
    size tree numbers
    → code ≡ 0
    → (offset + size ≤ length file)
    × (noted_part noted offset size ≡ part_of file (file_note file))
    × (note_in file (noted_part noted offset size) ≡ file_note file)

-- ---- loading, then saving

-- What is saved to an output that is long enough is this file.
abbrev pub LinkedRewrites : List ℕ → ℕ → ℕ → List ℕ → Type 0
LinkedRewrites file code n after = (code ≡ 0) × (n ≡ length file) × (take n after ≡ file)

-- "Saving after the bench loader keeps it": lent the part of the file that it told of, what is saved is the file that
-- was loaded, with the counts added where it lacks them; the same bytes only where it has them.
abbrev pub LinkedSavingKeeps : Type 0
LinkedSavingKeeps =
    (file tree_out : List ℕ) (numbers_out : List ℤ) → Bytes file
    → (code tree_length₀ tree_length w₀ w h₀ h noted₀ noted offset₀ offset size₀ size : ℕ) (tree : List ℕ)
    (numbers : List ℤ)
    → KilnBenchPromise file tree_out numbers_out code tree_length₀ tree_length w₀ w h₀ h noted₀ noted offset₀ offset size₀
    size tree numbers
    → code ≡ 0
    → (out : List ℕ) → length (completed (standing tree_length w h) tree file) ≤ length out
    → (code₂ n₀ n : ℕ) (after : List ℕ)
    → KilnWritePromise w h (read_table (standing tree_length w h) tree numbers)
    (note_in file (noted_part noted offset size)) out code₂ n₀ n after
    → LinkedRewrites (completed (standing tree_length w h) tree file) code₂ n after
    × (completed (standing tree_length w h) tree file ≡ file → has_counts file ≡ true)

-- "after the controller's loader the note is gone": what is saved for no note is the file that was loaded up to its
-- note, with the counts added where it lacks them; the same bytes only where it has them, and no note.
abbrev pub LinkedSavingDrops : Type 0
LinkedSavingDrops =
    (file tree_out : List ℕ) (numbers_out : List ℤ) → Bytes file
    → (code tree_length₀ tree_length w₀ w h₀ h : ℕ) (tree : List ℕ) (numbers : List ℤ)
    → KilnReadPromise file tree_out numbers_out code tree_length₀ tree_length w₀ w h₀ h tree numbers → code ≡ 0
    → (out : List ℕ) → length (completed (standing tree_length w h) tree (noteless file)) ≤ length out
    → (code₂ n₀ n : ℕ) (after : List ℕ)
    → KilnWritePromise w h (read_table (standing tree_length w h) tree numbers) none out code₂ n₀ n after
    → LinkedRewrites (completed (standing tree_length w h) tree (noteless file)) code₂ n after
    × (completed (standing tree_length w h) tree (noteless file) ≡ file
    → (has_counts file ≡ true) × (file_note file ≡ none))

-- ---- files of one table

-- A file loads a table, to outputs that hold the table, if and only if it is the table's file with the counts or
-- without them, and with any note or none.
abbrev pub LinkedFilesOfTable : Type 0
LinkedFilesOfTable =
    (W H : ℕ) (c : Contents) (file tree_out : List ℕ) (numbers_out : List ℤ) → Bytes file
    → (code tree_length₀ tree_length w₀ w h₀ h : ℕ) (tree : List ℕ) (numbers : List ℤ)
    → KilnReadPromise file tree_out numbers_out code tree_length₀ tree_length w₀ w h₀ h tree numbers
    → (code ≡ 0 → Restored W H c (standing tree_length w h) tree numbers
    → (counts : Bool) × (note : Note) × (note_fits note ≡ true)
    × (file ≡ file_with counts note W H c.tree c.numbers))
    × (Acceptable W H c.tree c.numbers → HoldTable W H c tree_out numbers_out
    → (counts : Bool) (note : Note) → note_fits note ≡ true → file ≡ file_with counts note W H c.tree c.numbers
    → (code ≡ 0) × Restored W H c (standing tree_length w h) tree numbers)

-- "two files that differ only in the note, its presence included, give it the same answer": the same code, what stands
-- at the three parameters, where the same stood before, and the same outputs
abbrev pub LinkedPassesOver : Type 0
LinkedPassesOver =
    (file : List ℕ) → Bare file → (note₁ note₂ : Note) → note_fits note₁ ≡ true → note_fits note₂ ≡ true
    → (tree_out : List ℕ) (numbers_out : List ℤ) (tree_length₀ w₀ h₀ : ℕ)
    → (code₁ tree_length₁ w₁ h₁ : ℕ) (tree₁ : List ℕ) (numbers₁ : List ℤ)
    → KilnReadPromise (file ++ note_bytes note₁) tree_out numbers_out code₁ tree_length₀ tree_length₁ w₀ w₁ h₀ h₁ tree₁
    numbers₁
    → (code₂ tree_length₂ w₂ h₂ : ℕ) (tree₂ : List ℕ) (numbers₂ : List ℤ)
    → KilnReadPromise (file ++ note_bytes note₂) tree_out numbers_out code₂ tree_length₀ tree_length₂ w₀ w₂ h₀ h₂ tree₂
    numbers₂
    → (code₁ ≡ code₂) × (standing tree_length₁ w₁ h₁ ≡ standing tree_length₂ w₂ h₂) × (tree₁ ≡ tree₂)
    × (numbers₁ ≡ numbers₂)

-- ---- the counts

-- The counts stand in each file that saving writes, and are the saved table's.
abbrev pub LinkedSavedCountsTell : Type 0
LinkedSavedCountsTell =
    (W H : ℕ) (c : Contents) (note : Note) (out : List ℕ) (code n₀ n : ℕ) (after : List ℕ)
    → KilnWritePromise W H c note out code n₀ n after → code ≡ 0
    → (has_counts (take n after) ≡ true) × Tells W H c.tree (take n after)

-- Those in a file that is loaded are the loaded table's.
abbrev pub LinkedLoadedCountsTell : Type 0
LinkedLoadedCountsTell =
    (file tree_out : List ℕ) (numbers_out : List ℤ) (code tree_length₀ tree_length w₀ w h₀ h : ℕ) (tree : List ℕ)
    (numbers : List ℤ)
    → KilnReadPromise file tree_out numbers_out code tree_length₀ tree_length w₀ w h₀ h tree numbers → code ≡ 0
    → has_counts file ≡ true → Tells w h (take tree_length tree) file

-- All of it.
pub record LinkedRoundTrip : Type 0 where
  pub saves : LinkedSaves
  pub restores : LinkedLoadingRestores
  pub bench_restores : LinkedBenchRestores
  pub loaded_note : LinkedLoadedNote
  pub keeps : LinkedSavingKeeps
  pub drops : LinkedSavingDrops
  pub files : LinkedFilesOfTable
  pub passes_over : LinkedPassesOver
  pub saved_counts : LinkedSavedCountsTell
  pub loaded_counts : LinkedLoadedCountsTell
