-- What the calls `read_file`, `read_bench` and `write_file` and the linked ones promise, as their contracts cite it.
use Rattle.std.specs.Prelude.{◌≡◌, List, ℕ, ℤ, Result}
use Rattle.surface.specs.Calls.{TableMeets, SliceMeets}
use Rattle.surface.specs.Note.{Note}
use Rattle.surface.specs.TableFile.{file_outcome}
use Rattle.surface.specs.BenchLoading.{bench_outcome}
use Rattle.surface.specs.Saving.{save_outcome}
use Rattle.surface.specs.Demands.{Contents}
use Rattle.answers.specs.declared.Refusal.{Refusal}
use Rattle.answers.specs.declared.Loaded.{Loaded}
use Rattle.answers.specs.declared.Bench.{Bench}
use Rattle.answers.specs.Answers.{file_answer, bench_answer, bench_note, value_answer}
use Rattle.answers.specs.Codes.{FileWritten, NoteAfter, BytesWritten}

-- ---- the calls

-- Reading a file answers r and leaves these outputs: all of it is the defined outcome.
abbrev pub ReadPromise : List ℕ → List ℕ → List ℤ → Result Loaded Refusal → List ℕ → List ℤ → Type 0
ReadPromise file tree_out numbers_out r tree numbers =
    TableMeets (file_outcome file tree_out numbers_out) (file_answer r) tree numbers

-- The same of the bench loader, which also tells of the note.
abbrev pub BenchPromise : List ℕ → List ℕ → List ℤ → Result Bench Refusal → List ℕ → List ℤ → Type 0
BenchPromise file tree_out numbers_out r tree numbers =
    let o = bench_outcome file tree_out numbers_out in
    TableMeets o.loaded (bench_answer r) tree numbers × (bench_note r ≡ o.note)

-- Writing the file of the table c, with a note or none, answers r and leaves this output.
abbrev pub WritePromise : ℕ → ℕ → Contents → Note → List ℕ → Result ℕ Refusal → List ℕ → Type 0
WritePromise W H c note out r after =
    SliceMeets (save_outcome W H c.tree c.numbers note out) (value_answer r) after

-- ---- the linked calls

-- The linked call returns this code, leaves tree_length, w and h where tree_length₀, w₀ and h₀ stood, and these outputs.
abbrev pub KilnReadPromise : List ℕ → List ℕ → List ℤ → ℕ → ℕ → ℕ → ℕ → ℕ → ℕ → ℕ → List ℕ → List ℤ → Type 0
KilnReadPromise file tree_out numbers_out code tree_length₀ tree_length w₀ w h₀ h tree numbers =
    FileWritten (file_outcome file tree_out numbers_out) code tree_length₀ tree_length w₀ w h₀ h tree numbers

-- The same, with the numbers noted, offset and size at three parameters more, of which the first receives 1 for a note.
abbrev pub KilnBenchPromise : List ℕ → List ℕ → List ℤ → ℕ → ℕ → ℕ → ℕ → ℕ → ℕ → ℕ → ℕ → ℕ → ℕ → ℕ → ℕ → ℕ → List ℕ
    → List ℤ → Type 0
KilnBenchPromise file tree_out numbers_out code tree_length₀ tree_length w₀ w h₀ h noted₀ noted offset₀ offset size₀ size
    tree numbers =
    let o = bench_outcome file tree_out numbers_out in
    FileWritten o.loaded code tree_length₀ tree_length w₀ w h₀ h tree numbers
    × NoteAfter o.loaded.result o.note noted₀ noted offset₀ offset size₀ size

-- The linked call returns this code, leaves file_length where file_length₀ stood, and this output.
abbrev pub KilnWritePromise : ℕ → ℕ → Contents → Note → List ℕ → ℕ → ℕ → ℕ → List ℕ → Type 0
KilnWritePromise W H c note out code file_length₀ file_length after =
    BytesWritten (save_outcome W H c.tree c.numbers note out) code file_length₀ file_length after
