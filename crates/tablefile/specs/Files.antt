-- Document 01, "The table file": what an accepted file loads is an acceptable table, and one table has, for each note
-- or none, at most one file with the counts and one without; input longer than any file is judged by its front. Proved
-- in proofs/Theorems.antt.
use Rattle.std.specs.Prelude.{◌≡◌, List, ℕ, ◌≤◌, ℤ, take}
use Rattle.surface.specs.Table.{Acceptable}
use Rattle.surface.specs.Calls.{gives}
use Rattle.surface.specs.Fields.{contains, Bytes}
use Rattle.surface.specs.TableFile.{Loaded, file_contents, FileResult, file_outcome}
use Rattle.surface.specs.BenchLoading.{bench_outcome}
use Rattle.tablefile.specs.Counts.{has_counts}

-- What an accepted file loads is an acceptable table: none of 1 to 5 applies to it.
abbrev pub AcceptedIsAcceptable : Type 0
AcceptedIsAcceptable =
    (file : List ℕ) (f : Loaded) → file_contents file ≡ contains f
    → Acceptable f.W f.H f.tree f.numbers

-- The same of the call: the tree output up to the returned length and the numbers output are an acceptable table.
abbrev pub LoadsAcceptable : Type 0
LoadsAcceptable =
    (file tree_out : List ℕ) (numbers_out : List ℤ) (r : FileResult)
    → (file_outcome file tree_out numbers_out).result ≡ gives r
    → Acceptable r.W r.H (take r.tree_length (file_outcome file tree_out numbers_out).tree)
    (file_outcome file tree_out numbers_out).numbers

-- Two accepted files that load the same sheet, tree, coefficient slice and note, both with the counts or both without,
-- are the same bytes.
abbrev pub OneFileEach : Type 0
OneFileEach =
    (s t : List ℕ) → Bytes s → Bytes t → has_counts s ≡ has_counts t
    → (f : Loaded) → file_contents s ≡ contains f → file_contents t ≡ contains f → s ≡ t

-- Input of any length is judged by its first 32,444 bytes, one more than the bound of a file's length: 5 for the sides,
-- 1,368 for the tree, 11 for the counts, four heads of 3, 5 for each of 6,196 places and 67 for the note. A caller who
-- lends these, or more of the input, gets the whole input's refusal, result, outputs and note.
abbrev pub LongInput : Type 0
LongInput =
    (s : List ℕ) (n : ℕ) → 32444 ≤ n → (tree_out : List ℕ) (numbers_out : List ℤ)
    → (file_outcome (take n s) tree_out numbers_out ≡ file_outcome s tree_out numbers_out)
    × (bench_outcome (take n s) tree_out numbers_out ≡ bench_outcome s tree_out numbers_out)
