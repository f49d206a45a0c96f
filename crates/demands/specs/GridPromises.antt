-- What the calls `write_grid` and `read_grid` and the linked ones promise, as their contracts cite it.
use Rattle.std.specs.Prelude.{List, ℕ, ℤ, Result}
use Rattle.surface.specs.Calls.{SliceMeets}
use Rattle.surface.specs.Grid.{write_grid_outcome, ReadGrid}
use Rattle.surface.specs.Demands.{Contents}
use Rattle.answers.specs.declared.Refusal.{Refusal}
use Rattle.answers.specs.declared.Sheet.{Sheet}
use Rattle.answers.specs.Answers.{value_answer, sheet_answer}
use Rattle.answers.specs.Codes.{BytesWritten, SheetWritten}

-- ---- the calls

-- Writing the grid of the table c answers r and leaves this output.
abbrev pub WriteGridPromise : ℕ → ℕ → Contents → List ℕ → Result ℕ Refusal → List ℕ → Type 0
WriteGridPromise W H c out r after =
    SliceMeets (write_grid_outcome W H c.tree c.numbers out) (value_answer r) after

-- Reading a grid over a tree answers r and leaves this slice: all of it is the outcome by which table there is.
abbrev pub ReadGridPromise : List ℕ → List ℕ → List ℤ → Result Sheet Refusal → List ℤ → Type 0
ReadGridPromise file t out r after = ReadGrid file t out (λ o. SliceMeets o (sheet_answer r) after)

-- ---- the linked calls

-- The linked call returns this code, leaves grid_length where grid_length₀ stood, and this output.
abbrev pub KilnWriteGridPromise : ℕ → ℕ → Contents → List ℕ → ℕ → ℕ → ℕ → List ℕ → Type 0
KilnWriteGridPromise W H c out code grid_length₀ grid_length after =
    BytesWritten (write_grid_outcome W H c.tree c.numbers out) code grid_length₀ grid_length after

-- The linked call returns this code, leaves w and h where w₀ and h₀ stood, and this slice.
abbrev pub KilnReadGridPromise : List ℕ → List ℕ → List ℤ → ℕ → ℕ → ℕ → ℕ → ℕ → List ℤ → Type 0
KilnReadGridPromise file t out code w₀ w h₀ h after =
    ReadGrid file t out (λ o. SheetWritten o code w₀ w h₀ h after)
