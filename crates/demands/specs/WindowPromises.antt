-- What the calls `add_record` and `figures` of a window and the linked ones promise, as their contracts cite it.
use Rattle.std.specs.Prelude.{◌≡◌, List, ℕ, ℤ, Result}
use Rattle.surface.specs.Calls.{SliceMeets}
use Rattle.surface.specs.Window.{WindowState, record_outcome, figures_outcome}
use Rattle.answers.specs.declared.Refusal.{Refusal}
use Rattle.answers.specs.declared.WindowState as state
use Rattle.answers.specs.declared.Figures.{Figures}
use Rattle.answers.specs.Answers.{recorded_answer, figures_answer}
use Rattle.answers.specs.Codes.{RecordTold, FiguresTold}

-- ---- the calls

-- A new record, handed the state s, answers r and leaves this slice.
abbrev pub RecordPromise : List ℤ → WindowState → ℤ → Result state.WindowState Refusal → List ℤ → Type 0
RecordPromise window s watts r after = SliceMeets (record_outcome window s watts) (recorded_answer r) after

-- The figures of a window in the state s are answered by r.
abbrev pub FiguresPromise : List ℤ → WindowState → Result Figures Refusal → Type 0
FiguresPromise window s r = figures_answer r ≡ figures_outcome window s

-- ---- the linked calls

-- The linked call returns this code, leaves the state where state₀ stood, and this slice.
abbrev pub KilnRecordPromise : List ℤ → WindowState → ℤ → ℕ → WindowState → List ℤ → Type 0
KilnRecordPromise window state₀ watts code state after =
    RecordTold (record_outcome window state₀ watts) code state₀ state after

-- The linked call returns this code and leaves these four values where those marked ₀ stood.
abbrev pub KilnFiguresPromise : List ℤ → WindowState → ℕ → ℤ → ℤ → ℕ → ℕ → ℤ → ℤ → ℤ → ℤ → Type 0
KilnFiguresPromise window s code total₀ total flag₀ flag least₀ least greatest₀ greatest =
    FiguresTold (figures_outcome window s) code total₀ total flag₀ flag least₀ least greatest₀ greatest
