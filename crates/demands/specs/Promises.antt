-- What the calls `enquire`, `commit` and `exact` promise, as their contracts cite it.
use Rattle.std.specs.Prelude.{◌≡◌, List, ℕ, ℤ, Result}
use Rattle.surface.specs.Calls.{TableMeets, exact_outcome}
use Rattle.surface.specs.Enquiry.{enquiry_outcome}
use Rattle.surface.specs.Demands.{Asked, Commit, Contents, outcome_of}
use Rattle.answers.specs.declared.Refusal.{Refusal}
use Rattle.answers.specs.declared.Slip.{Slip}
use Rattle.answers.specs.Answers.{value_answer, enquiry_answer}

-- An enquiry of the table c answers r.
abbrev pub EnquirePromise : ℕ → ℕ → Contents → Asked → Result Slip Refusal → Type 0
EnquirePromise W H c e r = enquiry_answer r ≡ enquiry_outcome W H c.tree c.numbers e.box e.level

-- A commit to the table c answers r and leaves these outputs: all of it is the defined outcome.
abbrev pub CommitPromise : ℕ → ℕ → Contents → Commit → Result ℕ Refusal → List ℕ → List ℤ → Type 0
CommitPromise W H c k r tree numbers = TableMeets (outcome_of W H c k) (value_answer r) tree numbers

-- The exact reading of the table c at (u, v) answers r.
abbrev pub ExactPromise : ℕ → ℕ → Contents → ℕ → ℕ → Result ℤ Refusal → Type 0
ExactPromise W H c u v r = value_answer r ≡ exact_outcome W H c.tree c.numbers u v
