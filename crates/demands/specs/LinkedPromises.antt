-- What the linked calls `kiln_enquire`, `kiln_commit` and `kiln_exact` promise, as their contracts cite it.
use Rattle.std.specs.Prelude.{List, ℕ, ℤ}
use Rattle.surface.specs.Calls.{exact_outcome}
use Rattle.surface.specs.Enquiry.{enquiry_outcome}
use Rattle.surface.specs.Demands.{Asked, Commit, Contents, outcome_of}
use Rattle.answers.specs.Codes.{NumberTold, SlipTold, TableWritten}

-- An enquiry of the table c returns this code, and leaves length, active and visited where length₀, active₀ and
-- visited₀ stood: all of it is the defined outcome.
abbrev pub KilnEnquirePromise : ℕ → ℕ → Contents → Asked → ℕ → ℕ → ℕ → List ℕ → List ℕ → ℕ → ℕ → Type 0
KilnEnquirePromise W H c e code length₀ length active₀ active visited₀ visited =
    SlipTold (enquiry_outcome W H c.tree c.numbers e.box e.level) code length₀ length active₀ active visited₀
    visited

-- A commit to the table c returns this code, leaves tree_length at the length parameter, where tree_length₀ stood, and
-- leaves these outputs: all of it is the defined outcome.
abbrev pub KilnCommitPromise : ℕ → ℕ → Contents → Commit → ℕ → ℕ → ℕ → List ℕ → List ℤ → Type 0
KilnCommitPromise W H c k code tree_length₀ tree_length tree numbers =
    TableWritten (outcome_of W H c k) code tree_length₀ tree_length tree numbers

-- The exact reading of the table c at (u, v) returns this code and leaves numerator where numerator₀ stood.
abbrev pub KilnExactPromise : ℕ → ℕ → Contents → ℕ → ℕ → ℕ → ℤ → ℤ → Type 0
KilnExactPromise W H c u v code numerator₀ numerator =
    NumberTold (exact_outcome W H c.tree c.numbers u v) code numerator₀ numerator
