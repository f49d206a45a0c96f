-- What agreement of figures means, of the calls `exact`, `enquire` and `commit` and of the linked ones, from their
-- promises alone. Proved in proofs/OfCalls.antt.
use Rattle.std.specs.Prelude.{◌≡◌, true, List, ℕ, ◌%◌, ℤ, Result}
use Rattle.surface.specs.Sheet.{on_sheet}
use Rattle.surface.specs.Calls.{gives}
use Rattle.surface.specs.Demands.{Contents, SameRegions}
use Rattle.answers.specs.declared.Refusal.{Refusal}
use Rattle.answers.specs.Answers.{value_answer}
use Rattle.demands.specs.Promises.{ExactPromise, CommitPromise}
use Rattle.demands.specs.LinkedPromises.{KilnExactPromise, KilnCommitPromise}
use Rattle.demands.specs.DemandThree.{Kept, standing, MadeAsPromised, left_by, CommitMade, commit}
use Rattle.demands.specs.LinkedDemandThree.{LinkedAsPromised, left_by_linked, LinkedCommit, kiln_commit}

-- Two answers of `exact` at a point, of the tables c and d, that give the same reading.
pub record SameAnswer (W H : ℕ) (c d : Contents) (u v : ℕ) : Type 0 where
  pub first : Result ℤ Refusal
  pub second : Result ℤ Refusal
  pub kept : ExactPromise W H c u v first × ExactPromise W H d u v second
  pub reading : ℤ
  pub given : (value_answer first ≡ gives reading) × (value_answer second ≡ gives reading)

-- The same of `kiln_exact`: both codes are 0, and the numerators are the same.
pub record SameNumerator (W H : ℕ) (c d : Contents) (u v : ℕ) : Type 0 where
  pub code₁ : ℕ
  pub code₂ : ℕ
  pub old₁ : ℤ
  pub old₂ : ℤ
  pub numerator₁ : ℤ
  pub numerator₂ : ℤ
  pub kept : KilnExactPromise W H c u v code₁ old₁ numerator₁ × KilnExactPromise W H d u v code₂ old₂ numerator₂
  pub accepted : (code₁ ≡ 0) × (code₂ ≡ 0)
  pub same : numerator₁ ≡ numerator₂

-- "two acceptable tables with one sheet and one tree, whose exact readings agree at every point of the 1/128 grid, have
-- the same coefficients throughout". (A table that has been read is acceptable.)
abbrev pub OneSurfaceBy : (ℕ → ℕ → Contents → Contents → ℕ → ℕ → Type 0) → Type 0
OneSurfaceBy Same =
    (W H : ℕ) (c d : Contents) → c.tree ≡ d.tree
    → ((u v : ℕ) → on_sheet W H u v ≡ true → Same W H c d u v) → c ≡ d

-- Points every 8 steps are enough.
abbrev pub SixteenthsBy : (ℕ → ℕ → Contents → Contents → ℕ → ℕ → Type 0) → Type 0
SixteenthsBy Same =
    (W H : ℕ) (c d : Contents) → c.tree ≡ d.tree
    → ((u v : ℕ) → on_sheet W H u v ≡ true → u % 8 ≡ 0 → v % 8 ≡ 0 → Same W H c d u v) → c ≡ d

-- "a carried table is the only acceptable one over its new tree that changes no exact reading": after each list of
-- calls that starts from the table c, a table d over the tree that the list left, with the readings of c, is the table
-- that it left. (That this one has those readings is demand 3.)
abbrev pub OnlyLeft : {M : Type 0} → (ℕ → ℕ → Contents → Contents → ℕ → ℕ → Type 0)
    → (ℕ → ℕ → Contents → M → Type 0) → (Contents → M → Contents) → Type 0
OnlyLeft {M} Same keeps leaves =
    (W H : ℕ) (c d : Contents) (calls : List M) → Kept (keeps W H) leaves c calls
    → d.tree ≡ (standing leaves c calls).tree
    → ((u v : ℕ) → on_sheet W H u v ≡ true → Same W H c d u v) → d ≡ standing leaves c calls

-- So lists of calls that end with the same regions end with the same table, whether they start from one table or from
-- two that agree.
abbrev pub SameTableBy : {M : Type 0} → (ℕ → ℕ → Contents → Contents → ℕ → ℕ → Type 0)
    → (ℕ → ℕ → Contents → M → Type 0) → (Contents → M → Contents) → Type 0
SameTableBy {M} Same keeps leaves =
    (W H : ℕ) (c d : Contents) (calls others : List M)
    → ((u v : ℕ) → on_sheet W H u v ≡ true → Same W H c d u v)
    → Kept (keeps W H) leaves c calls → Kept (keeps W H) leaves d others
    → SameRegions W H (standing leaves c calls).tree (standing leaves d others).tree
    → standing leaves c calls ≡ standing leaves d others

pub record SurfacesOfCalls : Type 0 where
  pub one : OneSurfaceBy SameAnswer
  pub sixteenths : SixteenthsBy SameAnswer
  pub only : OnlyLeft SameAnswer MadeAsPromised left_by
  pub regions : SameTableBy SameAnswer MadeAsPromised left_by
  -- after an accepted commit m another one of the same box and level changes nothing
  pub again : (W H : ℕ) (c : Contents) (m later : CommitMade) (n : ℕ)
      → CommitPromise W H c m.lent m.answer m.tree m.numbers → value_answer m.answer ≡ gives n
      → CommitPromise W H (left_by c (commit m)) later.lent later.answer later.tree later.numbers
      → later.lent.slip.box ≡ m.lent.slip.box → later.lent.slip.level ≡ m.lent.slip.level
      → left_by (left_by c (commit m)) (commit later) ≡ left_by c (commit m)

-- The same of the linked calls.
pub record SurfacesOfLinked : Type 0 where
  pub one : OneSurfaceBy SameNumerator
  pub sixteenths : SixteenthsBy SameNumerator
  pub only : OnlyLeft SameNumerator LinkedAsPromised left_by_linked
  pub regions : SameTableBy SameNumerator LinkedAsPromised left_by_linked
  pub again : (W H : ℕ) (c : Contents) (m later : LinkedCommit)
      → KilnCommitPromise W H c m.lent m.code m.tree_length₀ m.tree_length m.tree m.numbers
      → m.code ≡ 0
      → KilnCommitPromise W H (left_by_linked c (kiln_commit m)) later.lent later.code later.tree_length₀
      later.tree_length later.tree later.numbers
      → later.lent.slip.box ≡ m.lent.slip.box → later.lent.slip.level ≡ m.lent.slip.level
      → left_by_linked (left_by_linked c (kiln_commit m)) (kiln_commit later) ≡ left_by_linked c (kiln_commit m)
