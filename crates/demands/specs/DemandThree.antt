-- Demand 3 of the calls: what answers of `exact` and lists of calls of `enquire` and `commit` keep, from the calls'
-- promises alone.
use Rattle.std.specs.Prelude.{◌≡◌, true, List, [], ◌∷◌, ℕ, ◌<◌, ℤ, pos, ◌+ℤ◌, ◌*ℤ◌, get_or, Result}
use Rattle.surface.specs.Sheet.{on_sheet}
use Rattle.surface.specs.Table.{slots, Acceptable}
use Rattle.surface.specs.Calls.{Answer, gives}
use Rattle.surface.specs.Demands.{Asked, Commit, Contents, left, SameRegions, Bracketed}
use Rattle.answers.specs.declared.Refusal.{Refusal}
use Rattle.answers.specs.declared.Slip.{Slip}
use Rattle.answers.specs.Answers.{value_answer}
use Rattle.demands.specs.Promises.{EnquirePromise, CommitPromise, ExactPromise}

-- ---- linear

-- "Suppose three acceptable tables share one sheet and one set of regions, and at every place the first's coefficient
-- is a times the second's plus b times the third's, a and b whole."
pub record Combined (W H : ℕ) (c₁ c₂ c₃ : Contents) (a b : ℤ) : Type 0 where
  pub first : Acceptable W H c₁.tree c₁.numbers
  pub second : Acceptable W H c₂.tree c₂.numbers
  pub third : Acceptable W H c₃.tree c₃.numbers
  pub regions : SameRegions W H c₁.tree c₂.tree × SameRegions W H c₁.tree c₃.tree
  pub places : (p : ℕ) → p < slots W H
      → get_or c₁.numbers p (pos 0) ≡ a *ℤ get_or c₂.numbers p (pos 0) +ℤ b *ℤ get_or c₃.numbers p (pos 0)

-- "Then at every point the first's exact reading is a times the second's plus b times the third's."
abbrev pub LinearOfCalls : Type 0
LinearOfCalls =
    (W H : ℕ) (c₁ c₂ c₃ : Contents) (a b : ℤ) → Combined W H c₁ c₂ c₃ a b
    → (u v : ℕ) (r₁ r₂ r₃ : Result ℤ Refusal)
    → ExactPromise W H c₁ u v r₁ → ExactPromise W H c₂ u v r₂ → ExactPromise W H c₃ u v r₃
    → (n₁ n₂ n₃ : ℤ) → value_answer r₁ ≡ gives n₁ → value_answer r₂ ≡ gives n₂ → value_answer r₃ ≡ gives n₃
    → n₁ ≡ a *ℤ n₂ +ℤ b *ℤ n₃

-- ---- bracketed

-- "each exact reading lies between the least and the greatest active coefficient, in watts, whose support holds the
-- point"
abbrev pub BracketedOfCalls : Type 0
BracketedOfCalls =
    (W H : ℕ) (c : Contents) (u v : ℕ) (r : Result ℤ Refusal) → ExactPromise W H c u v r
    → (n : ℤ) → value_answer r ≡ gives n → Bracketed W H c.tree c.numbers u v n

-- ---- "take any list of box insertions, refused ones included, that starts from an acceptable table, each insertion
-- reading the table that the one before it left"

-- Of a list of calls that were made one after the other, where `keeps c m` says that the call m kept its promise on
-- the table c, and `leaves c m` is the table after it: each kept its promise, on the table as it then stood.
unfoldable pub Kept : {M : Type 0} → (Contents → M → Type 0) → (Contents → M → Contents) → Contents → List M → Type 0
Kept keeps leaves c [] = Unit
Kept keeps leaves c (m ∷ ms) = keeps c m × Kept keeps leaves (leaves c m) ms

-- The table after the list.
unfoldable pub standing : {M : Type 0} → (Contents → M → Contents) → Contents → List M → Contents
standing leaves c [] = c
standing leaves c (m ∷ ms) = standing leaves (leaves c m) ms

-- A call of `enquire` that was made: its box and level, and its answer. What it was lent it was lent for reading.
pub record EnquireMade : Type 0 where
  pub lent : Asked
  pub answer : Result Slip Refusal

-- A call of `commit` that was made: document 02, "with whatever slip it is handed"; its outputs, "whatever those are",
-- its answer, and what its outputs then held.
pub record CommitMade : Type 0 where
  pub lent : Commit
  pub answer : Result ℕ Refusal
  pub tree : List ℕ
  pub numbers : List ℤ

-- A call of the list, by its kind: "enquiries and commits then take the place of insertions".
pub data Made : Type 0 where
  enquire : EnquireMade → Made
  commit : CommitMade → Made

-- It kept its promise, on the sheet W by H and the table c.
abbrev pub MadeAsPromised : ℕ → ℕ → Contents → Made → Type 0
MadeAsPromised W H c (enquire m) = EnquirePromise W H c m.lent m.answer
MadeAsPromised W H c (commit m) = CommitPromise W H c m.lent m.answer m.tree m.numbers

-- "After an accepted insertion the table is the tree output up to the returned length, with the coefficients written;
-- after a refused one it is the table that was read"; document 02: "after an enquiry, accepted or refused, the table is
-- the one it read".
abbrev pub left_by : Contents → Made → Contents
left_by c (enquire m) = c
left_by c (commit m) = left c (value_answer m.answer) m.tree m.numbers

-- What the exact reading at a point answers before a list that starts from the table c, and after it.
pub record ReadingStays (W H : ℕ) (c : Contents) (u v : ℕ) (before after : Answer ℤ) : Type 0 where
  -- "After the list the exact reading at every point of the sheet equals that before the list": the answers are equal,
  -- on the sheet or off it,
  pub same : after ≡ before
  -- at a point of the sheet both give a reading, the same,
  pub given : on_sheet W H u v ≡ true → (n : ℤ) × (before ≡ gives n) × (after ≡ gives n)
  -- "and so still lies between those two coefficients of the starting table".
  pub between : (n : ℤ) → after ≡ gives n → Bracketed W H c.tree c.numbers u v n

-- For every list, of any length, as one claim: the table after it is acceptable, and no reading has moved.
abbrev pub ListsMoveNothing : Type 0
ListsMoveNothing =
    (W H : ℕ) (c : Contents) (calls : List Made) → Acceptable W H c.tree c.numbers
    → Kept (MadeAsPromised W H) left_by c calls
    → Acceptable W H (standing left_by c calls).tree (standing left_by c calls).numbers
    × ((u v : ℕ) (before after : Result ℤ Refusal)
    → ExactPromise W H c u v before → ExactPromise W H (standing left_by c calls) u v after
    → ReadingStays W H c u v (value_answer before) (value_answer after))

-- The whole of demand 3.
pub record DemandThree : Type 0 where
  pub linear : LinearOfCalls
  pub bracketed : BracketedOfCalls
  pub lists : ListsMoveNothing
