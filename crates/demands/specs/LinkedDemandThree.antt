-- Demand 3 of the calls that a controller links: what `kiln_exact` and lists of calls of `kiln_enquire` and
-- `kiln_commit` keep, in codes, lengths and buffers, from their promises alone. A code is 0, or the refusal number.
use Rattle.std.specs.Prelude.{◌≡◌, true, List, ℕ, ℤ, ◌+ℤ◌, ◌*ℤ◌}
use Rattle.surface.specs.Sheet.{on_sheet}
use Rattle.surface.specs.Table.{Acceptable}
use Rattle.surface.specs.Calls.{answer}
use Rattle.surface.specs.Demands.{Asked, Commit, Contents, left, Bracketed}
use Rattle.demands.specs.DemandThree.{Combined, Kept, standing}
use Rattle.demands.specs.LinkedPromises.{KilnEnquirePromise, KilnCommitPromise, KilnExactPromise}

-- "Then at every point the first's exact reading is a times the second's plus b times the third's."
abbrev pub LinearOfLinked : Type 0
LinearOfLinked =
    (W H : ℕ) (c₁ c₂ c₃ : Contents) (a b : ℤ) → Combined W H c₁ c₂ c₃ a b
    → (u v code₁ code₂ code₃ : ℕ) (old₁ old₂ old₃ n₁ n₂ n₃ : ℤ)
    → KilnExactPromise W H c₁ u v code₁ old₁ n₁ → KilnExactPromise W H c₂ u v code₂ old₂ n₂
    → KilnExactPromise W H c₃ u v code₃ old₃ n₃
    → code₁ ≡ 0 → code₂ ≡ 0 → code₃ ≡ 0 → n₁ ≡ a *ℤ n₂ +ℤ b *ℤ n₃

-- "each exact reading lies between the least and the greatest active coefficient, in watts, whose support holds the
-- point"
abbrev pub BracketedOfLinked : Type 0
BracketedOfLinked =
    (W H : ℕ) (c : Contents) (u v code : ℕ) (old n : ℤ) → KilnExactPromise W H c u v code old n
    → code ≡ 0 → Bracketed W H c.tree c.numbers u v n

-- A call of `kiln_enquire` that was made: its box and level, and what stood at its parameters for the slip's numbers;
-- its code, and what then stood there.
pub record LinkedEnquire : Type 0 where
  pub lent : Asked
  pub length₀ : ℕ
  pub active₀ : List ℕ
  pub visited₀ : ℕ
  pub code : ℕ
  pub length : ℕ
  pub active : List ℕ
  pub visited : ℕ

-- A call of `kiln_commit` that was made: document 02, "with whatever slip it is handed"; its outputs, "whatever those
-- are", and what stood at the length parameter; its code, what then stood there, and what its outputs then held.
pub record LinkedCommit : Type 0 where
  pub lent : Commit
  pub tree_length₀ : ℕ
  pub code : ℕ
  pub tree_length : ℕ
  pub tree : List ℕ
  pub numbers : List ℤ

-- A call of the list, by its kind.
pub data LinkedMade : Type 0 where
  kiln_enquire : LinkedEnquire → LinkedMade
  kiln_commit : LinkedCommit → LinkedMade

-- It kept its promise, on the sheet W by H and the table c.
abbrev pub LinkedAsPromised : ℕ → ℕ → Contents → LinkedMade → Type 0
LinkedAsPromised W H c (kiln_enquire m) =
    KilnEnquirePromise W H c m.lent m.code m.length₀ m.length m.active₀ m.active m.visited₀
    m.visited
LinkedAsPromised W H c (kiln_commit m) =
    KilnCommitPromise W H c m.lent m.code m.tree_length₀ m.tree_length m.tree m.numbers

-- "After an accepted insertion the table is the tree output up to the returned length, with the coefficients written;
-- after a refused one it is the table that was read." A commit was accepted if its code is 0; the returned length is
-- what then stands at the length parameter. Document 02: "after an enquiry, accepted or refused, the table is the one
-- it read".
abbrev pub left_by_linked : Contents → LinkedMade → Contents
left_by_linked c (kiln_enquire m) = c
left_by_linked c (kiln_commit m) = left c (answer m.code m.tree_length) m.tree m.numbers

-- The codes and numerators of the exact reading at a point, before a list that starts from the table c, and after it.
pub record LinkedReadingStays (W H : ℕ) (c : Contents) (u v code₀ : ℕ) (n₀ : ℤ) (code : ℕ) (n : ℤ) : Type 0 where
  -- "After the list the exact reading at every point of the sheet equals that before the list": the codes are equal,
  -- on the sheet or off it, and so are the numerators that come with a code of 0,
  pub same_code : code ≡ code₀
  pub same_numerator : code ≡ 0 → n ≡ n₀
  -- at a point of the sheet both codes are 0,
  pub given : on_sheet W H u v ≡ true → (code₀ ≡ 0) × (code ≡ 0)
  -- "and so still lies between those two coefficients of the starting table".
  pub between : code ≡ 0 → Bracketed W H c.tree c.numbers u v n

-- For every list, of any length, as one claim: the table after it is acceptable, and no reading has moved.
abbrev pub LinkedListsMoveNothing : Type 0
LinkedListsMoveNothing =
    (W H : ℕ) (c : Contents) (calls : List LinkedMade) → Acceptable W H c.tree c.numbers
    → Kept (LinkedAsPromised W H) left_by_linked c calls
    → Acceptable W H (standing left_by_linked c calls).tree (standing left_by_linked c calls).numbers
    × ((u v code₀ code : ℕ) (old₀ n₀ old n : ℤ)
    → KilnExactPromise W H c u v code₀ old₀ n₀
    → KilnExactPromise W H (standing left_by_linked c calls) u v code old n
    → LinkedReadingStays W H c u v code₀ n₀ code n)

-- The whole of demand 3.
pub record LinkedDemandThree : Type 0 where
  pub linear : LinearOfLinked
  pub bracketed : BracketedOfLinked
  pub lists : LinkedListsMoveNothing
