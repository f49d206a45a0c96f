-- What a patch of a table is: its own coefficients, and the choice between them and the subdivided ones.
use Rattle.std.specs.Prelude.{◌≡◌, Bool, false, cond, List, [], ℕ, ◌+◌, ◌*◌, ◌<◌, ℤ, pos, get_or}
use Rattle.surface.specs.Patch.{patch}
use Rattle.surface.specs.Table.{coefficients}
use Rattle.rows.specs.Rows.{levels_of}
use Rattle.patch.specs.Patches.{entry}

-- four coefficients along v, from a place on in rows of n
abbrev pub ColumnOf : List ℤ → ℕ → ℕ → List ℤ → Type 0
ColumnOf part n at x = (l : ℕ) → l < 4 → get_or x l (pos 0) ≡ get_or part (at + l * n) (pos 0)

-- the functions (a, b) to (a + 3, b + 3), in rows of n
abbrev pub InPart : List ℤ → ℕ → ℕ → ℕ → List (List ℤ) → Type 0
InPart part n a b x = (k l : ℕ) → k < 4 → l < 4 → entry x k l ≡ get_or part ((b + l) * n + (a + k)) (pos 0)

-- those functions' coefficients of level L
abbrev pub OwnOf : ℕ → ℕ → ℕ → List ℤ → ℕ → ℕ → List (List ℤ) → Type 0
OwnOf W H L cs a b x = (k l : ℕ) → k < 4 → l < 4 → entry x k l ≡ coefficients W H cs L (a + k) (b + l)

-- an entry in the region of its level is its own coefficient, any other the subdivided value
abbrev pub ChosenRow : List Bool → List ℤ → List ℤ → List ℤ → Type 0
ChosenRow inside own coarse x =
    (l : ℕ) → l < 4
    → get_or x l (pos 0) ≡ cond (get_or inside l false) (get_or own l (pos 0)) (get_or coarse l (pos 0))

abbrev pub Chosen : List (List Bool) → List (List ℤ) → List (List ℤ) → List (List ℤ) → Type 0
Chosen inside own coarse x =
    (k l : ℕ) → k < 4 → l < 4
    → entry x k l ≡ cond (get_or (get_or inside k []) l false) (entry own k l) (entry coarse k l)

-- the patch of level L at (u, v), as document 01's definition has it
abbrev pub PatchAt : ℕ → ℕ → List ℕ → List ℤ → ℕ → ℕ → ℕ → List (List ℤ) → Type 0
PatchAt W H rows cs u v L p =
    (k l : ℕ) → k < 4 → l < 4 → entry p k l ≡ patch W H (levels_of rows) (coefficients W H cs) u v L k l
