-- What the faults of a row, of a level's coefficients and of a table's are.
use Rattle.std.specs.Prelude.{◌≡◌, Bool, not, ◌||◌, List, ℕ, ℤ, pos, nat_abs, leb, eqb, length, get_or}
use Rattle.finite.specs.Range.{every, every2}
use Rattle.surface.specs.Sheet.{functions}
use Rattle.surface.specs.Support.{active}
use Rattle.surface.specs.Table.{limit, coefficients}
use Rattle.rows.specs.Rows.{levels_of}

-- an active coefficient is at most m in size; a passive one is 0
abbrev pub keeps_limit : ℕ → Bool → ℤ → Bool
keeps_limit m is_active c = not is_active || leb (nat_abs c) m

abbrev pub keeps_zero : Bool → ℤ → Bool
keeps_zero is_active c = is_active || eqb (nat_abs c) 0

-- the faults among the first k of a row of coefficients, by which of its functions are active
pub record FaultsBelow (k m : ℕ) (is_active : ℕ → Bool) (row : List ℤ) (over stray : Bool) : Type 0 where
  pub limits : over ≡ not (every k (λ a. keeps_limit m (is_active a) (get_or row a (pos 0))))
  pub zeros : stray ≡ not (every k (λ a. keeps_zero (is_active a) (get_or row a (pos 0))))

-- the faults of the whole row
abbrev pub RowFaults : ℕ → (ℕ → Bool) → List ℤ → Bool → Bool → Type 0
RowFaults m is_active row over stray = FaultsBelow (length row) m is_active row over stray

-- a test of a coefficient of a level, by whether its function is active
abbrev pub Test : Type 0
Test = ℕ → Bool → ℤ → Bool

abbrev pub limits : Test
limits L = keeps_limit (limit L)

abbrev pub zeros : Test
zeros L = keeps_zero

-- the test at function (a, b) of level L
abbrev pub holds_at : Test → ℕ → ℕ → (ℕ → ℕ → ℕ) → List ℤ → ℕ → ℕ → ℕ → Bool
holds_at p W H lev cs L a b = p L (active W H lev L a b) (coefficients W H cs L a b)

-- at each function of level L
abbrev pub holds_on : Test → ℕ → ℕ → (ℕ → ℕ → ℕ) → List ℤ → ℕ → Bool
holds_on p W H lev cs L = every2 (functions W L) (functions H L) (λ a b. holds_at p W H lev cs L a b)

-- the faults of a level
pub record LevelFaults (W H L : ℕ) (rows : List ℕ) (cs : List ℤ) (over stray : Bool) : Type 0 where
  pub limited : over ≡ not (holds_on limits W H (levels_of rows) cs L)
  pub zeroed : stray ≡ not (holds_on zeros W H (levels_of rows) cs L)

-- the faults of the four levels
pub record TableFaults (W H : ℕ) (rows : List ℕ) (cs : List ℤ) (over stray : Bool) : Type 0 where
  pub limited : over ≡ not (every 4 (λ L. holds_on limits W H (levels_of rows) cs L))
  pub zeroed : stray ≡ not (every 4 (λ L. holds_on zeros W H (levels_of rows) cs L))
