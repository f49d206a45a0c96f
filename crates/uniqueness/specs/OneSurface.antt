-- Document 02, Ten: "One surface, one set of coefficients. Staff compare two tables by their figures and want to know
-- what agreement means." In source document 003's terms: the truncated functions are linearly independent, and how few
-- points show it. Each statement is proved under its name in proofs/OneSurface.antt or proofs/Carried.antt (EachShown
-- in proofs/Shown.antt).
use Rattle.std.specs.Prelude.{◌≡◌, true, List, ℕ, ◌+◌, ◌*◌, ◌/◌, ◌%◌, ◌<◌, ◌≤◌, ℤ, drop}
use Rattle.surface.specs.Sheet.{functions, quarters, on_sheet}
use Rattle.surface.specs.Support.{low_end, high_end, active}
use Rattle.surface.specs.Table.{levels, start, coefficients, region_cause, Acceptable}
use Rattle.surface.specs.Calls.{gives, exact_outcome}
use Rattle.surface.specs.Grid.{ReadsAs}
use Rattle.surface.specs.Demands.{Commit, Contents, outcome_of, committed, SameRegions, Step, after_all}

-- "exact readings agree at every point of the 1/128 grid". (Two tables that are refused alike agree too; of acceptable
-- ones each outcome is a reading.)
abbrev pub Agree : ℕ → ℕ → List ℕ → List ℤ → List ℕ → List ℤ → Type 0
Agree W H s c t d =
    (u v : ℕ) → on_sheet W H u v ≡ true → exact_outcome W H s c u v ≡ exact_outcome W H t d u v

-- "two acceptable tables with one sheet and one tree, whose exact readings agree at every point of the 1/128 grid, have
-- the same coefficients throughout"
abbrev pub OneSurface : Type 0
OneSurface =
    (W H : ℕ) (t : List ℕ) (c d : List ℤ) → Acceptable W H t c → Acceptable W H t d → Agree W H t c t d → c ≡ d

-- ---- how few points are enough

-- The readings agree every 8 steps, a sixteenth of a cell of level 0.
abbrev pub AgreeBySixteenths : ℕ → ℕ → List ℕ → List ℤ → List ℕ → List ℤ → Type 0
AgreeBySixteenths W H s c t d =
    (u v : ℕ) → on_sheet W H u v ≡ true → u % 8 ≡ 0 → v % 8 ≡ 0
    → exact_outcome W H s c u v ≡ exact_outcome W H t d u v

-- Then they agree at every point, also over two trees,
abbrev pub SixteenthsAgree : Type 0
SixteenthsAgree =
    (W H : ℕ) (s t : List ℕ) (c d : List ℤ) → Acceptable W H s c → Acceptable W H t d
    → AgreeBySixteenths W H s c t d → Agree W H s c t d

-- and over one tree the coefficients are the same.
abbrev pub Sixteenths : Type 0
Sixteenths =
    (W H : ℕ) (t : List ℕ) (c d : List ℤ) → Acceptable W H t c → Acceptable W H t d
    → AgreeBySixteenths W H t c t d → c ≡ d

-- A cell (x, y) of level 3 that shows function (a, b) of level L: it lies under the function's cut support, in a
-- quarter square of that level.
pub record Shows (W H : ℕ) (t : List ℕ) (L a b x y : ℕ) : Type 0 where
  pub low_u : low_end L a ≤ x
  pub high_u : x < high_end W L a
  pub low_v : low_end L b ≤ y
  pub high_v : y < high_end H L b
  pub level : levels t (x / 2) (y / 2) ≡ L

-- Each active function is shown by a cell.
abbrev pub EachShown : Type 0
EachShown =
    (W H : ℕ) (t : List ℕ) → region_cause W H t ≡ 0
    → (L a b : ℕ) → L < 4 → a < functions W L → b < functions H L → active W H (levels t) L a b ≡ true
    → (x : ℕ) × (y : ℕ) × Shows W H t L a b x y

-- The readings agree at sixteen points of the cell, 0, 4, 8 and 12 steps into it in each direction.
abbrev pub AgreeInCell : ℕ → ℕ → List ℕ → List ℤ → List ℤ → ℕ → ℕ → Type 0
AgreeInCell W H t c d x y =
    (i j : ℕ) → i < 4 → j < 4
    → exact_outcome W H t c (16 * x + 4 * i) (16 * y + 4 * j) ≡ exact_outcome W H t d (16 * x + 4 * i) (16 * y + 4 * j)

-- Then a function that the cell shows has one coefficient in both tables.
abbrev pub SixteenPoints : Type 0
SixteenPoints =
    (W H : ℕ) (t : List ℕ) (c d : List ℤ) → Acceptable W H t c → Acceptable W H t d
    → (L a b x y : ℕ) → Shows W H t L a b x y → AgreeInCell W H t c d x y
    → coefficients W H c L a b ≡ coefficients W H d L a b

-- So sixteen points for each active function, in any cell that shows it, are enough for all coefficients.
abbrev pub SixteenEach : Type 0
SixteenEach =
    (W H : ℕ) (t : List ℕ) (c d : List ℤ) → Acceptable W H t c → Acceptable W H t d
    → ((L a b : ℕ) → L < 4 → a < functions W L → b < functions H L → active W H (levels t) L a b ≡ true
    → (x : ℕ) × (y : ℕ) × Shows W H t L a b x y × AgreeInCell W H t c d x y)
    → c ≡ d

-- The readings agree at twenty-five points of the quarter square (q, r), 8 steps apart, edges included.
abbrev pub AgreeInQuarter : ℕ → ℕ → List ℕ → List ℤ → List ℤ → ℕ → ℕ → Type 0
AgreeInQuarter W H t c d q r =
    (i j : ℕ) → i < 5 → j < 5
    → exact_outcome W H t c (32 * q + 8 * i) (32 * r + 8 * j) ≡ exact_outcome W H t d (32 * q + 8 * i) (32 * r + 8 * j)

-- Then a function that a cell of that square shows has one coefficient in both tables.
abbrev pub TwentyFivePoints : Type 0
TwentyFivePoints =
    (W H : ℕ) (t : List ℕ) (c d : List ℤ) → Acceptable W H t c → Acceptable W H t d
    → (L a b x y : ℕ) → Shows W H t L a b x y → AgreeInQuarter W H t c d (x / 2) (y / 2)
    → coefficients W H c L a b ≡ coefficients W H d L a b

-- ---- "It follows that a grid converts to at most one table over a tree"

-- A table that has its whole sheet at level 3 reads as the grid of its level 3 coefficients, which end its slice.
abbrev pub FullGrid : Type 0
FullGrid =
    (W H : ℕ) (t : List ℕ) (cs : List ℤ) → Acceptable W H t cs
    → ((q r : ℕ) → q < quarters W → r < quarters H → levels t q r ≡ 3) → ReadsAs W H t cs (drop (start W H 3) cs)

-- Over each tree at most one table has a grid's readings.
abbrev pub OneTableOfGrid : Type 0
OneTableOfGrid = (W H : ℕ) (t : List ℕ) (grid c d : List ℤ) → ReadsAs W H t c grid → ReadsAs W H t d grid → c ≡ d

-- ---- "and that a carried table is the only acceptable one over its new tree that changes no exact reading"

-- Over this tree the table with these numbers is acceptable and has the readings of the table c, and no other has them.
-- (Another that had them would be acceptable: no other table is read.)
pub record OnlyTable (W H : ℕ) (c : Contents) (tree : List ℕ) (numbers : List ℤ) : Type 0 where
  pub acceptable : Acceptable W H tree numbers
  pub agrees : Agree W H c.tree c.numbers tree numbers
  pub only : (others : List ℤ) → Agree W H c.tree c.numbers tree others → others ≡ numbers

-- The table that a commit leaves, accepted or refused, and the one that a list of enquiries and commits leaves.
abbrev pub OnlyCarried : Type 0
OnlyCarried =
    (W H : ℕ) (c : Contents) (k : Commit) → Acceptable W H c.tree c.numbers
    → OnlyTable W H c (committed W H c k).tree (committed W H c k).numbers

abbrev pub OnlyAfterAll : Type 0
OnlyAfterAll =
    (W H : ℕ) (c : Contents) (ss : List Step) → Acceptable W H c.tree c.numbers
    → OnlyTable W H c (after_all W H c ss).tree (after_all W H c ss).numbers

-- So it does not matter how the regions came about: lists of steps that end with the same regions end with the same
-- table, whether they start from one table or from two that agree.
abbrev pub SameRegionsSameTable : Type 0
SameRegionsSameTable =
    (W H : ℕ) (c d : Contents) (ss rs : List Step)
    → Acceptable W H c.tree c.numbers → Acceptable W H d.tree d.numbers
    → Agree W H c.tree c.numbers d.tree d.numbers
    → SameRegions W H (after_all W H c ss).tree (after_all W H d rs).tree → after_all W H c ss ≡ after_all W H d rs

-- And after an accepted commit another one of the same box and level changes nothing, with whatever slip and outputs.
abbrev pub CommittedAgain : Type 0
CommittedAgain =
    (W H : ℕ) (c : Contents) (k again : Commit) (n : ℕ) → (outcome_of W H c k).result ≡ gives n
    → again.slip.box ≡ k.slip.box → again.slip.level ≡ k.slip.level
    → committed W H (committed W H c k) again ≡ committed W H c k
