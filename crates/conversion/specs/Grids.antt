-- Document 02, Nine: "The full-grid dialect", of the definitions: which grid a table has, which bytes a grid has, and
-- which table there is over a tree. Proved in proofs/Grids.antt and proofs/Trees.antt, the bytes in proofs/Files.antt,
-- each under its name in small letters.
use Rattle.std.specs.Prelude.{◌≡◌, true, List, ◌++◌, ℕ, ◌+◌, ◌*◌, ◌<◌, ◌≤◌, ℤ, pos, nat_abs, length, replicate}
use Rattle.surface.specs.Sheet.{good_side, functions, quarters, on_sheet}
use Rattle.surface.specs.Carry.{carried_over}
use Rattle.surface.specs.Table.{levels, places, start, coefficients, slice_of, limit, region_cause, Acceptable}
use Rattle.surface.specs.Calls.{exact_outcome}
use Rattle.surface.specs.Fields.{contains, Bytes}
use Rattle.surface.specs.Grid.{grid_number, grid_reading, ReadsAs, grid_file, grid_of, Grid, grid_contents, Converted}
use Rattle.surface.specs.Grid.{the_table, ConvertsTo}

-- ---- towards the grid

-- "every acceptable table converts, and reads the same everywhere"
abbrev pub GridReads : Type 0
GridReads = (W H : ℕ) (t : List ℕ) (cs : List ℤ) → Acceptable W H t cs → ReadsAs W H t cs (grid_of W H t cs)

-- It reads as no other grid,
abbrev pub OneGridEach : Type 0
OneGridEach =
    (W H : ℕ) (t : List ℕ) (cs grid : List ℤ) → ReadsAs W H t cs grid → length grid ≡ places W H 3
    → grid ≡ grid_of W H t cs

-- and two grids that read the same everywhere are one.
abbrev pub OneGrid : Type 0
OneGrid =
    (W H : ℕ) (f g : List ℤ) → 0 < W → 0 < H → length f ≡ places W H 3 → length g ≡ places W H 3
    → ((u v : ℕ) → on_sheet W H u v ≡ true → grid_reading W H f u v ≡ grid_reading W H g u v) → f ≡ g

-- So tables on one sheet that have the same exact readings have the same grid, whatever their trees are, and the same
-- bytes. (Where one is acceptable and the outcomes agree, so is the other.)
abbrev pub SameReadingsSameGrid : Type 0
SameReadingsSameGrid =
    (W H : ℕ) (s t : List ℕ) (cs ds : List ℤ) → Acceptable W H t ds
    → ((u v : ℕ) → on_sheet W H u v ≡ true → exact_outcome W H s cs u v ≡ exact_outcome W H t ds u v)
    → (grid_of W H s cs ≡ grid_of W H t ds) × (grid_file W H (grid_of W H s cs) ≡ grid_file W H (grid_of W H t ds))

-- ---- "sheet, then every level 3 coefficient, as tags 1 and 19 only"

-- "the grid's length in bytes": five for the sides, three for the head of tag 19 and five for each number; no grid is
-- longer than 22,453 bytes.
abbrev pub grid_length : ℕ → ℕ → ℕ
grid_length W H = 8 + 5 * places W H 3

abbrev pub GridLength : Type 0
GridLength =
    (W H : ℕ) (t : List ℕ) (cs : List ℤ)
    → (length (grid_file W H (grid_of W H t cs)) ≡ grid_length W H) × (W ≤ 8 → H ≤ 8 → grid_length W H ≤ 22453)

-- The grid of an acceptable table is made of bytes and judged good.
abbrev pub GridLoads : Type 0
GridLoads =
    (W H : ℕ) (t : List ℕ) (cs : List ℤ) → Acceptable W H t cs
    → (grid_contents (grid_file W H (grid_of W H t cs)) ≡ contains (record { W = W; H = H; numbers = grid_of W H t cs }))
    × Bytes (grid_file W H (grid_of W H t cs))

-- What a grid that is judged good holds: a sheet, and a number for each function of level 3, none past its limit.
pub record GoodGrid (g : Grid) : Type 0 where
  pub side_w : good_side g.W ≡ true
  pub side_h : good_side g.H ≡ true
  pub size : length g.numbers ≡ places g.W g.H 3
  pub within : (a b : ℕ) → a < functions g.W 3 → b < functions g.H 3
      → nat_abs (grid_number g.W g.numbers a b) ≤ limit 3

abbrev pub JudgedGood : Type 0
JudgedGood = (file : List ℕ) (g : Grid) → grid_contents file ≡ contains g → GoodGrid g

-- It is as long as the grid of a table on its sheet.
abbrev pub JudgedLength : Type 0
JudgedLength =
    (file : List ℕ) (g : Grid) → grid_contents file ≡ contains g
    → (length file ≡ grid_length g.W g.H) × (length file ≤ 22453)

-- And its bytes are those of its contents: no two grids hold the same.
abbrev pub OneFileEach : Type 0
OneFileEach =
    (file : List ℕ) → Bytes file → (g : Grid) → grid_contents file ≡ contains g
    → file ≡ grid_file g.W g.H g.numbers

-- ---- "The slice receives the table over those regions with the same exact reading at every point"

-- There is one, or there is none.
abbrev pub OneConversion : Type 0
OneConversion =
    (W H : ℕ) (t : List ℕ) (grid : List ℤ) (c d : Converted) → ConvertsTo W H t grid c → ConvertsTo W H t grid d
    → c ≡ d

-- A table's grid, over the table's own tree, gives the table back.
abbrev pub OwnTree : Type 0
OwnTree =
    (W H : ℕ) (t : List ℕ) (cs : List ℤ) → Acceptable W H t cs → ConvertsTo W H t (grid_of W H t cs) (the_table cs)

-- A grid, over the tree of the whole sheet at level 3, gives its own numbers, after 0 for each place of levels 0 to 2.
abbrev pub own_numbers : Grid → List ℤ
own_numbers g = replicate (start g.W g.H 3) (pos 0) ++ g.numbers

abbrev pub WholeSheet : Type 0
WholeSheet =
    (file : List ℕ) (g : Grid) → grid_contents file ≡ contains g
    → (t : List ℕ) → region_cause g.W g.H t ≡ 0
    → ((q r : ℕ) → q < quarters g.W → r < quarters g.H → levels t q r ≡ 3)
    → ConvertsTo g.W g.H t g.numbers (the_table (own_numbers g))

-- A table's grid, over a tree whose levels are nowhere lower, gives the table carried over to that tree.
abbrev pub carried_to : ℕ → ℕ → List ℕ → List ℤ → List ℕ → List ℤ
carried_to W H s cs t = slice_of W H (carried_over W H (levels s) (levels t) (coefficients W H cs))

abbrev pub FinerTree : Type 0
FinerTree =
    (W H : ℕ) (s : List ℕ) (cs : List ℤ) → Acceptable W H s cs
    → (t : List ℕ) → region_cause W H t ≡ 0
    → ((q r : ℕ) → q < quarters W → r < quarters H → levels s q r ≤ levels t q r)
    → ConvertsTo W H t (grid_of W H s cs) (the_table (carried_to W H s cs t))
