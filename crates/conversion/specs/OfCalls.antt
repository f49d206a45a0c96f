-- Document 02, Nine, of the calls `write_grid`, `read_grid` and `exact` and of the linked ones, from their promises
-- alone. A statement is parametrised by what it is to have made each call, so that it is said once for both. Proved in
-- proofs/OfCalls.antt, of the linked calls in proofs/LinkedCalls.antt.
use Rattle.std.specs.Prelude.{◌≡◌, ◌↔◌, true, List, ℕ, ◌<◌, ◌≤◌, ℤ, length, take, drop, Result}
use Rattle.surface.specs.Sheet.{quarters, on_sheet}
use Rattle.surface.specs.Table.{tree_of, formed, levels, slots, region_cause, Acceptable}
use Rattle.surface.specs.Calls.{Answer, refused, gives, answer}
use Rattle.surface.specs.Fields.{contains, Bytes}
use Rattle.surface.specs.TableFile.{Sides}
use Rattle.surface.specs.Grid.{grid_reading, ReadsAs, grid_file, grid_of, Grid, grid_contents}
use Rattle.surface.specs.Demands.{Contents}
use Rattle.answers.specs.declared.Refusal.{Refusal}
use Rattle.answers.specs.declared.Sheet.{Sheet}
use Rattle.answers.specs.Answers.{value_answer, sheet_answer}
use Rattle.demands.specs.Promises.{ExactPromise}
use Rattle.demands.specs.LinkedPromises.{KilnExactPromise}
use Rattle.demands.specs.GridPromises.{WriteGridPromise, ReadGridPromise, KilnWriteGridPromise, KilnReadGridPromise}
use Rattle.conversion.specs.Grids.{grid_length, own_numbers, carried_to}

-- ---- calls that were made

-- The grid of the table c was written to `out`: this was told, and `after` was left.
abbrev pub Wrote : ℕ → ℕ → Contents → List ℕ → Answer ℕ → List ℕ → Type 0
Wrote W H c out told after = (r : Result ℕ Refusal) × WriteGridPromise W H c out r after × (value_answer r ≡ told)

-- A grid was read over the tree t to `out`: this was told, and `after` was left.
abbrev pub Read : List ℕ → List ℕ → List ℤ → Answer Sides → List ℤ → Type 0
Read file t out told after = (r : Result Sheet Refusal) × ReadGridPromise file t out r after × (sheet_answer r ≡ told)

-- The exact reading of the table c at (u, v) was asked for, and this was told.
abbrev pub Asked : ℕ → ℕ → Contents → ℕ → ℕ → Answer ℤ → Type 0
Asked W H c u v told = (r : Result ℤ Refusal) × ExactPromise W H c u v r × (value_answer r ≡ told)

-- The same of the linked calls: a code of 0 tells what stands at the parameters, and any other is the refusal number.
abbrev pub KilnWrote : ℕ → ℕ → Contents → List ℕ → Answer ℕ → List ℕ → Type 0
KilnWrote W H c out told after =
    (code : ℕ) × (n₀ : ℕ) × (n : ℕ) × KilnWriteGridPromise W H c out code n₀ n after × (answer code n ≡ told)

abbrev pub KilnRead : List ℕ → List ℕ → List ℤ → Answer Sides → List ℤ → Type 0
KilnRead file t out told after =
    (code : ℕ) × (w₀ : ℕ) × (w : ℕ) × (h₀ : ℕ) × (h : ℕ) × KilnReadGridPromise file t out code w₀ w h₀ h after
    × (answer code (record { W = w; H = h }) ≡ told)

abbrev pub KilnAsked : ℕ → ℕ → Contents → ℕ → ℕ → Answer ℤ → Type 0
KilnAsked W H c u v told =
    (code : ℕ) × (n₀ : ℤ) × (n : ℤ) × KilnExactPromise W H c u v code n₀ n × (answer code n ≡ told)

-- ---- the statements, of calls that were made so

abbrev pub table : List ℕ → List ℤ → Contents
table t cs = record { tree = t; numbers = cs }

abbrev pub sides_of : Grid → Sides
sides_of g = record { W = g.W; H = g.H }

-- The table's grid, as bytes.
abbrev pub grid_bytes : ℕ → ℕ → Contents → List ℕ
grid_bytes W H c = grid_file W H (grid_of W H c.tree c.numbers)

module _ (Wrote : ℕ → ℕ → Contents → List ℕ → Answer ℕ → List ℕ → Type 0)
    (Read : List ℕ → List ℕ → List ℤ → Answer Sides → List ℤ → Type 0)
    (Asked : ℕ → ℕ → Contents → ℕ → ℕ → Answer ℤ → Type 0) where
  -- At each point of the sheet the exact call, wherever it was made, tells the grid's reading.
  abbrev pub TellsAs : ℕ → ℕ → Contents → List ℤ → Type 0
  TellsAs W H c grid =
      (u v : ℕ) → on_sheet W H u v ≡ true → (told : Answer ℤ) → Asked W H c u v told
      → told ≡ gives (grid_reading W H grid u v)

  -- At each point of the sheet the exact call was made, and told the grid's reading.
  abbrev pub ToldAs : ℕ → ℕ → Contents → List ℤ → Type 0
  ToldAs W H c grid = (u v : ℕ) → on_sheet W H u v ≡ true → Asked W H c u v (gives (grid_reading W H grid u v))

  -- "every acceptable table converts", where the output is long enough, "the grid's length in bytes is returned" and
  -- "bytes past the grid are untouched". An output of 22,453 bytes is always long enough.
  abbrev pub Converts : Type 0
  Converts =
      (W H : ℕ) (c : Contents) (out : List ℕ) → Acceptable W H c.tree c.numbers
      → (grid_length W H ≤ 22453)
      × (grid_length W H ≤ length out → (told : Answer ℕ) (after : List ℕ) → Wrote W H c out told after
      → (told ≡ gives (grid_length W H))
      × (take (grid_length W H) after ≡ grid_bytes W H c)
      × (drop (grid_length W H) after ≡ drop (grid_length W H) out))

  -- "and reads the same everywhere": what was written, as long as was told, is a grid that is judged good, of the
  -- table's sheet, and the exact call tells its readings of the table
  abbrev pub WrittenReads : Type 0
  WrittenReads =
      (W H : ℕ) (c : Contents) (out : List ℕ) (n : ℕ) (after : List ℕ) → Wrote W H c out (gives n) after
      → (n ≡ grid_length W H)
      × (numbers : List ℤ)
      × (grid_contents (take n after) ≡ contains (record { W = W; H = H; numbers = numbers }))
      × TellsAs W H c numbers

  -- "The slice receives the table over those regions with the same exact reading at every point, and W and H are
  -- returned": the lent tree and the slice that was left are an acceptable table, of which the exact call tells the
  -- readings of the lent grid
  abbrev pub ReadReads : Type 0
  ReadReads =
      (file t : List ℕ) (out : List ℤ) (sides : Sides) (after : List ℤ) → Read file t out (gives sides) after
      → (g : Grid)
      × (grid_contents file ≡ contains g)
      × (sides ≡ sides_of g)
      × Acceptable g.W g.H t after
      × TellsAs g.W g.H (table t after) g.numbers

  -- 21: "no acceptable table over that tree has those readings", so the exact call tells them of no slice; the slice
  -- that was lent is left as it was
  abbrev pub NoneReads : Type 0
  NoneReads =
      (file t : List ℕ) (out after : List ℤ) → Read file t out (refused 21) after
      → (g : Grid)
      × (grid_contents file ≡ contains g)
      × (formed g.W g.H (tree_of t) ≡ true)
      × ((cs : List ℤ) → ¬ ToldAs g.W g.H (table t cs) g.numbers)
      × (after ≡ out)

  -- "it is given in that case alone": where the exact call told the grid's readings of a slice, reading gives that
  -- slice, or 16 where another length was lent
  abbrev pub SomeReads : Type 0
  SomeReads =
      (file t : List ℕ) (g : Grid) → grid_contents file ≡ contains g
      → (cs : List ℤ) → ToldAs g.W g.H (table t cs) g.numbers
      → (out : List ℤ) (told : Answer Sides) (after : List ℤ) → Read file t out told after
      → (length out ≡ slots g.W g.H → (told ≡ gives (sides_of g)) × (after ≡ cs))
      × (¬ (length out ≡ slots g.W g.H) → (told ≡ refused 16) × (after ≡ out))

  -- Both ways, by the readings as they are defined: "after the checks of both inputs", 21 is given exactly where no
  -- table has them, whatever slice was lent.
  abbrev pub GivenThere : Type 0
  GivenThere =
      (file t : List ℕ) (g : Grid) → grid_contents file ≡ contains g → formed g.W g.H (tree_of t) ≡ true
      → (out : List ℤ) (told : Answer Sides) (after : List ℤ) → Read file t out told after
      → (told ≡ refused 21) ↔ ((cs : List ℤ) → ¬ ReadsAs g.W g.H t cs g.numbers)

  -- What is told and what is left are determined: two calls with the same file, tree and slice, whatever they hold,
  -- told the same and left the same slice.
  abbrev pub OneOutcome : Type 0
  OneOutcome =
      (file t : List ℕ) (out : List ℤ) (told told' : Answer Sides) (after after' : List ℤ)
      → Read file t out told after → Read file t out told' after' → (told ≡ told') × (after ≡ after')

  -- ---- there and back

  -- A table that was written as a grid, and read over its own tree, comes back number for number.
  abbrev pub OwnTreeBack : Type 0
  OwnTreeBack =
      (W H : ℕ) (c : Contents) (out : List ℕ) (n : ℕ) (written : List ℕ) → Wrote W H c out (gives n) written
      → (numbers_out : List ℤ) → length numbers_out ≡ slots W H
      → (told : Answer Sides) (after : List ℤ) → Read (take n written) c.tree numbers_out told after
      → (told ≡ gives (record { W = W; H = H })) × (after ≡ c.numbers)

  -- Over a tree whose levels are nowhere lower it is not refused with 21; it is the table carried over to that tree.
  abbrev pub FinerTreeBack : Type 0
  FinerTreeBack =
      (W H : ℕ) (c : Contents) (out : List ℕ) (n : ℕ) (written : List ℕ) → Wrote W H c out (gives n) written
      → (t : List ℕ) → region_cause W H t ≡ 0
      → ((q r : ℕ) → q < quarters W → r < quarters H → levels c.tree q r ≤ levels t q r)
      → (numbers_out : List ℤ) (told : Answer Sides) (after : List ℤ) → Read (take n written) t numbers_out told after
      → (¬ (told ≡ refused 21))
      × (length numbers_out ≡ slots W H
      → (told ≡ gives (record { W = W; H = H })) × (after ≡ carried_to W H c.tree c.numbers t))

  -- A grid that is judged good, read over the tree of the whole sheet at level 3, gives its own numbers.
  abbrev pub WholeSheetBack : Type 0
  WholeSheetBack =
      (file t : List ℕ) (g : Grid) → grid_contents file ≡ contains g → region_cause g.W g.H t ≡ 0
      → ((q r : ℕ) → q < quarters g.W → r < quarters g.H → levels t q r ≡ 3)
      → (out : List ℤ) → length out ≡ slots g.W g.H
      → (told : Answer Sides) (after : List ℤ) → Read file t out told after
      → (told ≡ gives (sides_of g)) × (after ≡ own_numbers g)

  -- A grid that was read over any tree, and written from there to an output that is long enough, has the same bytes.
  abbrev pub GridBack : Type 0
  GridBack =
      (file t : List ℕ) (out : List ℤ) (sides : Sides) (after : List ℤ) → Bytes file
      → Read file t out (gives sides) after
      → (bytes_out : List ℕ) → length file ≤ length bytes_out
      → (told : Answer ℕ) (written : List ℕ)
      → Wrote sides.W sides.H (table t after) bytes_out told written
      → (told ≡ gives (length file)) × (take (length file) written ≡ file)

  pub record Conversion : Type 0 where
    pub converts : Converts
    pub written_reads : WrittenReads
    pub read_reads : ReadReads
    pub none_reads : NoneReads
    pub some_reads : SomeReads
    pub given_there : GivenThere
    pub one_outcome : OneOutcome
    pub own_tree_back : OwnTreeBack
    pub finer_tree_back : FinerTreeBack
    pub whole_sheet_back : WholeSheetBack
    pub grid_back : GridBack

-- Of the calls, and of the linked ones.
abbrev pub ConversionOfCalls : Type 0
ConversionOfCalls = Conversion Wrote Read Asked

abbrev pub ConversionOfLinked : Type 0
ConversionOfLinked = Conversion KilnWrote KilnRead KilnAsked
