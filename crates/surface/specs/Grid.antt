-- Document 02, Nine: "The full-grid dialect. Two kiln makers exchange plain bicubic grids: sheet, then every level 3
-- coefficient, as tags 1 and 19 only." What such a grid reads, and the whole outcome of both converters on every input.
use Rattle.std.specs.Prelude.{◌≡◌, true, not, List, [], ◌∷◌, ◌++◌, ℕ, ◌+◌, ◌*◌, ℤ, pos, ◌*ℤ◌, length, get_or}
use Rattle.finite.specs.Range.{sum2, table_from, joined, grid}
use Rattle.surface.specs.Sheet.{functions, on_sheet}
use Rattle.surface.specs.Truncation.{value_at}
use Rattle.surface.specs.Carry.{carried}
use Rattle.surface.specs.Table.{cause, ◌or_else◌, tree_of, formed, levels, places, slots, coefficients, limit}
use Rattle.surface.specs.Table.{table_cause}
use Rattle.surface.specs.Calls.{refused, gives, put, Done, done, length_cause, exact_outcome}
use Rattle.surface.specs.Fields.{Judged, declined, contains, unless, Part, in_part, field, checked}
use Rattle.surface.specs.Fields.{number_at, all_within, field_bytes, number_bytes}
use Rattle.surface.specs.TableFile.{Sides, sides_field, end_cause}
use Rattle.surface.specs.Saving.{file_out_cause}

-- ---- what a grid reads

-- The number of function (a, b): "j rises, within a row i rises", as in a level of a slice.
abbrev pub grid_number : ℕ → List ℤ → ℕ → ℕ → ℤ
grid_number W grid a b = get_or grid (b * functions W 3 + a) (pos 0)

-- Every level 3 coefficient times its function, as a numerator over D. No level is finer, so no function is truncated.
-- That a table with its whole sheet at level 3 reads as its grid is the theorem `full-grid`.
unfoldable pub grid_reading : ℕ → ℕ → List ℤ → ℕ → ℕ → ℤ
grid_reading W H grid u v =
    sum2 (functions W 3) (functions H 3) λ a b. grid_number W grid a b *ℤ value_at W H u v 3 a b

-- "the same exact reading at every point": the table has those of the grid. (It is then acceptable: no other table is
-- read.)
abbrev pub ReadsAs : ℕ → ℕ → List ℕ → List ℤ → List ℤ → Type 0
ReadsAs W H t cs grid =
    (u v : ℕ) → on_sheet W H u v ≡ true → exact_outcome W H t cs u v ≡ gives (grid_reading W H grid u v)

-- ---- towards the grid

-- "sheet, then every level 3 coefficient, as tags 1 and 19 only", each of five bytes as in document 01's file
unfoldable pub grid_file : ℕ → ℕ → List ℤ → List ℕ
grid_file W H grid =
    field_bytes 1 (W ∷ H ∷ []) ++ field_bytes 19 (joined (length grid) (λ k. number_bytes (get_or grid k (pos 0))))

-- "every acceptable table converts, and reads the same everywhere": the carried value of every level 3 function. That
-- the table reads as this grid is the theorem `grid-reads`, and that it reads as no other `one-grid-each`.
unfoldable pub grid_of : ℕ → ℕ → List ℕ → List ℤ → List ℤ
grid_of W H t cs =
    grid (functions W 3) (functions H 3) (λ a b. carried W H (levels t) (coefficients W H cs) 3 a b)

-- "A grid output too short gives 18, judged last"
unfoldable pub write_grid_cause : ℕ → ℕ → List ℕ → List ℤ → List ℕ → ℕ
write_grid_cause W H t cs out = table_cause W H t cs or_else file_out_cause (grid_file W H (grid_of W H t cs)) out

-- "the grid's length in bytes is returned"; "bytes past the grid are untouched"
unfoldable pub write_grid_outcome : ℕ → ℕ → List ℕ → List ℤ → List ℕ → Done ℕ ℕ
write_grid_outcome W H t cs out =
    let file = grid_file W H (grid_of W H t cs) in
    done (write_grid_cause W H t cs out) (length file) (put file out) out

-- ---- a grid in byte order

pub record Grid : Type 0 where
  pub W : ℕ
  pub H : ℕ
  pub numbers : List ℤ

-- The first n numbers of a body.
abbrev pub numbers_in : ℕ → List ℕ → List ℤ
numbers_in n b = table_from 0 n (λ k. number_at b k)

-- "every level 3 coefficient", tag 19; "Grid coefficients past their limit give 4."
unfoldable pub grid_field : ℕ → ℕ → List ℕ → Judged (Part (List ℤ))
grid_field W H s =
    let n = places W H 3 in
    checked (field 19 (5 * n) (5 * n) s) 4 (all_within (limit 3) n) (numbers_in n)

-- "tags 1 and 19 only", judged as document 01 judges a file: 15 is "bytes after the last field".
unfoldable pub grid_contents : List ℕ → Judged Grid
grid_contents s =
    in_part (sides_field s) λ sides rest.
    in_part (grid_field sides.W sides.H rest) λ numbers rest2.
    unless (end_cause rest2) (contains (record { W = sides.W; H = sides.H; numbers = numbers }))

-- ---- from a grid

-- What there is over a tree: no table, or the one with these coefficients.
pub data Converted : Type 0 where
  no_table : Converted
  the_table : List ℤ → Converted

-- "the table over those regions with the same exact reading at every point"; "no acceptable table over that tree has
-- those readings". At most one of all is so (`one-conversion`); that one is, the call's proof shows.
abbrev pub ConvertsTo : ℕ → ℕ → List ℕ → List ℤ → Converted → Type 0
ConvertsTo W H t grid no_table = (cs : List ℤ) → ¬ ReadsAs W H t cs grid
ConvertsTo W H t grid (the_table cs) = ReadsAs W H t cs grid

-- 21: "no acceptable table over that tree has those readings"
abbrev pub conversion_cause : Converted → ℕ
conversion_cause no_table = 21
conversion_cause (the_table cs) = 0

abbrev pub converted_numbers : Converted → List ℤ
converted_numbers no_table = []
converted_numbers (the_table cs) = cs

-- "after the checks of both inputs, the grid's first, and before 16". 2: "tree not of the form above".
abbrev pub read_grid_cause : ℕ → ℕ → List ℕ → Converted → List ℤ → ℕ
read_grid_cause W H t c out =
    cause 2 (not (formed W H (tree_of t))) or_else conversion_cause c or_else length_cause (slots W H) out

-- "The slice receives the table ..., and W and H are returned."
abbrev pub read_grid_outcome : Judged Grid → List ℕ → Converted → List ℤ → Done Sides ℤ
read_grid_outcome (declined n) t c out = record { result = refused n; after = out }
read_grid_outcome (contains g) t c out =
    done (read_grid_cause g.W g.H t c out) (record { W = g.W; H = g.H }) (converted_numbers c) out

-- What there is over the tree for a grid that was judged; a declined one has no table.
abbrev pub OverTree : Judged Grid → List ℕ → Converted → Type 0
OverTree (declined n) t c = c ≡ no_table
OverTree (contains g) t c = ConvertsTo g.W g.H t g.numbers c

-- One conversion is right for the grid and the tree, and P holds of the outcome by that one.
pub record ReadGrid (file t : List ℕ) (out : List ℤ) (P : Done Sides ℤ → Type 0) : Type 0 where
  pub converted : Converted
  pub right : OverTree (grid_contents file) t converted
  pub outcome : P (read_grid_outcome (grid_contents file) t converted out)
