-- The table over new regions, whatever refinement they come from: its coefficients, and the outcome of writing it.
use Rattle.std.specs.Prelude.{List, ℕ, ℤ, length}
use Rattle.surface.specs.Carry.{carried_over}
use Rattle.surface.specs.Table.{coefficients, slice_of}
use Rattle.surface.specs.Calls.{Written, written, outputs_cause}
use Rattle.rows.specs.Rows.{levels_of}

-- carried over from the regions of some rows to those of others
abbrev pub over_rows : ℕ → ℕ → List ℕ → List ℕ → List ℤ → ℕ → ℕ → ℕ → ℤ
over_rows W H rows new cs = carried_over W H (levels_of rows) (levels_of new) (coefficients W H cs)

-- the table with a tree and these coefficients, written if 16 and 17 do not apply
abbrev pub refined_outcome : ℕ → ℕ → List ℕ → List ℕ → List ℤ → List ℕ → List ℕ → List ℤ → Written ℕ
refined_outcome W H rows new cs tree tree_out numbers_out =
    written
    (outputs_cause W H tree tree_out numbers_out)
    (length tree)
    tree
    (slice_of W H (over_rows W H rows new cs))
    tree_out
    numbers_out
