-- The activity of a level as bytes.
use Rattle.std.specs.Prelude.{cond, List, ℕ}
use Rattle.finite.specs.Range.{table_from, grid}
use Rattle.surface.specs.Sheet.{functions}
use Rattle.surface.specs.Support.{active}
use Rattle.rows.specs.Rows.{levels_of}
use Rattle.activity.specs.Marks.{mark_at}
use Rattle.activity.specs.declared.Marks.{Marks}

-- the marks of n functions
abbrev pub row_marks : ℕ → Marks → ℕ → List ℕ
row_marks e m n = table_from 0 n (mark_at e m)

-- 1 if function (a, b) of a level is active under the levels of the rows, else 0
abbrev pub active_mark : ℕ → ℕ → ℕ → List ℕ → ℕ → ℕ → ℕ
active_mark W H L rows a b = cond (active W H (levels_of rows) L a b) 1 0

-- those of the places of a level
abbrev pub level_marks : ℕ → ℕ → ℕ → List ℕ → List ℕ
level_marks W H L rows = grid (functions W L) (functions H L) (active_mark W H L rows)
