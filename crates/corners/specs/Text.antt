-- Document 01, "Bench sheet": the text that the corner program prints for an input, as bytes.
use Rattle.std.specs.Prelude.{List, ◌++◌, ℕ, suc, ◌*◌, ℤ}
use Rattle.finite.specs.Range.{joined}
use Rattle.surface.specs.Table.{table_reading}
use Rattle.surface.specs.Calls.{whole_watts}
use Rattle.surface.specs.Fields.{declined, contains}
use Rattle.surface.specs.TableFile.{File, file_contents}
use Rattle.text.specs.Text.{header, refused_line, line}

-- The line of the corner (u, v): a cell has 128 steps on a side.
abbrev pub corner_line : ℕ → ℕ → List ℕ → List ℤ → ℕ → ℕ → List ℕ
corner_line W H t cs v u = line u v (whole_watts (table_reading W H t cs (128 * u) (128 * v)))

-- "a header, then one line for each cell corner, v rising, within it u"
unfoldable pub table_text : ℕ → ℕ → List ℕ → List ℤ → List ℕ
table_text W H t cs = header ++ joined (suc H) (λ v. joined (suc W) (corner_line W H t cs v))

-- "A declined file prints one line only": by what a file holds, which no output's length enters.
abbrev pub text_of : File → List ℕ
text_of (declined n) = refused_line n
text_of (contains f) = table_text f.W f.H f.tree f.numbers

unfoldable pub corner_text : List ℕ → List ℕ
corner_text file = text_of (file_contents file)
