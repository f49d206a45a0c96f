-- The places of the coefficient slice that the program lends for a file.
use Rattle.std.specs.Prelude.{◌&&◌, cond, List, ℕ, ltb, length, get_or}
use Rattle.surface.specs.Sheet.{good_side}
use Rattle.surface.specs.Table.{slots}

-- The places of a table on a sheet with these sides; 0 where there is no such sheet.
unfoldable pub places_of : ℕ → ℕ → ℕ
places_of W H = cond (good_side W && good_side H) (slots W H) 0

-- The same of the sides that a file names in its bytes 3 and 4; 0 where it has no such bytes.
unfoldable pub places_named : List ℕ → ℕ
places_named file = cond (ltb (length file) 5) 0 (places_of (get_or file 3 0) (get_or file 4 0))
