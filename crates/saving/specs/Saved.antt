-- The file of a table by its regions and coefficients, and what the steps that put it give.
use Rattle.std.specs.Prelude.{◌≡◌, Bool, cond, Option, Some, None, List, [], ◌∷◌, ◌++◌, ℕ, ◌+◌, ◌*◌, ◌≤◌, ◌<◌, ℤ}
use Rattle.std.specs.Prelude.{pos, nat_abs, length, get_or}
use Rattle.std.specs.Borrow.{Bor}
use Rattle.finite.specs.Range.{joined}
use Rattle.surface.specs.Sheet.{functions}
use Rattle.surface.specs.Support.{active_count}
use Rattle.surface.specs.Table.{◌or_else◌, slots, coefficients}
use Rattle.surface.specs.Calls.{put, Done, done}
use Rattle.surface.specs.Fields.{field_bytes, number_bytes}
use Rattle.surface.specs.TableFile.{level_body, counts_body}
use Rattle.surface.specs.Note.{Note, none, noted, note_bytes}
use Rattle.surface.specs.Saving.{note_cause, file_out_cause}
use Rattle.rows.specs.Rows.{Nested}

-- ---- a row

-- five bytes spell the number
abbrev pub Spelt : ℤ → Type 0
Spelt z = nat_abs z < 549755813888

-- a number's bytes if its mark is 1
abbrev pub bytes_if : Bool → ℤ → List ℕ
bytes_if t z = cond t (number_bytes z) []

-- those of a row's marked places
abbrev pub marked_bytes : (ℕ → Bool) → List ℤ → List ℕ
marked_bytes on row = joined (length row) (λ a. bytes_if (on a) (get_or row a (pos 0)))

-- ---- a level

-- the coefficients of a level in its part of the slice
abbrev pub in_part : ℕ → List ℤ → ℕ → ℕ → ℕ → ℤ
in_part W part L a b = get_or part (b * functions W L + a) (pos 0)

-- the coefficients of level L are spelt by five bytes
abbrev pub LevelSpelt : ℕ → ℕ → (ℕ → ℕ → ℕ → ℤ) → ℕ → Type 0
LevelSpelt W H coef L = (a b : ℕ) → a < functions W L → b < functions H L → Spelt (coef L a b)

-- the field of level L
abbrev pub level_under : ℕ → ℕ → (ℕ → ℕ → ℕ) → (ℕ → ℕ → ℕ → ℤ) → ℕ → List ℕ
level_under W H lev coef L = field_bytes (16 + L) (level_body W H lev coef L)

-- ---- the file

-- what the check of a table leaves of it: sides, a tree of at most 1,365 bytes, and coefficients that five bytes spell
pub record Checked (W H : ℕ) (t : List ℕ) (cs : List ℤ) (rows : List ℕ) : Type 0 where
  pub small-W : W ≤ 8
  pub small-H : H ≤ 8
  pub tree : length t ≤ 1365
  pub size : length cs ≡ slots W H
  pub spelt : (L : ℕ) → L < 4 → LevelSpelt W H (coefficients W H cs) L
  pub nested : Nested rows

-- the length up to a note by the tree's and by the counts: seven heads, two sides, the tree, eight bytes for the
-- counts, five for each active function
abbrev pub length_by : ℕ → List ℕ → ℕ
length_by tree counts = 31 + tree + 5 * (get_or counts 0 0 + get_or counts 1 0 + get_or counts 2 0 + get_or counts 3 0)

-- the file up to a note
unfoldable pub file_under : ℕ → ℕ → List ℕ → (ℕ → ℕ → ℕ) → (ℕ → ℕ → ℕ → ℤ) → List ℕ
file_under W H t lev coef =
    field_bytes 1 (W ∷ H ∷ [])
    ++ field_bytes 2 t
    ++ field_bytes 3 (counts_body (active_count W H lev))
    ++ joined 4 (λ L. level_under W H lev coef L)

-- "The writer takes a note or none": these bytes, or none.
abbrev pub note_lent : Option (Bor (List ℕ)) → Note
note_lent None = none
note_lent (Some text) = noted text.now

-- with a note or none, written if 14 and 18 do not apply
abbrev pub saved_outcome : ℕ → ℕ → List ℕ → (ℕ → ℕ → ℕ) → (ℕ → ℕ → ℕ → ℤ) → Note → List ℕ → Done ℕ ℕ
saved_outcome W H t lev coef note out =
    let file = file_under W H t lev coef ++ note_bytes note in
    done (note_cause note or_else file_out_cause file out) (length file) (put file out) out
