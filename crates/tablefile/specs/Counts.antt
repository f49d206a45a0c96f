-- Document 02, "Counts in the file": where they stand in a file, for a browser that reads them off it, and a file with
-- them added. Proved in proofs/CountsTold.antt.
use Rattle.std.specs.Prelude.{◌≡◌, Bool, true, cond, List, ◌++◌, ℕ, ◌+◌, ◌<◌, ℤ, eqb, get_or, take, drop}
use Rattle.surface.specs.Support.{active_count}
use Rattle.surface.specs.Table.{levels, Acceptable}
use Rattle.surface.specs.Fields.{contains, length_at, two_bytes_at, field_bytes}
use Rattle.surface.specs.Note.{Note, note_fits}
use Rattle.surface.specs.TableFile.{counts_body, Loaded, file_contents, file_with}

-- "after tag 2": two heads, the two sides and the tree come before.
abbrev pub after_tree : List ℕ → ℕ
after_tree s = 8 + length_at (drop 5 s)

-- "files that had it": tag 3 stands there.
abbrev pub has_counts : List ℕ → Bool
has_counts s = eqb (get_or s (after_tree s) 0) 3

-- The file that has counts, n L for level L: the file itself where it has them, else with the field added after tag 2.
abbrev pub with_counts : (ℕ → ℕ) → List ℕ → List ℕ
with_counts n s =
    cond (has_counts s) s (take (after_tree s) s ++ field_bytes 3 (counts_body n) ++ drop (after_tree s) s)

-- "The stand's browser shows how many functions a table has": the count of level L that stands in a file, in two bytes
-- after the field's head, is the number of active functions of level L over the tree t on a sheet W by H.
abbrev pub Tells : ℕ → ℕ → List ℕ → List ℕ → Type 0
Tells W H t s =
    (L : ℕ) → L < 4 → two_bytes_at (drop (after_tree s + 3) s) L ≡ active_count W H (levels t) L

-- So in each file that loads a table and has the counts.
abbrev pub CountsTell : Type 0
CountsTell =
    (s : List ℕ) (f : Loaded) → file_contents s ≡ contains f → has_counts s ≡ true → Tells f.W f.H f.tree s

-- The file of a table has them, and the one without them does not, with any note or none.
abbrev pub CountsThere : Type 0
CountsThere =
    (counts : Bool) (note : Note) (W H : ℕ) (t : List ℕ) (cs : List ℤ) → Acceptable W H t cs → note_fits note ≡ true
    → has_counts (file_with counts note W H t cs) ≡ counts
