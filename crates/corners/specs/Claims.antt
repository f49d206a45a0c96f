-- What the text is, beside its definition. Proved in proofs/Theorems.antt.
use Rattle.std.specs.Prelude.{◌≡◌, Bool, true, List, [], ◌∷◌, ◌++◌, ℕ, ◌≤◌, take}
use Rattle.io.specs.Digits.{last_digits, IsDigitCount}
use Rattle.bench.specs.Bench.{S, flat}
use Rattle.surface.specs.Note.{Note, note_fits}
use Rattle.surface.specs.TableFile.{file_with}
use Rattle.text.specs.Text.{decimal, header}
use Rattle.corners.specs.Text.{corner_text}

-- The text of a number is what `io::decimal` puts for it: the fewest decimal digits that hold it, and at least one.
abbrev pub DecimalIsFewest : Type 0
DecimalIsFewest = (n k : ℕ) → IsDigitCount 10 1 n k → last_digits 10 k n ≡ decimal n

-- Input of any length has the text of its first 32,444 bytes, or of more of them: the program holds 65,536.
abbrev pub FrontDecides : Type 0
FrontDecides = (s : List ℕ) (n : ℕ) → 32444 ≤ n → corner_text (take n s) ≡ corner_text s

-- "For S", with the counts in its file or without them and with any note or none: the header, then 0 0 0, 1 0 1000,
-- 0 1 0 and 1 1 1000.
abbrev pub BenchText : Type 0
BenchText =
    (counts : Bool) (note : Note) → note_fits note ≡ true
    → corner_text (file_with counts note 1 1 flat S)
    ≡ header
    ++ (48 ∷ 32 ∷ 48 ∷ 32 ∷ 48 ∷ 10 ∷ [])
    ++ (49 ∷ 32 ∷ 48 ∷ 32 ∷ 49 ∷ 48 ∷ 48 ∷ 48 ∷ 10 ∷ [])
    ++ (48 ∷ 32 ∷ 49 ∷ 32 ∷ 48 ∷ 10 ∷ [])
    ++ (49 ∷ 32 ∷ 49 ∷ 32 ∷ 49 ∷ 48 ∷ 48 ∷ 48 ∷ 10 ∷ [])

-- "as `refused 12`": of no bytes at all
abbrev pub RefusedText : Type 0
RefusedText = corner_text [] ≡ 114 ∷ 101 ∷ 102 ∷ 117 ∷ 115 ∷ 101 ∷ 100 ∷ 32 ∷ 49 ∷ 50 ∷ 10 ∷ []
