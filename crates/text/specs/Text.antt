-- Document 01, "Bench sheet": the lines that the corner program prints, as bytes.
use Rattle.std.specs.Prelude.{cond, List, [], ◌∷◌, ◌++◌, ℕ, zero, suc, ◌/◌, ltb, ℤ, pos, negsuc}
use Rattle.io.specs.Digits.{last_digits}

-- ---- numbers

-- how many decimal digits n has, looking at fuel + 1 of them at most
unfoldable pub width_within : ℕ → ℕ → ℕ
width_within zero n = 1
width_within (suc fuel) n = cond (ltb n 10) 1 (suc (width_within fuel (n / 10)))

-- n in decimal with no zeros in front: it has at most n + 1 digits
unfoldable pub decimal : ℕ → List ℕ
decimal n = last_digits 10 (width_within n n) n

-- below zero after a minus, 45 in ASCII
abbrev pub signed : ℤ → List ℕ
signed (pos n) = decimal n
signed (negsuc n) = (45 ∷ []) ++ decimal (suc n)

-- ---- lines

abbrev pub space : List ℕ
space = 32 ∷ []

abbrev pub newline : List ℕ
newline = 10 ∷ []

-- "u v watts" and a newline
abbrev pub header : List ℕ
header = 117 ∷ 32 ∷ 118 ∷ 32 ∷ 119 ∷ 97 ∷ 116 ∷ 116 ∷ 115 ∷ 10 ∷ []

-- "refused "
abbrev pub refused_word : List ℕ
refused_word = 114 ∷ 101 ∷ 102 ∷ 117 ∷ 115 ∷ 101 ∷ 100 ∷ 32 ∷ []

-- "one line only, as `refused 12`, with its number"
unfoldable pub refused_line : ℕ → List ℕ
refused_line n = refused_word ++ decimal n ++ newline

-- "u and v in cells, whole watts"
unfoldable pub line : ℕ → ℕ → ℤ → List ℕ
line u v watts = decimal u ++ space ++ decimal v ++ space ++ signed watts ++ newline
