-- Regions as rows of bits: for each of the levels 1 to 3 a word of 32 bits for each row of quarter squares. Bit q of
-- word 32 l + r is 1 where quarter square (q, r) lies in the region of level l + 1.
use Rattle.std.specs.Prelude.{Bool, ◌&&◌, cond, List, ◌≡◌, ℕ, ◌+◌, ◌-◌, ◌*◌, ◌/◌, ◌%◌, ◌^◌, ◌≤◌, ◌<◌, min, max, leb, ltb, length, get_or}
use Rattle.std.specs.Int.Bits.{bit_or}
use Rattle.finite.specs.Bits.{bit, word_of}
use Rattle.finite.specs.Range.{table_from}
use Rattle.surface.specs.Table.{levels}

-- 1 if quarter square (q, r) lies in the region of level l + 1, else 0
abbrev pub in_rows : List ℕ → ℕ → ℕ → ℕ → ℕ
in_rows rows l q r = bit (get_or rows (l * 32 + r) 0) q

-- the level of quarter square (q, r): how many of the three regions it lies in
abbrev pub levels_of : List ℕ → ℕ → ℕ → ℕ
levels_of rows q r = in_rows rows 0 q r + in_rows rows 1 q r + in_rows rows 2 q r

-- "the region of level L is all quarter squares with level at least L, so regions are nested"
pub record Nested (rows : List ℕ) : Type 0 where
  pub second : (q r : ℕ) → q < 32 → r < 32 → in_rows rows 1 q r ≤ in_rows rows 0 q r
  pub third : (q r : ℕ) → q < 32 → r < 32 → in_rows rows 2 q r ≤ in_rows rows 1 q r

-- 1 if level v is at least l + 1, else 0
abbrev pub above : ℕ → ℕ → ℕ
above l v = min 1 (v - l)

-- the rows of given levels, and those of the tree of a slice
unfoldable pub rows_of : (ℕ → ℕ → ℕ) → List ℕ
rows_of lev = table_from 0 96 (λ p. word_of 32 (λ q. above (p / 32) (lev q (p % 32))))

abbrev pub level_rows : List ℕ → List ℕ
level_rows t = rows_of (levels t)

-- q is one of the n numbers from x on
abbrev pub in_span : ℕ → ℕ → ℕ → Bool
in_span x n q = leb x q && ltb q (x + n)

-- no square of the w by h squares from (x, y) on lies in the region of level l + 1
abbrev pub NoneIn : ℕ → ℕ → ℕ → ℕ → ℕ → List ℕ → Type 0
NoneIn l x y w h rows = (q r : ℕ) → x ≤ q → q < x + w → y ≤ r → r < y + h → in_rows rows l q r ≡ 0

-- the squares of the square of a side at (x, y) are raised to given levels, counted from its corner; no square is
-- lowered, and none outside it is changed
pub record Painted (x y side : ℕ) (lev : ℕ → ℕ → ℕ) (before after : List ℕ) : Type 0 where
  pub size : length after ≡ 96
  pub bits : (l q r : ℕ) → l < 3 → q < 32 → r < 32
      → in_rows after l q r
      ≡ max (in_rows before l q r) (cond (in_span x side q && in_span y side r) (above l (lev (q - x) (r - y))) 0)

-- each word has 32 bits
abbrev pub Fit : List ℕ → Type 0
Fit rows = (p : ℕ) → p < 96 → get_or rows p 0 < 2 ^ 32

-- squares are raised, and words of 32 bits stay such
pub record Raised (x y side : ℕ) (lev : ℕ → ℕ → ℕ) (before after : List ℕ) : Type 0 where
  pub painted : Painted x y side lev before after
  pub fit : Fit before → Fit after

-- the bits of a mask are set in the words whose places have a test, and no other word is changed
pub record Masked (test : ℕ → Bool) (mask : ℕ) (before after : List ℕ) : Type 0 where
  pub size : length after ≡ length before
  pub words : (p : ℕ) → p < 96 → get_or after p 0 ≡ cond (test p) (bit_or (get_or before p 0) mask) (get_or before p 0)
