-- Marks of the functions of one row of a level: which of them have a property, as bits of two words.
use Rattle.std.specs.Prelude.{Bool, cond, ◌||◌, List, ◌≡◌, ℕ, zero, suc, ◌+◌, ◌-◌, ◌*◌, ◌/◌, ◌%◌, ◌^◌, ◌<◌, leb, ltb, eqb, get_or}
use Rattle.finite.specs.Bits.{bit}
use Rattle.finite.specs.Range.{least}
use Rattle.surface.specs.Sheet.{eighths, functions, quarters}
use Rattle.surface.specs.Support.{least_under, active}
use Rattle.activity.specs.declared.Marks.{Marks}

-- the bits that are 1 in each of the words of a row from .. to, of places below 32
abbrev pub Common : List ℕ → ℕ → ℕ → ℕ → Type 0
Common rows from to word =
    (q : ℕ) → q < 32 → bit word q ≡ least 1 (to - from) (λ k. bit (get_or rows (from + k) 0) q)

-- a word of a row of quarters with 16 places before it; those and the places past the sheet's edge are 1, since
-- "its support is cut to the sheet"
abbrev pub padded_bit : ℕ → ℕ → ℕ → ℕ
padded_bit W word k = cond (ltb k 16 || leb (16 + quarters W) k) 1 (bit word (k - 16))

abbrev pub PaddedTo : ℕ → ℕ → ℕ → Type 0
PaddedTo W word r = (k : ℕ) → k < 64 → bit r k ≡ padded_bit W word k

-- bit k is 1 where the n bits from k on are
abbrev pub Runs : ℕ → ℕ → ℕ → Type 0
Runs word n r = (k : ℕ) → bit r k ≡ least 1 n (λ j. bit word (k + j))

-- the mark of function a, 1 or 0: those with even and with odd index have a word each, in which marks stand e places
-- apart, if a cell's side is e eighths
abbrev pub mark_at : ℕ → Marks → ℕ → ℕ
mark_at e m a = bit (cond (eqb (a % 2) 0) m.even m.odd) (a / 2 * e)

abbrev pub marked : ℕ → Marks → ℕ → Bool
marked e m a = leb 1 (mark_at e m a)

-- a word with n bits set, each e places after the one before, from the lowest on
unfoldable pub spread : ℕ → ℕ → ℕ
spread e zero = 0
spread e (suc n) = spread e n * 2 ^ e + 1

-- the places of the first n functions
abbrev pub Front : ℕ → ℕ → Marks → Type 0
Front e n m = (m.even ≡ spread e ((n + 1) / 2)) × (m.odd ≡ spread e (n / 2))

-- marks whose words begin 16 places before the sheet, from the places of functions 0 and 1 on: their supports start 3
-- and 2 cells before it
abbrev pub placed : ℕ → Marks → Marks
placed e m = record { even = m.even / 2 ^ ((32 - 3 * e) / 2); odd = m.odd / 2 ^ (16 - e) }

-- the marks of a row from function a on
abbrev pub From : ℕ → ℕ → Marks → Marks → Type 0
From e a m r = (k : ℕ) → mark_at e r k ≡ mark_at e m (a + k)

-- of row b of level L those functions are marked whose cut support lies in the region of level M
abbrev pub RegionRow : ℕ → ℕ → ℕ → ℕ → ℕ → (ℕ → ℕ → ℕ) → Marks → Type 0
RegionRow W H L b M lev m =
    (a : ℕ) → a < functions W L → marked (eighths L) m a ≡ leb M (least_under W H lev L a b)

-- of row b of level L the active functions are marked
abbrev pub ActiveRow : ℕ → ℕ → ℕ → ℕ → (ℕ → ℕ → ℕ) → Marks → Type 0
ActiveRow W H L b lev m = (a : ℕ) → a < functions W L → marked (eighths L) m a ≡ active W H lev L a b

-- the bits of a word that are not 1 in another
abbrev pub Without : ℕ → ℕ → ℕ → Type 0
Without word other r = (k : ℕ) → bit r k ≡ bit word k - bit other k
