-- Laws of words of bits: words taken together, runs of bits, and the places beside the sheet.
use mathlib.Core.Path.{◌≡◌, refl, ap, ap₂, ◌∙◌}
use mathlib.Core.Bool.{Bool, true, cond, ◌||◌}
use mathlib.Core.List.{List}
use mathlib.Core.Logic.{◌↔◌}
use Prim.Native.Nat.{ℕ, zero, suc, ◌+◌, ◌-◌, ◌*◌, ◌/◌, ◌^◌, ◌≤◌, ◌<◌, min, max}
use native.Mathlib.Nat.{add-zero, le_trans}
use native.Mathlib.Decide.{dec_lt}
use native.Mathlib.Omega.{arith}
use lib.Bits.{bit_and, bit_or}
use lib.Dec.{eqb, leb, ltb}
use lib.ListN.{get_or, take, drop}
use lib.Seq.{get_or-take, get_or-drop}
use borrow.Author.Tests.{eqb-true, lt-ltb, le-ltb, le-leb, lt-leb}
use mir.Syntax.{w64}
use Rattle.std.proofs.lemmas.Nat.Bits.{bit_at_not}
use Rattle.finite.specs.Bits.{bit}
use Rattle.finite.specs.Range.{least, every}
use Rattle.finite.proofs.Bits.{bit-small, bit-and, bit-or, bit-shr, bit-shl, bit_past}
use Rattle.finite.proofs.Tests.{every_true}
use Rattle.finite.proofs.Minima.{least-le-top, least-le, le-least}
use Rattle.surface.specs.Sheet.{quarters}
use Rattle.activity.specs.Marks.{Common, padded_bit, PaddedTo, Runs, Without}

-- ---- minima of bits

-- one more at the end
pub least_more : (n : ℕ) (f : ℕ → ℕ) → min (least 1 n f) (f n) ≡ least 1 (n + 1) f
unfolding least
least_more n f = let e : n + 1 ≡ suc n = omega arith in rw e refl

-- those from n on beside those below n
least-join : (n m : ℕ) (f g : ℕ → ℕ) → ((j : ℕ) → g j ≡ f (n + j))
    → min (least 1 n f) (least 1 m g) ≡ least 1 (n + m) f
unfolding least
least-join n zero f g same = rw (add-zero n) (omega (arith, least-le-top 1 n f))
least-join n (suc m) f g same =
    let e : n + suc m ≡ suc (n + m) = omega arith in
    rw e (omega (arith, least-join n m f g same, same m))

-- the least of them is 1 where each is
pub all_ones : (n : ℕ) (f : ℕ → ℕ) → (1 ≤ least 1 n f) ↔ ((k : ℕ) → k < n → 1 ≤ f k)
all_ones n f = (λ h k l. le_trans h (least-le 1 n f k l), λ h. le-least 1 n 1 f (omega arith) h)

-- ---- words taken together

-- the word at place n of those from .. to beside the n before it
pub common-more : (rows : List ℕ) (from to n word : ℕ) → n < to - from → Common rows from (from + n) word
    → Common rows from (from + (n + 1)) (bit_and word (get_or (take (to - from) (drop from rows)) n 0))
common-more rows from to n word h common q l =
    let f : ℕ → ℕ = λ k. bit (get_or rows (from + k) 0) q in
    let here : get_or (take (to - from) (drop from rows)) n 0 ≡ get_or rows (from + n) 0 =
    get_or-take (to - from) (drop from rows) n 0 h ∙ get_or-drop from rows n 0 in
    let before : from + n - from ≡ n = omega arith in
    let size : n + 1 ≡ from + (n + 1) - from = omega arith in
    bit-and word _ q
    ∙ ap₂ min (common q l ∙ ap (λ k. least 1 k f) before) (ap (λ w. bit w q) here)
    ∙ least_more n f
    ∙ ap (λ k. least 1 k f) size

-- ---- runs

pub run-one : (word : ℕ) → Runs word 1 word
unfolding least
run-one word k = let z : k + 0 ≡ k = omega arith in rw z (omega (arith, bit-small word k))

-- a run that starts where another of its length ends makes one of twice the length
pub run-twice : (word n run : ℕ) → Runs word n run → Runs word (n + n) (bit_and run (run / 2 ^ n))
run-twice word n run runs k =
    bit-and run (run / 2 ^ n) k
    ∙ ap₂ min (runs k) (bit-shr run n k ∙ runs (n + k))
    ∙ least-join n n (λ j. bit word (k + j)) (λ j. bit word (n + k + j)) (λ j. ap (bit word) (omega arith))

-- ---- the bits of a word that another lacks

pub without-bit : (word other : ℕ) → word < 2 ^ 64 → other < 2 ^ 64 → Without word other (bit_and word (2 ^ 64 - 1 - other))
unfolding bit
without-bit word other fits other-fits k = bit-and word (2 ^ 64 - 1 - other) k ∙ go (dec_lt k 64)
  where
    go : Dec (k < 64) → min (bit word k) (bit (2 ^ 64 - 1 - other) k) ≡ bit word k - bit other k
    go (yes l) = omega (arith, bit_at_not w64 other k other-fits l, bit-small word k, bit-small other k)
    go (no l) = omega (arith, bit_past word 64 k fits (omega arith))

-- ---- the places beside the sheet

-- all places but those of a sheet of W cells, with 16 places before it
abbrev edges : ℕ → ℕ
edges W = 18446744073709551615 - 4294967295 / 2 ^ (32 - 4 * W) * 65536

-- place k lies beside a sheet of W cells
abbrev beside : ℕ → ℕ → Bool
beside W k = ltb k 16 || leb (16 + quarters W) k

edges-right : every 9 (λ W. every 64 (λ k. eqb (bit (edges W) k) (cond (beside W k) 1 0))) ≡ true
unfolding every bit
edges-right = refl

edge-bit : (W k : ℕ) → W ≤ 8 → k < 64 → bit (edges W) k ≡ cond (beside W k) 1 0
edge-bit W k hW hk =
    eqb-true (bit (edges W) k) (cond (beside W k) 1 0)
    (every_true 64 (λ k. eqb (bit (edges W) k) (cond (beside W k) 1 0))
    (every_true 9 (λ W. every 64 (λ k. eqb (bit (edges W) k) (cond (beside W k) 1 0))) edges-right W (omega arith))
    k hk)

pub padded-bit : (W word : ℕ) → W ≤ 8 → PaddedTo W word (bit_or (word * 65536) (edges W))
padded-bit W word hW k hk =
    bit-or (word * 65536) (edges W) k
    ∙ ap (max (bit (word * 65536) k)) (edge-bit W k hW hk)
    ∙ go (dec_lt k 16) (dec_lt k (16 + quarters W))
  where
    small : bit (word * 65536) k < 2
    small = bit-small (word * 65536) k

    go : Dec (k < 16) → Dec (k < 16 + quarters W)
        → max (bit (word * 65536) k) (cond (beside W k) 1 0) ≡ padded_bit W word k
    go (yes l) e = rw (lt-ltb k 16 l) (omega (arith, small))
    go (no l) (no e) = rw (le-ltb k 16 (omega arith), le-leb (16 + quarters W) k (omega arith)) (omega (arith, small))
    go (no l) (yes e) =
        let place : k ≡ 16 + (k - 16) = omega arith in
        let here : bit (word * 65536) k ≡ bit word (k - 16) = ap (bit (word * 65536)) place
        ∙ bit-shl word 16 (k - 16) in
        rw (le-ltb k 16 (omega arith), lt-leb (16 + quarters W) k e) (omega (arith, here))
