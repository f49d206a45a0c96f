-- Laws of binary digits: of the bitwise operations, of shifts and remainders, and that digits give the number.
use mathlib.Core.Path.{◌≡◌, refl, sym, ap, ap₂, ◌∙◌}
use Prim.Native.Nat.{ℕ, zero, suc, ◌+◌, ◌-◌, ◌*◌, ◌/◌, ◌%◌, ◌^◌, ◌≤◌, ◌<◌, min, max}
use native.Mathlib.Nat.{mod-lt, div-add-mod', div-eq_of_lt, lt_of_lt_of_le}
use lib.Arith.{digits_mod}
use native.Mathlib.Nat.{mul_assoc, add_comm, add-zero, pow-suc, zero-lt-suc, mul-mod_left}
use native.Mathlib.Decide.{dec_lt}
use native.Mathlib.Omega.{arith}
use lib.Bits.{bit_and, bit_or, bit_xor, differ, and_shr, or_shr, xor_shr, and_step, or_step, xor_step}
use lib.Pow.{pow-add, pow_mono, pow_pos, shl-shr, shr-shr, field, mod-mod-pow, high, low, ones_lt, ones_split}
use Rattle.finite.specs.Bits.{bit, word_of}

pub bit-small : (n k : ℕ) → bit n k < 2
unfolding bit
bit-small n k = mod-lt (n / 2 ^ k) (zero-lt-suc 1)

-- ---- the bitwise operations work on each digit apart

pub bit-and : (a b k : ℕ) → bit (bit_and a b) k ≡ min (bit a k) (bit b k)
unfolding bit
bit-and a b k =
    let x = a / 2 ^ k in
    let y = b / 2 ^ k in
    rw (and_shr a b k, and_step x y)
    (digits_mod (bit_and (x / 2) (y / 2)) (omega (arith, bit-small a k)))

pub bit-or : (a b k : ℕ) → bit (bit_or a b) k ≡ max (bit a k) (bit b k)
unfolding bit
bit-or a b k =
    let x = a / 2 ^ k in
    let y = b / 2 ^ k in
    rw (or_shr a b k, or_step x y)
    (digits_mod (bit_or (x / 2) (y / 2)) (omega (arith, bit-small a k, bit-small b k)))

pub bit-xor : (a b k : ℕ) → bit (bit_xor a b) k ≡ differ (bit a k) (bit b k)
unfolding bit
bit-xor a b k =
    let x = a / 2 ^ k in
    let y = b / 2 ^ k in
    rw (xor_shr a b k, xor_step x y)
    (digits_mod (bit_xor (x / 2) (y / 2)) (differ-small (x % 2) (y % 2) (bit-small a k) (bit-small b k)))
  where
    differ-small : (x y : ℕ) → x < 2 → y < 2 → differ x y < 2
    differ-small zero y hx hy = hy
    differ-small (suc zero) zero hx hy = hx
    differ-small (suc zero) (suc zero) hx hy = omega arith
    differ-small (suc zero) (suc (suc y)) hx hy = absurd (omega arith)
    differ-small (suc (suc x)) y hx hy = absurd (omega arith)

-- ---- shifts, remainders and digits past the end

pub bit-shr : (a j k : ℕ) → bit (a / 2 ^ j) k ≡ bit a (j + k)
unfolding bit
bit-shr a j k = ap (λ n. n % 2) (shr-shr a j k)

pub bit-shl : (a j k : ℕ) → bit (a * 2 ^ j) (j + k) ≡ bit a k
bit-shl a j k = sym (bit-shr (a * 2 ^ j) j k) ∙ ap (λ n. bit n k) (shl-shr a j)

pub bit-shl-low : (a j k : ℕ) → k < j → bit (a * 2 ^ j) k ≡ 0
unfolding bit
bit-shl-low a j k h =
    let m = j - suc k in
    let e : j ≡ m + 1 + k = omega arith in
    let p : a * 2 ^ j ≡ a * 2 ^ m * 2 * 2 ^ k =
    ap (λ i. a * 2 ^ i) e
    ∙ ap (λ x. a * x) (pow-add 2 (m + 1) k ∙ ap (λ x. x * 2 ^ k) (pow-add 2 m 1))
    ∙ sym (mul_assoc a (2 ^ m * 2) (2 ^ k))
    ∙ ap (λ x. x * 2 ^ k) (sym (mul_assoc a (2 ^ m) 2)) in
    ap (λ x. x / 2 ^ k % 2) p ∙ ap (λ x. x % 2) (shl-shr (a * 2 ^ m * 2) k) ∙ mul-mod_left (a * 2 ^ m) 2

pub bit_past : (a j k : ℕ) → a < 2 ^ j → j ≤ k → bit a k ≡ 0
unfolding bit
bit_past a j k h l = ap (λ n. n % 2) (div-eq_of_lt (lt_of_lt_of_le h (pow_mono {i = j} {j = k} l)))

-- a number above another of j digits
pub bit-above : (a b j k : ℕ) → b < 2 ^ j → bit (a * 2 ^ j + b) (j + k) ≡ bit a k
bit-above a b j k h = sym (bit-shr (a * 2 ^ j + b) j k) ∙ ap (λ n. bit n k) (high a j h)

pub bit-mod : (a j k : ℕ) → k < j → bit (a % 2 ^ j) k ≡ bit a k
unfolding bit
bit-mod a j k h =
    let m = j - suc k in
    let e : j ≡ m + 1 + k = omega arith in
    rw e (ap (λ n. n % 2) (field a (m + 1) k) ∙ mod-mod-pow (a / 2 ^ k) m 1)

pub bit_below : (a b j k : ℕ) → b < 2 ^ j → k < j → bit (a * 2 ^ j + b) k ≡ bit b k
bit_below a b j k h l = sym (bit-mod (a * 2 ^ j + b) j k l) ∙ ap (λ n. bit n k) (low a j h)

-- the n lowest digits are all 1
pub bit-ones : (n k : ℕ) → k < n → bit (2 ^ n - 1) k ≡ 1
unfolding bit
bit-ones n k h =
    let m = n - suc k in
    let e : n ≡ suc m + k = omega arith in
    rw (e, ones_split (suc m) k)
    (ap (bit ((2 ^ suc m - 1) * 2 ^ k + (2 ^ k - 1))) (sym (add-zero k))
    ∙ bit-above (2 ^ suc m - 1) (2 ^ k - 1) k 0 (ones_lt k)
    ∙ omega (arith, pow-suc 2 m, pow_pos m))

-- ---- digits give the number

pub bits-same : (n a b : ℕ) → a < 2 ^ n → b < 2 ^ n → ((k : ℕ) → k < n → bit a k ≡ bit b k) → a ≡ b
unfolding bit
bits-same zero a b ha hb same = omega arith
bits-same (suc n) a b ha hb same =
    let halves : a / 2 ≡ b / 2 =
    bits-same n (a / 2) (b / 2) (half a ha) (half b hb)
    (λ k l. bit-shr a 1 k ∙ ap (bit a) (add_comm 1 k) ∙ same (k + 1) (omega arith) ∙ ap (bit b) (add_comm k 1)
    ∙ sym (bit-shr b 1 k)) in
    let lows : a % 2 ≡ b % 2 = omega (arith, same 0 (omega arith)) in
    sym (div-add-mod' a 2) ∙ ap₂ (λ x y. x * 2 + y) halves lows ∙ div-add-mod' b 2
  where
    half : (c : ℕ) → c < 2 ^ suc n → c / 2 < 2 ^ n
    half c h = omega (arith, pow-suc 2 n)

pub word_small : (n : ℕ) (f : ℕ → ℕ) → ((k : ℕ) → k < n → f k < 2) → word_of n f < 2 ^ n
unfolding word_of
word_small zero f h = omega arith
word_small (suc n) f h = at_most_one (f n) (h n (omega arith)) (word_small n f (λ k l. h k (omega arith)))
  where
    at_most_one : (d : ℕ) → d < 2 → word_of n f < 2 ^ n → d * 2 ^ n + word_of n f < 2 ^ suc n
    at_most_one zero l w = omega (arith, pow-suc 2 n)
    at_most_one (suc zero) l w = omega (arith, pow-suc 2 n)
    at_most_one (suc (suc d)) l w = absurd (omega arith)

first_bit : (d : ℕ) → d < 2 → bit d 0 ≡ d
unfolding bit
first_bit zero l = refl
first_bit (suc zero) l = refl
first_bit (suc (suc d)) l = absurd (omega arith)

pub word-bit : (n : ℕ) (f : ℕ → ℕ) → ((k : ℕ) → k < n → f k < 2) → (k : ℕ) → k < n → bit (word_of n f) k ≡ f k
unfolding word_of
word-bit zero f h k l = absurd (omega arith)
word-bit (suc n) f h k l = go (λ s. word-bit n f (λ k l. h k (omega arith)) k s) (dec_lt k n)
  where
    less : word_of n f < 2 ^ n
    less = word_small n f (λ k l. h k (omega arith))

    go : (k < n → bit (word_of n f) k ≡ f k) → Dec (k < n) → bit (f n * 2 ^ n + word_of n f) k ≡ f k
    go ih (yes s) = bit_below (f n) (word_of n f) n k less s ∙ ih s
    go ih (no s) =
        let e : k ≡ n + 0 = omega arith in
        let last : n ≡ k = omega arith in
        ap (bit (f n * 2 ^ n + word_of n f)) e ∙ bit-above (f n) (word_of n f) n 0 less
        ∙ first_bit (f n) (h n (omega arith))
        ∙ ap f last
