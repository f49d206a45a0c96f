-- How long the text of a number and of a line is, and texts put one after another.
use mathlib.Core.Path.{◌≡◌, refl, sym, ap, ◌∙◌, subst}
use mathlib.Core.Bool.{Bool, true, false, cond}
use mathlib.Core.List.{[], ◌∷◌, ◌++◌, append_assoc}
use Prim.Native.Nat.{ℕ, zero, suc, ◌+◌, ◌-◌, ◌/◌, ◌%◌, ◌^◌, ◌≤◌, ◌<◌}
use native.Mathlib.Nat.{pow-le-pow_right, pow-suc}
use native.Mathlib.Numerals.{add-one}
use native.Mathlib.Omega.{arith}
use lib.Dec.{ltb}
use lib.IntN.{ℤ, pos, negsuc, nat_abs}
use lib.ListN.{length, length-append}
use borrow.Author.Tests.{lt-ltb, le-ltb, ltb-false}
use Rattle.io.specs.Digits.{hex_digit_ascii, last_digits, IsDigitCount}
use Rattle.text.specs.Text.{width_within, decimal, signed, space, newline, refused_word, refused_line, line}

-- ---- the digits of a number

pub digits-length : (k n : ℕ) → length (last_digits 10 k n) ≡ k
digits-length zero n = refl
digits-length (suc k) n =
    length-append (last_digits 10 k (n / 10)) (hex_digit_ascii (n % 10) ∷ []) ∙ ap (λ m. m + 1) (digits-length k (n / 10)) ∙ add-one k

lower : (n j : ℕ) → 10 ^ (suc (suc j) - 1) ≤ n → 10 ^ suc j ≤ n
lower n j h = let back : suc (suc j) - 1 ≡ suc j = omega arith in subst (λ e. 10 ^ e ≤ n) back h

fewest-width : (fuel n k : ℕ) → n ≤ fuel → IsDigitCount 10 1 n k → width_within fuel n ≡ k
unfolding width_within
fewest-width fuel n zero le f = absurd (omega (arith, f.0))
fewest-width zero n (suc zero) le f = refl
fewest-width (suc fuel) n (suc zero) le f = rw (lt-ltb n 10 f.1) refl
fewest-width zero n (suc (suc j)) le f =
    let one : 10 ^ 0 ≤ 10 ^ suc j = pow-le-pow_right {n = 10} (omega arith) {i = 0} {j = suc j} (omega arith) in
    let low : 10 ^ suc j ≤ n = lower n j (f.2 (omega arith)) in
    absurd (omega arith)
fewest-width (suc fuel) n (suc (suc j)) le f =
    let ten : 10 ^ 1 ≤ 10 ^ suc j = pow-le-pow_right {n = 10} (omega arith) {i = 1} {j = suc j} (omega arith) in
    let low : 10 ^ suc j ≤ n = lower n j (f.2 (omega arith)) in
    let less : n / 10 < 10 ^ suc j = omega (arith, f.1, pow-suc 10 (suc j)) in
    let back : suc j - 1 ≡ j = omega arith in
    let least : 10 ^ (suc j - 1) ≤ n / 10 = subst (λ e. 10 ^ e ≤ n / 10) (sym back) (omega (arith, pow-suc 10 j)) in
    rw (le-ltb n 10 (omega arith))
    (ap suc (fewest-width fuel (n / 10) (suc j) (omega arith) (omega arith, less, λ h. least)))

-- the fewest digits that hold a number are its text
pub fewest-decimal : (n k : ℕ) → IsDigitCount 10 1 n k → last_digits 10 k n ≡ decimal n
unfolding decimal
fewest-decimal n k f = ap (λ m. last_digits 10 m n) (sym (fewest-width n n k (omega arith) f))

-- ---- how long the lines are

tested : (fuel n k : ℕ) (b : Bool) → ltb n 10 ≡ b → 0 < k → n < 10 ^ k
    → ((j : ℕ) → 0 < j → n / 10 < 10 ^ j → width_within fuel (n / 10) ≤ j)
    → cond b 1 (suc (width_within fuel (n / 10))) ≤ k
tested fuel n k true e h less ih = omega arith
tested fuel n zero false e h less ih = absurd (omega arith)
tested fuel n (suc zero) false e h less ih = absurd (omega (arith, ltb-false n 10 e))
tested fuel n (suc (suc j)) false e h less ih =
    omega (arith, ih (suc j) (omega arith) (omega (arith, less, pow-suc 10 (suc j))))

width-within : (fuel n k : ℕ) → 0 < k → n < 10 ^ k → width_within fuel n ≤ k
unfolding width_within
width-within zero n k h less = omega arith
width-within (suc fuel) n k h less =
    tested fuel n k (ltb n 10) refl h less (λ j hj lj. width-within fuel (n / 10) j hj lj)

-- a number below 10 ^ k has at most k digits
pub decimal-short : (n k : ℕ) → 0 < k → n < 10 ^ k → length (decimal n) ≤ k
unfolding decimal
decimal-short n k h less = rw (digits-length (width_within n n) n) (width-within n n k h less)

signed-short : (z : ℤ) → nat_abs z ≤ 60000 → length (signed z) ≤ 6
signed-short (pos n) h = omega (arith, decimal-short n 5 (omega arith) (omega arith))
signed-short (negsuc n) h = omega (arith, decimal-short (suc n) 5 (omega arith) (omega arith))

pub line-length : (u v : ℕ) (z : ℤ)
    → length (line u v z) ≡ length (decimal u) + 1 + (length (decimal v) + 1) + length (signed z) + 1
unfolding line
line-length u v z =
    omega (
      arith,
      length-append (decimal u ++ space ++ decimal v ++ space ++ signed z) newline,
      length-append (decimal u ++ space ++ decimal v ++ space) (signed z),
      length-append (decimal u ++ space ++ decimal v) space,
      length-append (decimal u ++ space) (decimal v),
      length-append (decimal u) space,
    )

-- the line of a corner: a digit, a digit, and at most five with a sign
pub line-short : (u v : ℕ) (z : ℤ) → u ≤ 8 → v ≤ 8 → nat_abs z ≤ 60000 → length (line u v z) ≤ 11
line-short u v z hu hv hz =
    omega (
      arith,
      line-length u v z,
      decimal-short u 1 (omega arith) (omega arith),
      decimal-short v 1 (omega arith) (omega arith),
      signed-short z hz,
    )

-- ---- lines put together

pub line-parts : (u v : ℕ) (z : ℤ)
    → (decimal u ++ space) ++ (decimal v ++ space) ++ signed z ++ newline ≡ line u v z
unfolding line
line-parts u v z = ap (λ l. l ++ signed z ++ newline) (sym (append_assoc (decimal u ++ space) (decimal v) space))

pub refused-parts : (n : ℕ) → refused_word ++ decimal n ++ newline ≡ refused_line n
unfolding refused_line
refused-parts n = refl
