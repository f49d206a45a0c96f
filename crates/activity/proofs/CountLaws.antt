-- Laws of the counts of active functions.
use mathlib.Core.Path.{◌≡◌, refl, sym, ap, ap₂, ◌∙◌}
use Prim.Native.Nat.{ℕ, zero, suc, ◌+◌, ◌-◌, ◌*◌, ◌/◌, ◌%◌, ◌^◌, ◌≤◌, ◌<◌}
use native.Mathlib.Nat.{add_comm, add-mul, zero-mul, one-mul, suc-mul, mul_right_comm, mul-div_cancel}
use native.Mathlib.Nat.{mod-lt}
use native.Mathlib.Omega.{arith}
use lib.Bits.{bit_and, and_zero_r, and_block, and_lt, and_mask}
use lib.Count.{ones, ones_cat}
use lib.Pow.{shl_exact, pow_pos, pow_mono, ones_split, split, mod-mod-pow}
use Rattle.finite.specs.Range.{count, total}
use Rattle.finite.proofs.Tests.{count-cong, total-cong}
use Rattle.surface.specs.Sheet.{eighths, functions}
use Rattle.surface.specs.Support.{active, active_in_row, active_count}
use Rattle.activity.specs.Marks.{mark_at, marked, spread, Front, ActiveRow}
use Rattle.activity.specs.declared.Marks.{Marks}
use Rattle.activity.proofs.StepLaws.{from-none, from-here, marks-next, marks-counted}

-- ---- places that are spread

spread-times : (e n : ℕ) → spread e n * (2 ^ e - 1) ≡ 2 ^ (n * e) - 1
unfolding spread
spread-times e zero = rw (zero-mul (2 ^ e - 1), zero-mul e) refl
spread-times e (suc n) =
    add-mul (spread e n * 2 ^ e) 1 (2 ^ e - 1)
    ∙ ap₂ ◌+◌ (mul_right_comm (spread e n) (2 ^ e) (2 ^ e - 1)) (one-mul (2 ^ e - 1))
    ∙ ap (λ x. x * 2 ^ e + (2 ^ e - 1)) (spread-times e n)
    ∙ sym (ones_split (n * e) e)
    ∙ ap (λ k. 2 ^ k - 1) (sym (suc-mul n e))

pub spread-is : (e n : ℕ) → 1 ≤ e → (2 ^ (n * e) - 1) / (2 ^ e - 1) ≡ spread e n
spread-is e n h =
    let some : 2 ≤ 2 ^ e = pow_mono {i = 1} {j = e} h in
    ap (λ x. x / (2 ^ e - 1)) (sym (spread-times e n)) ∙ mul-div_cancel (spread e n) (omega arith)

pub one_shl : (k : ℕ) → k < 64 → 1 * 2 ^ k % 2 ^ 64 ≡ 2 ^ k
one_shl k h = shl_exact 1 k 64 (omega arith) (omega arith) ∙ one-mul (2 ^ k)

-- ---- the set bits of a word

total_first : (n : ℕ) (f : ℕ → ℕ) → total (suc n) f ≡ f 0 + total n (λ k. f (suc k))
unfolding total
total_first zero f = add_comm 0 (f 0)
total_first (suc n) f = omega (arith, total_first n f)

low-one : (r : ℕ) → ones (bit_and r 1) ≡ r % 2
unfolding ones
low-one r = rw (and_mask r 1) (go (r % 2) (mod-lt r (omega arith)))
  where
    go : (d : ℕ) → d < 2 → ones d ≡ d
    go zero h = refl
    go (suc zero) h = refl
    go (suc (suc d)) h = absurd (omega arith)

-- at spread places: that of the lowest, and those of the places after it
ones-next : (e n x : ℕ) → 1 ≤ e
    → ones (bit_and x (spread e (suc n))) ≡ x % 2 + ones (bit_and (x / 2 ^ e) (spread e n))
unfolding spread
ones-next e n x h =
    let some : 2 ≤ 2 ^ e = pow_mono {i = 1} {j = e} h in
    let lows : x % 2 ^ e < 2 ^ e = mod-lt x (pow_pos e) in
    ap (λ y. ones (bit_and y (spread e n * 2 ^ e + 1))) (sym (split x e))
    ∙ ap ones (and_block e (x / 2 ^ e) (spread e n) (x % 2 ^ e) 1 lows (omega arith))
    ∙ ones_cat e (bit_and (x / 2 ^ e) (spread e n)) (bit_and (x % 2 ^ e) 1) (and_lt e (x % 2 ^ e) 1 lows (omega arith))
    ∙ ap (λ y. ones (bit_and (x / 2 ^ e) (spread e n)) + y) (low-one (x % 2 ^ e) ∙ low_bit)
    ∙ add_comm (ones (bit_and (x / 2 ^ e) (spread e n))) (x % 2)
  where
    low_bit : x % 2 ^ e % 2 ≡ x % 2
    low_bit = let k : e ≡ e - 1 + 1 = omega arith in rw k (mod-mod-pow x (e - 1) 1)

-- at the places of the first n functions: their marks
ones-marks : (e n : ℕ) (m : Marks) → 1 ≤ e
    → ones (bit_and m.even (spread e ((n + 1) / 2))) + ones (bit_and m.odd (spread e (n / 2)))
    ≡ total n (mark_at e m)
unfolding spread total ones
ones-marks e zero m h = rw (and_zero_r m.even, and_zero_r m.odd) refl
ones-marks e (suc n) m h =
    let next : Marks = record { even = m.odd; odd = m.even / 2 ^ e } in
    let evens : (suc n + 1) / 2 ≡ suc (n / 2) = omega arith in
    let odds : suc n / 2 ≡ (n + 1) / 2 = omega arith in
    let here : mark_at e m 0 ≡ m.even % 2 = sym (from-here e 0 m m (from-none e m)) in
    let rest : total n (λ k. mark_at e m (suc k)) ≡ total n (mark_at e next) =
    total-cong n _ _ (λ k l. let s : suc k ≡ 1 + k = omega arith in ap (mark_at e m) s ∙ sym (marks-next e m k)) in
    rw (evens, odds)
    (omega (arith, ones-next e (n / 2) m.even h, ones-marks e n next h, total_first n (mark_at e m), here, rest))

pub front-count : (e n : ℕ) (m f : Marks) → 1 ≤ e → Front e n f
    → ones (bit_and m.even f.even) + ones (bit_and m.odd f.odd) ≡ count n (marked e m)
front-count e n m f h front = rw (front.0, front.1) (ones-marks e n m h ∙ marks-counted e m n)

-- ---- rows

-- the marks of a row count its active functions
pub row_count : (W H L n b : ℕ) (lev : ℕ → ℕ → ℕ) (e : ℕ) (m : Marks) → n ≡ functions W L → e ≡ eighths L
    → ActiveRow W H L b lev m → count n (marked e m) ≡ active_in_row W H lev L b
unfolding active_in_row
row_count W H L n b lev e m size side found =
    ap₂ (λ n e. count n (marked e m)) size side
    ∙ count-cong (functions W L) (marked (eighths L) m) (λ a. active W H lev L a b) found

pub count-whole : (W H L m k : ℕ) (lev : ℕ → ℕ → ℕ) → m ≡ functions H L
    → k ≡ total m (λ b. active_in_row W H lev L b) → k ≡ active_count W H lev L
unfolding active_count
count-whole W H L m k lev e h = rw (← e) h
