-- What the machine reads back of a signed number, by the test that it passed, and which numbers fit by their size.
use mathlib.Core.Path.{◌≡◌, refl, ap, ◌∙◌}
use mathlib.Core.Bool.{true, false, true≢false}
use Prim.Native.Nat.{ℕ, suc, ◌≤◌, ◌<◌, ◌^◌}
use native.Mathlib.Nat.{le-suc, le_trans, le_of_lt, lt_of_le_of_lt}
use native.Mathlib.Omega.{arith}
use lib.Dec.{T}
use lib.IntN.{ℤ, pos, negsuc, nat_abs, ◌-ℤ◌}
use lib.Signed.{mag, lt_z, non_neg}
use borrow.Author.Tests.{ltb-true}
use borrow.Author.Rules.{sfits_of}
use mir.Syntax.{Width, w64}
use mir.Val.{hbits, Fits, SFits, to_z, of_z}
use mir.ValLaws.{to_z-of_z}
use Rattle.finite.proofs.Order.{zarith, sum-parts}

pub below : (n : ℤ) → SFits w64 n → lt_z (to_z w64 (of_z w64 n)) (pos 0) ≡ true → n ≡ negsuc (mag n)
below n f = rw (to_z-of_z w64 n f) (go n)
  where
    go : (n : ℤ) → lt_z n (pos 0) ≡ true → n ≡ negsuc (mag n)
    go (pos a) h = absurd (omega (arith, ltb-true a 0 h))
    go (negsuc a) h = refl

pub not-below : (n : ℤ) → SFits w64 n → lt_z (to_z w64 (of_z w64 n)) (pos 0) ≡ false → n ≡ pos (mag n)
not-below n f = rw (to_z-of_z w64 n f) (go n)
  where
    go : (n : ℤ) → lt_z n (pos 0) ≡ false → n ≡ pos (mag n)
    go (pos a) h = refl
    go (negsuc a) h = absurd (true≢false h)

-- n itself, not below zero
pub as_is : (n : ℤ) → SFits w64 n → lt_z (to_z w64 (of_z w64 n)) (pos 0) ≡ false → to_z w64 (of_z w64 n) ≡ pos (mag n)
as_is n f h = to_z-of_z w64 n f ∙ not-below n f h

-- −1 − n of an n below zero
pub mirrored : (n : ℤ) → SFits w64 n → lt_z (to_z w64 (of_z w64 n)) (pos 0) ≡ true
    → negsuc 0 -ℤ to_z w64 (of_z w64 n) ≡ pos (mag n)
mirrored n f h =
    ap (λ z. negsuc 0 -ℤ z) (to_z-of_z w64 n f ∙ below n f h)
    ∙ omega (zarith, sum-parts (negsuc 0) (pos (suc (mag n))))

pub fits-pos : {z : ℤ} {m : ℕ} → z ≡ pos m → m < 2 ^ 63 → SFits w64 z
fits-pos e h = rw e (sfits_of h)

-- the cast to an unsigned number
pub cast-up : {z : ℤ} {m : ℕ} → z ≡ pos m → m < 2 ^ 63 → T (non_neg z) × Fits w64 (nat_abs z)
cast-up {z} {m} e h = rw e (tt, omega arith)

-- and what the machine reads back of it
pub mirrored-back : (n : ℤ) → SFits w64 n → lt_z (to_z w64 (of_z w64 n)) (pos 0) ≡ true
    → to_z w64 (of_z w64 (negsuc 0 -ℤ to_z w64 (of_z w64 n))) ≡ pos (mag n)
mirrored-back n f h =
    ap (λ z. to_z w64 (of_z w64 z)) (mirrored n f h) ∙ to_z-of_z w64 (pos (mag n)) (sfits_of f.sfits)

-- ---- numbers of a bounded size, of any width

pub abs-fits : {w : Width} (z : ℤ) {m : ℕ} → nat_abs z ≤ m → m < 2 ^ hbits w → SFits w z
abs-fits (pos n) h l = sfits_of (lt_of_le_of_lt h l)
abs-fits (negsuc n) h l = sfits_of (lt_of_le_of_lt (le_trans (le-suc n) h) l)

pub fits-abs : (w : Width) (z : ℤ) → mag z < 2 ^ hbits w → nat_abs z ≤ 2 ^ hbits w
fits-abs w (pos n) h = le_of_lt h
fits-abs w (negsuc n) h = h
