-- Differences and quotients of i64 numbers of bounded size fit, and are those of the integers.
use mathlib.Core.Path.{◌≡◌, refl, sym, ◌∙◌}
use Prim.Native.Nat.{ℕ, zero, suc, ◌+◌, ◌/◌, ◌^◌, ◌≤◌, ◌<◌}
use native.Mathlib.Nat.{zero-div, div-le_self, le_trans}
use lib.IntN.{ℤ, pos, negsuc, nat_abs, neg_ℤ, ◌-ℤ◌}
use lib.Signed.{quot_z}
use mir.Syntax.{w64}
use mir.Val.{SFits, to_z, of_z}
use Rattle.finite.proofs.Order.{up, dn, neg-parts, abs-add}
use Rattle.patch.proofs.Size.{fits, Holds, holds}

abs_neg : (z : ℤ) {m : ℕ} → nat_abs z ≤ m → nat_abs (neg_ℤ z) ≤ m
abs_neg (pos zero) h = h
abs_neg (pos (suc n)) h = h
abs_neg (negsuc n) h = h

pub abs-sub : (x y : ℤ) {m n : ℕ} → nat_abs x ≤ m → nat_abs y ≤ n → nat_abs (x -ℤ y) ≤ m + n
abs-sub x y h k = abs-add x (neg_ℤ y) h (abs_neg y k)

abbrev pub minus : ℕ → ℕ → ℕ
minus p q = of_z w64 (to_z w64 p -ℤ to_z w64 q)

module _ {p q : ℕ} {x y : ℤ} {m n : ℕ} (h : Holds p x m) (k : Holds q y n) where
  pub sub-fits : m + n < 2 ^ 63 → SFits w64 (to_z w64 p -ℤ to_z w64 q)
  sub-fits l = rw (h.same, k.same) (fits (x -ℤ y) (abs-sub x y h.size k.size) l)

  pub sub_holds : m + n < 2 ^ 63 → Holds (minus p q) (x -ℤ y) (m + n)
  sub_holds l = rw (h.same, k.same) (holds (x -ℤ y) (abs-sub x y h.size k.size) l)

-- ---- quotients

-- the parts of a quotient toward zero
pub quot-parts : (d : ℕ) (z : ℤ) → (up (quot_z z (pos d)) ≡ up z / d) × (dn (quot_z z (pos d)) ≡ dn z / d)
quot-parts d (pos a) = (refl, sym (zero-div d))
quot-parts d (negsuc a) = let q = neg-parts (pos (suc a / d)) in (q.0 ∙ sym (zero-div d), q.1)

pub quot-small : (d : ℕ) (z : ℤ) {m : ℕ} → nat_abs z ≤ m → nat_abs (quot_z z (pos d)) ≤ m
quot-small d (pos a) h = le_trans (div-le_self a d) h
quot-small d (negsuc a) h = abs_neg (pos (suc a / d)) (le_trans (div-le_self (suc a) d) h)

module _ (d : ℕ) {p : ℕ} {x : ℤ} {m : ℕ} (h : Holds p x m) where
  pub quot_fits : m < 2 ^ 63 → SFits w64 (quot_z (to_z w64 p) (pos d))
  quot_fits l = rw h.same (fits (quot_z x (pos d)) (quot-small d x h.size) l)

  pub quot-holds : m < 2 ^ 63 → Holds (of_z w64 (quot_z (to_z w64 p) (pos d))) (quot_z x (pos d)) m
  quot-holds l = rw h.same (holds (quot_z x (pos d)) (quot-small d x h.size) l)
