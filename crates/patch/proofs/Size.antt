-- The size of a signed number: sums and products of i64 numbers of bounded size fit, and are those of the integers.
use mathlib.Core.Path.{◌≡◌}
use Prim.Native.Nat.{ℕ, ◌+◌, ◌*◌, ◌^◌, ◌≤◌, ◌<◌}
use native.Mathlib.Nat.{le_refl}
use lib.IntN.{ℤ, pos, nat_abs, ◌+ℤ◌, ◌*ℤ◌}
use mir.Syntax.{w64}
use mir.Val.{SFits, to_z, of_z}
use mir.ValLaws.{to_z-of_z, to_z_pos}
use Rattle.finite.proofs.Order.{abs-add, abs-mul}
use Rattle.finite.proofs.Signed.{abs-fits}

pub fits : (z : ℤ) {m : ℕ} → nat_abs z ≤ m → m < 2 ^ 63 → SFits w64 z
fits z h l = abs-fits z h l

-- the bits are those of the integer z, of at most m in size
pub record Holds (bits : ℕ) (z : ℤ) (m : ℕ) : Type 0 where
  pub same : to_z w64 bits ≡ z
  pub size : nat_abs z ≤ m

pub literal : (n : ℕ) → n < 2 ^ 63 → Holds n (pos n) n
literal n l = record { same = to_z_pos w64 n l; size = le_refl n }

pub holds : (z : ℤ) {m : ℕ} → nat_abs z ≤ m → m < 2 ^ 63 → Holds (of_z w64 z) z m
holds z h l = record { same = to_z-of_z w64 z (fits z h l); size = h }

-- a number that was written is read back
pub kept : (z : ℤ) {m : ℕ} → nat_abs z ≤ m → m < 2 ^ 63 → to_z w64 (of_z w64 z) ≡ z
kept z h l = (holds z h l).same

-- the machine's sum and product
abbrev pub plus : ℕ → ℕ → ℕ
plus p q = of_z w64 (to_z w64 p +ℤ to_z w64 q)

abbrev pub times : ℕ → ℕ → ℕ
times p q = of_z w64 (to_z w64 p *ℤ to_z w64 q)

module _ {p q : ℕ} {x y : ℤ} {m n : ℕ} (h : Holds p x m) (k : Holds q y n) where
  pub add-fits : m + n < 2 ^ 63 → SFits w64 (to_z w64 p +ℤ to_z w64 q)
  add-fits l = rw (h.same, k.same) (fits (x +ℤ y) (abs-add x y h.size k.size) l)

  pub mul-fits : m * n < 2 ^ 63 → SFits w64 (to_z w64 p *ℤ to_z w64 q)
  mul-fits l = rw (h.same, k.same) (fits (x *ℤ y) (abs-mul x y h.size k.size) l)

  pub add_holds : m + n < 2 ^ 63 → Holds (plus p q) (x +ℤ y) (m + n)
  add_holds l = rw (h.same, k.same) (holds (x +ℤ y) (abs-add x y h.size k.size) l)

  pub mul_holds : m * n < 2 ^ 63 → Holds (times p q) (x *ℤ y) (m * n)
  mul_holds l = rw (h.same, k.same) (holds (x *ℤ y) (abs-mul x y h.size k.size) l)
