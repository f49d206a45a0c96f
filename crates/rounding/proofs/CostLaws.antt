-- The cost of an exact reading from its quotient over D and what is left over.
use mathlib.Core.Path.{◌≡◌, sym, ap}
use Prim.Native.Nat.{ℕ, ◌+◌, ◌*◌, ◌/◌, ◌%◌, ◌≤◌}
use native.Mathlib.Nat.{mul-le-mul, div-le_self}
use native.Mathlib.Omega.{arith}
use lib.IntN.{ℤ, pos, negsuc, nat_abs}
use mir.Syntax.{w64}
use mir.Val.{Fits}
use Rattle.finite.proofs.Division.{split-times}
use Rattle.surface.specs.Truncation.{D}
use Rattle.surface.specs.Calls.{cost_of}

pub cost-none : {n : ℤ} {m : ℕ} (t : ℕ) → n ≡ negsuc m → 0 ≡ cost_of n t
cost-none t e = sym (ap (λ y. cost_of y t) e)

cost-split : (n t : ℕ) → (n / D * t + (n % D * t + 500 * D) / D) / 1000 ≡ cost_of (pos n) t
cost-split n t = omega (arith, split-times D n t)

pub cost-some : {n z : ℤ} {m : ℕ} (t : ℕ) → n ≡ pos m → z ≡ pos m
    → (nat_abs z / D * t + (nat_abs z % D * t + 500 * D) / D) / 1000 ≡ cost_of n t
cost-some {n} {z} {m} t p e = rw (e, p) (cost-split m t)

-- what the code adds up fits in 64 bits, by how great its parts are at most
pub product-fits : {a t : ℕ} → a ≤ D → t ≤ 99999 → Fits w64 (a * t)
product-fits ha ht = record { fits = omega (arith, mul-le-mul ha ht) }

pub left-fits : {a t k : ℕ} → a ≤ D → t ≤ 99999 → k ≤ 1000 * D → Fits w64 (a * t + k)
left-fits ha ht hk = record { fits = omega (arith, mul-le-mul ha ht) }

pub sum_fits : {a b t k : ℕ} (d : ℕ) → a ≤ 60000 → b ≤ D → t ≤ 99999 → k ≤ 1000 * D → Fits w64 (a * t + (b * t + k) / d)
sum_fits {a} {b} {t} {k} d ha hb ht hk =
    record { fits = omega (arith, mul-le-mul ha ht, mul-le-mul hb ht, div-le_self (b * t + k) d) }
