-- Rounding a number over D by what its floor leaves over.
use mathlib.Core.Path.{◌≡◌, refl, sym, ap}
use mathlib.Core.Bool.{true, false, true≢false}
use Prim.Native.Nat.{ℕ, ◌+◌, ◌*◌, ◌-◌, ◌≤◌, ◌<◌, ◌^◌}
use native.Mathlib.Omega.{arith}
use lib.IntN.{ℤ, pos, negsuc, nat_abs, ◌+ℤ◌, ◌*ℤ◌}
use lib.Signed.{lt_z}
use borrow.Author.Tests.{ltb-true, ltb-false}
use borrow.Author.Rules.{sfits_of}
use mir.Syntax.{w64}
use mir.Val.{SFits, to_z, of_z}
use mir.ValLaws.{to_z-of_z}
use Rattle.finite.proofs.Order.{up, dn, sum-parts, scale-parts}
use Rattle.std.specs.Int.{int_div_euclid, int_rem_euclid}
use Rattle.surface.specs.Truncation.{D}
use Rattle.surface.specs.Calls.{floor_div, whole_watts}

-- what the machine reads back of a number that it held
abbrev pub kept : ℤ → ℤ
kept z = to_z w64 (of_z w64 z)

-- a number fits where its part above zero is below 2^63, and that below zero at most 2^63
fit_parts : (z : ℤ) → up z < 2 ^ 63 → dn z ≤ 2 ^ 63 → SFits w64 z
fit_parts (pos a) h k = sfits_of h
fit_parts (negsuc a) h k = sfits_of k

abs-parts : (z : ℤ) → nat_abs z ≡ up z + dn z
abs-parts (pos a) = omega arith
abs-parts (negsuc a) = omega arith

abs-within : (z : ℤ) {m : ℕ} → up z ≤ m → dn z ≤ m → nat_abs z ≤ m
abs-within (pos a) h k = h
abs-within (negsuc a) h k = k

-- z is y − x: its parts are at most y and x, and one of them is zero
sides : (z : ℤ) {x y : ℕ} → up z + x ≡ dn z + y → (up z ≤ y) × (dn z ≤ x) × (x ≤ y → dn z ≡ 0)
sides (pos a) e = (omega arith, omega arith, λ h. refl)
sides (negsuc a) e = (omega arith, omega arith, λ h. absurd (omega arith))

-- ---- what a test tells of the parts: rules that `omega` applies to the test, whatever its numbers are

pub lt_z-true : (a b : ℤ) → lt_z a b ≡ true → up a + dn b < up b + dn a
lt_z-true (pos a) (pos b) h = omega (arith, ltb-true a b h)
lt_z-true (pos a) (negsuc b) h = absurd (true≢false (sym h))
lt_z-true (negsuc a) (pos b) h = omega arith
lt_z-true (negsuc a) (negsuc b) h = omega (arith, ltb-true b a h)

pub lt_z-false-up : (a b : ℤ) → lt_z a b ≡ false → up b ≤ up a
lt_z-false-up (pos a) (pos b) h = ltb-false a b h
lt_z-false-up (pos a) (negsuc b) h = omega arith
lt_z-false-up (negsuc a) (pos b) h = absurd (true≢false h)
lt_z-false-up (negsuc a) (negsuc b) h = omega arith

-- ---- halves upward

-- y is the floor of z over 2 D, since z is 2 D y and x more
floor-is : (z y : ℤ) {x : ℕ} → up z + dn y * (2 * D) ≡ dn z + up y * (2 * D) + x → x < 2 * D → floor_div z (2 * D) ≡ y
floor-is (pos a) (pos b) e h = ap pos (omega arith)
floor-is (pos a) (negsuc b) e h = absurd (omega arith)
floor-is (negsuc a) (pos b) e h = absurd (omega arith)
floor-is (negsuc a) (negsuc b) e h = ap negsuc (omega arith)

whole_is : (n y : ℤ) {x : ℕ} → 2 * up n + D + dn y * (2 * D) ≡ 2 * dn n + up y * (2 * D) + x → x < 2 * D
    → y ≡ whole_watts n
unfolding whole_watts
whole_is n y {x} e h =
    sym
    (floor-is (pos 2 *ℤ n +ℤ pos D) y {x = x} (omega (arith, sum-parts (pos 2 *ℤ n) (pos D), scale-parts 2 n)) h)

-- n is D q + r, with what the two calls answer
pub record Floored (n q r : ℤ) : Type 0 where
  pub sum : up n + D * dn q ≡ dn n + D * up q + up r
  pub left-dn : dn r ≡ 0
  pub left_up : up r < D
  pub floor-up : up q ≤ 58255
  pub floor-dn : dn q ≤ 58255

divided : (n : ℤ) → SFits w64 n → Floored n (int_div_euclid n (pos D)) (int_rem_euclid n (pos D))
divided (pos a) f = record {
  sum = omega arith;
  left-dn = refl;
  left_up = omega arith;
  floor-up = omega (arith, f.sfits);
  floor-dn = omega arith;
}
divided (negsuc a) f = record {
  sum = omega arith;
  left-dn = refl;
  left_up = omega arith;
  floor-up = omega arith;
  floor-dn = omega (arith, f.sfits);
}

pub floored : (n q r : ℤ) → SFits w64 n → q ≡ int_div_euclid (kept n) (pos D) → r ≡ int_rem_euclid (kept n) (pos D)
    → Floored n q r
floored n q r f e h = rw (e, h, to_z-of_z w64 n f) (divided n f)

module _ {n q r : ℤ} (d : Floored n q r) where
  q-kept : kept q ≡ q
  q-kept = to_z-of_z w64 q (fit_parts q (omega arith) (omega arith))

  -- what is left over, as the code tests it
  pub tested-left : (up (kept r) ≡ up r) × (dn (kept r) ≡ dn r)
  tested-left = let e = to_z-of_z w64 r (fit_parts r (omega arith) (omega arith)) in (ap up e, ap dn e)

  answer : (y : ℤ) (k : ℕ) → k ≤ 1 → up y + dn q ≡ dn y + (up q + k)
      → (k * (2 * D) ≤ 2 * up r + D) × (2 * up r + D < k * (2 * D) + 2 * D)
      → (y ≡ whole_watts n) × (nat_abs y ≤ 60000)
  answer y k h p near =
      let s = sides y p in (
        whole_is n y {x = 2 * up r + D - k * (2 * D)} (omega arith) (omega arith),
        abs-within y (omega (arith, s)) (omega (arith, s)),
      )

  pub more-fits : {k : ℕ} → k ≤ 1 → SFits w64 (kept q +ℤ pos k)
  more-fits {k} h =
      let p = sides (q +ℤ pos k) (sum-parts q (pos k)) in
      rw q-kept (fit_parts (q +ℤ pos k) (omega (arith, p)) (omega (arith, p)))

  pub whole-more : {k : ℕ} → k ≤ 1 → (k * (2 * D) ≤ 2 * up r + D) × (2 * up r + D < k * (2 * D) + 2 * D)
      → (kept (kept q +ℤ pos k) ≡ whole_watts n) × (nat_abs (kept (kept q +ℤ pos k)) ≤ 60000)
  whole-more {k} h near =
      rw (to_z-of_z w64 (kept q +ℤ pos k) (more-fits h), q-kept)
      (answer (q +ℤ pos k) k h (omega (arith, sum-parts q (pos k))) near)

  pub whole_same : 2 * up r + D < 2 * D → (kept q ≡ whole_watts n) × (nat_abs (kept q) ≤ 60000)
  whole_same near = rw q-kept (answer q 0 (omega arith) (omega arith) (omega arith))
