-- Linear facts on integers through `omega`: `up z` and `dn z` are the parts of z above and below zero. `omega (zarith,
-- sum-parts a b)` reads and proves orders and equations of integers, with one fact listed for each sum, negation or
-- multiple that they name.
use mathlib.Core.Path.{◌≡◌, refl, sym, ap, ◌∙◌, subst}
use mathlib.Core.Bool.{Bool, true, false, cond}
use mathlib.Core.Logic.{◌⊎◌, inl, inr}
use Prim.Native.Nat.{ℕ, zero, suc, ◌+◌, ◌-◌, ◌*◌, ◌≤◌, ◌<◌}
use native.Mathlib.Nat.{mul-le-mul, mul-le-mul_left, mul-zero}
use native.Mathlib.Omega.{arith}
use native.Mathlib.Decide.{dec_le}
use lib.Dec.{ltb, leb→le, le→leb}
use borrow.Author.Tests.{ltb-true, ltb-false}
use lib.IntN.{ℤ, pos, negsuc, neg_ℤ, nat_abs, sub_ℕ, ◌+ℤ◌, ◌*ℤ◌}
use lib.Signed.{◌≤ℤ◌}

abbrev pub up : ℤ → ℕ
up (pos n) = n
up (negsuc n) = 0

abbrev pub dn : ℤ → ℕ
dn (pos n) = 0
dn (negsuc n) = suc n

sub_parts : (a b : ℕ) → up (sub_ℕ a b) + b ≡ dn (sub_ℕ a b) + a
sub_parts a b = go (ltb a b) refl
  where
    go : (t : Bool) → ltb a b ≡ t
        → up (cond t (negsuc (b - suc a)) (pos (a - b))) + b ≡ dn (cond t (negsuc (b - suc a)) (pos (a - b))) + a
    go true e = let h : a < b = ltb-true a b e in omega arith
    go false e = let h : b ≤ a = ltb-false a b e in omega arith

pub sum-parts : (a b : ℤ) → up (a +ℤ b) + (dn a + dn b) ≡ dn (a +ℤ b) + (up a + up b)
sum-parts (pos a) (pos b) = omega arith
sum-parts (pos a) (negsuc b) = omega (arith, sub_parts a (suc b))
sum-parts (negsuc a) (pos b) = omega (arith, sub_parts b (suc a))
sum-parts (negsuc a) (negsuc b) = omega arith

pub neg-parts : (a : ℤ) → (up (neg_ℤ a) ≡ dn a) × (dn (neg_ℤ a) ≡ up a)
neg-parts (pos zero) = (refl, refl)
neg-parts (pos (suc n)) = (refl, refl)
neg-parts (negsuc n) = (refl, refl)

pub scale-parts : (n : ℕ) (z : ℤ) → (up (pos n *ℤ z) ≡ n * up z) × (dn (pos n *ℤ z) ≡ n * dn z)
scale-parts n (pos m) = (refl, sym (mul-zero n))
scale-parts n (negsuc m) = ((neg-parts (pos (n * suc m))).0 ∙ sym (mul-zero n), (neg-parts (pos (n * suc m))).1)

pub le_parts : {a b : ℤ} → a ≤ℤ b → up a + dn b ≤ up b + dn a
le_parts {a = pos a} {b = pos b} h = let k : a ≤ b = leb→le a b h.le in omega arith
le_parts {a = pos a} {b = negsuc b} h = absurd h.le
le_parts {a = negsuc a} {b = pos b} h = omega arith
le_parts {a = negsuc a} {b = negsuc b} h = let k : b ≤ a = leb→le b a h.le in omega arith

pub parts-le : {a b : ℤ} → up a + dn b ≤ up b + dn a → a ≤ℤ b
parts-le {a = pos a} {b = pos b} h = record { le = le→leb a b (omega arith) }
parts-le {a = pos a} {b = negsuc b} h = absurd (omega arith)
parts-le {a = negsuc a} {b = pos b} h = record { le = tt }
parts-le {a = negsuc a} {b = negsuc b} h = record { le = le→leb b a (omega arith) }

pub eq-parts : {a b : ℤ} → a ≡ b → up a + dn b ≡ up b + dn a
eq-parts {a} {b} e = subst (λ t. up a + dn t ≡ up t + dn a) e refl

pub parts-eq : {a b : ℤ} → up a + dn b ≡ up b + dn a → a ≡ b
parts-eq {a = pos a} {b = pos b} h = ap pos (omega arith)
parts-eq {a = pos a} {b = negsuc b} h = absurd (omega arith)
parts-eq {a = negsuc a} {b = pos b} h = absurd (omega arith)
parts-eq {a = negsuc a} {b = negsuc b} h = ap negsuc (omega arith)

pub ruleset zarith = (arith, le_parts, parts-le, eq-parts, parts-eq)

pub ≤ℤ-trans : {a b c : ℤ} → a ≤ℤ b → b ≤ℤ c → a ≤ℤ c
≤ℤ-trans {a} {b} {c} h k = omega zarith

pub ≤ℤ-antisym : {a b : ℤ} → a ≤ℤ b → b ≤ℤ a → a ≡ b
≤ℤ-antisym {a} {b} h k = omega zarith

pub +ℤ-mono : {a b c d : ℤ} → a ≤ℤ b → c ≤ℤ d → (a +ℤ c) ≤ℤ (b +ℤ d)
+ℤ-mono {a} {b} {c} {d} h k = omega (zarith, sum-parts a c, sum-parts b d)

-- a factor that is a natural keeps the order
pub scale-mono : (n : ℕ) {a b : ℤ} → a ≤ℤ b → (pos n *ℤ a) ≤ℤ (pos n *ℤ b)
scale-mono n {a} {b} h =
    let e : n * (up a + dn b) ≤ n * (up b + dn a) = mul-le-mul_left n (le_parts h) in
    parts-le
    (rw ((scale-parts n a).0, (scale-parts n a).1, (scale-parts n b).0, (scale-parts n b).1)
    (rw (native.Mathlib.Nat.mul-add n (up a) (dn b), native.Mathlib.Nat.mul-add n (up b) (dn a)) at e))

-- and a positive one reflects it
pub scale-reflects : (n : ℕ) {a b : ℤ} → 0 < n → (pos n *ℤ a) ≤ℤ (pos n *ℤ b) → a ≤ℤ b
scale-reflects n {a} {b} p h =
    let e : n * up a + n * dn b ≤ n * up b + n * dn a =
    rw ((scale-parts n a).0, (scale-parts n a).1, (scale-parts n b).0, (scale-parts n b).1) at (le_parts h) in
    parts-le
    (native.Mathlib.Nat.le_of_mul-le-mul_left
    (rw (native.Mathlib.Nat.mul-add n (up a) (dn b), native.Mathlib.Nat.mul-add n (up b) (dn a)) e)
    p)

pub ≤ℤ-total : (a b : ℤ) → (a ≤ℤ b) ⊎ (b ≤ℤ a)
≤ℤ-total a b = go (dec_le (up a + dn b) (up b + dn a))
  where
    go : Dec (up a + dn b ≤ up b + dn a) → (a ≤ℤ b) ⊎ (b ≤ℤ a)
    go (yes h) = inl (parts-le h)
    go (no h) = inr (omega zarith)

-- the size of an integer: |z| ≤ m exactly when −m ≤ z ≤ m
pub abs-le : (z : ℤ) {m : ℕ} → nat_abs z ≤ m → (neg_ℤ (pos m) ≤ℤ z) × (z ≤ℤ pos m)
abs-le (pos n) {m} h = (omega (zarith, (neg-parts (pos m)).0, (neg-parts (pos m)).1), omega zarith)
abs-le (negsuc n) {m} h = (omega (zarith, (neg-parts (pos m)).0, (neg-parts (pos m)).1), omega zarith)

pub le-abs : (z : ℤ) {m : ℕ} → neg_ℤ (pos m) ≤ℤ z → z ≤ℤ pos m → nat_abs z ≤ m
le-abs (pos n) {m} h k = omega zarith
le-abs (negsuc n) {m} h k = omega (zarith, (neg-parts (pos m)).0, (neg-parts (pos m)).1)

-- the size of a sum and of a product
pub abs-add : (a b : ℤ) {m n : ℕ} → nat_abs a ≤ m → nat_abs b ≤ n → nat_abs (a +ℤ b) ≤ m + n
abs-add a b {m} {n} h k =
    let h0 = abs-le a h in
    let k0 = abs-le b k in
    le-abs (a +ℤ b)
    (omega (zarith, sum-parts a b, neg-parts (pos m), neg-parts (pos n), neg-parts (pos (m + n))))
    (omega (zarith, sum-parts a b))

abs_neg : (z : ℤ) → nat_abs (neg_ℤ z) ≡ nat_abs z
abs_neg (pos zero) = refl
abs_neg (pos (suc n)) = refl
abs_neg (negsuc n) = refl

abs-product : (a b : ℤ) → nat_abs (a *ℤ b) ≡ nat_abs a * nat_abs b
abs-product (pos a) (pos b) = refl
abs-product (pos a) (negsuc b) = abs_neg (pos (a * suc b))
abs-product (negsuc a) (pos b) = abs_neg (pos (suc a * b))
abs-product (negsuc a) (negsuc b) = refl

pub abs-mul : (a b : ℤ) {m n : ℕ} → nat_abs a ≤ m → nat_abs b ≤ n → nat_abs (a *ℤ b) ≤ m * n
abs-mul a b h k = rw (abs-product a b) (mul-le-mul h k)
