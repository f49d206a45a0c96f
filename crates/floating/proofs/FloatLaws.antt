-- How far a rounded fraction lies from the fraction, as an absolute bound: then numbers near zero are no special case.
use Rattle.std.proofs.Common.{◌≡◌, ℕ, suc, ◌+◌, ◌*◌, ◌/◌, ◌%◌, ◌^◌, ◌<◌, ◌≤◌, Bool, true, false, ℤ, pos, negsuc, ◌-ℤ◌, ◌*ℤ◌, neg_ℤ, nat_abs, refl, ap, le_trans, lt_of_le_of_lt, mul-le-mul_right, mod-lt, mul_assoc, div-lt_iff_lt-mul, lt_of_mul-lt-mul_right, mul-lt-mul_of_pos_right, mul-pos, div-add-mod', mul_right_comm, le_of_mul-le-mul_right, arith, lit≤, pow_pos, pow_mono, pow-add, ne_eqb}
use Prim.Native.Nat.{compare}
use native.Mathlib.Nat.{div-div-eq-div-mul}
use lib.Signed.{mag}
use lib.Pow.{pow-lt}
use lib.Ieee.{Float, nan, inf, fin, Format, binary32, binary64, prec, emax, low, up, down, unlike, size, round}
use lib.Ieee.{div, of_int}
use lib.Ieee.Digits.{size-le}
use lib.Ieee.Fits.{nearest-le, kept-lt, round_is, down_pos}
use lib.Ieee.Exact.{HasValue, units_val}
use lib.Ieee.Nearest.{closest, nearest-ge}
use lib.Ieee.Order.{drop, kept}
use Rattle.finite.proofs.Int.{neg-mul}
use Rattle.finite.proofs.Order.{up as above, dn as below, sum-parts, neg-parts}
use Rattle.surface.specs.FloatReading.{Near, signed}

-- ---- two whole numbers that differ by d at most

pub record Within (x y d : ℕ) : Type 0 where
  pub over : x ≤ y + d
  pub under : y ≤ x + d

pub within-mul : {x y d : ℕ} (k : ℕ) → Within x y d → Within (x * k) (y * k) (d * k)
within-mul {x} {y} {d} k h =
    omega (arith, mul-le-mul_right k h.over, mul-le-mul_right k h.under)

pub within-cancel : (x y d k : ℕ) → 0 < k → Within (x * k) (y * k) (d * k) → Within x y d
within-cancel x y d k p h =
    record {
      over = le_of_mul-le-mul_right (omega arith) p;
      under = le_of_mul-le-mul_right (omega arith) p;
    }

-- ---- one rounding

-- the nearest multiple of u is no further off than u
closest-within : (n u : ℕ) → 0 < u → Within (closest n u * u) n u
closest-within n u p =
    let q = n / u in
    let c = closest n u in
    let a : q * u + n % u ≡ n = div-add-mod' n u in
    let r : n % u < u = mod-lt n p in
    let g : q * u ≤ c * u = mul-le-mul_right u (nearest-ge q (compare (n % u * 2) u)) in
    let l : c * u ≤ suc q * u = mul-le-mul_right u (nearest-le q (compare (n % u * 2) u)) in
    omega arith

-- both formats reach down as far as they have digits
deep : (f : Format) → prec f ≤ low f
deep binary32 = lit≤ tt
deep binary64 = lit≤ tt

-- `round` drops so few digits of a fraction below 2^j that one unit of what it keeps is at most 2^j / 2^prec
drop_le : (f : Format) (num den j : ℕ) → 0 < den → num < 2 ^ j * den
    → drop (prec f) (num * 2 ^ low f) den + prec f ≤ j + low f
drop_le f num den j p h =
    let l : num * 2 ^ low f < 2 ^ (j + low f) * den =
    rw (pow-add 2 j (low f), mul_right_comm (2 ^ j) (2 ^ low f) den) (mul-lt-mul_of_pos_right h (pow_pos (low f))) in
    let s : size (num * 2 ^ low f / den) ≤ j + low f =
    size-le (num * 2 ^ low f / den) (j + low f) ((div-lt_iff_lt-mul p).1 l) in
    omega (arith, deep f)

-- what is kept has at most prec digits, or is 2^prec
kept_small : (p n den : ℕ) → kept p n den ≤ 2 ^ p
kept_small p n den =
    let u = den * 2 ^ drop p n den in
    le_trans (nearest-le (n / u) (compare (n % u * 2) u))
    (rw (div-div-eq-div-mul n den (2 ^ drop p n den)) at (kept-lt p (n / den)))

-- in units of the format's smallest value
units-within : (P L J num den q t : ℕ) → t * P ≤ J * L → Within (q * (den * t)) (num * L) (den * t)
    → Within (q * t * den * P) (num * L * P) (J * den * L)
units-within P L J num den q t h w =
    let a : t * P * den ≤ J * L * den = mul-le-mul_right den h in
    let v : Within (q * (den * t) * P) (num * L * P) (den * t * P) = within-mul P w in
    omega arith

-- x is finite, has the sign s, and is within a/b of num/den in size
abbrev pub Close : Float → Bool → ℕ → ℕ → ℕ → ℕ → Type 0
Close nan s num den a b = ⊥
Close (inf t) s num den a b = ⊥
Close (fin t m e) s num den a b = (t ≡ s) × Within (m * up e * den * b) (num * down e * b) (a * den * down e)

-- X/E is the value A/L
of-value : (X E A L num den a b : ℕ) → 0 < L → X * L ≡ A * E
    → Within (A * den * b) (num * L * b) (a * den * L) → Within (X * den * b) (num * E * b) (a * den * E)
of-value X E A L num den a b p e w =
    let v : Within (A * den * b * E) (num * L * b * E) (a * den * L * E) = within-mul E w in
    let c : X * L * (den * b) ≡ A * E * (den * b) = ap (λ z. z * (den * b)) e in
    within-cancel (X * den * b) (num * E * b) (a * den * E) L p (omega arith)

close-of-value : (x : Float) (s : Bool) (A L num den a b : ℕ) → 0 < L → HasValue x s A L
    → Within (A * den * b) (num * L * b) (a * den * L) → Close x s num den a b
close-of-value nan s A L num den a b p v w = v
close-of-value (inf t) s A L num den a b p v w = v
close-of-value (fin t m e) s A L num den a b p v w =
    (v.0, of-value (m * up e) (down e) A L num den a b p v.1 w)

-- a fraction below 2^j rounds to a finite number, at most 2^j / 2^prec away
pub round-close : (f : Format) (s : Bool) (num den j : ℕ) → 0 < den → num < 2 ^ j * den → j ≤ emax f
    → Close (round f s num den) s num den (2 ^ j) (2 ^ prec f)
round-close f s num den j p h r =
    let n = num * 2 ^ low f in
    let k = drop (prec f) n den in
    let q = kept (prec f) n den in
    let d : k + prec f ≤ j + low f = drop_le f num den j p h in
    let t : 2 ^ k * 2 ^ prec f ≤ 2 ^ j * 2 ^ low f = rw (← pow-add 2 k (prec f), ← pow-add 2 j (low f)) (pow_mono d) in
    let o : q * 2 ^ k < 2 ^ (low f + suc (emax f)) =
    lt_of_le_of_lt (mul-le-mul_right (2 ^ k) (kept_small (prec f) n den))
    (rw (← pow-add 2 (prec f) k) (pow-lt (omega arith))) in
    close-of-value (round f s num den) s (q * 2 ^ k) (2 ^ low f) num den (2 ^ j) (2 ^ prec f) (pow_pos (low f))
    (rw (round_is f s num den) (units_val f s q k o))
    (units-within (2 ^ prec f) (2 ^ low f) (2 ^ j) num den q (2 ^ k) t
    (closest-within n (den * 2 ^ k) (mul-pos p (pow_pos k))))

-- ---- a whole number, rounded, over an exact one, rounded

-- the size of z = x − y, over whole numbers
size-within : (z : ℤ) (x y b d : ℕ) → above z + y ≡ below z + x → Within (x * b) (y * b) d → nat_abs z * b ≤ d
size-within (pos w) x y b d e h = omega (arith, ap (λ t. t * b) e)
size-within (negsuc w) x y b d e h = omega (arith, ap (λ t. t * b) e)

signed-within : (s : Bool) (x y b d : ℕ) → Within (x * b) (y * b) d → nat_abs (signed s x -ℤ signed s y) * b ≤ d
signed-within false x y b d h =
    size-within (pos x -ℤ pos y) x y b d (omega (arith, sum-parts (pos x) (neg_ℤ (pos y)), neg-parts (pos y))) h
signed-within true x y b d h =
    let z = neg_ℤ (pos x) -ℤ neg_ℤ (pos y) in
    let p = sum-parts (neg_ℤ (pos x)) (neg_ℤ (neg_ℤ (pos y))) in
    let e : above z + x ≡ below z + y =
    omega (arith, p, neg-parts (pos x), neg-parts (pos y), neg-parts (neg_ℤ (pos y))) in
    size-within z y x b d e (record { over = h.under; under = h.over })

signed_mul : (s : Bool) (a g : ℕ) → signed s a *ℤ pos g ≡ signed s (a * g)
signed_mul false a g = refl
signed_mul true a g = neg-mul (pos a) (pos g)

-- N/E is a, rounded; it is below K where 2 I is at most K
once : (P N a E I K : ℕ) → 0 < P → 0 < E → Within (N * P) (a * E * P) (I * 1 * E) → a < I → 2 * I ≤ K → N < K * E
once P N a E I K p e w h k =
    let u : suc a * (E * P) ≤ I * (E * P) = mul-le-mul_right (E * P) h in
    let v : 1 * (I * E) ≤ P * (I * E) = mul-le-mul_right (I * E) p in
    let t : 2 * I * (E * P) ≤ K * (E * P) = mul-le-mul_right (E * P) k in
    let c : 0 < E * P = mul-pos e p in
    lt_of_mul-lt-mul_right P (omega arith)

-- N/E is a, rounded, and X/G is N/E over d, rounded
twice : (P a b d I J N E X G : ℕ) → 0 < P → 0 < E → Within (N * P) (a * E * P) (I * 1 * E)
    → Within (X * (d * E) * P) (N * G * P) (J * (d * E) * G) → b * (I + J * d) ≤ P * d
    → Within (X * d * b) (a * G * b) (d * G)
twice P a b d I J N E X G p e v w h =
    let s : Within (N * P * G) (a * E * P * G) (I * 1 * E * G) = within-mul G v in
    let t : Within (X * d * P) (a * G * P) ((I + J * d) * G) =
    within-cancel (X * d * P) (a * G * P) ((I + J * d) * G) E e (omega arith) in
    let u : Within (X * d * P * b) (a * G * P * b) ((I + J * d) * G * b) = within-mul b t in
    let k : b * (I + J * d) * G ≤ P * d * G = mul-le-mul_right G h in
    within-cancel (X * d * b) (a * G * b) (d * G) P p (omega arith)

-- a number below 2^i, over d, comes to less than 2^j; nothing overflows; and two roundings stay within 1/b
pub record Room (f : Format) (b d i j : ℕ) : Type 0 where
  pub first : i ≤ emax f
  pub second : j ≤ emax f
  pub quotient : 2 * 2 ^ i ≤ 2 ^ j * d
  pub error : b * (2 ^ i + 2 ^ j * d) ≤ 2 ^ prec f * d

-- x is N/E over d, rounded, with N/E the rounded a
near-second : {f : Format} {b d i j : ℕ} (s : Bool) (a N E : ℕ) → Room f b d i j → 0 < E
    → Within (N * 2 ^ prec f) (a * E * 2 ^ prec f) (2 ^ i * 1 * E) → (x : Float)
    → Close x s N (d * E) (2 ^ j) (2 ^ prec f) → Near b d (signed s a) x
near-second s a N E r e v nan c = c
near-second s a N E r e v (inf t) c = c
near-second {f} {b} {d} {i} {j} s a N E r e v (fin t m g) c =
    rw (c.0, signed_mul s a (down g))
    (signed-within s (m * up g * d) (a * down g) b (d * down g)
    (twice (2 ^ prec f) a b d (2 ^ i) (2 ^ j) N E (m * up g) (down g) (pow_pos (prec f)) e v c.1 r.error))

unlike-plain : (s : Bool) → unlike s false ≡ s
unlike-plain true = refl
unlike-plain false = refl

-- x is the rounded a
near_first : {f : Format} {b i j : ℕ} (s : Bool) (a q k : ℕ) → Room f b (q * 2 ^ k) i j → 0 < q → a < 2 ^ i
    → (x : Float) → Close x s a 1 (2 ^ i) (2 ^ prec f)
    → Near b (q * 2 ^ k) (signed s a) (div f x (fin false q (pos k)))
unfolding div
near_first s a q k r p h nan c = c
near_first s a q k r p h (inf t) c = absurd c
near_first {f} {b} {i} {j} s a q k r p h (fin t m e) c =
    let N = m * up e * 1 in
    let d = q * 2 ^ k in
    let l : N < 2 ^ j * (d * down e) =
    rw (← mul_assoc (2 ^ j) d (down e))
    (once (2 ^ prec f) N a (down e) (2 ^ i) (2 ^ j * d) (pow_pos (prec f)) (down_pos e) c.1 h r.quotient) in
    rw (c.0, unlike-plain s, ne_eqb q 0 (λ z. omega arith))
    (near-second s a N (down e) r (down_pos e) c.1 (round f s N (d * down e))
    (round-close f s N (d * down e) j (mul-pos (mul-pos p (pow_pos k)) (down_pos e)) l r.second))

-- n as a float, over the exact float d = q 2^k, is within 1/b of n/d
pub quotient-near : {f : Format} {b i j : ℕ} (n : ℤ) (q k : ℕ) → Room f b (q * 2 ^ k) i j → 0 < q → nat_abs n < 2 ^ i
    → Near b (q * 2 ^ k) n (div f (of_int f n) (fin false q (pos k)))
unfolding of_int
quotient-near {f} {i} (pos a) q k r p h =
    near_first false a q k r p h (round f false a 1) (round-close f false a 1 i (lit≤ tt) (omega arith) r.first)
quotient-near {f} {i} (negsuc a) q k r p h =
    near_first true (suc a) q k r p h (round f true (suc a) 1)
    (round-close f true (suc a) 1 i (lit≤ tt) (omega arith) r.first)

-- an i64 is at most one more in size than its magnitude
pub abs_mag : (n : ℤ) → nat_abs n ≤ suc (mag n)
abs_mag (pos a) = omega arith
abs_mag (negsuc a) = omega arith
