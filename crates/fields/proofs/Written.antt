-- Lists one after the other, written fields and written numbers: their lengths and bytes, and that they read back.
use mathlib.Core.Path.{◌≡◌, refl, sym, ap, ap₂, ◌∙◌, subst}
use mathlib.Core.Bool.{Bool, true}
use mathlib.Core.List.{List, [], ◌∷◌, ◌++◌}
use Prim.Native.Nat.{ℕ, zero, suc, ◌+◌, ◌-◌, ◌*◌, ◌/◌, ◌^◌, ◌≤◌, ◌<◌}
use native.Mathlib.Nat.{add-zero, le_step, lt-suc_self, mod-lt, mod-eq_of_lt, div-add-mod', div-div-eq-div-mul}
use native.Mathlib.Nat.{pow-suc}
use native.Mathlib.Decide.{dec_lt}
use native.Mathlib.Omega.{arith}
use lib.IntN.{ℤ, pos, negsuc, nat_abs}
use borrow.Author.Tests.{lt-ltb, le-ltb}
use lib.ListN.{length, get_or, take, drop, length-append, get_or-append}
use lib.Seq.{get_or-append-add, take_at, drop_at, drop-drop}
use Rattle.finite.specs.Range.{joined}
use Rattle.surface.specs.Fields.{unless, holds, length_at, field, checked, unsigned_at, twos_complement, number_at}
use Rattle.surface.specs.Fields.{Bytes, byte_of, two_bytes, field_bytes, complement, number_bytes}
use Rattle.surface.proofs.Causes.{none-cause}
use Rattle.fields.proofs.FieldLaws.{stands-field}

-- ---- bytes

pub nil-bytes : Bytes []
nil-bytes i h = absurd (omega arith)

pub cons-bytes : (n : ℕ) (s : List ℕ) → n < 256 → Bytes s → Bytes (n ∷ s)
cons-bytes n s h hs zero l = h
cons-bytes n s h hs (suc i) l = hs i (omega arith)

pub append-bytes : (s t : List ℕ) → Bytes s → Bytes t → Bytes (s ++ t)
append-bytes s t hs ht i l = go (dec_lt i (length s))
  where
    go : Dec (i < length s) → get_or (s ++ t) i 0 < 256
    go (yes h) = rw (get_or-append s t 0 i h) (hs i h)
    go (no h) =
        let e : i ≡ length s + (i - length s) = omega arith in
        subst (λ j. j < 256) (sym (ap (λ j. get_or (s ++ t) j 0) e ∙ get_or-append-add s t (i - length s) 0))
        (ht (i - length s) (omega (arith, length-append s t)))

byte-of : (k n : ℕ) → byte_of k n < 256
byte-of k n = mod-lt (n / 256 ^ k) (omega arith)

-- ---- lists one after the other

module _ (f : ℕ → List ℕ) where
  pub joined_bytes : (n : ℕ) → ((k : ℕ) → k < n → Bytes (f k)) → Bytes (joined n f)
  unfolding joined
  joined_bytes zero h = nil-bytes
  joined_bytes (suc n) h =
      append-bytes (joined n f) (f n) (joined_bytes n (λ k l. h k (le_step l))) (h n (lt-suc_self n))

-- ---- two bytes

pub two-bytes : (n : ℕ) → Bytes (two_bytes n)
two-bytes n zero l = byte-of 1 n
two-bytes n (suc zero) l = byte-of 0 n
two-bytes n (suc (suc i)) l = absurd (omega arith)

-- ---- fields

pub field-bytes : (tag : ℕ) (b : List ℕ) → tag < 256 → Bytes b → Bytes (field_bytes tag b)
field-bytes tag b h hb zero l = h
field-bytes tag b h hb (suc zero) l = byte-of 1 (length b)
field-bytes tag b h hb (suc (suc zero)) l = byte-of 0 (length b)
field-bytes tag b h hb (suc (suc (suc i))) l = hb i (omega arith)

-- A written field is read back, whatever stands after it.
field-read : (tag low high : ℕ) (b rest : List ℕ) → length b < 65536 → low ≤ length b → length b ≤ high
    → field tag low high (field_bytes tag b ++ rest) ≡ holds b rest
field-read tag low high b rest small long short =
    let s : List ℕ = field_bytes tag b ++ rest in
    let size : length_at s ≡ length b = omega arith in
    stands-field tag low high s
    (record {
      whole = omega (arith, size, length-append b rest);
      tagged = refl;
      long = omega (arith, size);
      short = omega (arith, size);
    })
    ∙ ap (λ m. holds (take m (drop 3 s)) (drop (3 + m) s)) size
    ∙ ap₂ holds (take_at b rest (length b) refl) (sym (drop-drop (length b) 3 s) ∙ drop_at b rest (length b) refl)

-- so are its contents, where they pass
pub checked-read : {A : Type 0} (tag low high n : ℕ) (ok : List ℕ → Bool) (of : List ℕ → A) (b rest : List ℕ)
    → length b < 65536 → low ≤ length b → length b ≤ high → ok b ≡ true
    → checked (field tag low high (field_bytes tag b ++ rest)) n ok of ≡ holds (of b) rest
checked-read tag low high n ok of b rest small long short good =
    ap (λ f. checked f n ok of) (field-read tag low high b rest small long short)
    ∙ ap (λ c. unless c (holds (of b) rest)) (none-cause n (ok b) good)

-- ---- numbers

pub number-bytes : (z : ℤ) → Bytes (number_bytes z)
number-bytes z zero l = byte-of 4 (complement z)
number-bytes z (suc zero) l = byte-of 3 (complement z)
number-bytes z (suc (suc zero)) l = byte-of 2 (complement z)
number-bytes z (suc (suc (suc zero))) l = byte-of 1 (complement z)
number-bytes z (suc (suc (suc (suc zero)))) l = byte-of 0 (complement z)
number-bytes z (suc (suc (suc (suc (suc i))))) l = absurd (omega arith)

-- one digit more of a number whose higher digits are x
one-more : (x k n : ℕ) → x ≡ n / 256 ^ suc k → x * 256 + byte_of k n ≡ n / 256 ^ k
one-more x k n e =
    ap (λ q. q * 256 + byte_of k n) (e ∙ ap (λ d. n / d) (pow-suc 256 k) ∙ sym (div-div-eq-div-mul n (256 ^ k) 256))
    ∙ div-add-mod' (n / 256 ^ k) 256

five-bytes : (n : ℕ) → n < 2 ^ 40
    → (((byte_of 4 n * 256 + byte_of 3 n) * 256 + byte_of 2 n) * 256 + byte_of 1 n) * 256 + byte_of 0 n ≡ n
five-bytes n h =
    let top : n / 256 ^ 4 < 256 = omega arith in
    let e3 = one-more (byte_of 4 n) 3 n (mod-eq_of_lt top) in
    let e2 = one-more (byte_of 4 n * 256 + byte_of 3 n) 2 n e3 in
    let e1 = one-more ((byte_of 4 n * 256 + byte_of 3 n) * 256 + byte_of 2 n) 1 n e2 in
    one-more (((byte_of 4 n * 256 + byte_of 3 n) * 256 + byte_of 2 n) * 256 + byte_of 1 n) 0 n e1 ∙ omega arith

complement-read : (z : ℤ) → nat_abs z < 2 ^ 39 → (complement z < 2 ^ 40) × (twos_complement (complement z) ≡ z)
complement-read (pos n) h = (omega arith, rw (lt-ltb n (2 ^ 39) h))
complement-read (negsuc n) h =
    let high : 2 ^ 39 ≤ 2 ^ 40 - suc n = omega arith in
    let back : 2 ^ 40 - 1 - (2 ^ 40 - suc n) ≡ n = omega arith in
    (omega arith, rw (le-ltb (2 ^ 40 - suc n) (2 ^ 39) high) (ap negsuc back))

-- A body that holds the five bytes of a number as its k-th holds that number there.
pub number_read : (b : List ℕ) (k : ℕ) (z : ℤ) → nat_abs z < 2 ^ 39
    → ((i : ℕ) → i < 5 → get_or b (5 * k + i) 0 ≡ get_or (number_bytes z) i 0) → number_at b k ≡ z
number_read b k z h same =
    ap twos_complement (value ∙ five-bytes (complement z) (complement-read z h).0) ∙ (complement-read z h).1
  where
    value : unsigned_at b k
        ≡ (((get_or (number_bytes z) 0 0 * 256 + get_or (number_bytes z) 1 0) * 256 + get_or (number_bytes z) 2 0) * 256
        + get_or (number_bytes z) 3 0) * 256 + get_or (number_bytes z) 4 0
    value =
        let first = ap (λ j. get_or b j 0) (sym (add-zero (5 * k))) ∙ same 0 (omega arith) in
        rw (first, same 1 (omega arith), same 2 (omega arith), same 3 (omega arith), same 4 (omega arith))
