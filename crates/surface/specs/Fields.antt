-- Document 01, "The table file": fields and their numbers, as they are read, judged in byte order, and as they are
-- written.
use Rattle.std.specs.Prelude.{Bool, not, ◌&&◌, cond, List, [], ◌∷◌, ℕ, zero, suc, ◌+◌, ◌-◌, ◌*◌, ◌/◌, ◌%◌, ◌^◌, ◌<◌, ℤ, pos, negsuc, nat_abs, leb, ltb, eqb, length, get_or, take, drop}
use Rattle.finite.specs.Range.{every}
use Rattle.surface.specs.Table.{cause, ◌or_else◌}

-- ---- judging bytes

-- What bytes hold, or one refusal number.
pub data Judged (A : Type 0) : Type 0 where
  declined : ℕ → Judged A
  contains : A → Judged A

-- By the cause found: 0 is none.
abbrev pub unless : {A : Type 0} → ℕ → Judged A → Judged A
unless zero j = j
unless (suc n) j = declined (suc n)

-- A part of a file: what it holds, and the bytes after it.
pub record Part (A : Type 0) : Type 0 where
  pub content : A
  pub rest : List ℕ

abbrev pub holds : {A : Type 0} → A → List ℕ → Judged (Part A)
holds a rest = contains (record { content = a; rest = rest })

-- Goes on with what a part holds and the bytes after it.
abbrev pub in_part : {A B : Type 0} → Judged (Part A) → (A → List ℕ → Judged B) → Judged B
in_part (declined n) f = declined n
in_part (contains p) f = f p.content p.rest

-- ---- fields

-- "a two-byte length (high byte first)"
abbrev pub length_at : List ℕ → ℕ
length_at s = 256 * get_or s 1 0 + get_or s 2 0

-- "Fields of a one-byte tag, a two-byte length ... and a body": the body of the field of the due tag, whose length is
-- from `low` to `high`. 12 is "file ends inside a head or body", 13 "other tag than the one due", 14 "field length
-- wrong".
unfoldable pub field : ℕ → ℕ → ℕ → List ℕ → Judged (Part (List ℕ))
field tag low high s =
    let n = length_at s in
    unless
    (cause 12 (ltb (length s) 3)
    or_else cause 13 (not (eqb (get_or s 0 0) tag))
    or_else cause 14 (not (leb low n && leb n high))
    or_else cause 12 (ltb (length s) (3 + n)))
    (holds (take n (drop 3 s)) (drop (3 + n) s))

-- "whole head, tag, length, whole body, contents": what a body holds, or the number for one that fails the test.
abbrev pub checked : {A : Type 0} → Judged (Part (List ℕ)) → ℕ → (List ℕ → Bool) → (List ℕ → A) → Judged (Part A)
checked f n good of = in_part f λ b rest. unless (cause n (not (good b))) (holds (of b) rest)

-- ---- numbers

-- Two bytes, high byte first: the k-th such number of a body.
abbrev pub two_bytes_at : List ℕ → ℕ → ℕ
two_bytes_at b k = 256 * get_or b (2 * k) 0 + get_or b (2 * k + 1) 0

-- "five bytes each, two's complement, high byte first": the k-th number of a body.
abbrev pub unsigned_at : List ℕ → ℕ → ℕ
unsigned_at b k =
    let at = 5 * k in
    (((get_or b at 0 * 256 + get_or b (at + 1) 0) * 256 + get_or b (at + 2) 0) * 256 + get_or b (at + 3) 0) * 256
    + get_or b (at + 4) 0

abbrev pub twos_complement : ℕ → ℤ
twos_complement n = cond (ltb n (2 ^ 39)) (pos n) (negsuc (2 ^ 40 - 1 - n))

abbrev pub number_at : List ℕ → ℕ → ℤ
number_at b k = twos_complement (unsigned_at b k)

-- The first n numbers of a body are at most `most` in size.
unfoldable pub all_within : ℕ → ℕ → List ℕ → Bool
all_within most n b = every n (λ k. leb (nat_abs (number_at b k)) most)

-- ---- written

-- Each number of the list is a byte.
abbrev pub Bytes : List ℕ → Type 0
Bytes s = (i : ℕ) → i < length s → get_or s i 0 < 256

-- The byte of n that counts 256^k; the higher k is the higher byte.
abbrev pub byte_of : ℕ → ℕ → ℕ
byte_of k n = n / 256 ^ k % 256

-- Two bytes, high byte first.
abbrev pub two_bytes : ℕ → List ℕ
two_bytes n = byte_of 1 n ∷ byte_of 0 n ∷ []

-- "a one-byte tag, a two-byte length (high byte first) and a body"
abbrev pub field_bytes : ℕ → List ℕ → List ℕ
field_bytes tag b = tag ∷ byte_of 1 (length b) ∷ byte_of 0 (length b) ∷ b

-- "two's complement", of five bytes: a negative number is 2^40 less its size. (negsuc n is -(n + 1).)
abbrev pub complement : ℤ → ℕ
complement (pos n) = n
complement (negsuc n) = 2 ^ 40 - suc n

-- "five bytes each, two's complement, high byte first"
abbrev pub number_bytes : ℤ → List ℕ
number_bytes z =
    let n = complement z in
    byte_of 4 n ∷ byte_of 3 n ∷ byte_of 2 n ∷ byte_of 1 n ∷ byte_of 0 n ∷ []
