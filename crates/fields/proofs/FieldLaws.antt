-- What the acceptance of a part of a file says, and how a field that stands is written.
use mathlib.Core.Path.{◌≡◌, refl, sym, ap, ap₂, ◌∙◌, subst}
use mathlib.Core.Bool.{Bool, true, not, ◌&&◌}
use mathlib.Core.List.{List, [], ◌∷◌, ◌++◌}
use Prim.Native.Nat.{ℕ, zero, suc, ◌+◌, ◌*◌, ◌/◌, ◌%◌, ◌≤◌, ◌<◌}
use native.Mathlib.Nat.{mul_comm, mod-lt, div-add-mod', div-lt_iff_lt-mul}
use native.Mathlib.Decide.{dec_lt}
use native.Mathlib.Omega.{arith}
use lib.Dec.{leb, ltb, eqb}
use borrow.Author.Tests.{leb-true, ltb-false, eqb-true, le-leb, le-ltb, eq-eqb}
use lib.ListN.{length, get_or, take, drop, length-take, length-drop, take-append-drop, get_or-eq_default}
use lib.Seq.{length-take-le, get_or-drop, get_or-take, drop-drop, ext_get_or}
use Rattle.finite.proofs.Tests.{both}
use Rattle.surface.specs.Table.{cause, ◌or_else◌}
use Rattle.surface.specs.Fields.{Judged, declined, contains, unless, Part, holds, in_part, length_at, field, checked}
use Rattle.surface.specs.Fields.{Bytes, field_bytes}
use Rattle.surface.proofs.Causes.{or_else-none, cause-none, cause-off}

-- ---- acceptance

-- what is not declined passed the cause
pub unless-accepted : {A : Type 0} (c : ℕ) (j : Judged A) (a : A) → unless c j ≡ contains a
    → (c ≡ 0) × (j ≡ contains a)
unless-accepted zero j a e = (refl, e)
unless-accepted (suc c) j a e = absurd (let z : ◌≡◌ {A = ℕ} 0 1 = cc in omega arith)

-- nor was the part before it
pub part-accepted : {A B : Type 0} (j : Judged (Part A)) (f : A → List ℕ → Judged B) (b : B) → in_part j f ≡ contains b
    → (a : A) × (rest : List ℕ) × (j ≡ holds a rest) × (f a rest ≡ contains b)
part-accepted (declined n) f b e = absurd (let z : ◌≡◌ {A = ℕ} 0 1 = cc in omega arith)
part-accepted (contains p) f b e = (p.content, p.rest, refl, e)

-- a part holds one thing, with one rest
pub held : {A : Type 0} (a b : A) (r s : List ℕ) → holds a r ≡ holds b s → (a ≡ b) × (r ≡ s)
held {A} a b r s e =
    let same : ◌≡◌ {A = Part A} (record { content = a; rest = r }) (record { content = b; rest = s }) = cc in
    (ap (λ p. p.content) same, ap (λ p. p.rest) same)

-- The body of the field that s starts with, and the bytes after it.
abbrev pub body_of : List ℕ → List ℕ
body_of s = take (length_at s) (drop 3 s)

abbrev pub rest_of : List ℕ → List ℕ
rest_of s = drop (3 + length_at s) s

-- A whole field of the tag stands at the front of s, with a length from low to high.
pub record Stands (tag low high : ℕ) (s : List ℕ) : Type 0 where
  pub whole : 3 + length_at s ≤ length s
  pub tagged : get_or s 0 0 ≡ tag
  pub long : low ≤ length_at s
  pub short : length_at s ≤ high

field-accepted : (tag low high : ℕ) (s : List ℕ) (p : Part (List ℕ)) → field tag low high s ≡ contains p
    → Stands tag low high s × (record { content = body_of s; rest = rest_of s } ≡ p)
unfolding field
field-accepted tag low high s p e =
    let n = length_at s in
    let fit = leb low n && leb n high in
    let c1 = cause 12 (ltb (length s) 3) in
    let c2 = cause 13 (not (eqb (get_or s 0 0) tag)) in
    let c3 = cause 14 (not fit) in
    let c4 = cause 12 (ltb (length s) (3 + n)) in
    let r = unless-accepted (c1 or_else c2 or_else c3 or_else c4) (holds (body_of s) (rest_of s)) p e in
    let e1 = or_else-none c1 (c2 or_else c3 or_else c4) r.0 in
    let e2 = or_else-none c2 (c3 or_else c4) e1.1 in
    let e3 = or_else-none c3 c4 e2.1 in
    let sizes = both (leb low n) (leb n high) (cause-none 13 fit e3.0) in
    let same = r.1 in (
      record {
        whole = ltb-false (length s) (3 + n) (cause-off 11 (ltb (length s) (3 + n)) e3.1);
        tagged = eqb-true (get_or s 0 0) tag (cause-none 12 (eqb (get_or s 0 0) tag) e2.0);
        long = leb-true low n sizes.0;
        short = leb-true n high sizes.1;
      },
      cc,
    )

pub stands-field : (tag low high : ℕ) (s : List ℕ) → Stands tag low high s
    → field tag low high s ≡ holds (body_of s) (rest_of s)
unfolding field
stands-field tag low high s h =
    let n = length_at s in
    rw (
      le-ltb (length s) 3 (omega (arith, h.whole)),
      eq-eqb (get_or s 0 0) tag h.tagged,
      le-leb low n h.long,
      le-leb n high h.short,
      le-ltb (length s) (3 + n) h.whole,
    )

-- a field whose contents pass: it stands, and holds what is made of its body
pub checked-accepted : {A : Type 0} (tag low high n : ℕ) (ok : List ℕ → Bool) (of : List ℕ → A) (s : List ℕ) (a : A)
    (rest : List ℕ) → checked (field tag low high s) (suc n) ok of ≡ holds a rest
    → Stands tag low high s × (ok (body_of s) ≡ true) × (of (body_of s) ≡ a) × (rest_of s ≡ rest)
checked-accepted tag low high n ok of s a rest e =
    let p = part-accepted (field tag low high s) _ _ e in
    let f = field-accepted tag low high s _ p.2 in
    let b = ap (λ p. p.content) f.1 in
    let c = unless-accepted (cause (suc n) (not (ok p.0))) (holds (of p.0) p.1) _ p.3 in
    let h = held (of p.0) a p.1 rest c.1 in
    (f.0, ap ok b ∙ cause-none n (ok p.0) c.0, ap of b ∙ h.0, ap (λ p. p.rest) f.1 ∙ h.1)

pub body-length : (s : List ℕ) → 3 + length_at s ≤ length s → length (body_of s) ≡ length_at s
body-length s h = length-take-le (length_at s) (drop 3 s) (omega (arith, length-drop 3 s))

-- ---- bytes

pub byte : (s : List ℕ) → Bytes s → (i : ℕ) → get_or s i 0 < 256
byte s h i = go (dec_lt i (length s))
  where
    go : Dec (i < length s) → get_or s i 0 < 256
    go (yes l) = h i l
    go (no l) = let out : length s ≤ i = omega arith in rw (get_or-eq_default s 0 out) (omega arith)

drop-bytes : (n : ℕ) (s : List ℕ) → Bytes s → Bytes (drop n s)
drop-bytes n s h i l = rw (get_or-drop n s i 0) (byte s h (n + i))

take-bytes : (n : ℕ) (s : List ℕ) → Bytes s → Bytes (take n s)
take-bytes n s h i l =
    let inside : i < n = omega (arith, length-take n s) in
    rw (get_or-take n s i 0 inside) (byte s h i)

pub body_bytes : (s : List ℕ) → Bytes s → Bytes (body_of s)
body_bytes s h = take-bytes (length_at s) (drop 3 s) (drop-bytes 3 s h)

pub rest-bytes : (s : List ℕ) → Bytes s → Bytes (rest_of s)
rest-bytes s h = drop-bytes (3 + length_at s) s h

-- lists of n groups of k elements are the same if each group is
pub groups-same : (k n : ℕ) (b c : List ℕ) → 0 < k → length b ≡ k * n → length c ≡ k * n
    → ((i r : ℕ) → i < n → r < k → get_or b (k * i + r) 0 ≡ get_or c (k * i + r) 0) → b ≡ c
groups-same k n b c h eb ec same =
    ext_get_or 0 b c (eb ∙ sym ec) λ j l.
    let split : k * (j / k) + j % k ≡ j = ap (λ x. x + j % k) (mul_comm k (j / k)) ∙ div-add-mod' j k in
    let inside : j < n * k = subst (λ x. j < x) (eb ∙ mul_comm k n) l in
    subst (λ j. get_or b j 0 ≡ get_or c j 0) split
    (same (j / k) (j % k) ((div-lt_iff_lt-mul {k = k} {x = j} {y = n} h).1 inside) (mod-lt j h))

-- ---- a field is written one way

-- the head and what follows it
front : (s : List ℕ) → 3 ≤ length s → s ≡ get_or s 0 0 ∷ get_or s 1 0 ∷ get_or s 2 0 ∷ drop 3 s
front [] h = absurd (omega arith)
front (a ∷ []) h = absurd (omega arith)
front (a ∷ b ∷ []) h = absurd (omega arith)
front (a ∷ b ∷ c ∷ s) h = refl

pub field-written : (tag low high : ℕ) (s : List ℕ) → Bytes s → Stands tag low high s
    → s ≡ field_bytes tag (body_of s) ++ rest_of s
field-written tag low high s bs h =
    let size = body-length s h.whole in
    let split : drop 3 s ≡ body_of s ++ rest_of s =
    sym (take-append-drop (length_at s) (drop 3 s)) ∙ ap (λ r. body_of s ++ r) (drop-drop (length_at s) 3 s) in
    front s (omega (arith, h.whole))
    ∙ ap₂ ◌∷◌ h.tagged
    (ap₂ ◌∷◌ (omega (arith, size, byte s bs 1, byte s bs 2)) (ap₂ ◌∷◌ (omega (arith, size, byte s bs 2)) split))
