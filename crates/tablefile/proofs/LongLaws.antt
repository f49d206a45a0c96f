-- Input cut to its first n bytes is judged as the whole, where n is above what the fields can take.
use mathlib.Core.Path.{◌≡◌, refl, sym, ap, ap₂, ◌∙◌, subst}
use mathlib.Core.Bool.{Bool, true, false, not, ◌&&◌, cond, and-false}
use mathlib.Core.List.{List, [], ◌∷◌}
use Prim.Native.Nat.{ℕ, zero, suc, ◌+◌, ◌-◌, ◌*◌, ◌≤◌, ◌<◌}
use native.Mathlib.Nat.{le_refl, zero-add, suc-add}
use native.Mathlib.Decide.{dec_lt}
use native.Mathlib.Omega.{arith}
use lib.Dec.{leb, ltb, eqb}
use borrow.Author.Tests.{leb-true, lt-ltb, le-ltb, lt-leb}
use lib.ListN.{length, get_or, take, drop, length-take}
use lib.Seq.{take-nil, get_or-take, take-take}
use Rattle.finite.proofs.Tests.{both}
use Rattle.surface.specs.Sheet.{good_side}
use Rattle.surface.specs.Support.{active_count}
use Rattle.surface.specs.Table.{cause, ◌or_else◌, tree_of, formed, levels, limit}
use Rattle.surface.specs.Fields.{Judged, declined, contains, unless, Part, holds, in_part, length_at, field, checked}
use Rattle.surface.specs.Fields.{all_within}
use Rattle.surface.specs.Note.{Note, none, noted, note_field}
use Rattle.surface.specs.TableFile.{sides_in, good_sides, sides_field, tree_field, counts_agree, counts_field, level_loaded}
use Rattle.surface.specs.TableFile.{level_field, level_fields, file_contents}
use Rattle.surface.proofs.TableLaws.{good-side}
use Rattle.surface.proofs.Causes.{or_else-none, cause-none}
use Rattle.fields.proofs.FieldLaws.{body_of, rest_of, checked-accepted}
use Rattle.tablefile.proofs.ActiveLaws.{active-square}

-- ---- a list and its first n elements

-- whether fewer than k elements stand there, for a k up to n
cut_below : (n k : ℕ) (s : List ℕ) → k ≤ n → ltb (length (take n s)) k ≡ ltb (length s) k
cut_below n k s h = go (dec_lt (length s) k)
  where
    go : Dec (length s < k) → ltb (length (take n s)) k ≡ ltb (length s) k
    go (yes l) = lt-ltb (length (take n s)) k (omega (arith, length-take n s)) ∙ sym (lt-ltb (length s) k l)
    go (no l) =
        let above : k ≤ length s = omega arith in
        le-ltb (length (take n s)) k (omega (arith, length-take n s)) ∙ sym (le-ltb (length s) k above)

-- whether anything stands there
cut-any : (n : ℕ) (s : List ℕ) → 0 < n → ltb 0 (length (take n s)) ≡ ltb 0 (length s)
cut-any zero s h = absurd (omega arith)
cut-any (suc n) [] h = refl
cut-any (suc n) (b ∷ s) h =
    lt-ltb 0 (length (b ∷ take n s)) (omega arith) ∙ sym (lt-ltb 0 (length (b ∷ s)) (omega arith))

cut-drop : (m r : ℕ) (s : List ℕ) → drop m (take (m + r) s) ≡ take r (drop m s)
cut-drop zero r s = rw (zero-add r)
cut-drop (suc m) r [] = rw (suc-add m r) (sym (take-nil r))
cut-drop (suc m) r (b ∷ s) = rw (suc-add m r) (cut-drop m r s)

-- ---- a part and the same with its rest cut

module _ {A : Type 0} where
  abbrev cut : ℕ → Judged (Part A) → Judged (Part A)
  cut j (declined n) = declined n
  cut j (contains p) = holds p.content (take j p.rest)

  -- the same, but for the rest, of which at least k bytes are kept
  abbrev Front : ℕ → Judged (Part A) → Judged (Part A) → Type 0
  Front k p q = (j : ℕ) × (k ≤ j) × (p ≡ cut j q)

-- what goes on alike from both comes out alike, where the same refusal counts as alike
along : {A B : Type 0} (alike : Judged B → Judged B → Type 0) → ((n : ℕ) → alike (declined n) (declined n))
    → (k : ℕ) (p q : Judged (Part A)) → Front k p q → (f : A → List ℕ → Judged B)
    → ((a : A) (rest : List ℕ) (j : ℕ) → q ≡ holds a rest → k ≤ j → alike (f a (take j rest)) (f a rest))
    → alike (in_part p f) (in_part q f)
along {A} alike same k p q front f h = subst (λ p. alike (in_part p f) (in_part q f)) (sym front.2) (go q h)
  where
    go : (q : Judged (Part A))
        → ((a : A) (rest : List ℕ) (j : ℕ) → q ≡ holds a rest → k ≤ j → alike (f a (take j rest)) (f a rest))
        → alike (in_part (cut front.0 q) f) (in_part q f)
    go (declined n) h = same n
    go (contains p) h = h p.content p.rest front.0 refl front.1

-- ---- one field

-- The causes of a field: shorter than a head, the byte at the tag, the length, shorter than the field.
abbrev causes : ℕ → ℕ → ℕ → Bool → ℕ → ℕ → Bool → ℕ
causes tag low high headless t m short =
    cause 12 headless
    or_else cause 13 (not (eqb t tag))
    or_else cause 14 (not (leb low m && leb m high))
    or_else cause 12 short

module _ (tag low high n k : ℕ) (s : List ℕ) (head : 3 ≤ n) (room : length_at s ≤ high → 3 + length_at s + k ≤ n) where
  abbrev m : ℕ
  m = length_at s

  cut-length : length_at (take n s) ≡ m
  cut-length =
      ap₂ (λ a b. 256 * a + b) (get_or-take n s 1 0 (omega arith)) (get_or-take n s 2 0 (omega arith))

  -- 14 is judged before the body's end, so the last test counts only where the length fits
  fits : (t : ℕ) (h c : Bool) → causes tag low high h t m c ≡ 0 → m ≤ high
  fits t h c e =
      let c2 = cause 13 (not (eqb t tag)) in
      let fit = leb low m && leb m high in
      let c3 = cause 14 (not fit) in
      let c4 = cause 12 c in
      let e3 = (or_else-none c3 c4
      (or_else-none c2 (c3 or_else c4) (or_else-none (cause 12 h) (c2 or_else c3 or_else c4) e).1).1).0 in
      leb-true m high (both (leb low m) (leb m high) (cause-none 13 fit e3)).1

  same-causes : causes tag low high (ltb (length (take n s)) 3) (get_or (take n s) 0 0) (length_at (take n s))
      (ltb (length (take n s)) (3 + length_at (take n s)))
      ≡ causes tag low high (ltb (length s) 3) (get_or s 0 0) m (ltb (length s) (3 + m))
  same-causes =
      rw (cut-length, cut_below n 3 s head, get_or-take n s 0 0 (omega arith))
      (ap (λ x. cause 12 (ltb (length s) 3) or_else cause 13 (not (eqb (get_or s 0 0) tag)) or_else x) (go (dec_lt high m)))
    where
      go : Dec (high < m)
          → cause 14 (not (leb low m && leb m high)) or_else cause 12 (ltb (length (take n s)) (3 + m))
          ≡ cause 14 (not (leb low m && leb m high)) or_else cause 12 (ltb (length s) (3 + m))
      go (yes l) = rw (lt-leb m high l, and-false (leb low m))
      go (no l) = let r : 3 + m + k ≤ n = room (omega arith) in rw (cut_below n (3 + m) s (omega arith))

  -- the same refusal, or the same body with the rest of the first n bytes
  front-field : Front k (field tag low high (take n s)) (field tag low high s)
  unfolding field
  front-field = (
    left,
    omega arith,
    ap₂ (λ c l. unless c (holds (take l (drop 3 (take n s))) (drop (3 + l) (take n s)))) same-causes cut-length
        ∙ go (causes tag low high (ltb (length s) 3) (get_or s 0 0) m (ltb (length s) (3 + m)))
        (fits (get_or s 0 0) (ltb (length s) 3) (ltb (length s) (3 + m))),
  )
    where
      left : ℕ
      left = k + (n - (3 + m + k))

      go : (c : ℕ) → (c ≡ 0 → m ≤ high)
          → unless c (holds (take m (drop 3 (take n s))) (drop (3 + m) (take n s)))
          ≡ cut left (unless c (holds (body_of s) (rest_of s)))
      go zero f =
          let r : 3 + m + k ≤ n = room (f refl) in
          let e : n ≡ 3 + m + left = omega arith in
          let e3 : n ≡ 3 + (m + left) = omega arith in
          ap₂ holds
          (ap (λ j. take m (drop 3 (take j s))) e3
          ∙ ap (take m) (cut-drop 3 (m + left) s)
          ∙ take-take m (m + left) (drop 3 s) (omega arith))
          (ap (λ j. drop (3 + m) (take j s)) e ∙ cut-drop (3 + m) left s)
      go (suc c) f = refl

  -- so with its contents
  front-checked : {A : Type 0} (c : ℕ) (ok : List ℕ → Bool) (of : List ℕ → A)
      → Front k (checked (field tag low high (take n s)) c ok of) (checked (field tag low high s) c ok of)
  front-checked c ok of =
      along (Front k) (λ n. (k, le_refl k, refl)) k (field tag low high (take n s)) (field tag low high s)
      front-field _
      λ b rest j e l. go b rest j l (cause c (not (ok b)))
    where
      go : (b rest : List ℕ) (j : ℕ) → k ≤ j → (c : ℕ)
          → Front k (unless c (holds (of b) (take j rest))) (unless c (holds (of b) rest))
      go b rest j l zero = (j, l, refl)
      go b rest j l (suc c) = (k, le_refl k, refl)

-- ---- the fields of the levels

module _ (W H : ℕ) (lev : ℕ → ℕ → ℕ) where
  -- The bytes of the fields of the levels below n.
  unfoldable level_bytes : ℕ → ℕ
  level_bytes zero = 0
  level_bytes (suc L) = level_bytes L + (3 + 5 * active_count W H lev L)

  front-levels : (n k m : ℕ) (s : List ℕ) → level_bytes n + k ≤ m
      → Front k (level_fields W H lev n (take m s)) (level_fields W H lev n s)
  unfolding level_fields level_field level_bytes
  front-levels zero k m s h = (m, omega arith, refl)
  front-levels (suc L) k m s h =
      let c = active_count W H lev L in
      let more = 3 + 5 * c + k in
      along (Front k) (λ n. (k, le_refl k, refl)) more (level_fields W H lev L (take m s)) (level_fields W H lev L s)
      (front-levels L more m s (omega arith)) _
      λ before rest j e l.
      along (Front k) (λ n. (k, le_refl k, refl)) k (level_field W H lev L (take j rest)) (level_field W H lev L rest)
      (front-checked (16 + L) (5 * c) (5 * c) j k rest (omega arith) (λ fit. omega arith) 4 (all_within (limit L) c)
      (level_loaded W H lev L)) _
      λ numbers rest2 i e2 l2. (i, l2, refl)

  -- five bytes for each of 121, 361, 1,225 and 4,489 places, and the four heads
  levels-small : W ≤ 8 → H ≤ 8 → level_bytes 4 ≤ 30992
  unfolding level_bytes
  levels-small hW hH =
      omega (
        arith,
        active-square W H lev 0 11 (omega arith) (omega arith),
        active-square W H lev 1 19 (omega arith) (omega arith),
        active-square W H lev 2 35 (omega arith) (omega arith),
        active-square W H lev 3 67 (omega arith) (omega arith),
      )

-- ---- the counts

-- a field of 11 bytes, or none
front-counts : (n : ℕ → ℕ) (k m : ℕ) (s : List ℕ) → 11 + k ≤ m
    → Front k (counts_field n (take m s)) (counts_field n s)
unfolding counts_field
front-counts n k m s h =
    rw (get_or-take m s 0 0 (omega arith)) (go (eqb (get_or s 0 0) 3))
  where
    read : List ℕ → Judged (Part (List ℕ))
    read s = checked (field 3 8 8 s) 20 (counts_agree n) (λ b. b)

    go : (t : Bool) → Front k (cond t (read (take m s)) (holds [] (take m s))) (cond t (read s) (holds [] s))
    go true = front-checked 3 8 8 m k s (omega arith) (λ fit. omega arith) 20 (counts_agree n) (λ b. b)
    go false = (m, omega arith, refl)

-- ---- the note

-- a field of 3 to 67 bytes, or none
front-note : (k m : ℕ) (s : List ℕ) → 67 + k ≤ m → Front k (note_field (take m s)) (note_field s)
unfolding note_field
front-note k m s h =
    rw (get_or-take m s 0 0 (omega arith)) (go (eqb (get_or s 0 0) 32))
  where
    read : List ℕ → Judged (Part Note)
    read s = checked (field 32 0 64 s) 0 (λ b. true) noted

    go : (t : Bool) → Front k (cond t (read (take m s)) (holds none (take m s))) (cond t (read s) (holds none s))
    go true = front-checked 32 0 64 m k s (omega arith) (λ fit. omega arith) 0 (λ b. true) noted
    go false = (m, omega arith, refl)

-- ---- the whole file

-- the fields of a file take at most 5, 1,368, 11, 30,992 and 67 bytes, and one more shows whether bytes follow them
pub cut-contents : (s : List ℕ) (n : ℕ) → 32444 ≤ n → file_contents (take n s) ≡ file_contents s
unfolding file_contents sides_field tree_field
cut-contents s n h =
    along ◌≡◌ (λ n. refl) 32439 (sides_field (take n s)) (sides_field s)
    (front-checked 1 2 2 n 32439 s (omega arith) (λ fit. omega arith) 1 (λ b. good_sides (sides_in b)) sides_in) _
    λ sides rest j e l.
    let W = sides.W in
    let H = sides.H in
    let c = checked-accepted 1 2 2 0 (λ b. good_sides (sides_in b)) sides_in s sides rest e in
    let good = both (good_side W) (good_side H) (sym (ap good_sides c.2) ∙ c.1) in
    along ◌≡◌ (λ n. refl) 31071 (tree_field W H (take j rest)) (tree_field W H rest)
    (front-checked 2 1 1365 j 31071 rest (omega arith) (λ fit. omega arith) 2 (λ t. formed W H (tree_of t)) (λ t. t)) _
    λ t rest2 j2 e2 l2.
    let small = levels-small W H (levels t) (good-side W good.0).1 (good-side H good.1).1 in
    let active = active_count W H (levels t) in
    along ◌≡◌ (λ n. refl) 31060 (counts_field active (take j2 rest2)) (counts_field active rest2)
    (front-counts active 31060 j2 rest2 (omega arith)) _
    λ counts rest3 j3 e3 l3.
    along ◌≡◌ (λ n. refl) 68 (level_fields W H (levels t) 4 (take j3 rest3)) (level_fields W H (levels t) 4 rest3)
    (front-levels W H (levels t) 4 68 j3 rest3 (omega arith)) _
    λ cs rest4 j4 e4 l4.
    along ◌≡◌ (λ n. refl) 1 (note_field (take j4 rest4)) (note_field rest4) (front-note 1 j4 rest4 (omega arith)) _
    λ note rest5 j5 e5 l5.
    ap (λ x. unless (cause 15 x) (contains (record { W = W; H = H; tree = t; numbers = cs; note = note })))
    (cut-any j5 rest5 l5)
