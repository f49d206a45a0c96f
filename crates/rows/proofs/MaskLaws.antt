-- Masks set in words, and squares raised by them.
use mathlib.Core.Bool.{Bool, true, false, true≢false, ◌&&◌, ◌||◌, cond, and-true, and-false, or-false}
use mathlib.Core.List.{List}
use mathlib.Core.Path.{◌≡◌, refl, sym, ap, ap₂, ◌∙◌, subst}
use Prim.Native.Nat.{ℕ, ◌+◌, ◌-◌, ◌*◌, ◌/◌, ◌%◌, ◌^◌, ◌≤◌, ◌<◌, max}
use native.Mathlib.Nat.{zero-add}
use native.Mathlib.Decide.{dec_lt}
use native.Mathlib.Omega.{arith}
use lib.Bits.{bit_or, or_lt}
use lib.Dec.{ltb}
use lib.ListN.{length, get_or, set, length-set}
use lib.Seq.{get_or-set_same, get_or-set_other}
use borrow.Author.Tests.{lt-ltb, le-ltb}
use borrow.Rule.Slice.PartMut.{mid_of, put_mid, same_len_mid}
use Rattle.std.proofs.Common.{rules}
use Rattle.std.proofs.lemmas.List.{places}
use Rattle.finite.specs.Bits.{bit}
use Rattle.finite.proofs.Bits.{bit-or}
use Rattle.rows.specs.Rows.{above, in_span, Fit, Raised, Masked}
use Rattle.rows.proofs.Spans.{in-span, before-span, past-span, span-true, span-apart, span-or, row-test}

-- ---- masks

pub mask-none : (test : ℕ → Bool) (mask : ℕ) (rows : List ℕ) → ((p : ℕ) → test p ≡ false) → Masked test mask rows rows
mask-none test mask rows none = record { size = refl; words = λ p h. rw (none p) }

pub mask_one : (i mask : ℕ) (rows : List ℕ) → i < length rows
    → Masked (in_span i 1) mask rows (set rows i (bit_or (get_or rows i 0) mask))
mask_one i mask rows inside = record { size = length-set rows i _; words = λ p h. go p (dec_lt p i) (dec_lt i p) }
  where
    go : (p : ℕ) → Dec (p < i) → Dec (i < p)
        → get_or (set rows i (bit_or (get_or rows i 0) mask)) p 0
        ≡ cond (in_span i 1 p) (bit_or (get_or rows p 0) mask) (get_or rows p 0)
    go p (yes l) g = rw (before-span i 1 p l) (get_or-set_other rows i p _ 0 (λ e. omega arith))
    go p (no l) (yes g) = rw (past-span i 1 p (omega arith)) (get_or-set_other rows i p _ 0 (λ e. omega arith))
    go p (no l) (no g) =
        let same : p ≡ i = omega arith in
        rw (same, in-span i 1 i (omega arith) (omega arith)) (get_or-set_same rows i _ 0 inside)

-- a mask that is set in some words and then in others
pub mask-join : (f g h : ℕ → Bool) (mask : ℕ) (a b c : List ℕ) → Masked f mask a b → Masked g mask b c
    → ((p : ℕ) → g p ≡ true → f p ≡ false) → ((p : ℕ) → h p ≡ (g p || f p)) → Masked h mask a c
mask-join f g h mask a b c first second apart both =
    record {
      size = second.size ∙ first.size;
      words = λ p l. second.words p l ∙ go p l (g p) (f p) refl refl;
    }
  where
    go : (p : ℕ) → p < 96 → (s t : Bool) → g p ≡ s → f p ≡ t
        → cond (g p) (bit_or (get_or b p 0) mask) (get_or b p 0) ≡ cond (h p) (bit_or (get_or a p 0) mask) (get_or a p 0)
    go p l true true e d = absurd (true≢false (sym d ∙ apart p e))
    go p l true false e d =
        let kept : get_or b p 0 ≡ get_or a p 0 =
        first.words p l ∙ ap (λ s. cond s (bit_or (get_or a p 0) mask) (get_or a p 0)) d in
        rw (both p, e) (ap (λ w. bit_or w mask) kept)
    go p l false t e d = rw (both p, e) (first.words p l)

-- one word more of those that a mask is set in, in order
pub mask-next : (i mask : ℕ) (a b : List ℕ) → i < length b → Masked (in_span 0 i) mask a b
    → Masked (in_span 0 (i + 1)) mask a (set b i (bit_or (get_or b i 0) mask))
mask-next i mask a b inside kept =
    mask-join (in_span 0 i) (in_span i 1) (in_span 0 (i + 1)) mask a b _ kept (mask_one i mask b inside)
    (λ p. subst (λ j. in_span j 1 p ≡ true → in_span 0 i p ≡ false) (zero-add i) (span-apart 0 i 1 p))
    (λ p. subst (λ j. in_span 0 (i + 1) p ≡ (in_span j 1 p || in_span 0 i p)) (zero-add i) (span-or 0 i 1 p))

-- a mask that is set in each word of a part: the words from a place on, when the part is put back
pub mask-part : (from n k i mask : ℕ) (rows ys : List ℕ) → k ≡ n → from + n ≤ length rows
    → length (mid_of from k rows) ≤ i → length ys ≡ length (mid_of from k rows)
    → Masked (in_span 0 i) mask (mid_of from k rows) ys → Masked (in_span from n) mask rows (put_mid from k rows ys)
mask-part from n k i mask rows ys e fits all same m =
    record { size = same_len_mid from k rows ys same; words = λ p h. go p h (dec_lt p from) (dec_lt p (from + n)) }
  where
    go : (p : ℕ) → p < 96 → Dec (p < from) → Dec (p < from + n)
        → get_or (put_mid from k rows ys) p 0
        ≡ cond (in_span from n p) (bit_or (get_or rows p 0) mask) (get_or rows p 0)
    go p h (yes l) d = rw (before-span from n p l) (search (rules, places))
    go p h (no l) (yes u) =
        let moved : get_or (put_mid from k rows ys) p 0 ≡ get_or ys (p - from) 0 = search (rules, places) in
        let was : get_or (mid_of from k rows) (p - from) 0 ≡ get_or rows p 0 = search (rules, places) in
        let long : length (mid_of from k rows) ≡ n = search (rules, places) in
        rw (in-span from n p (omega arith) u)
        (moved ∙ m.words (p - from) (omega arith)
        ∙ ap₂ (λ s w. cond s (bit_or w mask) w) (in-span 0 i (p - from) (omega arith) (omega arith)) was)
    go p h (no l) (no u) = rw (past-span from n p (omega arith)) (search (rules, places))

pub mask-fit : (test : ℕ → Bool) (mask : ℕ) (a b : List ℕ) → mask < 2 ^ 32 → Masked test mask a b → Fit a → Fit b
mask-fit test mask a b small m fit p l = rw (m.words p l) (go (test p))
  where
    go : (t : Bool) → cond t (bit_or (get_or a p 0) mask) (get_or a p 0) < 2 ^ 32
    go true = or_lt 32 (get_or a p 0) mask (fit p l) small
    go false = fit p l

-- ---- a level more of a square

-- the places of the rows y to y + side - 1 of the first n levels
abbrev pub in_levels : ℕ → ℕ → ℕ → ℕ → Bool
in_levels y side n p = ltb (p / 32) n && in_span y side (p % 32)

pub no-levels : (y side p : ℕ) → in_levels y side 0 p ≡ false
no-levels y side p = rw (le-ltb (p / 32) 0 (omega arith))

level-apart : (y side n p : ℕ) → y + side ≤ 32 → in_span (n * 32 + y) side p ≡ true → in_levels y side n p ≡ false
level-apart y side n p fits e =
    let s = span-true (n * 32 + y) side p e in
    rw (le-ltb (p / 32) n (omega arith))

level-more : (y side n p : ℕ) → y + side ≤ 32
    → in_levels y side (n + 1) p ≡ (in_span (n * 32 + y) side p || in_levels y side n p)
level-more y side n p fits = rw (row-test n y side p fits) (go (dec_lt (p / 32) n) (dec_lt (p / 32) (n + 1)))
  where
    go : Dec (p / 32 < n) → Dec (p / 32 < n + 1)
        → in_levels y side (n + 1) p ≡ ((in_span n 1 (p / 32) && in_span y side (p % 32)) || in_levels y side n p)
    go (yes l) d =
        rw (before-span n 1 (p / 32) l, lt-ltb (p / 32) n l, lt-ltb (p / 32) (n + 1) (omega arith))
    go (no l) (yes d) =
        rw (in-span n 1 (p / 32) (omega arith) d, le-ltb (p / 32) n (omega arith), lt-ltb (p / 32) (n + 1) d)
        (sym (or-false (in_span y side (p % 32))))
    go (no l) (no d) =
        rw (
          past-span n 1 (p / 32) (omega arith),
          le-ltb (p / 32) n (omega arith),
          le-ltb (p / 32) (n + 1) (omega arith),
        )

pub mask-level : (y side n mask : ℕ) (a b c : List ℕ) → y + side ≤ 32 → Masked (in_levels y side n) mask a b
    → Masked (in_span (n * 32 + y) side) mask b c → Masked (in_levels y side (n + 1)) mask a c
mask-level y side n mask a b c fits first second =
    mask-join (in_levels y side n) (in_span (n * 32 + y) side) (in_levels y side (n + 1)) mask a b c first second
    (λ p. level-apart y side n p fits) (λ p. level-more y side n p fits)

-- ---- a square raised to a level

pub mask-raised : (x y side level mask : ℕ) (a b : List ℕ) → level ≤ 3 → length a ≡ 96 → mask < 2 ^ 32
    → ((q : ℕ) → q < 32 → bit mask q ≡ cond (in_span x side q) 1 0) → Masked (in_levels y side level) mask a b
    → Raised x y side (λ _ _. level) a b
mask-raised x y side level mask a b low size small span m =
    record {
      painted =
          record {
            size = m.size ∙ size;
            bits = λ l q r hl hq hr.
                ap (λ w. bit w q) (m.words (l * 32 + r) (omega arith))
                ∙ ap₂ (λ i j. bit (cond (ltb i level && in_span y side j) (bit_or (word l r) mask) (word l r)) q)
                (omega arith) (omega arith)
                ∙ go l q r hq (in_span y side r) (dec_lt l level);
          };
      fit = mask-fit (in_levels y side level) mask a b small m;
    }
  where
    word : ℕ → ℕ → ℕ
    word l r = get_or a (l * 32 + r) 0

    nothing : (o : ℕ) (s : Bool) → o ≡ max o (cond s 0 0)
    nothing o true = omega arith
    nothing o false = omega arith

    go : (l q r : ℕ) → q < 32 → (s : Bool) → Dec (l < level)
        → bit (cond (ltb l level && s) (bit_or (word l r) mask) (word l r)) q
        ≡ max (bit (word l r) q) (cond (in_span x side q && s) (above l level) 0)
    go l q r hq true (yes h) =
        let one : above l level ≡ 1 = omega arith in
        rw (lt-ltb l level h, one, and-true (in_span x side q))
        (bit-or (word l r) mask q ∙ ap (max (bit (word l r) q)) (span q hq))
    go l q r hq true (no h) =
        let zero : above l level ≡ 0 = omega arith in
        rw (le-ltb l level (omega arith), zero, and-true (in_span x side q))
        (nothing (bit (word l r) q) (in_span x side q))
    go l q r hq false d = rw (and-false (ltb l level), and-false (in_span x side q)) (omega arith)
