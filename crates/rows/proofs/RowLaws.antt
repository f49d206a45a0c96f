-- Laws of rows of bits: a span of ones, the rows of given levels, and squares that are painted one after the other.
use mathlib.Core.Bool.{Bool, true, false, ◌&&◌, cond}
use mathlib.Core.List.{List}
use mathlib.Core.Path.{◌≡◌, refl, sym, ap, ap₂, ◌∙◌}
use Prim.Native.Nat.{ℕ, ◌+◌, ◌-◌, ◌*◌, ◌/◌, ◌%◌, ◌^◌, ◌≤◌, ◌<◌, max}
use native.Mathlib.Nat.{zero-add, sub-zero, sub-add-eq}
use native.Mathlib.Decide.{dec_lt}
use native.Mathlib.Omega.{arith}
use lib.Dec.{ltb, eqb, lit<}
use lib.ListN.{length, get_or, replicate, get_or-replicate}
use lib.Seq.{ext_get_or}
use borrow.Author.Tests.{eqb-true}
use Rattle.finite.specs.Bits.{bit, word_of}
use Rattle.finite.specs.Range.{every}
use Rattle.finite.proofs.Bits.{bit-shr, bit-shl, bit-shl-low, bit_past, bit-mod, bits-same, word-bit, word_small}
use Rattle.finite.proofs.Table.{length-table, get_d-table}
use Rattle.finite.proofs.Tests.{every_true}
use Rattle.surface.specs.Support.{least_under, active_count}
use Rattle.surface.specs.Table.{levels}
use Rattle.surface.proofs.Least.{least_under-cong, active_count-cong}
use Rattle.surface.proofs.SmallLevels.{levels-small}
use Rattle.rows.specs.Rows.{in_rows, levels_of, Nested, above, rows_of, level_rows, in_span, Painted, Fit}
use Rattle.rows.proofs.Spans.{in-span, before-span, past-span, join-quarters}

-- ---- a span of ones

ones : (k : ℕ) → k < 32 → bit 4294967295 k ≡ 1
unfolding bit every
ones k h = eqb-true (bit 4294967295 k) 1 (every_true 32 (λ k. eqb (bit 4294967295 k) 1) refl k h)

pub span-bits : (x n : ℕ) → 1 ≤ n → x + n ≤ 32 → (q : ℕ) → q < 32
    → bit (4294967295 / 2 ^ (32 - n) * 2 ^ x % 4294967296) q ≡ cond (in_span x n q) 1 0
span-bits x n some fits q h =
    bit-mod (4294967295 / 2 ^ (32 - n) * 2 ^ x) 32 q h ∙ go (dec_lt q x) (dec_lt q (x + n))
  where
    moved : x ≤ q → bit (4294967295 / 2 ^ (32 - n) * 2 ^ x) q ≡ bit 4294967295 (32 - n + (q - x))
    moved l =
        let e : q ≡ x + (q - x) = omega arith in
        ap (bit (4294967295 / 2 ^ (32 - n) * 2 ^ x)) e
        ∙ bit-shl (4294967295 / 2 ^ (32 - n)) x (q - x)
        ∙ bit-shr 4294967295 (32 - n) (q - x)

    go : Dec (q < x) → Dec (q < x + n)
        → bit (4294967295 / 2 ^ (32 - n) * 2 ^ x) q ≡ cond (in_span x n q) 1 0
    go (yes l) d = rw (before-span x n q l) (bit-shl-low (4294967295 / 2 ^ (32 - n)) x q l)
    go (no l) (yes d) = rw (in-span x n q (omega arith) d) (moved (omega arith) ∙ ones _ (omega arith))
    go (no l) (no d) =
        rw (past-span x n q (omega arith))
        (moved (omega arith) ∙ bit_past 4294967295 32 (32 - n + (q - x)) (lit< tt) (omega arith))

-- ---- the rows of given levels

above-small : (l v : ℕ) → above l v < 2
above-small l v = omega arith

module _ (lev : ℕ → ℕ → ℕ) where
  row_word : ℕ → ℕ
  row_word p = word_of 32 (λ q. above (p / 32) (lev q (p % 32)))

  rows-word : (p : ℕ) → p < 96 → get_or (rows_of lev) p 0 ≡ row_word p
  unfolding rows_of row_word
  rows-word p h = get_d-table 0 96 row_word p 0 h ∙ ap row_word (zero-add p)

  pub rows-size : length (rows_of lev) ≡ 96
  unfolding rows_of
  rows-size = length-table 0 96 (λ p. word_of 32 (λ q. above (p / 32) (lev q (p % 32))))

  pub rows_fit : Fit (rows_of lev)
  unfolding row_word
  rows_fit p h =
      rw (rows-word p h)
      (word_small 32 (λ q. above (p / 32) (lev q (p % 32))) (λ q _. above-small (p / 32) (lev q (p % 32))))

  -- a bit says whether its quarter square has at least its level
  pub rows-bit : (l q r : ℕ) → l < 3 → q < 32 → r < 32 → in_rows (rows_of lev) l q r ≡ above l (lev q r)
  unfolding row_word
  rows-bit l q r hl hq hr =
      let p = l * 32 + r in
      let el : p / 32 ≡ l = omega arith in
      let er : p % 32 ≡ r = omega arith in
      ap (λ w. bit w q) (rows-word p (omega arith))
      ∙ word-bit 32 (λ q. above (p / 32) (lev q (p % 32))) (λ q _. above-small (p / 32) (lev q (p % 32))) q hq
      ∙ ap₂ (λ i j. above i (lev q j)) el er

  pub rows-nested : Nested (rows_of lev)
  rows-nested =
      record {
        second = λ q r hq hr.
            rw (rows-bit 1 q r (omega arith) hq hr, rows-bit 0 q r (omega arith) hq hr) (omega arith);
        third = λ q r hq hr.
            rw (rows-bit 2 q r (omega arith) hq hr, rows-bit 1 q r (omega arith) hq hr) (omega arith);
      }

  pub rows-levels : (q r : ℕ) → q < 32 → r < 32 → lev q r ≤ 3 → levels_of (rows_of lev) q r ≡ lev q r
  rows-levels q r hq hr low =
      rw (
        rows-bit 0 q r (omega arith) hq hr,
        rows-bit 1 q r (omega arith) hq hr,
        rows-bit 2 q r (omega arith) hq hr,
      )
      (omega arith)

pub level-rows : (t : List ℕ) (q r : ℕ) → q < 32 → r < 32 → levels_of (level_rows t) q r ≡ levels t q r
level-rows t q r hq hr = rows-levels (levels t) q r hq hr (levels-small t q r)

-- the least level under a support by the rows is that by the tree
pub rows-least : (W H : ℕ) (t rows : List ℕ) (L a b : ℕ) → W ≤ 8 → H ≤ 8 → rows ≡ level_rows t
    → least_under W H (levels_of rows) L a b ≡ least_under W H (levels t) L a b
rows-least W H t rows L a b hW hH e =
    least_under-cong W H (levels_of rows) (levels t)
    (λ q r hq hr. ap (λ m. levels_of m q r) e ∙ level-rows t q r (omega arith) (omega arith)) L a b

-- so are the active functions of a level counted alike
pub rows-count : (W H : ℕ) (t rows : List ℕ) (L : ℕ) → W ≤ 8 → H ≤ 8 → rows ≡ level_rows t
    → active_count W H (levels_of rows) L ≡ active_count W H (levels t) L
rows-count W H t rows L hW hH e =
    active_count-cong W H (levels_of rows) (levels t)
    (λ q r hq hr. ap (λ m. levels_of m q r) e ∙ level-rows t q r (omega arith) (omega arith)) L

-- ---- painting

-- the whole square painted over nothing gives the rows
pub painted-rows : (lev : ℕ → ℕ → ℕ) (after : List ℕ) → Painted 0 0 32 lev (replicate 96 0) after → Fit after
    → after ≡ rows_of lev
painted-rows lev after d fit =
    ext_get_or 0 after (rows_of lev) (d.size ∙ sym (rows-size lev)) λ p h.
    let inside : p < 96 = omega (arith, d.size) in
    bits-same 32 (get_or after p 0) (get_or (rows_of lev) p 0) (fit p inside) (rows_fit lev p inside) λ q hq.
    let e : p ≡ p / 32 * 32 + p % 32 = omega arith in
    ap (λ i. bit (get_or after i 0) q) e
    ∙ bit-of (p / 32) q (p % 32) (omega arith) hq (omega arith)
    ∙ sym (rows-bit lev (p / 32) q (p % 32) (omega arith) hq (omega arith))
    ∙ ap (λ i. bit (get_or (rows_of lev) i 0) q) (sym e)
  where
    empty : (l q r : ℕ) → l < 3 → r < 32 → in_rows (replicate 96 0) l q r ≡ 0
    empty l q r hl hr =
        ap (λ w. bit w q) (get_or-replicate 96 (l * 32 + r) 0 0 (omega arith)) ∙ bit_past 0 0 q (lit< tt) (omega arith)

    bit-of : (l q r : ℕ) → l < 3 → q < 32 → r < 32 → in_rows after l q r ≡ above l (lev q r)
    bit-of l q r hl hq hr =
        d.bits l q r hl hq hr
        ∙ rw (
          empty l q r hl hr,
          in-span 0 32 q (omega arith) (omega arith),
          in-span 0 32 r (omega arith) (omega arith),
          sub-zero q,
          sub-zero r,
        )
        (omega arith)

-- levels given by those of the four quarters
abbrev pub four_levels : ℕ → (a b c d : ℕ → ℕ → ℕ) → ℕ → ℕ → ℕ
four_levels h a b c d q r =
    cond (ltb r h) (cond (ltb q h) (a q r) (b (q - h) r)) (cond (ltb q h) (c q (r - h)) (d (q - h) (r - h)))

-- four squares that are painted one after the other are their square
pub painted-four : (x y h : ℕ) (a b c d : ℕ → ℕ → ℕ) (m₀ m₁ m₂ m₃ m₄ : List ℕ) → Painted x y h a m₀ m₁
    → Painted (x + h) y h b m₁ m₂ → Painted x (y + h) h c m₂ m₃ → Painted (x + h) (y + h) h d m₃ m₄
    → Painted x y (h + h) (four_levels h a b c d) m₀ m₄
painted-four x y h a b c d m₀ m₁ m₂ m₃ m₄ p₁ p₂ p₃ p₄ =
    record {
      size = p₄.size;
      bits = λ l q r hl hq hr.
          let i = q - x in
          let j = r - y in
          p₄.bits l q r hl hq hr
          ∙ rw (p₃.bits l q r hl hq hr, p₂.bits l q r hl hq hr, p₁.bits l q r hl hq hr)
          (rw (sub-add-eq q x h, sub-add-eq r y h)
          (join-quarters x y h q r (above l (a i j)) (above l (b (i - h) j)) (above l (c i (j - h)))
          (above l (d (i - h) (j - h))) (in_rows m₀ l q r)
          ∙ ap (λ v. max (in_rows m₀ l q r) (cond (in_span x (h + h) q && in_span y (h + h) r) v 0))
          (choose (ltb j h) (ltb i h) l (a i j) (b (i - h) j) (c i (j - h)) (d (i - h) (j - h)))));
    }
  where
    choose : (s t : Bool) (l u v w z : ℕ)
        → cond s (cond t (above l u) (above l v)) (cond t (above l w) (above l z))
        ≡ above l (cond s (cond t u v) (cond t w z))
    choose true true l u v w z = refl
    choose true false l u v w z = refl
    choose false true l u v w z = refl
    choose false false l u v w z = refl
