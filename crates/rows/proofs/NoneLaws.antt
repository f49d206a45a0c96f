-- A mask that meets no bit of a row's word: no square of the mask's span lies in the region.
use mathlib.Core.Bool.{Bool, true, false, cond}
use mathlib.Core.List.{List}
use mathlib.Core.Path.{◌≡◌, refl, sym, ap, ◌∙◌, subst}
use Prim.Native.Nat.{ℕ, ◌+◌, ◌-◌, ◌*◌, ◌^◌, ◌≤◌, ◌<◌, min}
use native.Mathlib.Omega.{arith}
use lib.Bits.{bit_and, and_le_r}
use lib.ListN.{get_or, length}
use Rattle.std.proofs.Common.{rules, nat_eq, eq-eqb}
use Rattle.std.proofs.lemmas.Grind.{get_or_default_zero}
use borrow.Author.Tests.{eqb-true}
use Rattle.std.specs.List.{list_all, slice_range}
use Rattle.std.proofs.lemmas.List.{places}
use Rattle.std.proofs.lemmas.List.Sums.{AllPass-from_list_all, list_all-from_AllPass}
use Rattle.finite.specs.Bits.{bit}
use Rattle.finite.proofs.Bits.{bit-small, bit-and, bit_past, bits-same}
use Rattle.rows.specs.Rows.{in_span, NoneIn}
use Rattle.rows.proofs.Spans.{in-span, span-true}

bit-zero : (k : ℕ) → bit 0 k ≡ 0
bit-zero k = bit_past 0 0 k (omega arith) (omega arith)

-- the test of a row's word, of those of n rows from a place on
abbrev pub clear : ℕ → ℕ → Bool
clear mask word = nat_eq (bit_and word mask) 0

abbrev pub words : List ℕ → ℕ → ℕ → List ℕ
words rows first n = slice_range rows first (first + n)

module _ (rows : List ℕ) (l x n mask y : ℕ) (inside : x + n ≤ 32) (fits : l * 32 + y + n ≤ length rows)
    (span : (q : ℕ) → q < 32 → bit mask q ≡ cond (in_span x n q) 1 0) where
  word-of : (k : ℕ) → k < n → get_or (words rows (l * 32 + y) n) k 0 ≡ get_or rows (l * 32 + (y + k)) 0
  word-of k h =
      let same : l * 32 + y + k ≡ l * 32 + (y + k) = omega arith in
      search (rules, places)

  size-of : length (words rows (l * 32 + y) n) ≡ n
  size-of = search (rules, places)

  pub none-all : list_all (clear mask) (words rows (l * 32 + y) n) ≡ true → NoneIn l x y n n rows
  none-all e q r xq qx yr ry =
      let word = get_or rows (l * 32 + r) 0 in
      let passes = AllPass-from_list_all (clear mask) (words rows (l * 32 + y) n) e (r - y) 0 (omega (arith, size-of)) in
      let there : y + (r - y) ≡ r = omega arith in
      let same : get_or (words rows (l * 32 + y) n) (r - y) 0 ≡ word =
      word-of (r - y) (omega arith) ∙ ap (λ i. get_or rows (l * 32 + i) 0) there in
      let met : bit_and word mask ≡ 0 = eqb-true (bit_and word mask) 0 (subst (λ w. clear mask w ≡ true) same passes) in
      let both : min (bit word q) (bit mask q) ≡ 0 =
      sym (bit-and word mask q) ∙ ap (λ w. bit w q) met ∙ bit-zero q in
      let set : bit mask q ≡ 1 = span q (omega arith) ∙ ap (λ t. cond t 1 0) (in-span x n q xq qx) in
      omega (arith, both, set, bit-small word q)

  pub all-none : mask < 2 ^ 32 → NoneIn l x y n n rows → list_all (clear mask) (words rows (l * 32 + y) n) ≡ true
  all-none small none = list_all-from_AllPass (clear mask) (words rows (l * 32 + y) n) λ k d h.
      let few : k < n = omega (arith, h, size-of) in
      let same : get_or (words rows (l * 32 + y) n) k d ≡ get_or rows (l * 32 + (y + k)) 0 =
      get_or_default_zero (words rows (l * 32 + y) n) k d h ∙ word-of k few in
      rw same (eq-eqb _ 0 (met k few))
    where
      met : (k : ℕ) → k < n → bit_and (get_or rows (l * 32 + (y + k)) 0) mask ≡ 0
      met k few =
          bits-same 32 (bit_and word mask) 0 (omega (arith, and_le_r word mask)) (omega arith) λ q hq.
          bit-and word mask q ∙ ap (min (bit word q)) (span q hq) ∙ go q (in_span x n q) refl ∙ sym (bit-zero q)
        where
          word : ℕ
          word = get_or rows (l * 32 + (y + k)) 0

          go : (q : ℕ) (t : Bool) → in_span x n q ≡ t → min (bit word q) (cond t 1 0) ≡ 0
          go q true e =
              let s = span-true x n q e in
              let bare : bit word q ≡ 0 = none q (y + k) s.0 s.1 (omega arith) (omega arith) in
              omega arith
          go q false e = omega arith
