-- Four numbers in a row, taken, put and tested, and patches of four such rows.
use mathlib.Core.Path.{◌≡◌, sym, ap, ◌∙◌, subst}
use mathlib.Core.Bool.{Bool, true, false, cond}
use mathlib.Core.List.{List, [], ◌∷◌}
use Prim.Native.Nat.{ℕ, ◌+◌, ◌*◌, ◌≤◌, ◌<◌}
use native.Mathlib.Decide.{dec_lt}
use native.Mathlib.Nat.{add-zero, add-mul, mul-le-mul_right}
use native.Mathlib.Omega.{arith}
use borrow.Author.Tests.{eq-eqb, ne_eqb, ltb-true, ltb-false}
use lib.Dec.{lit<, ltb}
use lib.IntN.{ℤ, pos, nat_abs}
use lib.ListN.{length, get_or, set, length-set}
use lib.Seq.{get_or-set_same, get_or-set_other}
use Rattle.finite.proofs.Four.{each}
use Rattle.surface.specs.Fields.{number_at}
use Rattle.patch.specs.Patches.{entry}
use Rattle.coarsening.specs.Coarser.{Stand, number_of, PutFour, PutAt}

-- ---- taken

-- what holds of four in a row holds of each by its number
pub at-four : {A : Type 0} (P : ℕ → A → Type 0) (d : A) {x y z w : A} → P 0 x → P 1 y → P 2 z → P 3 w
    → (k : ℕ) → k < 4 → P k (get_or (x ∷ y ∷ z ∷ w ∷ []) k d)
at-four P d {x} {y} {z} {w} a b c e = each (λ k. P k (get_or (x ∷ y ∷ z ∷ w ∷ []) k d)) a b c e

-- at level 2 a number is the body's
pub in_body : (L : ℕ) (body : List ℕ) (fine : List ℤ) (at p : ℕ) → L ≡ 2 → at ≡ p
    → number_at body at ≡ number_of L body fine p
in_body L body fine at p e q =
    ap (number_at body) q ∙ sym (ap (λ t. cond t (number_at body p) (get_or fine p (pos 0))) (eq-eqb L 2 e))

-- at the others it is the slice's
pub in-slice : (L : ℕ) (body : List ℕ) (fine : List ℤ) (at p : ℕ) → (L ≡ 2 → ⊥) → at ≡ p
    → get_or fine at (pos 0) ≡ number_of L body fine p
in-slice L body fine at p e q =
    ap (λ p. get_or fine p (pos 0)) q
    ∙ sym (ap (λ t. cond t (number_at body p) (get_or fine p (pos 0))) (ne_eqb L 2 e))

-- fewer numbers stand too
pub stand-fewer : (L : ℕ) (body : List ℕ) (fine : List ℤ) (n m : ℕ) → m ≤ n → Stand L body fine n → Stand L body fine m
stand-fewer L body fine n m h s = (λ e. omega (arith, s.0 e), λ e. omega (arith, s.1 e))

-- ---- put

-- row j of a patch starts j rows of the slice after the first
pub row-place : (n x y j k from : ℕ) → from ≡ y * n + x + j * n → from + k ≡ (y + j) * n + (x + k)
row-place n x y j k from e = omega (arith, add-mul y j n)

pub four-put : (at : ℕ) (row s : List ℤ) {a b c d : ℤ} → at + 4 ≤ length s → a ≡ get_or row 0 (pos 0)
    → b ≡ get_or row 1 (pos 0) → c ≡ get_or row 2 (pos 0) → d ≡ get_or row 3 (pos 0)
    → PutFour at row s (set (set (set (set s at a) (at + 1) b) (at + 2) c) (at + 3) d)
four-put at row s {a} {b} {c} {d} h ea eb ec ed = record {
  size = l3 ∙ l2 ∙ l1 ∙ l0;
  inside = each (λ k. get_or s4 (at + k) (pos 0) ≡ get_or row k (pos 0))
      (subst (λ p. get_or s4 p (pos 0) ≡ get_or row 0 (pos 0)) (sym (add-zero at))
      (other s3 d at (at + 3) (λ e. omega arith) ∙ other s2 c at (at + 2) (λ e. omega arith)
      ∙ other s1 b at (at + 1) (λ e. omega arith) ∙ get_or-set_same s at a (pos 0) (omega arith) ∙ ea))
      (other s3 d (at + 1) (at + 3) (λ e. omega arith) ∙ other s2 c (at + 1) (at + 2) (λ e. omega arith)
      ∙ get_or-set_same s1 (at + 1) b (pos 0) (omega (arith, l0)) ∙ eb)
      (other s3 d (at + 2) (at + 3) (λ e. omega arith)
      ∙ get_or-set_same s2 (at + 2) c (pos 0) (omega (arith, l0, l1)) ∙ ec)
      (get_or-set_same s3 (at + 3) d (pos 0) (omega (arith, l0, l1, l2)) ∙ ed);
  outside = λ p out.
      other s3 d p (at + 3) (λ e. out (omega arith) (omega arith))
      ∙ other s2 c p (at + 2) (λ e. out (omega arith) (omega arith))
      ∙ other s1 b p (at + 1) (λ e. out (omega arith) (omega arith))
      ∙ other s a p at (λ e. out (omega arith) (omega arith));
}
  where
    s1 : List ℤ
    s1 = set s at a

    s2 : List ℤ
    s2 = set s1 (at + 1) b

    s3 : List ℤ
    s3 = set s2 (at + 2) c

    s4 : List ℤ
    s4 = set s3 (at + 3) d

    l0 : length s1 ≡ length s
    l0 = length-set s at a

    l1 : length s2 ≡ length s1
    l1 = length-set s1 (at + 1) b

    l2 : length s3 ≡ length s2
    l2 = length-set s2 (at + 2) c

    l3 : length s4 ≡ length s3
    l3 = length-set s3 (at + 3) d

    other : (s : List ℤ) (v : ℤ) (p q : ℕ) → (p ≡ q → ⊥) → get_or (set s q v) p (pos 0) ≡ get_or s p (pos 0)
    other s v p q out = get_or-set_other s q p v (pos 0) out

-- a place among four of row c is of that row
same_row : (n x a b c : ℕ) → a < n → x + 4 ≤ n → c * n + x ≤ b * n + a → b * n + a < c * n + x + 4 → b ≡ c
same_row n x a b c ha hx low high = go (dec_lt b c) (dec_lt c b)
  where
    go : Dec (b < c) → Dec (c < b) → b ≡ c
    go (yes h) _ =
        let next : b + 1 ≤ c = omega (arith, h) in
        absurd (omega (arith, mul-le-mul_right n next, add-mul b 1 n, ha, hx, low))
    go (no g) (yes h) =
        let next : c + 1 ≤ b = omega (arith, h) in
        absurd (omega (arith, mul-le-mul_right n next, add-mul c 1 n, ha, hx, high))
    go (no g) (no h) = omega (arith, g, h)

-- four rows put one after the other
pub rows-put : (n x y at0 at1 at2 at3 : ℕ) (patch : List (List ℤ)) {s0 s1 s2 s3 s4 : List ℤ} → x + 4 ≤ n
    → at0 ≡ y * n + x → at1 ≡ y * n + x + n → at2 ≡ y * n + x + 2 * n → at3 ≡ y * n + x + 3 * n
    → PutFour at0 (get_or patch 0 []) s0 s1 → PutFour at1 (get_or patch 1 []) s1 s2
    → PutFour at2 (get_or patch 2 []) s2 s3 → PutFour at3 (get_or patch 3 []) s3 s4
    → PutAt n x y patch s0 s4
rows-put n x y at0 at1 at2 at3 patch {s0} {s1} {s2} {s3} {s4} h e0 e1 e2 e3 p0 p1 p2 p3 = record {
  size = p3.size ∙ p2.size ∙ p1.size ∙ p0.size;
  inside = λ i j hi hj. each (λ j. get_or s4 ((y + j) * n + (x + i)) (pos 0) ≡ entry patch j i)
      (at i 0 at0 (omega (arith, e0)) (p3.outside (at0 + i) (λ low high. omega (arith, low, h, hi, e0, e3))
      ∙ p2.outside (at0 + i) (λ low high. omega (arith, low, h, hi, e0, e2))
      ∙ p1.outside (at0 + i) (λ low high. omega (arith, low, h, hi, e0, e1)) ∙ p0.inside i hi))
      (at i 1 at1 (omega (arith, e1)) (p3.outside (at1 + i) (λ low high. omega (arith, low, h, hi, e1, e3))
      ∙ p2.outside (at1 + i) (λ low high. omega (arith, low, h, hi, e1, e2)) ∙ p1.inside i hi))
      (at i 2 at2 (omega (arith, e2)) (p3.outside (at2 + i) (λ low high. omega (arith, low, h, hi, e2, e3))
      ∙ p2.inside i hi))
      (at i 3 at3 (omega (arith, e3)) (p3.inside i hi)) j hj;
  outside = λ a b ha out.
      p3.outside (b * n + a) (away a b 3 at3 ha (omega (arith, e3)) (lit< tt) out)
      ∙ p2.outside (b * n + a) (away a b 2 at2 ha (omega (arith, e2)) (lit< tt) out)
      ∙ p1.outside (b * n + a) (away a b 1 at1 ha (omega (arith, e1)) (lit< tt) out)
      ∙ p0.outside (b * n + a) (away a b 0 at0 ha (omega (arith, e0)) (lit< tt) out);
}
  where
    at : (i j from : ℕ) → from ≡ y * n + x + j * n → get_or s4 (from + i) (pos 0) ≡ entry patch j i
        → get_or s4 ((y + j) * n + (x + i)) (pos 0) ≡ entry patch j i
    at i j from e q = subst (λ p. get_or s4 p (pos 0) ≡ entry patch j i) (row-place n x y j i from e) q

    away : (a b j from : ℕ) → a < n → from ≡ y * n + x + j * n → j < 4
        → (x ≤ a → a < x + 4 → y ≤ b → b < y + 4 → ⊥) → from ≤ b * n + a → b * n + a < from + 4 → ⊥
    away a b j from ha e hj out low high =
        let start : (y + j) * n + x ≡ from = omega (arith, e, add-mul y j n) in
        let row : b ≡ y + j = same_row n x a b (y + j) ha h (omega (arith, start, low)) (omega (arith, start, high)) in
        let here : b * n ≡ (y + j) * n = ap (λ b. b * n) row in
        out (omega (arith, here, start, low)) (omega (arith, here, start, high)) (omega (arith, row))
        (omega (arith, row, hj))

-- ---- tested

-- a number past the limit
pub past-limit : (m : ℕ) (z : ℤ) {r : Bool} → r ≡ ltb m (nat_abs z) → r ≡ true → m < nat_abs z
past-limit m z e t = ltb-true m (nat_abs z) (sym e ∙ t)

pub in-limit : (m : ℕ) (z : ℤ) {r : Bool} → r ≡ ltb m (nat_abs z) → r ≡ false → nat_abs z ≤ m
in-limit m z e t = ltb-false m (nat_abs z) (sym e ∙ t)

-- the first n numbers of a row are within it, and those of the first n rows of a patch
abbrev pub RowWithin : ℕ → List ℤ → ℕ → Type 0
RowWithin m row n = (k : ℕ) → k < n → nat_abs (get_or row k (pos 0)) ≤ m

abbrev pub RowsWithin : ℕ → List (List ℤ) → ℕ → Type 0
RowsWithin m patch n = (l : ℕ) → l < n → RowWithin m (get_or patch l []) 4

pub number-more : (m : ℕ) (row : List ℤ) (n : ℕ) → RowWithin m row n → nat_abs (get_or row n (pos 0)) ≤ m
    → RowWithin m row (n + 1)
number-more m row n within here k h = go (dec_lt k n)
  where
    go : Dec (k < n) → nat_abs (get_or row k (pos 0)) ≤ m
    go (yes p) = within k p
    go (no p) =
        let last : n ≡ k = omega (arith, p, h) in
        subst (λ k. nat_abs (get_or row k (pos 0)) ≤ m) last here

pub row-more : (m : ℕ) (patch : List (List ℤ)) (n : ℕ) → RowsWithin m patch n → RowWithin m (get_or patch n []) 4
    → RowsWithin m patch (n + 1)
row-more m patch n within here l h = go (dec_lt l n)
  where
    go : Dec (l < n) → RowWithin m (get_or patch l []) 4
    go (yes p) = within l p
    go (no p) =
        let last : n ≡ l = omega (arith, p, h) in
        subst (λ l. RowWithin m (get_or patch l []) 4) last here
