-- A slice that is written row after row: lists that agree at their first places, and the rows of a slice.
use mathlib.Core.Path.{◌≡◌, refl, sym, ap, ap₂, ◌∙◌, subst}
use mathlib.Core.List.{List, ◌++◌, append_assoc}
use Prim.Native.Nat.{ℕ, ◌+◌, ◌-◌, ◌*◌, ◌≤◌, ◌<◌}
use native.Mathlib.Nat.{zero-add, mul_comm}
use native.Mathlib.Numerals.{add-one}
use native.Mathlib.Omega.{arith}
use lib.IntN.{ℤ, pos}
use lib.ListN.{length, get_or, take, drop, length-append}
use lib.Seq.{length-take-le, get_or-take, drop-drop, take-add, take_all, take_at, drop_at, ext_get_or}
use Rattle.finite.specs.Range.{table_from}
use Rattle.finite.proofs.Table.{length-table, get_d-table, table-cong, place-split}
use Rattle.surface.specs.Sheet.{functions}
use Rattle.surface.specs.Table.{places, start, slots, coefficients, slice_of}
use Rattle.surface.proofs.TableLaws.{start-step, start-before, slice-length, slice-coefficient}
use Rattle.activity.specs.declared.Marks.{Marks}
use Rattle.activity.specs.Marks.{marked}
use Rattle.coefficients.proofs.Parts.{part, part_length, row-end, row_at}
use Rattle.passive.proofs.RowLaws.{Rule, mapped}

module _ {A : Type 0} where
  -- lists with the same first k elements
  pub front_at : (k : ℕ) (out new : List A) (i : ℕ) (d : A) → take k out ≡ take k new → i < k
      → get_or out i d ≡ get_or new i d
  front_at k out new i d e h = sym (get_or-take k out i d h) ∙ ap (λ l. get_or l i d) e ∙ get_or-take k new i d h

  -- n elements from place k on are put in place of those that stand there
  abbrev pub put : ℕ → ℕ → List A → List A → List A
  put k n row out = take k out ++ (row ++ drop (k + n - k) (drop k out))

  module _ (k n : ℕ) (out row : List A) (fits : k + n ≤ length out) (size : length row ≡ n) where
    whole : k + (k + n - k) ≡ k + n
    whole = omega arith

    both : length (take k out ++ row) ≡ k + n
    both = length-append (take k out) row ∙ ap₂ ◌+◌ (length-take-le k out (omega arith)) size

    put_front : take (k + n) (put k n row out) ≡ take k out ++ row
    put_front = ap (take (k + n)) (sym (append_assoc (take k out) row _)) ∙ take_at (take k out ++ row) _ (k + n) both

    put_rest : drop (k + n) (put k n row out) ≡ drop (k + n) out
    put_rest =
        ap (drop (k + n)) (sym (append_assoc (take k out) row _))
        ∙ drop_at (take k out ++ row) _ (k + n) both
        ∙ drop-drop (k + n - k) k out
        ∙ ap (λ i. drop i out) whole

    pub put_next : (new : List A) → take k out ≡ take k new → row ≡ take (k + n - k) (drop k new)
        → take (k + n) (put k n row out) ≡ take (k + n) new
    put_next new e r =
        put_front ∙ ap₂ ◌++◌ e r ∙ sym (take-add k (k + n - k) new) ∙ ap (λ i. take i new) whole

-- ---- row b of level L, of n places from place `from` on

module _ (W H L b n from : ℕ) (columns : n ≡ functions W L) (begins : from ≡ start W H L + b * n) (hL : L < 4)
    (below : b < functions H L) where
  inside : from + n ≤ slots W H
  inside = row-end W H L b n from columns begins hL below

  -- the row in the slice of given coefficients
  slice-row : (f : ℕ → ℕ → ℕ → ℤ) → part from n (slice_of W H f) ≡ table_from 0 n (λ a. f L a b)
  slice-row f =
      let s = slice_of W H f in
      let p = part from n s in
      let long : length p ≡ n = part_length from n s (rw (slice-length W H f) inside) in
      ext_get_or (pos 0) p (table_from 0 n (λ a. f L a b)) (long ∙ sym (length-table 0 n (λ a. f L a b)))
      λ a l.
      let h : a < n = rw long at l in
      row_at W H L b n from columns begins s s a refl h
      ∙ slice-coefficient W H f L a b hL (subst (λ k. a < k) columns h) below
      ∙ sym (get_d-table 0 n (λ a. f L a b) a (pos 0) h ∙ ap (λ k. f L k b) (zero-add a))

  -- the row is written by a rule, from numbers that are as they were: then one row more has its coefficients
  module _ (g : Rule) (e : ℕ) (marks : Marks) (f : ℕ → ℕ → ℕ → ℤ) (out own before row : List ℤ)
      (size : length out ≡ slots W H) (sized : length own ≡ slots W H) (same : drop from own ≡ drop from before)
      (new : row ≡ table_from 0 (length (part from n own)) (mapped g e marks (part from n own)))
      (rule : (a : ℕ) → a < n → g (marked e marks a) a (coefficients W H before L a b) ≡ f L a b) where
    is_row : row ≡ table_from 0 n (λ a. f L a b)
    is_row =
        let p = part from n own in
        new
        ∙ ap (λ k. table_from 0 k (mapped g e marks p)) (part_length from n own (rw sized inside))
        ∙ table-cong 0 n (mapped g e marks p) (λ a. f L a b)
        (λ k h. rw (zero-add k)
        (ap (g (marked e marks k) k) (row_at W H L b n from columns begins own before k same h) ∙ rule k h))

    long : length row ≡ n
    long = ap length is_row ∙ length-table 0 n (λ a. f L a b)

    pub row-front : take from out ≡ take from (slice_of W H f)
        → take (from + n) (put from n row out) ≡ take (from + n) (slice_of W H f)
    row-front front =
        put_next from n out row (rw size inside) long (slice_of W H f) front (is_row ∙ sym (slice-row f))

    pub row-rest : drop from out ≡ drop from before → drop (from + n) (put from n row out) ≡ drop (from + n) before
    row-rest rest =
        put_rest from n out row (rw size inside) long
        ∙ sym (drop-drop n from out)
        ∙ ap (drop n) rest
        ∙ drop-drop n from before

pub rows_end : (W H L b : ℕ) {n m from : ℕ} → n ≡ functions W L → m ≡ functions H L → b ≤ m → m ≤ b
    → from ≡ start W H L + b * n → from ≡ start W H (L + 1)
rows_end W H L b columns rows low high begins =
    let all : b ≡ functions H L = omega arith in
    begins
    ∙ ap₂ (λ b n. start W H L + b * n) all columns
    ∙ rw (add-one L, start-step W H L, mul_comm (functions H L) (functions W L))

-- all places have their coefficients
pub slice-whole : (W H : ℕ) (f : ℕ → ℕ → ℕ → ℤ) (out : List ℤ) → length out ≡ slots W H
    → take (slots W H) out ≡ take (slots W H) (slice_of W H f) → out ≡ slice_of W H f
slice-whole W H f out size e =
    sym (take_all (slots W H) out (omega arith))
    ∙ e
    ∙ take_all (slots W H) (slice_of W H f) (omega (arith, slice-length W H f))

-- ---- slices of coefficients that agree

-- in the first level
pub first-level : (W H n : ℕ) (f : ℕ → ℕ → ℕ → ℤ) (s : List ℤ) → n ≡ places W H 0 → length s ≡ slots W H
    → ((a b : ℕ) → a < functions W 0 → b < functions H 0 → coefficients W H s 0 a b ≡ f 0 a b)
    → take n s ≡ take n (slice_of W H f)
unfolding coefficients start
first-level W H n f s few size same =
    let fits : n ≤ slots W H = omega (arith, start-before W H 0 4 (omega arith)) in
    let long = length-take-le n s (omega arith) in
    ext_get_or (pos 0) (take n s) (take n (slice_of W H f))
    (long ∙ sym (length-take-le n (slice_of W H f) (omega (arith, slice-length W H f))))
    λ i l. get_or-take n s i (pos 0) (rw long at l) ∙ agree i (rw long at l)
    ∙ sym (get_or-take n (slice_of W H f) i (pos 0) (rw long at l))
  where
    agree : (i : ℕ) → i < n → get_or s i (pos 0) ≡ get_or (slice_of W H f) i (pos 0)
    agree i l =
        let n = functions W 0 in
        let m = functions H 0 in
        let q = place-split n m i (omega (arith, mul_comm n m)) in
        let there : i ≡ 0 + (q.1 * n + q.0) = omega (arith, q.4) in
        rw there
        (same q.0 q.1 q.2 q.3
        ∙ sym (slice-coefficient W H f 0 q.0 q.1 (omega arith) q.2 q.3))
