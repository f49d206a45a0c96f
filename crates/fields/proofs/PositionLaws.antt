-- The field at a position of the file: one law for each way out of `field_at`, and what its answers say.
use Rattle.std.specs.Prelude.{Result, Ok, Err}
use mathlib.Core.Path.{◌≡◌, sym, ap, ap₂, ◌∙◌}
use mathlib.Core.Bool.{Bool, true, false, not}
use mathlib.Core.List.{List}
use Prim.Native.Nat.{ℕ, ◌+◌, ◌-◌, ◌≤◌, ◌<◌}
use native.Mathlib.Nat.{add-zero}
use native.Mathlib.Omega.{arith}
use borrow.Author.Tests.{leb-true, eq-eqb, ne_eqb, lt-ltb, le-ltb}
use lib.Dec.{leb, eqb}
use lib.ListN.{length, get_or, take, drop, length-take, length-drop}
use lib.Seq.{get_or-drop, drop-drop}
use Rattle.finite.proofs.Tests.{both}
use Rattle.surface.specs.Table.{cause}
use Rattle.surface.specs.Fields.{declined, unless, holds, length_at, field, checked}
use Rattle.answers.specs.declared.Refusal.{Refusal}
use Rattle.answers.specs.Refusals.{number}
use Rattle.fields.specs.Positions.{between, body_at, part_at}
use Rattle.fields.proofs.FieldLaws.{body_of, rest_of, Stands}

pub sizes : (n low high : ℕ) → between low high n ≡ true → (low ≤ n) × (n ≤ high)
sizes n low high h =
    let k = both (leb low n) (leb n high) h in
    (leb-true low n k.0, leb-true n high k.1)

pub body-size : (file : List ℕ) (at end : ℕ) → end ≤ length file → length (body_at file at end) ≡ end - (at + 3)
body-size file at end h = simp (length-take, length-drop) (omega arith)

module _ (tag low high : ℕ) (file : List ℕ) (at : ℕ) where
  abbrev rest : List ℕ
  rest = drop at file

  pub cut-head : length file - at < 3 → declined 12 ≡ field tag low high rest
  unfolding field
  cut-head h =
      let k : length rest < 3 = omega (arith, length-drop at file) in
      simp (lt-ltb (length rest) 3 k)

  module _ (h : 3 ≤ length file - at) where
    whole : 3 ≤ length rest
    whole = omega (arith, length-drop at file)

    pub other_tag : (get_or file at 0 ≡ tag → ⊥) → declined 13 ≡ field tag low high rest
    unfolding field
    other_tag e =
        let k : get_or rest 0 0 ≡ tag → ⊥ = λ q. e
        (ap (λ i. get_or file i 0) (sym (add-zero at)) ∙ sym (get_or-drop at file 0 0) ∙ q) in
        simp (le-ltb (length rest) 3 whole, ne_eqb (get_or rest 0 0) tag k)

    module _ (e : get_or file at 0 ≡ tag) {n : ℕ} (l : n ≡ length_at rest) where
      due : eqb (get_or rest 0 0) tag ≡ true
      due = eq-eqb (get_or rest 0 0) tag (get_or-drop at file 0 0 ∙ ap (λ i. get_or file i 0) (add-zero at) ∙ e)

      pub wrong-length : between low high n ≡ false → declined 14 ≡ field tag low high rest
      unfolding field
      wrong-length k = simp (le-ltb (length rest) 3 whole, due, ← l, k)

      module _ (k : between low high n ≡ true) where
        pub cut-body : length file - at < 3 + n → declined 12 ≡ field tag low high rest
        unfolding field
        cut-body h =
            let c : length rest < 3 + n = omega (arith, length-drop at file) in
            simp (le-ltb (length rest) 3 whole, due, ← l, k, lt-ltb (length rest) (3 + n) c)

        pub whole-body : 3 + n ≤ length file - at
            → holds (body_at file at (at + 3 + n)) (drop (at + 3 + n) file) ≡ field tag low high rest
        unfolding field
        whole-body h =
            let c : 3 + n ≤ length rest = omega (arith, length-drop at file) in
            let size : at + 3 + n - (at + 3) ≡ n = omega arith in
            let end : at + (3 + n) ≡ at + 3 + n = omega arith in
            rw (le-ltb (length rest) 3 whole, due, ← l, k, le-ltb (length rest) (3 + n) c)
            (ap₂ holds (ap₂ take size (sym (drop-drop 3 at file)))
            (ap (λ k. drop k file) (sym end) ∙ sym (drop-drop (3 + n) at file)))

-- ---- what a field and its contents are, once the answer is known

module _ {A : Type 0} (tag low high n : ℕ) (ok : List ℕ → Bool) (of : List ℕ → A) (file : List ℕ) (at : ℕ) (r : Result ℕ Refusal)
    (e : part_at r file (body_at file at) ≡ field tag low high (drop at file)) where
  known : (s : Result ℕ Refusal) → r ≡ s
      → checked (field tag low high (drop at file)) n ok of ≡ checked (part_at s file (body_at file at)) n ok of
  known s q = ap (λ f. checked f n ok of) (sym e ∙ ap (λ r. part_at r file (body_at file at)) q)

  pub checked-faulty : (c : Refusal) → r ≡ Err c
      → checked (field tag low high (drop at file)) n ok of ≡ declined (number c)
  checked-faulty c q = known (Err c) q

  -- by the test of a whole body
  pub checked-told : (end : ℕ) → r ≡ Ok end → (t : Bool) → t ≡ ok (body_at file at end)
      → checked (field tag low high (drop at file)) n ok of
      ≡ unless (cause n (not t)) (holds (of (body_at file at end)) (drop end file))
  checked-told end q t u =
      known (Ok end) q
      ∙ ap (λ t. unless (cause n (not t)) (holds (of (body_at file at end)) (drop end file))) (sym u)

-- ---- a field that stands at a position

module _ (tag low high : ℕ) (file : List ℕ) (at : ℕ) (h : Stands tag low high (drop at file)) (k : ℕ)
    (e : k ≡ length_at (drop at file)) where
  pub stands-inside : at + 3 + k ≤ length file
  stands-inside = omega (arith, h.whole, length-drop at file)

  pub stands-body : body_at file at (at + 3 + k) ≡ body_of (drop at file)
  stands-body =
      let n : at + 3 + k - (at + 3) ≡ length_at (drop at file) = omega arith in
      ap₂ take n (sym (drop-drop 3 at file))

  pub stands-rest : drop (at + 3 + k) file ≡ rest_of (drop at file)
  stands-rest =
      let n : at + 3 + k ≡ at + (3 + length_at (drop at file)) = omega arith in
      ap (λ i. drop i file) n ∙ sym (drop-drop (3 + length_at (drop at file)) at file)
