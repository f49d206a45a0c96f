-- A row that is written place after place, each by its index, its mark and a number that is read.
use mathlib.Core.Path.{◌≡◌, refl, sym, ap, ap₂, ◌∙◌}
use mathlib.Core.Bool.{Bool}
use mathlib.Core.List.{List}
use Prim.Native.Nat.{ℕ, ◌+◌, ◌%◌, ◌<◌}
use native.Mathlib.Nat.{add-zero}
use lib.Dec.{leb}
use lib.IntN.{ℤ, pos}
use lib.ListN.{length, get_or, set, drop, length-set}
use lib.Seq.{get_or-append-add, get_or-drop}
use Rattle.finite.specs.Range.{table_from}
use Rattle.finite.proofs.Table.{length-table}
use Rattle.activity.specs.Marks.{marked, From}
use Rattle.activity.specs.declared.Marks.{Marks}
use Rattle.finite.proofs.Written.{written, written_none, written-more, written_all}
use Rattle.activity.proofs.StepLaws.{from-none, from_next, from-here}

-- a number by whether its function is marked, its index and what is read there
abbrev pub Rule : Type 0
Rule = Bool → ℕ → ℤ → ℤ

abbrev pub mapped : Rule → ℕ → Marks → List ℤ → ℕ → ℤ
mapped g e marks l a = g (marked e marks a) a (get_or l a (pos 0))

module _ (g : Rule) (e : ℕ) (marks : Marks) (own before : List ℤ) where
  -- before turn a: the places below a are written by what is read in `own`, and m has the marks from function a on
  pub record Turn (a : ℕ) (m : Marks) (row : List ℤ) : Type 0 where
    pub size : length row ≡ length before
    pub rest : From e a marks m
    pub done : row ≡ written a (mapped g e marks own) before

  pub turn-none : Turn 0 marks before
  turn-none = record { size = refl; rest = from-none e marks; done = written_none (mapped g e marks own) before }

  -- the next place is as it was
  pub turn-here : (a : ℕ) {m : Marks} {row : List ℤ} → Turn a m row → get_or row a (pos 0) ≡ get_or before a (pos 0)
  turn-here a t =
      let front = table_from 0 a (mapped g e marks own) in
      ap₂ (λ l i. get_or l i (pos 0)) t.done (sym (ap (λ k. k + 0) (length-table 0 a _) ∙ add-zero a))
      ∙ get_or-append-add front (drop a before) 0 (pos 0)
      ∙ get_or-drop a before 0 (pos 0)
      ∙ ap (λ i. get_or before i (pos 0)) (add-zero a)

  -- the next place is written
  pub turn-set : (a : ℕ) {m r : Marks} {row new : List ℤ} → a < length before → Turn a m row → From e 1 m r
      → new ≡ set row a (g (leb 1 (m.even % 2)) a (get_or own a (pos 0))) → Turn (a + 1) r new
  turn-set a {m} {r} {row} h t next stored =
      let v = g (leb 1 (m.even % 2)) a (get_or own a (pos 0)) in
      record {
        size = ap length stored ∙ length-set row a v ∙ t.size;
        rest = from_next e a marks m r t.rest next;
        done = stored ∙ ap (λ l. set l a v) t.done
            ∙ written-more a (mapped g e marks own) before v h
            (ap (λ x. g (leb 1 x) a (get_or own a (pos 0))) (from-here e a marks m t.rest));
      }

  pub turn-all : (a : ℕ) {m : Marks} {row : List ℤ} → a ≡ length before → Turn a m row
      → row ≡ table_from 0 (length before) (mapped g e marks own)
  turn-all a all t =
      t.done ∙ written_all a (mapped g e marks own) before all ∙ ap (λ k. table_from 0 k (mapped g e marks own)) all
