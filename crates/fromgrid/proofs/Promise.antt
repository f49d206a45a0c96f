-- From what is found of a grid over regions to the call's promise.
use mathlib.Core.Path.{◌≡◌, refl, sym, ap, ◌∙◌, subst}
use mathlib.Core.Logic.{inl, inr}
use mathlib.Core.Bool.{true, false, not, true≢false}
use mathlib.Core.List.{List}
use Prim.Native.Nat.{ℕ}
use lib.IntN.{ℤ}
use lib.ListN.{length, drop}
use borrow.Author.Tests.{eq-eqb, ne_eqb}
use Rattle.surface.specs.Table.{cause, ◌or_else◌, tree_of, formed, places, slots, slice_of}
use Rattle.surface.specs.Calls.{Answer, refused, done, SliceMeets, length_cause}
use Rattle.surface.specs.TableFile.{Sides}
use Rattle.surface.specs.Fields.{declined, contains}
use Rattle.surface.specs.Grid.{Grid, grid_contents, numbers_in, Converted, no_table, the_table}
use Rattle.surface.specs.Grid.{read_grid_outcome, OverTree, ReadGrid}
use Rattle.surface.proofs.TableLaws.{tree-formed, sound}
use Rattle.answers.specs.declared.Refusal as Causes
use Rattle.answers.proofs.AnswerLaws.{slice-refused}
use Rattle.uniqueness.proofs.Grids.{reads-acceptable}
use Rattle.rows.specs.Rows.{levels_of, level_rows}
use Rattle.fromgrid.specs.Converts.{Good, active_in, Told}
use Rattle.fromgrid.proofs.Tables.{none-reads, fit-reads}

-- ---- 16

pub wrong-length : {A : Type 0} (n : ℕ) (out : List A) → (length out ≡ n → ⊥) → 16 ≡ length_cause n out
wrong-length n out h = rw (ne_eqb (length out) n h)

pub right-length : {A : Type 0} (n : ℕ) (out : List A) → length out ≡ n → 0 ≡ length_cause n out
right-length n out h = rw (eq-eqb (length out) n h)

-- ---- the promise

-- a grid that was declined
pub declined-kept : (file t : List ℕ) (out : List ℤ) (n : ℕ) → grid_contents file ≡ declined n
    → ReadGrid file t out (λ o. SliceMeets o (refused n) out)
declined-kept file t out n e = record {
  converted = no_table;
  right = subst (λ j. OverTree j t no_table) (sym e) refl;
  outcome = subst (λ j. SliceMeets (read_grid_outcome j t no_table out) (refused n) out) (sym e) (refl, refl);
}

module _ (file t : List ℕ) (W H : ℕ) (good : Good file W H) (out : List ℤ) where
  abbrev grid : Grid
  grid = record { W = W; H = H; numbers = numbers_in (places W H 3) (drop 8 file) }

  -- what there is over the tree, and the outcome by that
  kept : (c : Converted) (r : Answer Sides) (after : List ℤ) → OverTree (contains grid) t c
      → SliceMeets (read_grid_outcome (contains grid) t c out) r after → ReadGrid file t out (λ o. SliceMeets o r after)
  kept c r after right meets = record {
    converted = c;
    right = subst (λ j. OverTree j t c) (sym good.contents) right;
    outcome = subst (λ j. SliceMeets (read_grid_outcome j t c out) r after) (sym good.contents) meets;
  }

  -- a tree not of the form
  pub tree-refused : formed W H (tree_of t) ≡ false → ReadGrid file t out (λ o. SliceMeets o (refused 2) out)
  tree-refused e =
      kept no_table (refused 2) out
      (λ cs reads. true≢false (sym (tree-formed W H t
      (sound W H t cs (reads-acceptable W H t cs grid.numbers reads)).tree) ∙ e))
      (slice-refused Causes.TheVariants.Tree
      (ap (λ b. cause 2 (not b) or_else 21 or_else length_cause (slots W H) out) (sym e)) _ _ out)

  module _ (rows : List ℕ) (e : rows ≡ level_rows t) (whole : formed W H (tree_of t) ≡ true) where
    pub told-kept : (r : Answer Sides) (after : List ℤ) → Told W H (levels_of rows) (drop 8 file) out r after
        → ReadGrid file t out (λ o. SliceMeets o r after)
    told-kept r after (inl (none, er, ea)) =
        kept no_table r after
        (none-reads W H good.side-W.0 good.side-W.1 good.side-H.0 good.side-H.1 t rows e (drop 8 file)
        none)
        (subst (λ r. SliceMeets (read_grid_outcome (contains grid) t no_table out) r after) (sym er)
        (subst (λ s. SliceMeets (read_grid_outcome (contains grid) t no_table out) (refused 21) s) (sym ea)
        (slice-refused Causes.TheVariants.NoTable
        (ap (λ b. cause 2 (not b) or_else 21 or_else length_cause (slots W H) out) (sym whole)) _ _ out)))
    told-kept r after (inr (N, fit, last, meets)) =
        let cs = slice_of W H (active_in W H (levels_of rows) N) in
        kept (the_table cs) r after
        (fit-reads W H good.side-W.0 good.side-W.1 good.side-H.0 good.side-H.1 t rows e (drop 8 file) N
        last fit whole)
        (subst (λ c. SliceMeets (done c (record { W = W; H = H }) cs out) r after)
        (ap (λ b. cause 2 (not b) or_else 0 or_else length_cause (slots W H) out) (sym whole)) meets)
