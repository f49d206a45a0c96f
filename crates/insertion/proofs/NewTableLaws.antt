-- The new table from the regions: its tree is that of the raised levels, and its coefficients are the carried values
-- with the passive places cleared.
use mathlib.Core.Path.{◌≡◌, sym, ap, ap₂, ◌∙◌, subst}
use mathlib.Core.Bool.{true, cond}
use mathlib.Core.List.{List}
use Prim.Native.Nat.{ℕ, ◌≤◌, ◌<◌, max}
use native.Mathlib.Omega.{arith}
use lib.Dec.{eqb}
use lib.IntN.{ℤ, pos, nat_abs}
use lib.ListN.{length, take}
use Rattle.surface.specs.Sheet.{Box, quarters}
use Rattle.surface.specs.Quadtree.{bytes}
use Rattle.surface.specs.Support.{in_box}
use Rattle.surface.specs.Carry.{raised, carried, carried_over}
use Rattle.surface.specs.Table.{◌or_else◌, tree_of, formed, levels, coefficients, slice_of, limit, table_cause}
use Rattle.surface.specs.Calls.{written, box_cause, outputs_cause, new_levels, new_tree, new_coefficients, refinement_cause}
use Rattle.surface.specs.Enquiry.{Slip, slip_cause, commit_cause, commit_outcome}
use Rattle.surface.proofs.Causes.{or_else-none}
use Rattle.surface.proofs.Least.{least_under-cong}
use Rattle.surface.proofs.Carried.{carried-cong}
use Rattle.surface.proofs.TableLaws.{Sound, sound, tree-formed}
use Rattle.surface.proofs.Insertion.{carried-fits, new-formed, new-levels}
use Rattle.surface.proofs.Steps.{accepted}
use Rattle.rows.specs.Rows.{levels_of, level_rows, Nested}
use Rattle.rows.proofs.RowLaws.{level-rows, rows-nested, rows-size}
use Rattle.boxes.specs.Boxes.{InSheet}
use Rattle.table.proofs.CauseLaws.{box-none}
use Rattle.regions.specs.Regions.{bytes_of, Inserted}
use Rattle.regions.proofs.RegionLaws.{region-cong}
use Rattle.carry.specs.Carried.{CarriedFit}
use Rattle.surface.proofs.Slices.{slice-cong}
use Rattle.refinement.specs.Refined.{over_rows, refined_outcome}

-- past the causes of what is read the box lies in the sheet
pub in-sheet : (W H : ℕ) (t : List ℕ) (cs : List ℤ) (box : Box) (n : ℕ) → 0 ≡ refinement_cause W H t cs box n
    → InSheet W H box
in-sheet W H t cs box n z =
    box-none W H box (sym (or_else-none (box_cause W H box) _ (or_else-none (table_cause W H t cs) _ (sym z)).1).0)

module _ (t rows : List ℕ) (e : rows ≡ level_rows t) where
  pub old-nested : Nested rows
  old-nested = rw e (rows-nested (levels t))

  pub old-size : length rows ≡ 96
  old-size = ap length e ∙ rows-size (levels t)

  old-level : (q r : ℕ) → q < 32 → r < 32 → levels_of rows q r ≡ levels t q r
  old-level q r hq hr = ap (λ m. levels_of m q r) e ∙ level-rows t q r hq hr

  module _ (W H : ℕ) (hW : W ≤ 8) (hH : H ≤ 8) (cs : List ℤ) where
    carried-by-rows : (L a b : ℕ)
        → carried W H (levels_of rows) (coefficients W H cs) L a b ≡ carried W H (levels t) (coefficients W H cs) L a b
    carried-by-rows =
        carried-cong W H (levels_of rows) (levels t) (coefficients W H cs)
        (λ q r hq hr. old-level q r (omega arith) (omega arith))

    pub carried-fit : Sound W H t cs → CarriedFit W H rows cs
    carried-fit s L a b hL ha hb =
        subst (λ z. nat_abs z ≤ limit L) (sym (carried-by-rows L a b)) (carried-fits W H t cs s L a b hL ha hb)

  module _ (box : Box) (n : ℕ) where
    -- the levels raised in the box
    raised-level : (q r : ℕ) → q < 32 → r < 32 → raised (levels_of rows) box n q r ≡ new_levels t box n q r
    raised-level q r hq hr = ap (λ l. cond (in_box box q r) (max l n) l) (old-level q r hq hr)

    new-tree : bytes_of 5 0 0 (raised (levels_of rows) box n) ≡ new_tree t box n
    unfolding new_tree
    new-tree =
        ap bytes
        (region-cong 5 0 0 (raised (levels_of rows) box n) (new_levels t box n)
        (λ q r _ hq _ hr. raised-level q r (omega arith) (omega arith)))

    -- what a table over the new regions and their tree is
    module _ {new out : List ℕ} {k : ℕ} (up : Inserted box n rows new k out) (W H : ℕ) (hW : W ≤ 8) (hH : H ≤ 8)
        (cs : List ℤ) where
      new-coefficients : slice_of W H (over_rows W H rows new cs) ≡ new_coefficients W H t cs box n
      unfolding new_coefficients
      new-coefficients =
          slice-cong W H (over_rows W H rows new cs)
          (carried_over W H (levels t) (new_levels t box n) (coefficients W H cs))
          λ L a b hL ha hb. ap₂ (λ l z. cond (eqb l L) z (pos 0))
          (least_under-cong W H (levels_of new) (new_levels t box n)
          (λ q r hq hr. up.levels q r (omega arith) (omega arith) ∙ raised-level q r (omega arith) (omega arith))
          L a b)
          (carried-by-rows W H hW hH cs L a b)

      pub refined-tree : (tree : List ℕ) → tree ≡ take k out → tree ≡ new_tree t box n
      refined-tree tree e = e ∙ up.tree ∙ new-tree

      -- past the causes of what is read
      module _ (z : 0 ≡ refinement_cause W H t cs box n) where
        fit : Sound W H t cs × (n ≤ 3) × (box.u1 ≤ quarters W) × (box.v1 ≤ quarters H)
        fit = let a = accepted W H t cs box n (sym z) in (sound W H t cs a.0, a.3, a.1, a.2)

        -- the tree is of the form, and has the levels of the new regions
        pub refined-formed : (tree : List ℕ) → tree ≡ take k out → formed W H (tree_of tree) ≡ true
        refined-formed tree e =
            rw (refined-tree tree e)
            (tree-formed W H (new_tree t box n)
            (new-formed W H t fit.0.tree hW hH box n fit.1 fit.2 fit.3))

        pub refined-levels : (tree : List ℕ) → tree ≡ take k out
            → (q r : ℕ) → q < quarters W → r < quarters H → levels_of new q r ≡ levels tree q r
        refined-levels tree e q r hq hr =
            rw (refined-tree tree e)
            (up.levels q r (omega arith) (omega arith)
            ∙ raised-level q r (omega arith) (omega arith)
            ∙ sym (new-levels W H t fit.0.tree hW hH box n fit.1 fit.2 fit.3 q r hq hr))

  -- the outcome of writing the table over the regions that a slip's box raises is the commit's, for a slip that the
  -- table gives
  pub refined-commit : (s : Slip) {new out : List ℕ} {k : ℕ} → Inserted s.box s.level rows new k out
      → (W H : ℕ) → W ≤ 8 → H ≤ 8 → (cs : List ℤ) → 0 ≡ refinement_cause W H t cs s.box s.level
      → 0 ≡ slip_cause W H t s → (tree tree_out : List ℕ) (numbers_out : List ℤ) → tree ≡ take k out
      → refined_outcome W H rows new cs tree tree_out numbers_out ≡ commit_outcome W H t cs s tree_out numbers_out
  unfolding commit_outcome commit_cause
  refined-commit s up W H hW hH cs z y tree tree_out numbers_out e =
      let box = s.box in
      let n = s.level in
      let new = new_tree t box n in
      let late = outputs_cause W H new tree_out numbers_out in
      ap₂ (λ tree numbers. written (outputs_cause W H tree tree_out numbers_out) (length tree) tree numbers tree_out
      numbers_out) (refined-tree box n up W H hW hH cs tree e) (new-coefficients box n up W H hW hH cs)
      ∙ ap₂ (λ b c. written (b or_else c or_else late) (length new) new (new_coefficients W H t cs box n) tree_out
      numbers_out) z y
