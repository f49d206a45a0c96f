-- The demands: each statement of specs/Demands.antt, proved. (Demand 1 of the outcomes is in Refusals.)
use mathlib.Core.Path.{◌≡◌, refl, sym, ap₂, ◌∙◌, subst}
use mathlib.Core.Bool.{Bool, true, false, cond}
use mathlib.Core.List.{List}
use Prim.Native.Nat.{ℕ, ◌+◌, ◌*◌, ◌≤◌, ◌<◌, min, max}
use native.Mathlib.Omega.{arith}
use lib.IntN.{ℤ, pos, nat_abs, ◌+ℤ◌, ◌*ℤ◌}
use lib.Dec.{ltb}
use lib.ListN.{get_or}
use Rattle.surface.specs.Sheet.{functions, quarter_of, quarter_box, on_sheet}
use Rattle.surface.specs.Quadtree.{visits}
use Rattle.surface.specs.Support.{active, in_box}
use Rattle.surface.specs.Spline.{cell_of, spline_at}
use Rattle.surface.specs.Truncation.{D, value_at}
use Rattle.surface.specs.Table.{cause, ◌or_else◌, levels, slots, place, coefficients, limit, table_cause}
use Rattle.surface.specs.Table.{Acceptable, table_sum, table_reading}
use Rattle.surface.specs.Calls.{answer, afterwards, length_cause, box_cause, least_outcome}
use Rattle.surface.specs.Demands.{SelectionRule, InsertionRaises, OneTree, SameRegions, LinearReadings, Bracketed}
use Rattle.surface.specs.Demands.{BracketedReadings, after_all, RefinementMovesNoReading, ReadingFits}
use Rattle.surface.specs.Demands.{PatchEvaluates, AnyLevel, DotTold, TwoScale}
use Rattle.surface.proofs.SmallLevels.{levels-small}
use Rattle.surface.proofs.SplineCell.{cell-inside}
use Rattle.surface.proofs.SplineTwoScale.{values-along, two-scale-sum, whole-step}
use Rattle.surface.proofs.Selection.{selection}
use Rattle.surface.proofs.SupportLaws.{holds-positive, cell-positive, untruncated}
use Rattle.surface.specs.Demands.{SupportIsWhereNotZero, Untruncated}
use Rattle.surface.proofs.TableLaws.{regions-good}
use Rattle.surface.proofs.TableLaws.{sound, sides, place-in-slice}
use Rattle.surface.proofs.Linear.{linear}
use Rattle.surface.proofs.Greatest.{no-box-cause, stop-level, least-level}
use Rattle.surface.proofs.AnyLevel.{level-reading}
use Rattle.surface.proofs.PatchReading.{patch-carried, evaluated-reading, patch-reading}
use Rattle.surface.proofs.Insertion.{carried-fits, new-levels}
use Rattle.surface.specs.Calls.{exact_outcome, reading_cause, point_cause, activity_outcome, activity_cause}
use Rattle.surface.specs.Calls.{activity_bytes}
use Rattle.surface.specs.Table.{tree_of, regions_of, places, region_cause}
use Rattle.surface.specs.Demands.{ReadingGiven}
use Rattle.finite.specs.Range.{grid}
use Rattle.finite.proofs.Table.{get_d-grid}
use borrow.Author.Tests.{ltb-false}
use Rattle.surface.proofs.RefusalLaws.{answer-gives}
use Rattle.surface.proofs.Around.{on-sheet, bracketed, fits}
use Rattle.surface.proofs.OneTree.{same-tree, one-tree-for}
use Rattle.surface.proofs.Steps.{accepted, committed-cases, all_keep}
use Rattle.surface.proofs.Causes.{or_else-none, none-or_else, cause-none, cause-off}

-- the exact reading is given on acceptable tables and points of the sheet
pub reading-given : ReadingGiven
unfolding exact_outcome reading_cause
reading-given W H t cs u v n = (
  λ e.
      let g = answer-gives (table_cause W H t cs or_else point_cause W H u v) (table_reading W H t cs u v) n e in
      let c = or_else-none (table_cause W H t cs) (point_cause W H u v) g.0 in
      (c.0, cause-none 5 (on_sheet W H u v) c.1, g.1),
  λ h. rw (h.0, h.1, h.2),
)

-- "A function is active exactly when the selection rule of source document 003 makes it so."
pub selection-rule : SelectionRule
unfolding activity_outcome activity_cause activity_bytes
selection-rule W H t L out e a b ha hb =
    let c8 = cause 8 (ltb 3 L) in
    let c16 = length_cause (places W H L) out in
    let bits : ℕ → ℕ → ℕ = λ a b. cond (active W H (levels t) L a b) 1 0 in
    let z = (answer-gives (region_cause W H t or_else c8 or_else c16) tt tt e).0 in
    let e1 = or_else-none (region_cause W H t) (c8 or_else c16) z in
    let good = regions-good W H t e1.0 in
    let h3 : L ≤ 3 = ltb-false 3 L (cause-off 7 (ltb 3 L) (or_else-none c8 c16 e1.1).0) in
    let s = selection W H (levels t) L a b good.0 good.2 (λ q r hq hr. levels-small t q r) h3 ha hb in
    let at : get_or (afterwards (region_cause W H t or_else c8 or_else c16) out (grid (functions W L) (functions H L) bits))
    (b * functions W L + a) 0 ≡ bits a b =
    rw z (get_d-grid (functions W L) (functions H L) bits a b 0 ha hb) in (
      λ one. s.0 (bit-true (active W H (levels t) L a b) (sym at ∙ one)),
      λ sel. at ∙ rw (s.1 sel),
    )
  where
    bit-true : (t : Bool) → ◌≡◌ {A = ℕ} (cond t 1 0) 1 → t ≡ true
    bit-true true h = refl
    bit-true false h = absurd (omega arith)

-- "In every acceptable table each exact reading lies between the least and the greatest active coefficient, in watts,
-- whose support holds the point."
pub bracketed-readings : BracketedReadings
bracketed-readings W H t cs u v n e =
    let g = (reading-given W H t cs u v n).0 e in
    subst (λ k. Bracketed W H t cs u v k) g.2 (bracketed W H t cs g.0 u v g.1)

-- the numerator is at most 32,000×D in size
pub reading-fits : ReadingFits
reading-fits W H t cs u v n e =
    let g = (reading-given W H t cs u v n).0 e in
    subst (λ k. nat_abs k ≤ 32000 * D) g.2 (fits W H t cs g.0 u v g.1)

-- "The work is on a four by four patch of coefficients, subdivided from level to level."
pub patch-evaluates : PatchEvaluates
patch-evaluates W H t cs acc u v on =
    let s = sound W H t cs acc in
    let p_w = (sides s).0 in
    let p_h = (sides s).2 in
    let p = on-sheet W H u v on in (
      patch-reading W H (levels t) (coefficients W H cs) u v p_w p_h p.0 p.1,
      λ L k l hL hk hl.
          let iu = cell-inside W L u p_w p.0 (omega arith) in
          let iv = cell-inside H L v p_h p.1 (omega arith) in
          subst (λ z. nat_abs z ≤ limit L)
          (sym (patch-carried W H (levels t) (coefficients W H cs) u v p_w p_h p.0 p.1 L (omega arith) k l hk hl))
          (carried-fits W H t cs s L (cell_of W L u + k) (cell_of H L v + l) hL (omega arith) (omega arith)),
    )

-- Each level from the one at which a reading stops on gives the exact reading.
pub any-level : AnyLevel
any-level W H lev coef u v p_w p_h hu hv L hL h =
    let low = subst (λ g. min g 3 ≤ L) (stop-level W H lev u v p_w p_h) h in (
      level-reading W H lev coef u v p_w p_h hu hv (λ L a. pos (spline_at W L a u)) (λ L b. pos (spline_at H L b v))
          (values-along W u p_w hu) (values-along H v p_h hv) L hL low,
      evaluated-reading W H lev coef u v p_w p_h hu hv L hL low,
    )

-- The least level call gives that level under the quarter square that holds the point.
pub dot-told : DotTold
unfolding least_outcome
dot-told W H t u v e =
    let (p_w, _, p_h, _, _) = regions-good W H t e in
    let stop = stop-level W H (levels t) u v p_w p_h in
    let low = levels-small t (quarter_of W u) (quarter_of H v) in
    let visited = visits (quarter_box W H u v) 5 0 0 (regions_of (tree_of t)) in (
      ap₂ answer
          (none-or_else (region_cause W H t) (box_cause W H (quarter_box W H u v)) e
          (no-box-cause W H (levels t) u v p_w p_h))
          (ap₂ (λ l m. record { least = l; greatest = m; visited = visited })
          (least-level W H (levels t) u v p_w p_h low) stop),
      stop,
    )

-- Supports end where the splines stop being 0.
pub support-is-where-not-zero : SupportIsWhereNotZero
support-is-where-not-zero n L a p l = (λ x h. cell-positive n L a x p l h, λ u h. holds-positive n L a u p l h)

-- A function that loses no term at a point is there "the product of two uniform cubic B-splines".
pub not-truncated : Untruncated
not-truncated = untruncated

-- The two-scale relation of the splines.
pub two-scale : TwoScale
two-scale n L a u p l h = (two-scale-sum n L a u p l h, whole-step L l)

-- "So one set of regions has one tree, of 1 to 1,365 bytes."
pub one-tree-each : OneTree
one-tree-each = one-tree-for

-- ---- linearity

-- whichever functions are read: their values, or their derivatives
pub linear-sums : (W H : ℕ) (t₁ t₂ t₃ : List ℕ) (c₁ c₂ c₃ : List ℤ) (a b : ℤ)
    → Acceptable W H t₁ c₁ → Acceptable W H t₂ c₂ → Acceptable W H t₃ c₃
    → SameRegions W H t₁ t₂ → SameRegions W H t₁ t₃
    → ((p : ℕ) → p < slots W H → get_or c₁ p (pos 0) ≡ a *ℤ get_or c₂ p (pos 0) +ℤ b *ℤ get_or c₃ p (pos 0))
    → (f : ℕ → ℕ → ℕ → ℤ) → table_sum W H t₁ c₁ f ≡ a *ℤ table_sum W H t₂ c₂ f +ℤ b *ℤ table_sum W H t₃ c₃ f
unfolding coefficients
linear-sums W H t₁ t₂ t₃ c₁ c₂ c₃ a b acc₁ acc₂ acc₃ same₂ same₃ e f =
    let s₁ = sound W H t₁ c₁ acc₁ in
    let hW = (sides s₁).1 in
    let hH = (sides s₁).3 in
    let e₂ = same-tree W H hW hH t₁ t₂ s₁.tree (sound W H t₂ c₂ acc₂).tree same₂ in
    let e₃ = same-tree W H hW hH t₁ t₃ s₁.tree (sound W H t₃ c₃ acc₃).tree same₃ in
    linear W H (levels t₁) a b (coefficients W H c₁) (coefficients W H c₂) (coefficients W H c₃)
    (λ L x y hL hx hy. e (place W H L x y) (place-in-slice W H L x y hL hx hy)) f
    ∙ ap₂ (λ s t. a *ℤ table_sum W H s c₂ f +ℤ b *ℤ table_sum W H t c₃ f) e₂ e₃

pub linear-readings : LinearReadings
linear-readings W H t₁ t₂ t₃ c₁ c₂ c₃ a b acc₁ acc₂ acc₃ same₂ same₃ e u v n₁ n₂ n₃ r₁ r₂ r₃ =
    sym ((reading-given W H t₁ c₁ u v n₁).0 r₁).2
    ∙ linear-sums W H t₁ t₂ t₃ c₁ c₂ c₃ a b acc₁ acc₂ acc₃ same₂ same₃ e (value_at W H u v)
    ∙ ap₂ (λ x y. a *ℤ x +ℤ b *ℤ y) ((reading-given W H t₂ c₂ u v n₂).0 r₂).2
    ((reading-given W H t₃ c₃ u v n₃).0 r₃).2

-- ---- insertions

-- two acceptable tables with one reading have one outcome
pub same_outcome : (W H : ℕ) (s t : List ℕ) (c d : List ℤ) → Acceptable W H s c → Acceptable W H t d → (u v : ℕ)
    → table_reading W H s c u v ≡ table_reading W H t d u v → exact_outcome W H s c u v ≡ exact_outcome W H t d u v
unfolding exact_outcome reading_cause
same_outcome W H s t c d p q u v e = rw (p, q, e)

-- "After the list the exact reading at every point of the sheet equals that before the list, and so still lies between
-- those two coefficients of the starting table."
pub refinement-moves-no-reading : RefinementMovesNoReading
refinement-moves-no-reading W H c ss acc =
    let d = after_all W H c ss in
    let k = all_keep W H ss c acc in
    let same : (u v : ℕ) → exact_outcome W H d.tree d.numbers u v ≡ exact_outcome W H c.tree c.numbers u v =
    λ u v. same_outcome W H d.tree c.tree d.numbers c.numbers k.0 acc u v (k.1 (value_at W H u v)) in
    (k.0, λ u v. (same u v, λ n e. bracketed-readings W H c.tree c.numbers u v n (sym (same u v) ∙ e)))

-- "A box insertion raises lower levels inside the box to the one named, and changes no others."
pub insertion-raises : InsertionRaises
insertion-raises W H c k n e q r hq hr =
    let box = k.slip.box in
    let m = k.slip.level in
    committed-cases W H c k
    (λ d. levels d.tree q r ≡ cond (in_box box q r) (max (levels c.tree q r) m) (levels c.tree q r))
    (λ m f. absurd (let z : ◌≡◌ {A = ℕ} 0 1 = cc in omega arith))
    (λ z _. let a = accepted W H c.tree c.numbers box m z in
    let s = sound W H c.tree c.numbers a.0 in
    new-levels W H c.tree s.tree (sides s).1 (sides s).3 box m a.3 a.1 a.2 q r hq hr)
