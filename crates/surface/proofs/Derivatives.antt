-- The statements of specs/Derivatives.antt, proved; pieces-derive is in PieceDerivative, slopes-given in SlopesGiven.
use mathlib.Core.Path.{◌≡◌, sym, ap, ◌∙◌, subst}
use Prim.Native.Nat.{ℕ, ◌+◌, ◌-◌, ◌*◌, ◌≤◌, ◌<◌, min}
use native.Mathlib.Nat.{le_refl, le_of_eq, le_trans, mul-le-mul_right}
use native.Mathlib.Omega.{arith}
use lib.Dec.{lit≤, lit<}
use lib.IntN.{ℤ, pos, nat_abs, ◌+ℤ◌, ◌-ℤ◌, ◌*ℤ◌}
use Rattle.finite.specs.Range.{sum, sum2}
use Rattle.finite.proofs.Order.{abs-add, abs-mul}
use Rattle.finite.proofs.Weighted.{nested}
use Rattle.surface.specs.Sheet.{eighths}
use Rattle.surface.specs.Spline.{cell_of, piece, spline_at}
use Rattle.surface.specs.Truncation.{value_at}
use Rattle.surface.specs.Patch.{patch}
use Rattle.surface.specs.Table.{levels, coefficients, limit, table_sum}
use Rattle.surface.specs.Calls.{reading_cause}
use Rattle.surface.specs.Slopes.{piece_slope, slope_at, slope_u, slope_v, ExactSlopes, slopes_outcome}
use Rattle.surface.specs.Derivatives.{bend_in, SurfaceDerives, CellsAgree, PatchSlopes, SlopesFit}
use Rattle.surface.specs.Derivatives.{LinearSlopes, RefinementMovesNoSlope}
use Rattle.surface.proofs.SplineCell.{cell-inside}
use Rattle.surface.proofs.Along.{cells_meet}
use Rattle.surface.proofs.SplinePiece.{piece-sum}
use Rattle.surface.proofs.SlopePiece.{slopes, slope-sizes}
use Rattle.surface.proofs.SurfaceSlopes.{patch-slope-u, patch-slope-v, derives-u, derives-v}
use Rattle.surface.proofs.TableLaws.{sound, sides}
use Rattle.surface.proofs.Greatest.{stop-level}
use Rattle.surface.proofs.Around.{on-sheet}
use Rattle.surface.proofs.Steps.{all_keep}
use Rattle.surface.proofs.Demands.{reading-given, patch-evaluates, linear-sums}
pub use Rattle.surface.proofs.PieceDerivative.{pieces-derive}
pub use Rattle.surface.proofs.SlopesGiven.{slopes-given}

pub cells_agree : CellsAgree
unfolding slope_at
cells_agree = cells_meet piece_slope slopes

pub patch-slopes : PatchSlopes
patch-slopes W H lev coef u v p_w p_h hu hv L hL h =
    let low = subst (λ g. min g 3 ≤ L) (stop-level W H lev u v p_w p_h) h in
    (patch-slope-u W H lev coef u v p_w p_h hu hv L hL low, patch-slope-v W H lev coef u v p_w p_h hu hv L hL low)

pub surface-derives : SurfaceDerives
surface-derives =
    record {
      along_u = λ W H t cs u v x c e n g m lu ru lx rx.
          let (acc, on, eq) = (slopes-given.given W H t cs u v e).0 g in
          let (_, on', eq') = (reading-given W H t cs x v n).0 m in
          let s = sides (sound W H t cs acc) in
          let at = on-sheet W H u v on in
          sym eq'
          ∙ derives-u W H (levels t) (coefficients W H cs) u v s.0 s.2 at.0 at.1 x c
          (on-sheet W H x v on').0 lu ru lx rx
          ∙ ap (λ (e : ExactSlopes). e.watts +ℤ (pos x -ℤ pos u) *ℤ e.along_u
          +ℤ (pos x -ℤ pos u) *ℤ (pos x -ℤ pos u)
          *ℤ table_sum W H t cs (λ L a b. bend_in c a u x *ℤ pos (spline_at H 3 b v))) eq;
      along_v = λ W H t cs u v y c e n g m lv rv ly ry.
          let (acc, on, eq) = (slopes-given.given W H t cs u v e).0 g in
          let (_, on', eq') = (reading-given W H t cs u y n).0 m in
          let s = sides (sound W H t cs acc) in
          let at = on-sheet W H u v on in
          sym eq'
          ∙ derives-v W H (levels t) (coefficients W H cs) u v s.0 s.2 at.0 at.1 y c
          (on-sheet W H u y on').1 lv rv ly ry
          ∙ ap (λ (e : ExactSlopes). e.watts +ℤ (pos y -ℤ pos v) *ℤ e.along_v
          +ℤ (pos y -ℤ pos v) *ℤ (pos y -ℤ pos v)
          *ℤ table_sum W H t cs (λ L a b. pos (spline_at W 3 a u) *ℤ bend_in c b v y)) eq;
    }

-- ---- the size of a slope

-- four weights that add up to at most t in size, of four numbers of at most m
weighed-size : (t m : ℕ) (w x : ℕ → ℤ) → nat_abs (w 0) + nat_abs (w 1) + nat_abs (w 2) + nat_abs (w 3) ≤ t
    → ((k : ℕ) → k < 4 → nat_abs (x k) ≤ m) → nat_abs (sum 4 (λ k. w k *ℤ x k)) ≤ t * m
unfolding sum
weighed-size t m w x hw hx =
    let one : (k : ℕ) → k < 4 → nat_abs (w k *ℤ x k) ≤ nat_abs (w k) * m =
    λ k hk. abs-mul (w k) (x k) (le_refl (nat_abs (w k))) (hx k hk) in
    let two = abs-add (pos 0 +ℤ w 0 *ℤ x 0) (w 1 *ℤ x 1)
    (abs-add (pos 0) (w 0 *ℤ x 0) {m = 0} (lit≤ tt) (one 0 (lit< tt))) (one 1 (lit< tt)) in
    let four = abs-add (pos 0 +ℤ w 0 *ℤ x 0 +ℤ w 1 *ℤ x 1 +ℤ w 2 *ℤ x 2) (w 3 *ℤ x 3)
    (abs-add (pos 0 +ℤ w 0 *ℤ x 0 +ℤ w 1 *ℤ x 1) (w 2 *ℤ x 2) two (one 2 (lit< tt))) (one 3 (lit< tt)) in
    omega (arith, four, mul-le-mul_right m hw)

-- in both directions
patch-size : (t t' m : ℕ) (w w' : ℕ → ℤ) (p : ℕ → ℕ → ℤ)
    → nat_abs (w 0) + nat_abs (w 1) + nat_abs (w 2) + nat_abs (w 3) ≤ t
    → nat_abs (w' 0) + nat_abs (w' 1) + nat_abs (w' 2) + nat_abs (w' 3) ≤ t'
    → ((k l : ℕ) → k < 4 → l < 4 → nat_abs (p k l) ≤ m)
    → nat_abs (sum2 4 4 (λ k l. w k *ℤ w' l *ℤ p k l)) ≤ t * (t' * m)
patch-size t t' m w w' p h h' hp =
    subst (λ z. nat_abs z ≤ t * (t' * m)) (nested 4 4 w w' p)
    (weighed-size t (t' * m) w (λ k. sum 4 (λ l. w' l *ℤ p k l)) h
    (λ k hk. weighed-size t' m w' (p k) h' (λ l. hp k l hk)))

-- at level 3: the sizes of the derivatives add up to at most 9×16², and the splines to 6×16³
slope-weights : (r : ℕ) → r ≤ 16
    → nat_abs (piece_slope 0 r 16) + nat_abs (piece_slope 1 r 16) + nat_abs (piece_slope 2 r 16)
    + nat_abs (piece_slope 3 r 16) ≤ 2304
slope-weights r h =
    let e : r + (16 - r) ≡ 16 = omega arith in rw e at (slope-sizes r (16 - r))

value-weights : (r : ℕ) → r ≤ 16 → piece 0 r 16 + piece 1 r 16 + piece 2 r 16 + piece 3 r 16 ≤ 24576
value-weights r h =
    let e : r + (16 - r) ≡ 16 = omega arith in le_of_eq (rw e at (piece-sum r (16 - r)))

pub slopes-fit : SlopesFit
unfolding eighths
slopes-fit W H t cs u v e g =
    let (acc, on, eq) = (slopes-given.given W H t cs u v e).0 g in
    let s = sides (sound W H t cs acc) in
    let (hu, hv) = on-sheet W H u v on in
    let lev = levels t in
    let coef = coefficients W H cs in
    let iu = cell-inside W 3 u s.0 hu (lit≤ tt) in
    let iv = cell-inside H 3 v s.2 hv (lit≤ tt) in
    let r = u - cell_of W 3 u * 16 in
    let q = v - cell_of H 3 v * 16 in
    let small : (k l : ℕ) → k < 4 → l < 4 → nat_abs (patch W H lev coef u v 3 k l) ≤ limit 3 =
    λ k l hk hl. (patch-evaluates W H t cs acc u v on).1 3 k l (lit< tt) hk hl in
    let slopes = patch-slopes W H lev coef u v s.0 s.2 hu hv 3 (lit≤ tt) (omega arith) in
    rw (← eq, slopes.0, slopes.1) (
      le_trans (patch-size 2304 24576 (limit 3) (λ k. piece_slope k r 16) (λ l. pos (piece l q 16))
          (patch W H lev coef u v 3) (slope-weights r (omega arith)) (value-weights q (omega arith)) small) (lit≤ tt),
      le_trans (patch-size 24576 2304 (limit 3) (λ k. pos (piece k r 16)) (λ l. piece_slope l q 16)
          (patch W H lev coef u v 3) (value-weights r (omega arith)) (slope-weights q (omega arith)) small) (lit≤ tt),
    )

-- ---- demand 3

pub linear-slopes : LinearSlopes
linear-slopes W H t₁ t₂ t₃ c₁ c₂ c₃ a b acc₁ acc₂ acc₃ same₂ same₃ h u v e₁ e₂ e₃ g₁ g₂ g₃ =
    let sums = linear-sums W H t₁ t₂ t₃ c₁ c₂ c₃ a b acc₁ acc₂ acc₃ same₂ same₃ h in
    let s₁ = ((slopes-given.given W H t₁ c₁ u v e₁).0 g₁).2 in
    let s₂ = ((slopes-given.given W H t₂ c₂ u v e₂).0 g₂).2 in
    let s₃ = ((slopes-given.given W H t₃ c₃ u v e₃).0 g₃).2 in
    rw (← s₁, ← s₂, ← s₃) (sums (slope_u W H u v), sums (slope_v W H u v))

pub refinement-moves-no-slope : RefinementMovesNoSlope
unfolding slopes_outcome reading_cause
refinement-moves-no-slope W H c ss acc u v =
    let k = all_keep W H ss c acc in
    rw (k.0, acc, k.1 (value_at W H u v), k.1 (slope_u W H u v), k.1 (slope_v W H u v))
