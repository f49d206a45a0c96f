-- Document 02, Two: "the exact derivative of the surface, worked as a fraction". What is claimed of the slopes, each
-- proved under its name in proofs/Derivatives.antt, but for PiecesDerive in PieceDerivative and SlopesGiven in
-- SlopesGiven there.
use Rattle.std.specs.Prelude.{◌≡◌, ◌↔◌, true, cond, List, [], ◌∷◌, ℕ, ◌+◌, ◌-◌, ◌*◌, ◌≤◌, ◌<◌, min, ℤ, pos, nat_abs, ◌+ℤ◌, ◌-ℤ◌, ◌*ℤ◌, leb, Float, get_or}
use Rattle.finite.specs.Range.{sum2}
use Rattle.surface.specs.Sheet.{steps, on_sheet}
use Rattle.surface.specs.Spline.{cell_of, piece, spline_at}
use Rattle.surface.specs.Truncation.{active_sum}
use Rattle.surface.specs.Patch.{patch, stop_level}
use Rattle.surface.specs.Table.{slots, Acceptable, table_sum}
use Rattle.surface.specs.Calls.{Answer, refused, gives, exact_outcome}
use Rattle.surface.specs.FloatReading.{FloatMeets}
use Rattle.surface.specs.Demands.{SameRegions, Contents, Step, after_all}
use Rattle.surface.specs.Slopes.{piece_slope, slope_in, slope_at, slope_u, slope_v, slope_d, ExactSlopes, table_slopes}
use Rattle.surface.specs.Slopes.{FloatSlopes, slopes_outcome, SlopesMeet}

-- ---- they are derivatives

-- What a difference of the k-th of the four splines leaves beside its linear part, over the square of the distance.
abbrev pub bend : ℕ → ℕ → ℕ → ℕ → ℤ
bend k r x s =
    get_or
    ((pos (3 * s) -ℤ pos (2 * r + x))
    ∷ (pos (6 * r + 3 * x) -ℤ pos (6 * s))
    ∷ (pos (3 * s) -ℤ pos (6 * r + 3 * x))
    ∷ pos (2 * r + x)
    ∷ [])
    k
    (pos 0)

-- From r/s to x/s, any two points of a cell, however fine s is: with h = x − r, the spline is its value at r, h times
-- its derivative there, and h² times a polynomial in r, x and s.
abbrev pub PiecesDerive : Type 0
PiecesDerive =
    (k r x s : ℕ) → r ≤ s → x ≤ s
    → let h = pos x -ℤ pos r in
    pos (piece k x s) ≡ pos (piece k r s) +ℤ h *ℤ piece_slope k r s +ℤ h *ℤ h *ℤ bend k r x s

-- The same of a spline of level 3 from u to x, two points of the cell c of level 3, its edges included.
abbrev pub bend_in : ℕ → ℕ → ℕ → ℕ → ℤ
bend_in c a u x = cond (leb c a) (bend (a - c) (u - c * steps 3) (x - c * steps 3) (steps 3)) (pos 0)

-- And of the surface, along each direction: its exact reading at another point of such a cell is the one at (u, v), the
-- distance times the slope there, and the square of the distance times the same sum with polynomials. All numerators
-- are over D, distances in steps and slopes per step. (Truncation ends at level 3, so that the sum asks for functions
-- of that level alone.) At a knot both cells serve: so the surface meets itself there, and has one slope.
pub record SurfaceDerives : Type 0 where
  pub along_u : (W H : ℕ) (t : List ℕ) (cs : List ℤ) (u v x c : ℕ) (e : ExactSlopes) (n : ℤ)
      → slopes_outcome W H t cs u v ≡ gives e → exact_outcome W H t cs x v ≡ gives n
      → c * steps 3 ≤ u → u ≤ (c + 1) * steps 3 → c * steps 3 ≤ x → x ≤ (c + 1) * steps 3
      → let h = pos x -ℤ pos u in
      n ≡ e.watts +ℤ h *ℤ e.along_u
      +ℤ h *ℤ h *ℤ table_sum W H t cs (λ L a b. bend_in c a u x *ℤ pos (spline_at H 3 b v))
  pub along_v : (W H : ℕ) (t : List ℕ) (cs : List ℤ) (u v y c : ℕ) (e : ExactSlopes) (n : ℤ)
      → slopes_outcome W H t cs u v ≡ gives e → exact_outcome W H t cs u y ≡ gives n
      → c * steps 3 ≤ v → v ≤ (c + 1) * steps 3 → c * steps 3 ≤ y → y ≤ (c + 1) * steps 3
      → let h = pos y -ℤ pos v in
      n ≡ e.watts +ℤ h *ℤ e.along_v
      +ℤ h *ℤ h *ℤ table_sum W H t cs (λ L a b. pos (spline_at W 3 a u) *ℤ bend_in c b v y)

-- Each cell that has the point, in it or on its edge, gives one derivative of each spline: at a knot inside the sheet
-- the cells on both sides agree, and at a far edge a further cell would too, over the functions of the sheet. There
-- document 02 names the cell.
abbrev pub CellsAgree : Type 0
CellsAgree =
    (n L a u c : ℕ) → 0 < n → u ≤ 128 * n → L ≤ 3 → c * steps L ≤ u → u ≤ (c + 1) * steps L
    → slope_in L c a u ≡ slope_at n L a u

-- ---- the patch

-- The patch of level L times the derivatives of the splines along u and the splines along v; and the other way about.
abbrev pub evaluated_u : ℕ → ℕ → (ℕ → ℕ → ℕ) → (ℕ → ℕ → ℕ → ℤ) → ℕ → ℕ → ℕ → ℤ
evaluated_u W H lev coef u v L =
    let r = u - cell_of W L u * steps L in
    let s = v - cell_of H L v * steps L in
    sum2 4 4 λ k l. piece_slope k r (steps L) *ℤ pos (piece l s (steps L)) *ℤ patch W H lev coef u v L k l

abbrev pub evaluated_v : ℕ → ℕ → (ℕ → ℕ → ℕ) → (ℕ → ℕ → ℕ → ℤ) → ℕ → ℕ → ℕ → ℤ
evaluated_v W H lev coef u v L =
    let r = u - cell_of W L u * steps L in
    let s = v - cell_of H L v * steps L in
    sum2 4 4 λ k l. pos (piece k r (steps L)) *ℤ piece_slope l s (steps L) *ℤ patch W H lev coef u v L k l

-- They are the slopes, from the level at which a reading stops on.
abbrev pub PatchSlopes : Type 0
PatchSlopes =
    (W H : ℕ) (lev : ℕ → ℕ → ℕ) (coef : ℕ → ℕ → ℕ → ℤ) (u v : ℕ) → 0 < W → 0 < H → u ≤ 128 * W → v ≤ 128 * H
    → (L : ℕ) → L ≤ 3 → min (stop_level W H lev u v) 3 ≤ L
    → (active_sum W H lev coef (slope_u W H u v) ≡ evaluated_u W H lev coef u v L)
    × (active_sum W H lev coef (slope_v W H u v) ≡ evaluated_v W H lev coef u v L)

-- ---- the outcome

-- The watts of a record, or its refusal.
abbrev pub watts_of : Answer FloatSlopes → Answer Float
watts_of (refused n) = refused n
watts_of (gives x) = gives x.watts

-- The slopes are given on acceptable tables and points of the sheet, as the exact reading is, and refused as it is.
pub record SlopesGiven : Type 0 where
  pub given : (W H : ℕ) (t : List ℕ) (cs : List ℤ) (u v : ℕ) (e : ExactSlopes)
      → (slopes_outcome W H t cs u v ≡ gives e)
      ↔ (Acceptable W H t cs × (on_sheet W H u v ≡ true) × (table_slopes W H t cs u v ≡ e))
  pub refusal : (W H : ℕ) (t : List ℕ) (cs : List ℤ) (u v n : ℕ)
      → (slopes_outcome W H t cs u v ≡ refused n) ↔ (exact_outcome W H t cs u v ≡ refused n)
  -- "Watts keep the bound of 2^-30": those of the record meet the promise of the f64 reading.
  pub watts : (W H : ℕ) (t : List ℕ) (cs : List ℤ) (u v : ℕ) (given : Answer FloatSlopes)
      → SlopesMeet (slopes_outcome W H t cs u v) given → FloatMeets (exact_outcome W H t cs u v) (watts_of given)

-- A slope is at most 48,000 watts per eighth of a cell in size. (That one is so steep is a case, in
-- bench/specs/SlopeCases.antt.)
abbrev pub SlopesFit : Type 0
SlopesFit =
    (W H : ℕ) (t : List ℕ) (cs : List ℤ) (u v : ℕ) (e : ExactSlopes) → slopes_outcome W H t cs u v ≡ gives e
    → (nat_abs e.along_u ≤ 48000 * slope_d) × (nat_abs e.along_v ≤ 48000 * slope_d)

-- ---- demand 3, of the slopes

-- They are linear in the coefficients, as the exact reading is.
abbrev pub LinearSlopes : Type 0
LinearSlopes =
    (W H : ℕ) (t₁ t₂ t₃ : List ℕ) (c₁ c₂ c₃ : List ℤ) (a b : ℤ)
    → Acceptable W H t₁ c₁ → Acceptable W H t₂ c₂ → Acceptable W H t₃ c₃
    → SameRegions W H t₁ t₂ → SameRegions W H t₁ t₃
    → ((p : ℕ) → p < slots W H → get_or c₁ p (pos 0) ≡ a *ℤ get_or c₂ p (pos 0) +ℤ b *ℤ get_or c₃ p (pos 0))
    → (u v : ℕ) (e₁ e₂ e₃ : ExactSlopes) → slopes_outcome W H t₁ c₁ u v ≡ gives e₁
    → slopes_outcome W H t₂ c₂ u v ≡ gives e₂ → slopes_outcome W H t₃ c₃ u v ≡ gives e₃
    → (e₁.along_u ≡ a *ℤ e₂.along_u +ℤ b *ℤ e₃.along_u) × (e₁.along_v ≡ a *ℤ e₂.along_v +ℤ b *ℤ e₃.along_v)

-- No list of insertions moves them, refused ones included: the list is demand 3's.
abbrev pub RefinementMovesNoSlope : Type 0
RefinementMovesNoSlope =
    (W H : ℕ) (c : Contents) (ss : List Step) → Acceptable W H c.tree c.numbers
    → (u v : ℕ)
    → slopes_outcome W H (after_all W H c ss).tree (after_all W H c ss).numbers u v
    ≡ slopes_outcome W H c.tree c.numbers u v
