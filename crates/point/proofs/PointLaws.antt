-- The cell that holds a point, and the entries of a patch.
use mathlib.Core.Path.{◌≡◌, ap, ap₂, ◌∙◌}
use mathlib.Core.Bool.{Bool, cond}
use mathlib.Core.List.{List, [], ◌∷◌}
use Prim.Native.Nat.{ℕ, ◌+◌, ◌-◌, ◌*◌, ◌/◌, ◌≤◌, ◌<◌, min}
use native.Mathlib.Nat.{add-mul, mul_comm, mul-le-mul_right}
use native.Mathlib.Omega.{arith}
use lib.IntN.{ℤ, pos}
use lib.ListN.{get_or}
use mir.Syntax.{w64}
use mir.Val.{SFits, to_z, of_z}
use mir.ValLaws.{to_z-of_z}
use Rattle.finite.proofs.Four.{each}
use Rattle.surface.specs.Sheet.{cells, functions, steps}
use Rattle.surface.specs.Spline.{cell_of}
use Rattle.surface.specs.Table.{places, start, coefficients}
use Rattle.surface.proofs.SplineCell.{cell-inside}
use Rattle.coefficients.proofs.Parts.{part, level-at}

-- the lesser of the quotient and the last cell, s steps to a cell and f functions along the side
pub cell-found : (n L u s f r : ℕ) → 0 < n → u ≤ 128 * n → L ≤ 3 → s ≡ steps L → f ≡ functions n L
    → r ≡ min (u / s) (f - 4) → (r ≡ cell_of n L u) × (r + 3 < functions n L)
unfolding cell_of
cell-found n L u s f r p h l es ef e =
    let last : f - 4 ≡ cells n L - 1 = omega arith in
    let same : r ≡ cell_of n L u = e ∙ ap₂ min (ap (λ k. u / k) es) last in
    (same, omega (arith, cell-inside n L u p h l))

-- a point lies at most the steps of a cell into its cell, at the far edge too
pub steps-left : (n L u a s : ℕ) → 0 < n → u ≤ 128 * n → L ≤ 3 → a ≡ cell_of n L u → s ≡ steps L
    → (s * a ≤ u) × (u - s * a ≤ s)
steps-left n L u a s p h l e es =
    let i = cell-inside n L u p h l in
    let same : s * a ≡ cell_of n L u * steps L = ap₂ ◌*◌ es e ∙ mul_comm (steps L) (cell_of n L u) in
    (omega (arith, i.1, same), omega (arith, i.2, same, add-mul (cell_of n L u) 1 (steps L), es))

-- what holds of four in a row holds of each by its number
pub at-four : {A : Type 0} (P : ℕ → A → Type 0) (d : A) {x y z w : A} → P 0 x → P 1 y → P 2 z → P 3 w
    → (k : ℕ) → k < 4 → P k (get_or (x ∷ y ∷ z ∷ w ∷ []) k d)
at-four P d {x} {y} {z} {w} a b c e = each (λ k. P k (get_or (x ∷ y ∷ z ∷ w ∷ []) k d)) a b c e

-- ---- a patch's own coefficients

-- the rows of four functions along v are inside the level's part
pub rows_fit : (W H L b n : ℕ) → n ≡ functions W L → b + 3 < functions H L → (b + 4) * n ≤ places W H L
rows_fit W H L b n columns hb =
    let rows : b + 4 ≤ functions H L = omega arith in
    rw (columns, mul_comm (functions W L) (functions H L)) (mul-le-mul_right (functions W L) rows)

-- the sixteen in the level's part are the level's
pub level-own : (W H L first size n a b : ℕ) (cs : List ℤ) → first ≡ start W H L → size ≡ places W H L
    → n ≡ functions W L → a + 3 < functions W L → b + 3 < functions H L → (k l : ℕ) → k < 4 → l < 4
    → get_or (part first size cs) ((b + l) * n + (a + k)) (pos 0) ≡ coefficients W H cs L (a + k) (b + l)
level-own W H L first size n a b cs begins sized columns ha hb k l hk hl =
    ap (λ t. get_or (part first size cs) ((b + l) * t + (a + k)) (pos 0)) columns
    ∙ level-at W H L first size cs begins sized (a + k) (b + l) (omega arith) (omega arith)

-- ---- the choice

-- a number as it is read back
abbrev read : ℤ → ℤ
read z = to_z w64 (of_z w64 z)

pub chosen-read : (inside : Bool) (own coarse : ℤ) {r : ℤ} → SFits w64 r → SFits w64 own → SFits w64 coarse
    → r ≡ cond inside (read own) (read coarse) → read r ≡ cond inside own coarse
chosen-read inside own coarse {r} f g h e =
    to_z-of_z w64 r f ∙ e ∙ ap₂ (cond inside) (to_z-of_z w64 own g) (to_z-of_z w64 coarse h)
