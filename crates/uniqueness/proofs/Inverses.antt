-- The systems that points of a cell, points of a quarter and steps of subdivision give along one direction, each with
-- its inverse.
use mathlib.Core.Path.{◌≡◌, refl}
use mathlib.Core.Bool.{cond}
use mathlib.Core.List.{List, [], ◌∷◌}
use Prim.Native.Nat.{ℕ, zero, suc, ◌+◌, ◌*◌, ◌≤◌, ◌<◌}
use native.Mathlib.Omega.{arith}
use lib.Dec.{eqb, lit<}
use lib.IntN.{ℤ, pos, negsuc, ◌*ℤ◌}
use lib.ListN.{get_or}
use Rattle.finite.specs.Range.{sum, table_from, rows_from, grid}
use Rattle.finite.proofs.Systems.{Inverse}
use Rattle.finite.proofs.Table.{grid-same}
use Rattle.surface.specs.Sheet.{eighths}
use Rattle.surface.specs.Spline.{piece}
use Rattle.surface.specs.Truncation.{weight}
use Rattle.uniqueness.proofs.CellPoints.{cell_values}
use Rattle.uniqueness.proofs.QuarterPoints.{collocation}

-- the number in a row and a column of n by n
abbrev entry : ℕ → List ℤ → ℕ → ℕ → ℤ
entry n m i j = get_or m (i * n + j) (pos 0)

abbrev times : ℕ → (ℕ → ℕ → ℤ) → (ℕ → ℕ → ℤ) → ℕ → ℕ → ℤ
times n B A i k = sum n (λ j. B i j *ℤ A j k)

abbrev diagonal : ℕ → ℕ → ℕ → ℤ
diagonal d i k = cond (eqb i k) (pos d) (pos 0)

-- an inverse is one when the product is, number by number
by-computing : (n d : ℕ) (A B : ℕ → ℕ → ℤ) → 0 < d → grid n n (times n B A) ≡ grid n n (diagonal d) → Inverse n d A B
by-computing n d A B p e = record { positive = p; product = grid-same n n (times n B A) (diagonal d) e }

-- ---- the splines at four points of a cell

abbrev pub cell_values_back : ℕ → ℕ → ℤ
cell_values_back =
    entry 4
    (pos 57 ∷ negsuc 115 ∷ pos 82 ∷ negsuc 19
    ∷ negsuc 12 ∷ pos 40 ∷ negsuc 31 ∷ pos 8
    ∷ pos 13 ∷ negsuc 43 ∷ pos 46 ∷ negsuc 11
    ∷ negsuc 56 ∷ pos 208 ∷ negsuc 259 ∷ pos 112
    ∷ [])

pub values-inverse : Inverse 4 73728 cell_values cell_values_back
unfolding sum piece table_from rows_from
values-inverse = by-computing 4 73728 cell_values cell_values_back (lit< tt) refl

-- ---- the splines at five points of a quarter

abbrev pub collocation_back : ℕ → ℕ → ℤ
collocation_back =
    entry 5
    (pos 47 ∷ negsuc 87 ∷ pos 68 ∷ negsuc 23 ∷ pos 3
    ∷ negsuc 2 ∷ pos 24 ∷ negsuc 21 ∷ pos 8 ∷ negsuc 0
    ∷ pos 1 ∷ negsuc 7 ∷ pos 20 ∷ negsuc 7 ∷ pos 1
    ∷ negsuc 0 ∷ pos 8 ∷ negsuc 21 ∷ pos 24 ∷ negsuc 2
    ∷ pos 3 ∷ negsuc 23 ∷ pos 68 ∷ negsuc 87 ∷ pos 47
    ∷ [])

pub collocation-inverse : Inverse 5 147456 collocation collocation_back
unfolding sum piece table_from rows_from eighths
collocation-inverse = by-computing 5 147456 collocation collocation_back (lit< tt) refl

-- ---- the parents' weights in the four children around the near half of a cell, g = 0, and around the far half, g = 1

abbrev pub weights : ℕ → ℕ → ℕ → ℤ
weights g k i = pos (weight i (g + k))

abbrev near : ℕ → ℕ → ℤ
near =
    entry 4
    (pos 5 ∷ negsuc 3 ∷ pos 1 ∷ pos 0
    ∷ negsuc 0 ∷ pos 4 ∷ negsuc 0 ∷ pos 0
    ∷ pos 1 ∷ negsuc 3 ∷ pos 5 ∷ pos 0
    ∷ negsuc 4 ∷ pos 20 ∷ negsuc 28 ∷ pos 16
    ∷ [])

abbrev far : ℕ → ℕ → ℤ
far =
    entry 4
    (pos 16 ∷ negsuc 28 ∷ pos 20 ∷ negsuc 4
    ∷ pos 0 ∷ pos 5 ∷ negsuc 3 ∷ pos 1
    ∷ pos 0 ∷ negsuc 0 ∷ pos 4 ∷ negsuc 0
    ∷ pos 0 ∷ pos 1 ∷ negsuc 3 ∷ pos 5
    ∷ [])

abbrev pub weights_back : ℕ → ℕ → ℕ → ℤ
weights_back g = cond (eqb g 0) near far

pub weights-inverse : (g : ℕ) → g ≤ 1 → Inverse 4 16 (weights g) (weights_back g)
unfolding sum weight table_from rows_from
weights-inverse zero h = by-computing 4 16 (weights 0) near (lit< tt) refl
weights-inverse (suc zero) h = by-computing 4 16 (weights 1) far (lit< tt) refl
weights-inverse (suc (suc g)) h = absurd (omega arith)
