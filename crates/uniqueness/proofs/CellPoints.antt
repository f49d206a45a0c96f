-- Four points of a cell of level 3 in each direction, and the four functions of level 3 that are not 0 there.
use mathlib.Core.Path.{◌≡◌, ap, ap₂, ◌∙◌}
use Prim.Native.Nat.{ℕ, ◌+◌, ◌-◌, ◌*◌, ◌≤◌, ◌<◌}
use native.Mathlib.Omega.{arith}
use lib.Dec.{lit≤}
use lib.IntN.{ℤ, pos, ◌*ℤ◌}
use Rattle.finite.specs.Range.{sum}
use Rattle.finite.proofs.Sum.{sum-cong}
use Rattle.surface.specs.Sheet.{functions, eighths}
use Rattle.surface.specs.Spline.{cell_of, piece, spline_at}
use Rattle.surface.proofs.Along.{window}
use Rattle.surface.proofs.SplineCell.{spline-in}
use Rattle.surface.proofs.SplineTwoScale.{values-along}
use Rattle.uniqueness.proofs.Points.{Points}

abbrev pub cell_point : ℕ → ℕ → ℕ
cell_point x i = 16 * x + 4 * i

-- the four splines there
abbrev pub cell_values : ℕ → ℕ → ℤ
cell_values i k = pos (piece k (4 * i) 16)

module _ (n x i : ℕ) (hx : x < 8 * n) (hi : i < 4) where
  point-on : cell_point x i ≤ 128 * n
  point-on = omega arith

  pub point-cell : cell_of n 3 (cell_point x i) ≡ x
  unfolding cell_of eighths
  point-cell = omega arith

  cell-window : (f : ℕ → ℤ)
      → sum (functions n 3) (λ a. pos (spline_at n 3 a (cell_point x i)) *ℤ f a)
      ≡ sum 4 (λ k. cell_values i k *ℤ f (x + k))
  unfolding eighths
  cell-window f =
      let u = cell_point x i in
      let c = cell_of n 3 u in
      let side : 0 < n = omega arith in
      let into : u - c * 16 ≡ 4 * i = let e = point-cell in omega arith in
      window n u side point-on (λ L a. pos (spline_at n L a u)) (values-along n u side point-on) 3 (lit≤ tt) f
      ∙ sum-cong 4 (λ k. pos (spline_at n 3 (c + k) u) *ℤ f (c + k)) (λ k. cell_values i k *ℤ f (x + k))
      (λ k _. ap₂ (λ s a. pos s *ℤ f (a + k)) (spline-in n 3 k u ∙ ap (λ r. piece k r 16) into) point-cell)

pub cell-points : (n x : ℕ) → x < 8 * n → Points n 4 x (cell_point x) cell_values
cell-points n x hx =
    record { side = omega arith; on = λ i hi. point-on n x i hx hi; window = λ i hi. cell-window n x i hx hi }
