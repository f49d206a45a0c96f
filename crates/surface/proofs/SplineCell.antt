-- The cell of a point on the sheet, level by level, and the splines that are not zero there.
use mathlib.Core.Path.{◌≡◌, sym, ap, ◌∙◌}
use Prim.Native.Nat.{ℕ, suc, ◌+◌, ◌-◌, ◌*◌, ◌/◌, ◌^◌, ◌≤◌, ◌<◌, min}
use native.Mathlib.Decide.{dec_le}
use native.Mathlib.Nat.{add-sub_cancel_left, le-add_right, le_trans, mul-le-mul_right, mul-pos, pow-succ'}
use native.Mathlib.Nat.{min-eq_left, min-eq_right, div-mul-le_self, lt-div-mul-add, div-div-eq-div-mul}
use native.Mathlib.Omega.{arith}
use lib.Pow.{pow-add, pow_pos}
use borrow.Author.Tests.{le-leb, lt-leb}
use Rattle.surface.specs.Sheet.{cells, eighths, steps}
use Rattle.surface.specs.Spline.{cell_of, piece, spline_at}
use Rattle.surface.proofs.SplinePiece.{piece-far}
use Rattle.surface.proofs.SplineWeight.{eighths-pos, eighths-step}

-- at each level the cells fill the side
pub cells-steps : (n L : ℕ) → L ≤ 3 → cells n L * steps L ≡ 128 * n
unfolding eighths
cells-steps n L h =
    let three : L + (3 - L) ≡ 3 = omega arith in
    let eight : 2 ^ L * 2 ^ (3 - L) ≡ 8 = sym (pow-add 2 L (3 - L)) ∙ ap (λ x. 2 ^ x) three in
    omega (arith, ap (λ x. n * x) eight)

-- u lies in cell c of N cells of d steps, edges included
abbrev Within : ℕ → ℕ → ℕ → ℕ → Type 0
Within N d u c = (c < N) × (c * d ≤ u) × (u ≤ (c + 1) * d)

-- a point up to the far edge lies in the cell that division names, or at the end of the last
inside : (N d u : ℕ) → 0 < N → 0 < d → u ≤ N * d → Within N d u (min (u / d) (N - 1))
inside N d u pN pd h = go (dec_le (u / d) (N - 1))
  where
    last : N ≡ N - 1 + 1
    last = omega arith

    go : Dec (u / d ≤ N - 1) → Within N d u (min (u / d) (N - 1))
    go (yes l) = rw (min-eq_left l) (omega arith, div-mul-le_self u d, omega (arith, lt-div-mul-add {a = u} pd))
    go (no l) =
        let m : N - 1 ≤ u / d = omega arith in
        let low = le_trans (mul-le-mul_right d m) (div-mul-le_self u d) in
        rw (min-eq_right m) (omega arith, low, omega (arith, ap (λ x. x * d) last))

pub cell-inside :
    (n L u : ℕ) → 0 < n → u ≤ 128 * n → L ≤ 3
    → (cell_of n L u < cells n L) × (cell_of n L u * steps L ≤ u) × (u ≤ (cell_of n L u + 1) * steps L)
unfolding cell_of
cell-inside n L u p h l =
    let side : 0 < steps L = omega (arith, eighths-pos L) in
    inside (cells n L) (steps L) u (mul-pos p (pow_pos L)) side (omega (arith, cells-steps n L l))

-- each level halves the cells, at the far edge too
pub cell-step :
    (n L u : ℕ) → 0 < n → L < 3 → u ≤ 128 * n
    → (h : ℕ) × (h ≤ 1) × (cell_of n (suc L) u ≡ 2 * cell_of n L u + h)
unfolding cell_of
cell-step n L u _ l _ =
    let fine = u / steps (suc L) in
    let side : steps L ≡ steps (suc L) * 2 = omega (arith, eighths-step L l) in
    let half : u / steps L ≡ fine / 2 = ap (λ x. u / x) side ∙ sym (div-div-eq-div-mul u (steps (suc L)) 2) in
    let twice : cells n (suc L) ≡ 2 * cells n L = omega (arith, ap (λ x. n * x) (pow-succ' 2 L)) in
    (cell_of n (suc L) u - 2 * cell_of n L u, omega arith, omega arith)

-- the function k after the first of the four has the k-th piece, and all but those four have nothing
pub spline-in :
    (n L k u : ℕ) → spline_at n L (cell_of n L u + k) u ≡ piece k (u - cell_of n L u * steps L) (steps L)
unfolding spline_at
spline-in n L k u =
    let c = cell_of n L u in
    rw (le-leb c (c + k) (le-add_right c k), add-sub_cancel_left c k)

pub spline-low : (n L a u : ℕ) → a < cell_of n L u → spline_at n L a u ≡ 0
unfolding spline_at
spline-low n L a u h = rw (lt-leb (cell_of n L u) a h)

pub spline-far : (n L a u : ℕ) → cell_of n L u + 4 ≤ a → spline_at n L a u ≡ 0
spline-far n L a u h =
    let e : a ≡ cell_of n L u + (a - cell_of n L u) = omega arith in
    rw e (spline-in n L (a - cell_of n L u) u ∙ piece-far _ _ _ (omega arith))

-- a point on the sheet lies r steps into its cell and q before its end, and the splines there are pieces at r
pub record CellPoint (n L u : ℕ) : Type 0 where
  pub r : ℕ
  pub q : ℕ
  pub side : steps L ≡ r + q
  pub point : u ≡ cell_of n L u * steps L + r
  pub value : (k : ℕ) → spline_at n L (cell_of n L u + k) u ≡ piece k r (r + q)

pub cell-point : (n L u : ℕ) → 0 < n → u ≤ 128 * n → L ≤ 3 → CellPoint n L u
cell-point n L u p h l =
    let (_, low, high) = cell-inside n L u p h l in
    let s = steps L in
    let b = cell_of n L u * s in
    let e : s ≡ u - b + (b + s - u) = omega arith in
    record {
      r = u - b;
      q = b + s - u;
      side = e;
      point = omega arith;
      value = λ k. spline-in n L k u ∙ ap (λ x. piece k (u - b) x) e;
    }
