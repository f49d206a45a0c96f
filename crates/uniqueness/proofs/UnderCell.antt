-- The functions over a cell of level 3, level by level: four in each direction, and what the level of the cell's
-- quarter square says of them.
use Prim.Native.Nat.{ℕ, ◌+◌, ◌*◌, ◌/◌, ◌≤◌, ◌<◌}
use native.Mathlib.Nat.{le_refl, mul-le-mul_right, lt_of_mul-lt-mul_right}
use native.Mathlib.Omega.{arith}
use Rattle.surface.specs.Sheet.{functions, eighths}
use Rattle.surface.specs.Support.{low_end, high_end, least_under}
use Rattle.surface.specs.Spline.{cell_of}
use Rattle.surface.proofs.SplineCell.{cell-inside}
use Rattle.surface.proofs.Least.{least_under-le-3}
use Rattle.surface.proofs.Selection.{in-region}

-- the middle of a cell, where each of the four functions over it is not 0
abbrev pub middle : ℕ → ℕ
middle x = 16 * x + 8

pub middle-on : (n x : ℕ) → x < 8 * n → middle x ≤ 128 * n
middle-on n x hx = omega arith

-- along one direction: the cell x of level 3 lies under the cut support of function a of level L
abbrev pub Over : ℕ → ℕ → ℕ → ℕ → Type 0
Over n L a x = (low_end L a ≤ x) × (x < high_end n L a)

module _ (n L x : ℕ) (hx : x < 8 * n) (hL : L ≤ 3) where
  -- the cell of level L that x lies in
  abbrev cell : ℕ
  cell = cell_of n L (middle x)

  side : 0 < n
  side = omega arith

  inside : (cell * eighths L ≤ x) × (x < (cell + 1) * eighths L)
  inside = let i = cell-inside n L (middle x) side (middle-on n x hx) hL in (omega arith, omega arith)

  -- the four functions around that cell are over x
  pub around-over : (k : ℕ) → k < 4 → Over n L (cell + k) x
  around-over k hk =
      let m : k ≤ 3 = omega arith in
      let w = mul-le-mul_right (eighths L) m in
      (omega (arith, inside.0), omega (arith, inside.1))

  pub around-functions : (k : ℕ) → k < 4 → cell + k < functions n L
  around-functions k hk = let i = cell-inside n L (middle x) side (middle-on n x hx) hL in omega arith

  -- and no others are
  pub over-around : (a : ℕ) → Over n L a x → (cell ≤ a) × (a < cell + 4)
  over-around a (low, high) =
      let before : cell * eighths L < (a + 1) * eighths L = omega (arith, inside.0) in
      let after : a * eighths L < (cell + 4) * eighths L = omega (arith, inside.1) in
      let c : cell < a + 1 = lt_of_mul-lt-mul_right (eighths L) before in
      (omega arith, lt_of_mul-lt-mul_right (eighths L) after)

  pub over_functions : (a : ℕ) → Over n L a x → a < functions n L
  over_functions a o = let i = cell-inside n L (middle x) side (middle-on n x hx) hL in omega (arith, over-around a o)

-- a function over a cell has the cell's quarter square under its support
pub least-over-cell : (W H : ℕ) (lev : ℕ → ℕ → ℕ) (L a b x y : ℕ) → 0 < W → 0 < H → L ≤ 3
    → a < functions W L → b < functions H L → Over W L a x → Over H L b y
    → least_under W H lev L a b ≤ lev (x / 2) (y / 2)
least-over-cell W H lev L a b x y p_w p_h hL ha hb ou ov =
    let m = least_under W H lev L a b in
    (in-region W H lev m L a b p_w p_h (least_under-le-3 W H lev L a b) hL ha hb).0 (le_refl m) x y ou.0 ou.1 ov.0
    ov.1
