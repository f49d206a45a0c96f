-- The four polynomials of a cell without subtraction: with s = r + q, each is a sum of monomials in r and q.
use mathlib.Core.Path.{◌≡◌}
use Prim.Native.Nat.{ℕ, suc, ◌+◌, ◌-◌, ◌*◌, ◌^◌, ◌≤◌}
use native.Mathlib.Nat.{pow-suc, pow-zero, one-mul, add-sub_cancel_left}
use native.Mathlib.Omega.{arith}
use Rattle.surface.specs.Spline.{piece}

-- powers as products, which omega multiplies out
pub square : (x : ℕ) → x ^ 2 ≡ x * x
square x = rw (pow-suc x 1, pow-suc x 0, pow-zero, one-mul)

pub cube : (x : ℕ) → x ^ 3 ≡ x * x * x
cube x = rw (pow-suc x 2, square)

pub piece-0 : (r q : ℕ) → piece 0 r (r + q) ≡ q * q * q
unfolding piece
piece-0 r q = simp (cube, add-sub_cancel_left)

pub piece-1 : (r q : ℕ) → piece 1 r (r + q) ≡ r * r * r + 6 * (r * r * q) + 12 * (r * q * q) + 4 * (q * q * q)
unfolding piece
piece-1 r q = simp (cube, square) (omega arith)

pub piece-2 : (r q : ℕ) → piece 2 r (r + q) ≡ 4 * (r * r * r) + 12 * (r * r * q) + 6 * (r * q * q) + q * q * q
unfolding piece
piece-2 r q = simp (cube, square) (omega arith)

pub piece-3 : (r q : ℕ) → piece 3 r (r + q) ≡ r * r * r
unfolding piece
piece-3 r q = simp cube

-- to write the pieces of a cell as sums of monomials
pub ruleset pieces = (piece-0, piece-1, piece-2, piece-3)

pub piece-far : (k r s : ℕ) → 4 ≤ k → piece k r s ≡ 0
unfolding piece
piece-far k r s h =
    let e : k ≡ suc (suc (suc (suc (k - 4)))) = omega arith in
    rw e

-- the four add up to 6s³
pub piece-sum :
    (r q : ℕ)
    → piece 0 r (r + q) + piece 1 r (r + q) + piece 2 r (r + q) + piece 3 r (r + q) ≡ 6 * (r + q) ^ 3
piece-sum r q = simp (pieces, cube) (omega arith)
