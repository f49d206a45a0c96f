-- The two-scale relation of the splines at a point, and the support of a spline that is not zero there.
use mathlib.Core.Path.{◌≡◌, refl, ap, subst, fun_ext}
use mathlib.Core.Logic.{◌⊎◌, inl, inr}
use mathlib.Core.Bool.{Bool, true, false, cond}
use Prim.Native.Nat.{ℕ, zero, suc, ◌+◌, ◌-◌, ◌*◌, ◌^◌, ◌≤◌, ◌<◌}
use native.Mathlib.Nat.{sub_self, sub-zero}
use native.Mathlib.Omega.{arith}
use lib.Dec.{leb}
use lib.IntN.{ℤ, pos, nat_abs, ◌*ℤ◌}
use Rattle.finite.specs.Range.{sum}
use Rattle.finite.proofs.Four.{each}
use Rattle.surface.specs.Sheet.{functions, steps}
use Rattle.surface.specs.Spline.{cell_of, piece, spline_at}
use Rattle.surface.specs.Support.{holds_along}
use Rattle.surface.specs.Truncation.{weight}
use Rattle.surface.proofs.SplinePiece.{pieces, piece-far, square, cube}
use Rattle.surface.proofs.SplineWeight.{eighths-step}
use Rattle.surface.proofs.Along.{Along, Pieces, piece_at, pieces-along}

abbrev pub value : ℕ → ℕ → ℕ → ℤ
value k r s = pos (piece k r s)

-- a piece of a cell on its near half, where the finer cell has the same start
near-half : (k r q : ℕ) → k < 4
    → value k r (r + (r + 2 * q)) ≡ sum 4 (λ j. pos (weight k j) *ℤ value j r (r + q))
unfolding weight sum
near-half k r q =
    each (λ k. value k r (r + (r + 2 * q)) ≡ sum 4 (λ j. pos (weight k j) *ℤ value j r (r + q)))
    (ap pos (simp pieces (omega arith)))
    (ap pos (simp pieces (omega arith)))
    (ap pos (simp pieces (omega arith)))
    (ap pos (simp pieces (omega arith)))
    k

-- and on its far half, where it starts r + q later
far-half : (k r q : ℕ) → k < 4
    → value k (r + q + r) (r + q + r + q) ≡ sum 4 (λ j. pos (weight k (1 + j)) *ℤ value j r (r + q))
unfolding weight sum
far-half k r q =
    each (λ k. value k (r + q + r) (r + q + r + q) ≡ sum 4 (λ j. pos (weight k (1 + j)) *ℤ value j r (r + q)))
    (ap pos (simp pieces (omega arith)))
    (ap pos (simp pieces (omega arith)))
    (ap pos (simp pieces (omega arith)))
    (ap pos (simp pieces (omega arith)))
    k

-- at the end of a cell a spline has the value that it has at the start of the next
at-knot : (k s : ℕ) → value (suc k) s s ≡ value k 0 s
unfolding piece
at-knot zero s = ap pos (simp (cube, square, sub-zero) (omega arith))
at-knot (suc zero) s = ap pos (simp (cube, square) (omega arith))
at-knot (suc (suc zero)) s = ap pos (simp (cube, square) (omega arith))
at-knot (suc (suc (suc zero))) s = refl
at-knot (suc (suc (suc (suc k)))) s = refl

pub values : Pieces value
unfolding piece
values =
    record {
      none = λ k r s h. ap pos (piece-far k r s h);
      near-half = near-half;
      far-half = far-half;
      first = λ s. refl;
      last = λ s. ap pos (simp (cube, sub_self));
      at-knot = at-knot;
    }

-- the splines are such pieces
pub is-piece : (n L a u : ℕ) → piece_at value n L a u ≡ pos (spline_at n L a u)
unfolding spline_at
is-piece n L a u = go (leb (cell_of n L u) a) (piece (a - cell_of n L u) (u - cell_of n L u * steps L) (steps L))
  where
    go : (t : Bool) (x : ℕ) → cond t (pos x) (pos 0) ≡ pos (cond t x 0)
    go true x = refl
    go false x = refl

module _ (n u : ℕ) (p : 0 < n) (h : u ≤ 128 * n) where
  pub values-along : Along n u (λ L a. pos (spline_at n L a u))
  values-along =
      subst (Along n u) (fun_ext (λ L. fun_ext (λ a. is-piece n L a u))) (pieces-along value values n u p h)

-- the two-scale relation as document 01 states it: over all functions of the finer level
pub two-scale-sum : (n L a u : ℕ) → 0 < n → L < 3 → u ≤ 128 * n
    → pos (spline_at n L a u) ≡ sum (functions n (suc L)) (λ c. pos (weight a c * spline_at n (suc L) c u))
two-scale-sum n L a u p l h = (values-along n u p h).two-scale L a l

-- a spline that is not zero at u has u strictly inside its support before the cut
pub spline-holds :
    (n L a u : ℕ) → 0 < n → L ≤ 3 → u ≤ 128 * n → 0 < spline_at n L a u → holds_along L a u ≡ true
spline-holds n L a u p l b h = go ((values-along n u p b).inside L a l)
  where
    go : (pos (spline_at n L a u) ≡ pos 0) ⊎ (holds_along L a u ≡ true) → holds_along L a u ≡ true
    go (inl e) = absurd (let none = ap nat_abs e in omega arith)
    go (inr t) = t

-- "over 8": a level's whole is eight of the next level's
pub whole-step : (L : ℕ) → L < 3 → 6 * steps L ^ 3 ≡ 8 * (6 * steps (suc L) ^ 3)
whole-step L l =
    let x = steps (suc L) in
    let e : steps L ≡ 2 * x = omega (arith, eighths-step L l) in
    rw (e, cube (2 * x), cube x) (omega arith)
