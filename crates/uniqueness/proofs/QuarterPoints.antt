-- Five points of a quarter in each direction, 8 steps apart, its edges included, and the five functions of level 3 over
-- its two cells.
use mathlib.Core.Path.{◌≡◌, sym, ap, ◌∙◌}
use Prim.Native.Nat.{ℕ, ◌+◌, ◌-◌, ◌*◌, ◌/◌, ◌≤◌, ◌<◌, min}
use native.Mathlib.Decide.{dec_le}
use native.Mathlib.Omega.{arith}
use lib.Dec.{lit≤}
use lib.IntN.{ℤ, pos, ◌*ℤ◌, zero-*ℤ}
use borrow.Author.Tests.{le-leb, lt-leb}
use Rattle.finite.specs.Range.{sum}
use Rattle.finite.proofs.Sum.{sum-cong, sum-window}
use Rattle.surface.specs.Sheet.{functions, eighths}
use Rattle.surface.specs.Spline.{spline_at}
use Rattle.surface.proofs.Along.{piece_in, cells_meet}
use Rattle.surface.proofs.SplinePiece.{piece-far}
use Rattle.surface.proofs.SplineTwoScale.{value, values, is-piece}
use Rattle.uniqueness.proofs.Points.{Points}

abbrev pub quarter_point : ℕ → ℕ → ℕ
quarter_point q i = 32 * q + 8 * i

-- the cell of the quarter that has the point, in it or on its edge
abbrev half : ℕ → ℕ
half i = min (i / 2) 1

-- the five splines at the five points
abbrev pub collocation : ℕ → ℕ → ℤ
collocation i k = piece_in value 3 (half i) k (quarter_point 0 i)

module _ (n q i : ℕ) (hq : q < 4 * n) (hi : i < 5) where
  point-on : quarter_point q i ≤ 128 * n
  point-on = omega arith

  abbrev cell : ℕ
  cell = 2 * q + half i

  in_cell : (a : ℕ) → pos (spline_at n 3 a (quarter_point q i)) ≡ piece_in value 3 cell a (quarter_point q i)
  unfolding eighths
  in_cell a =
      sym (cells_meet value values n 3 a (quarter_point q i) cell (omega arith) point-on (lit≤ tt) (omega arith)
      (omega arith)
      ∙ is-piece n 3 a (quarter_point q i))

  before : (a : ℕ) → a < 2 * q → pos (spline_at n 3 a (quarter_point q i)) ≡ pos 0
  before a h = in_cell a ∙ rw (lt-leb cell a (omega arith))

  after : (a : ℕ) → 2 * q + 5 ≤ a → pos (spline_at n 3 a (quarter_point q i)) ≡ pos 0
  after a h = in_cell a ∙ rw (le-leb cell a (omega arith)) (ap pos (piece-far (a - cell) _ _ (omega arith)))

  at : (k : ℕ) → pos (spline_at n 3 (2 * q + k) (quarter_point q i)) ≡ collocation i k
  unfolding eighths
  at k = in_cell (2 * q + k) ∙ go (dec_le (half i) k)
    where
      into : quarter_point q i - cell * 16 ≡ quarter_point 0 i - half i * 16
      into = omega arith

      go : Dec (half i ≤ k) → piece_in value 3 cell (2 * q + k) (quarter_point q i) ≡ collocation i k
      go (yes h) =
          let e : 2 * q + k - cell ≡ k - half i = omega arith in
          rw (le-leb cell (2 * q + k) (omega arith), le-leb (half i) k h, e, into)
      go (no h) = rw (lt-leb cell (2 * q + k) (omega arith), lt-leb (half i) k (omega arith))

  -- only the five over the quarter are in a sum at its points
  quarter-window : (f : ℕ → ℤ)
      → sum (functions n 3) (λ a. pos (spline_at n 3 a (quarter_point q i)) *ℤ f a)
      ≡ sum 5 (λ k. collocation i k *ℤ f (2 * q + k))
  quarter-window f =
      sum-window (functions n 3) (2 * q) 5 (λ a. pos (spline_at n 3 a (quarter_point q i)) *ℤ f a) (omega arith)
      (λ a h. ap (λ t. t *ℤ f a) (before a h) ∙ zero-*ℤ (f a))
      (λ a h. ap (λ t. t *ℤ f a) (after a h) ∙ zero-*ℤ (f a))
      ∙ sum-cong 5 (λ k. pos (spline_at n 3 (2 * q + k) (quarter_point q i)) *ℤ f (2 * q + k))
      (λ k. collocation i k *ℤ f (2 * q + k)) (λ k _. ap (λ t. t *ℤ f (2 * q + k)) (at k))

pub quarter-points : (n q : ℕ) → q < 4 * n → Points n 5 (2 * q) (quarter_point q) collocation
quarter-points n q hq =
    record { side = omega arith; on = λ i hi. point-on n q i hq hi; window = λ i hi. quarter-window n q i hq hi }
