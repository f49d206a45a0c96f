-- Document 01, "The sheet and its grids": the uniform cubic B-splines of a level at a point, as whole numerators.
-- With s steps to a cell and the point r steps into it, t = r/s, and each value is its numerator over 6×s³.
use Rattle.std.specs.Prelude.{cond, [], ◌∷◌, ℕ, ◌+◌, ◌-◌, ◌*◌, ◌/◌, ◌^◌, min, leb, get_or}
use Rattle.surface.specs.Sheet.{cells, steps}

-- The level L cell that holds the point, along a side of n; "far edges included. There the last cell's polynomial is
-- used."
unfoldable pub cell_of : ℕ → ℕ → ℕ → ℕ
cell_of n L u = min (u / steps L) (cells n L - 1)

-- "On a cell with 0 ≤ t ≤ 1 the four splines are (1−t)³, 3t³−6t²+4, −3t³+3t²+3t+1 and t³, each over 6", times 6s³.
-- The k-th is that of the function whose support starts 3 - k cells before this cell; others are 0 here.
unfoldable pub piece : ℕ → ℕ → ℕ → ℕ
piece k r s =
    get_or
    ((s - r) ^ 3
    ∷ (3 * r ^ 3 + 4 * s ^ 3 - 6 * (r ^ 2 * s))
    ∷ (3 * (r ^ 2 * s) + 3 * (r * s ^ 2) + s ^ 3 - 3 * r ^ 3)
    ∷ r ^ 3
    ∷ [])
    k
    0

-- The spline with index a = i + 3 of level L at u, along a side of n, as a numerator over 6×(steps L)³.
unfoldable pub spline_at : ℕ → ℕ → ℕ → ℕ → ℕ
spline_at n L a u =
    let c = cell_of n L u in
    cond (leb c a) (piece (a - c) (u - c * steps L) (steps L)) 0
