-- What the private functions compute.
use Rattle.std.specs.Prelude.{List, [], ◌∷◌, ℕ, ◌+◌, ◌*◌, ◌^◌, ◌≤◌, ◌<◌, ℤ, pos, nat_abs, ◌+ℤ◌, ◌*ℤ◌, get_or}
use Rattle.surface.specs.Spline.{piece}
use Rattle.surface.specs.Slopes.{piece_slope}
use Rattle.patch.specs.Patches.{Bounded}
use Rattle.evaluation.specs.declared.Four.{Four}

-- the four splines of a cell at r steps of n
abbrev pub splines_of : ℕ → ℕ → Four
splines_of n r =
    record { a = pos (piece 0 r n); b = pos (piece 1 r n); c = pos (piece 2 r n); d = pos (piece 3 r n) }

-- and their derivatives
abbrev pub derivatives_of : ℕ → ℕ → Four
derivatives_of n r =
    record { a = piece_slope 0 r n; b = piece_slope 1 r n; c = piece_slope 2 r n; d = piece_slope 3 r n }

-- what the splines add up to, and what the sizes of the derivatives add up to at most
abbrev pub whole : ℕ → ℕ
whole n = 6 * n ^ 3

abbrev pub steepest : ℕ → ℕ
steepest n = 9 * n ^ 2

-- numbers that add up to at most t in size
abbrev pub Weights : ℕ → Four → Type 0
Weights t w = nat_abs w.a + nat_abs w.b + nat_abs w.c + nat_abs w.d ≤ t

-- four numbers of at most m in size
abbrev pub Row : ℕ → List ℤ → Type 0
Row m x = (k : ℕ) → k < 4 → nat_abs (get_or x k (pos 0)) ≤ m

-- such weights and numbers, whose weighted sum fits
abbrev pub Fit : Four → List ℤ → Type 0
Fit w x = (t : ℕ) × (m : ℕ) × Weights t w × Row m x × (t < 2 ^ 63) × (m < 2 ^ 63) × (t * m < 2 ^ 63)

-- the weighted sum of four
unfoldable pub weighed : Four → List ℤ → ℤ
weighed w x =
    w.a *ℤ get_or x 0 (pos 0) +ℤ w.b *ℤ get_or x 1 (pos 0) +ℤ w.c *ℤ get_or x 2 (pos 0) +ℤ w.d *ℤ get_or x 3 (pos 0)

-- such weights and a patch
abbrev pub FitRows : Four → List (List ℤ) → Type 0
FitRows w p = (t : ℕ) × (m : ℕ) × Weights t w × Bounded m p × (t < 2 ^ 63) × (m < 2 ^ 63) × (t * m < 2 ^ 63)

-- the weighted sums of its rows
abbrev pub weighed_rows : Four → List (List ℤ) → List ℤ
weighed_rows w p =
    weighed w (get_or p 0 []) ∷ weighed w (get_or p 1 []) ∷ weighed w (get_or p 2 []) ∷ weighed w (get_or p 3 []) ∷ []
