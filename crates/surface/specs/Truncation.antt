-- Document 01, "Functions and coefficients": the two-scale relation, truncated functions, and the exact reading. A
-- level L function's value at a point is a numerator over 36×(steps L)⁶. One level finer that is 64 times less, which
-- is the "over 8, in each direction" of the weights, so the relation holds of the numerators with the bare weights.
use Rattle.std.specs.Prelude.{cond, [], ◌∷◌, ℕ, zero, suc, ◌+◌, ◌-◌, ◌*◌, ◌^◌, ℤ, pos, ◌*ℤ◌, leb, get_or}
use Rattle.finite.specs.Range.{sum, sum2}
use Rattle.surface.specs.Sheet.{functions}
use Rattle.surface.specs.Support.{active, in_region}
use Rattle.surface.specs.Spline.{spline_at}

-- "Function (i) of level L is the sum of functions 2i to 2i+4 of level L+1 with weights 1, 4, 6, 4, 1 over 8": the
-- weight of the child with index c in the parent with index a, over 8. (i = a − 3, so the k-th child has c + 3 = 2a +
-- k.)
unfoldable pub weight : ℕ → ℕ → ℕ
weight a c = cond (leb (2 * a) (c + 3)) (get_or (1 ∷ 4 ∷ 6 ∷ 4 ∷ 1 ∷ []) (c + 3 - 2 * a) 0) 0

-- "in each direction"
abbrev pub weight2 : ℕ → ℕ → ℕ → ℕ → ℤ
weight2 a b c d = pos (weight a c * weight b d)

-- A function (a, b) of level L at the point (u, v), before truncation: "the product of two uniform cubic B-splines".
abbrev pub value_at : ℕ → ℕ → ℕ → ℕ → ℕ → ℕ → ℕ → ℤ
value_at W H u v L a b = pos (spline_at W L a u * spline_at H L b v)

-- The function (a, b) of level L truncated, with n levels finer than L, where f has the functions before truncation:
-- their values at a point, or for a slope their derivatives there. "Truncation drops those terms whose cut support lies
-- in the region of level L+1, and is repeated for every finer level." "Terms that vanish on the sheet drop out": the
-- sum is over the functions of level L+1.
unfoldable pub truncation : ℕ → ℕ → (ℕ → ℕ → ℕ) → (ℕ → ℕ → ℕ → ℤ) → ℕ → ℕ → ℕ → ℕ → ℤ
truncation W H lev f zero L a b = f L a b
truncation W H lev f (suc n) L a b =
    sum2 (functions W (suc L)) (functions H (suc L)) λ c d.
    weight2 a b c d *ℤ cond (in_region W H lev (suc L) c d) (pos 0) (truncation W H lev f n (suc L) c d)

-- The truncated function (a, b) of level L at (u, v).
abbrev pub truncated : ℕ → ℕ → (ℕ → ℕ → ℕ) → ℕ → ℕ → ℕ → ℕ → ℕ → ℕ → ℤ
truncated W H lev u v n L a b = truncation W H lev (value_at W H u v) n L a b

-- Level L's active coefficients times their truncated functions.
abbrev pub level_sum : ℕ → ℕ → (ℕ → ℕ → ℕ) → (ℕ → ℕ → ℕ → ℤ) → (ℕ → ℕ → ℕ → ℤ) → ℕ → ℤ
level_sum W H lev coef f L =
    sum2 (functions W L) (functions H L) λ a b.
    cond (active W H lev L a b) (coef L a b *ℤ truncation W H lev f (3 - L) L a b) (pos 0)

-- What "the active coefficients times their truncated functions add up to".
unfoldable pub active_sum : ℕ → ℕ → (ℕ → ℕ → ℕ) → (ℕ → ℕ → ℕ → ℤ) → (ℕ → ℕ → ℕ → ℤ) → ℤ
active_sum W H lev coef f = sum 4 (λ L. level_sum W H lev coef f L)

-- "The exact reading at a point is the fraction that the active coefficients times their truncated functions add up to
-- there": its numerator over D. coef L a b counts 1/64^L watt.
abbrev pub reading : ℕ → ℕ → (ℕ → ℕ → ℕ) → (ℕ → ℕ → ℕ → ℤ) → ℕ → ℕ → ℤ
reading W H lev coef u v = active_sum W H lev coef (value_at W H u v)

-- "D = 36×2^42 = 158,329,674,399,744"
abbrev pub D : ℕ
D = 36 * 2 ^ 42
