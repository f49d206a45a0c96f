-- Document 01, "The sheet and its grids" and "Functions and coefficients": supports cut to the sheet, the quarter
-- squares under them, and which functions are active and how many. The regions are given by lev, the level of quarter
-- square (q, r).
use Rattle.std.specs.Prelude.{Bool, ◌&&◌, cond, ℕ, ◌+◌, ◌-◌, ◌*◌, min, leb, ltb, eqb}
use Rattle.finite.specs.Range.{least, greatest, count, total}
use Rattle.surface.specs.Sheet.{Box, eighths, steps, quarters, functions}

-- "support between L-cell edges i and i+4", "its support is cut to the sheet": the low and the high end in eighths,
-- of the function with index a = i + 3 on a side of n. (`-` stops at 0, which is the cut at the near edge.)
abbrev pub low_end : ℕ → ℕ → ℕ
low_end L a = a * eighths L - 3 * eighths L

abbrev pub high_end : ℕ → ℕ → ℕ → ℕ
high_end n L a = min ((a + 1) * eighths L) (8 * n)

-- Along one direction, quarter q (eighths 2q to 2q + 2) shares length with the cut support,
-- "also where a level 3 edge halves one".
abbrev pub shares : ℕ → ℕ → ℕ → ℕ → Bool
shares n L a q = ltb (low_end L a) (2 * q + 2) && ltb (2 * q) (high_end n L a)

-- "It holds the points strictly inside it before the cut": along one direction, at u steps.
abbrev pub holds_along : ℕ → ℕ → ℕ → Bool
holds_along L a u = ltb (a * steps L) (u + 3 * steps L) && ltb u ((a + 1) * steps L)

-- The support of function (a, b) of level L holds the point (u, v).
abbrev pub holds : ℕ → ℕ → ℕ → ℕ → ℕ → Bool
holds L a b u v = holds_along L a u && holds_along L b v

-- The least level of the quarter squares of the sheet that have the property; 3 if none has.
abbrev pub least_where : ℕ → ℕ → (ℕ → ℕ → ℕ) → (ℕ → ℕ → Bool) → ℕ
least_where W H lev p = least 3 (quarters W) (λ q. least 3 (quarters H) (λ r. cond (p q r) (lev q r) 3))

-- The greatest level of those that have it; 0 if none has.
abbrev pub greatest_where : ℕ → ℕ → (ℕ → ℕ → ℕ) → (ℕ → ℕ → Bool) → ℕ
greatest_where W H lev p = greatest (quarters W) (λ q. greatest (quarters H) (λ r. cond (p q r) (lev q r) 0))

-- "Under a support lie all quarter squares that share area with it": the least level under the cut support.
unfoldable pub least_under : ℕ → ℕ → (ℕ → ℕ → ℕ) → ℕ → ℕ → ℕ → ℕ
least_under W H lev L a b = least_where W H lev (λ q r. shares W L a q && shares H L b r)

-- "A function of level L is active exactly when the least level under its cut support is L."
abbrev pub active : ℕ → ℕ → (ℕ → ℕ → ℕ) → ℕ → ℕ → ℕ → Bool
active W H lev L a b = eqb (least_under W H lev L a b) L

-- How many functions of level L are active: row by row, and those before place (a, b) in slice order.
unfoldable pub active_in_row : ℕ → ℕ → (ℕ → ℕ → ℕ) → ℕ → ℕ → ℕ
active_in_row W H lev L b = count (functions W L) (λ a. active W H lev L a b)

unfoldable pub active_count : ℕ → ℕ → (ℕ → ℕ → ℕ) → ℕ → ℕ
active_count W H lev L = total (functions H L) (λ b. active_in_row W H lev L b)

unfoldable pub active_before : ℕ → ℕ → (ℕ → ℕ → ℕ) → ℕ → ℕ → ℕ → ℕ
active_before W H lev L a b =
    total b (λ r. active_in_row W H lev L r) + count a (λ c. active W H lev L c b)

-- "the region of level L is all quarter squares with level at least L": the cut support lies in it.
abbrev pub in_region : ℕ → ℕ → (ℕ → ℕ → ℕ) → ℕ → ℕ → ℕ → Bool
in_region W H lev L a b = leb L (least_under W H lev L a b)

-- Quarter square (q, r) is in the box.
abbrev pub in_box : Box → ℕ → ℕ → Bool
in_box b q r = leb b.u0 q && ltb q b.u1 && (leb b.v0 r && ltb r b.v1)
