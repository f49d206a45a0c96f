-- Document 01, "Functions and coefficients": what an insertion does to the regions and to the coefficients.
use Rattle.std.specs.Prelude.{cond, ℕ, zero, suc, max, ℤ, pos, ◌*ℤ◌}
use Rattle.finite.specs.Range.{sum2}
use Rattle.surface.specs.Sheet.{Box, functions}
use Rattle.surface.specs.Support.{active, in_region, in_box}
use Rattle.surface.specs.Truncation.{weight2}

-- "Insertion gives each square in the box the greater of its old level and the one named."
abbrev pub raised : (ℕ → ℕ → ℕ) → Box → ℕ → ℕ → ℕ → ℕ
raised lev box n q r = cond (in_box box q r) (max (lev q r) n) (lev q r)

-- "let the carried value of a function be its own coefficient when active, and the two-scale sum of its parents'
-- carried values when the least old level under it is below its own". In units of 1/64^L watt the weights over 8 need
-- no division. Where the least level is above the function's own the document gives no value; this one takes the
-- coefficient there too. No newly active function is such a one, since its least level was at most its own.
unfoldable pub carried : ℕ → ℕ → (ℕ → ℕ → ℕ) → (ℕ → ℕ → ℕ → ℤ) → ℕ → ℕ → ℕ → ℤ
carried W H lev coef zero a b = coef 0 a b
carried W H lev coef (suc L) a b =
    cond
    (in_region W H lev (suc L) a b)
    (coef (suc L) a b)
    (sum2 (functions W L) (functions H L) (λ c d. weight2 c d a b *ℤ carried W H lev coef L c d))

-- "Newly active functions take it"; "passive places hold 0": the coefficients after the levels rose from old to new.
abbrev pub carried_over : ℕ → ℕ → (ℕ → ℕ → ℕ) → (ℕ → ℕ → ℕ) → (ℕ → ℕ → ℕ → ℤ) → ℕ → ℕ → ℕ → ℤ
carried_over W H old new coef L a b = cond (active W H new L a b) (carried W H old coef L a b) (pos 0)
