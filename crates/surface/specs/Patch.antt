-- Document 01, "Readings": "The work is on a four by four patch of coefficients, subdivided from level to level"
-- (algorithm EVAL_THB of source document 003). That it gives the exact reading is the theorem `patch-reading`.
use Rattle.std.specs.Prelude.{cond, [], ◌∷◌, ℕ, zero, suc, ◌+◌, ◌-◌, ◌*◌, ◌/◌, ◌%◌, ℤ, pos, ◌*ℤ◌, eqb, get_or}
use Rattle.finite.specs.Range.{sum2}
use Rattle.surface.specs.Sheet.{steps, quarter_box}
use Rattle.surface.specs.Support.{greatest_where, in_region, in_box}
use Rattle.surface.specs.Spline.{cell_of, piece}

-- The weights 1, 4, 6, 4, 1 as a child c sees them: its parents are c/2, c/2 + 1, c/2 + 2.
abbrev pub stencil : ℕ → ℕ → ℕ
stencil c i = cond (eqb (c % 2) 0) (get_or (4 ∷ 4 ∷ 0 ∷ []) i 0) (get_or (1 ∷ 6 ∷ 1 ∷ []) i 0)

-- One step of subdivision, onto the child cell in half g along u and half h along v: entry (k, l) of the finer patch.
abbrev pub subdivided : ℕ → ℕ → (ℕ → ℕ → ℤ) → ℕ → ℕ → ℤ
subdivided g h p k l =
    sum2 3 3 λ i j. pos (stencil (g + k) i * stencil (h + l) j) *ℤ p ((g + k) / 2 + i) ((h + l) / 2 + j)

-- The patch of level L at (u, v): the sixteen functions of level L that do not vanish on the point's cell. An entry
-- whose cut support lies in the region of its level is its own coefficient, any other is subdivided from the coarser
-- patch. (EVAL_THB overwrites active entries alone. An entry whose support lies in a finer region is passive: here it
-- becomes 0, there it keeps the subdivided value, and in both all that is subdivided from it is overwritten later.)
unfoldable pub patch : ℕ → ℕ → (ℕ → ℕ → ℕ) → (ℕ → ℕ → ℕ → ℤ) → ℕ → ℕ → ℕ → ℕ → ℕ → ℤ
patch W H lev coef u v zero k l = coef 0 (cell_of W 0 u + k) (cell_of H 0 v + l)
patch W H lev coef u v (suc L) k l =
    cond
    (in_region W H lev (suc L) (cell_of W (suc L) u + k) (cell_of H (suc L) v + l))
    (coef (suc L) (cell_of W (suc L) u + k) (cell_of H (suc L) v + l))
    (subdivided (cell_of W (suc L) u % 2) (cell_of H (suc L) v % 2) (patch W H lev coef u v L) k l)

-- The patch of level L times the sixteen splines of that level.
abbrev pub evaluated : ℕ → ℕ → (ℕ → ℕ → ℕ) → (ℕ → ℕ → ℕ → ℤ) → ℕ → ℕ → ℕ → ℤ
evaluated W H lev coef u v L =
    let r = u - cell_of W L u * steps L in
    let s = v - cell_of H L v * steps L in
    sum2 4 4 λ k l. pos (piece k r (steps L) * piece l s (steps L)) *ℤ patch W H lev coef u v L k l

-- Document 02, Four: "The reading stops subdividing at the greatest level under the quarter square holding its point".
-- That each level from there on gives the exact reading is the theorem `any-level`.
abbrev pub stop_level : ℕ → ℕ → (ℕ → ℕ → ℕ) → ℕ → ℕ → ℕ
stop_level W H lev u v = greatest_where W H lev (in_box (quarter_box W H u v))

-- The patch's evaluation at level 3.
unfoldable pub patch_reading : ℕ → ℕ → (ℕ → ℕ → ℕ) → (ℕ → ℕ → ℕ → ℤ) → ℕ → ℕ → ℤ
patch_reading W H lev coef u v = evaluated W H lev coef u v 3
