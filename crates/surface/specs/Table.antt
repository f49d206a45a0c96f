-- Document 01, "Functions and coefficients" and "Calls and what they decline": the places of the coefficients in the
-- lent slice, and when a table (a sheet, a tree and a coefficient slice) is acceptable.
use Rattle.std.specs.Prelude.{◌≡◌, Bool, true, false, not, ◌&&◌, ◌||◌, List, [], ◌∷◌, ◌++◌, ℕ, zero, suc, ◌+◌, ◌*◌, ◌^◌, ℤ, pos, nat_abs, leb, eqb, length, get_or}
use Rattle.finite.specs.Range.{every, every2, grid}
use Rattle.surface.specs.Sheet.{good_side, functions}
use Rattle.surface.specs.Quadtree.{Quadtree, leaf, Parsed, none, found, parse, well_formed, level_at}
use Rattle.surface.specs.Support.{active}
use Rattle.surface.specs.Truncation.{active_sum, reading}

-- ---- refusal numbers

-- A cause's number where it applies; 0 stands for no cause.
abbrev pub cause : ℕ → Bool → ℕ
cause n true = n
cause n false = 0

-- "The lowest number that applies is given, and none when nothing applies": the first that is not 0.
infixr 20 ◌or_else◌
abbrev pub ◌or_else◌ : ℕ → ℕ → ℕ
zero or_else m = m
suc n or_else m = suc n

-- ---- the tree of a slice

-- "The tree covers 32 by 32 quarters from the sheet's corner": its square has the side 2^5.
abbrev pub tree_of : List ℕ → Parsed
tree_of t = parse 5 t

-- "A lent tree ends with its slice": nothing follows it.
abbrev pub formed : ℕ → ℕ → Parsed → Bool
formed W H none = false
formed W H (found t []) = well_formed W H 5 0 0 t
formed W H (found t (b ∷ s)) = false

abbrev pub regions_of : Parsed → Quadtree
regions_of none = leaf 0
regions_of (found t s) = t

-- The level of quarter square (q, r) under the tree of a slice.
unfoldable pub levels : List ℕ → ℕ → ℕ → ℕ
levels t = level_at 5 (regions_of (tree_of t))

-- ---- the coefficients in their slice

-- "Level L has (W×2^L+3)×(H×2^L+3) places."
abbrev pub places : ℕ → ℕ → ℕ → ℕ
places W H L = functions W L * functions H L

-- "level 0 first, then 1, 2, 3": where level L's part of the slice starts, and at L = 4 the total length.
unfoldable pub start : ℕ → ℕ → ℕ → ℕ
start W H zero = 0
start W H (suc L) = start W H L + places W H L

abbrev pub slots : ℕ → ℕ → ℕ
slots W H = start W H 4

-- "in a level j rises, within a row i rises"
abbrev pub place : ℕ → ℕ → ℕ → ℕ → ℕ → ℕ
place W H L a b = start W H L + (b * functions W L + a)

-- The coefficient of function (a, b) of level L.
unfoldable pub coefficients : ℕ → ℕ → List ℤ → ℕ → ℕ → ℕ → ℤ
coefficients W H cs L a b = get_or cs (place W H L a b) (pos 0)

-- The slice that holds given coefficients: the parts of the n levels from L on, and of all four.
unfoldable pub slice_from : ℕ → ℕ → (ℕ → ℕ → ℕ → ℤ) → ℕ → ℕ → List ℤ
slice_from W H f L zero = []
slice_from W H f L (suc n) = grid (functions W L) (functions H L) (f L) ++ slice_from W H f (suc L) n

abbrev pub slice_of : ℕ → ℕ → (ℕ → ℕ → ℕ → ℤ) → List ℤ
slice_of W H f = slice_from W H f 0 4

-- "A level L coefficient is a signed whole number of 1/64^L watt, at most 32,000×64^L in size."
abbrev pub limit : ℕ → ℕ
limit L = 32000 * 64 ^ L

-- ---- acceptable tables

-- The test holds at each function of each level.
abbrev pub everywhere : ℕ → ℕ → (ℕ → ℕ → ℕ → Bool) → Bool
everywhere W H p = every 4 (λ L. every2 (functions W L) (functions H L) (λ a b. p L a b))

-- no "active coefficient past its limit"
unfoldable pub within_limits : ℕ → ℕ → (ℕ → ℕ → ℕ) → (ℕ → ℕ → ℕ → ℤ) → Bool
within_limits W H lev coef =
    everywhere W H (λ L a b. not (active W H lev L a b) || leb (nat_abs (coef L a b)) (limit L))

-- no "passive place not 0"
unfoldable pub passive_zero : ℕ → ℕ → (ℕ → ℕ → ℕ) → (ℕ → ℕ → ℕ → ℤ) → Bool
passive_zero W H lev coef = everywhere W H (λ L a b. active W H lev L a b || eqb (nat_abs (coef L a b)) 0)

-- Causes 1 and 2: "a side of 0 or above 8", "tree not of the form above".
unfoldable pub region_cause : ℕ → ℕ → List ℕ → ℕ
region_cause W H t = cause 1 (not (good_side W && good_side H)) or_else cause 2 (not (formed W H (tree_of t)))

-- Causes 1 to 5 of a table.
unfoldable pub table_cause : ℕ → ℕ → List ℕ → List ℤ → ℕ
table_cause W H t cs =
    region_cause W H t
    or_else cause 3 (not (eqb (length cs) (slots W H)))
    or_else cause 4 (not (within_limits W H (levels t) (coefficients W H cs)))
    or_else cause 5 (not (passive_zero W H (levels t) (coefficients W H cs)))

-- "it is acceptable when none of 1 to 5 applies to it"
abbrev pub Acceptable : ℕ → ℕ → List ℕ → List ℤ → Type 0
Acceptable W H t cs = table_cause W H t cs ≡ 0

-- What a table's active coefficients times their truncated functions add up to.
abbrev pub table_sum : ℕ → ℕ → List ℕ → List ℤ → (ℕ → ℕ → ℕ → ℤ) → ℤ
table_sum W H t cs f = active_sum W H (levels t) (coefficients W H cs) f

-- The exact reading of a table at a point, as a numerator over D.
abbrev pub table_reading : ℕ → ℕ → List ℕ → List ℤ → ℕ → ℕ → ℤ
table_reading W H t cs u v = reading W H (levels t) (coefficients W H cs) u v
