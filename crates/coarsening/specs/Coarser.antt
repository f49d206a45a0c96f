-- The numbers of a level of a grid from those of the level after it.
use Rattle.std.specs.Prelude.{◌≡◌, Option, MatchOption, Bool, true, false, cond, List, ℕ, zero, suc, ◌+◌, ◌*◌, ◌/◌, ◌%◌, ◌≤◌, ◌<◌, ℤ, pos, nat_abs, eqb, length, get_or}
use Rattle.surface.specs.Sheet.{functions, quarters}
use Rattle.surface.specs.Patch.{subdivided}
use Rattle.surface.specs.Table.{places, limit}
use Rattle.surface.specs.Fields.{number_at}
use Rattle.patch.specs.Patches.{entry, Bounded}
use Rattle.coarsening.specs.declared.find.Square.{Square}

-- ---- cells and quarters

-- the cell of a level that quarter q lies in, at level 3 the first of the two in it
abbrev pub cell_at : ℕ → ℕ → ℕ
cell_at zero q = q / 4
cell_at (suc zero) q = q / 2
cell_at (suc (suc zero)) q = q
cell_at (suc (suc (suc L))) q = 2 * q

-- the quarters along a cell's side, up to level 2
abbrev pub side_at : ℕ → ℕ
side_at zero = 4
side_at (suc zero) = 2
side_at (suc (suc L)) = 1

-- function a is one of the four around the cell of level L that quarter q lies in
abbrev pub Around : ℕ → ℕ → ℕ → Type 0
Around L q a = (cell_at L q ≤ a) × (a < cell_at L q + 4)

-- what is found in cell (x, y) of level L: a quarter square of level at most L, or that there is none
abbrev pub Found : ℕ → ℕ → ℕ → (ℕ → ℕ → ℕ) → Option Square → Type 0
Found L x y lev found =
    MatchOption found ((q r : ℕ) → cell_at L q ≡ x → cell_at L r ≡ y → L < lev q r)
    (λ s. (cell_at L s.q ≡ x) × (cell_at L s.r ≡ y) × (lev s.q s.r ≤ L))

-- ---- the finer numbers

-- those of level 3 stand in the grid's body, the others in a slice
abbrev pub number_of : ℕ → List ℕ → List ℤ → ℕ → ℤ
number_of L body fine p = cond (eqb L 2) (number_at body p) (get_or fine p (pos 0))

-- the first n numbers stand there
abbrev pub Stand : ℕ → List ℕ → List ℤ → ℕ → Type 0
Stand L body fine n = (L ≡ 2 → 5 * n ≤ length body) × ((L ≡ 2 → ⊥) → n ≤ length fine)

-- that of function (a, b) of level L + 1, in rows of n
abbrev pub finer : ℕ → List ℕ → List ℤ → ℕ → ℕ → ℕ → ℤ
finer L body fine n a b = number_of L body fine (b * n + a)

-- they are within the limit of level 3
abbrev pub FinerFit : ℕ → ℕ → ℕ → List ℕ → List ℤ → Type 0
FinerFit W H L body fine =
    (a b : ℕ) → a < functions W (L + 1) → b < functions H (L + 1)
    → nat_abs (finer L body fine (functions W (L + 1)) a b) ≤ 8388608000

-- ---- a step back

-- four numbers put from a place on
pub record PutFour (at : ℕ) (row before after : List ℤ) : Type 0 where
  pub size : length after ≡ length before
  pub inside : (k : ℕ) → k < 4 → get_or after (at + k) (pos 0) ≡ get_or row k (pos 0)
  pub outside : (p : ℕ) → (at ≤ p → p < at + 4 → ⊥) → get_or after p (pos 0) ≡ get_or before p (pos 0)

-- a test that the numbers of a patch are within m
abbrev pub Tested : ℕ → List (List ℤ) → Bool → Type 0
Tested m patch t =
    (t ≡ true → Bounded m patch)
    × (t ≡ false → (l : ℕ) × (k : ℕ) × (l < 4) × (k < 4) × (m < nat_abs (entry patch l k)))

-- a patch put around a cell of a level in rows of n: row j of the patch is its j-th along v
pub record PutAt (n x y : ℕ) (patch : List (List ℤ)) (before after : List ℤ) : Type 0 where
  pub size : length after ≡ length before
  pub inside : (i j : ℕ) → i < 4 → j < 4 → get_or after ((y + j) * n + (x + i)) (pos 0) ≡ entry patch j i
  pub outside : (a b : ℕ) → a < n → (x ≤ a → a < x + 4 → y ≤ b → b < y + 4 → ⊥)
      → get_or after (b * n + a) (pos 0) ≡ get_or before (b * n + a) (pos 0)

-- the sixteen numbers of level L + 1 around the cell of quarter square (q, r) are subdivided from numbers C of level L
abbrev pub Step : ℕ → (ℕ → ℕ → ℤ) → (ℕ → ℕ → ℤ) → ℕ → ℕ → Type 0
Step L F C q r =
    (k l : ℕ) → k < 4 → l < 4
    → F (cell_at (suc L) q + k) (cell_at (suc L) r + l)
    ≡ subdivided (cell_at (suc L) q % 2) (cell_at (suc L) r % 2) (λ i j. C (cell_at L q + i) (cell_at L r + j)) k l

-- so are all those around squares of level at most L
abbrev pub Coarser : ℕ → ℕ → (ℕ → ℕ → ℕ) → ℕ → (ℕ → ℕ → ℤ) → (ℕ → ℕ → ℤ) → Type 0
Coarser W H lev L F C =
    (q r : ℕ) → q < quarters W → r < quarters H → lev q r ≤ L → Step L F C q r

-- what undoing the step at (q, r) leaves of a level's numbers: a patch put around the cell, within the level's limit
pub record Undone (W L q r : ℕ) (F : ℕ → ℕ → ℤ) (before after : List ℤ) : Type 0 where
  pub patch : List (List ℤ)
  pub put : PutAt (functions W L) (cell_at L q) (cell_at L r) patch before after
  pub within : Bounded (limit L) patch
  pub found : (C : ℕ → ℕ → ℤ) → Step L F C q r → (i j : ℕ) → i < 4 → j < 4
      → entry patch j i ≡ C (cell_at L q + i) (cell_at L r + j)

-- some number of C is past the limit of its level
abbrev pub Past : ℕ → ℕ → ℕ → (ℕ → ℕ → ℤ) → Type 0
Past W H L C =
    (a : ℕ) × (b : ℕ) × (a < functions W L) × (b < functions H L) × (limit L < nat_abs (C a b))

-- The numbers of level L in a slice: within their limit, 0 where no square of level at most L is under a function, and
-- around those squares that are done what F comes from, if it comes from anything.
pub record Backed (W H : ℕ) (lev : ℕ → ℕ → ℕ) (L : ℕ) (F : ℕ → ℕ → ℤ) (done : ℕ → ℕ → Type 0) (coarse : List ℤ)
    : Type 0 where
  pub size : length coarse ≡ places W H L
  pub small : (a b : ℕ) → a < functions W L → b < functions H L
      → nat_abs (get_or coarse (b * functions W L + a) (pos 0)) ≤ limit L
  pub unreached : (a b : ℕ) → a < functions W L → b < functions H L
      → ((q r : ℕ) → q < quarters W → r < quarters H → lev q r ≤ L → Around L q a → Around L r b → ⊥)
      → get_or coarse (b * functions W L + a) (pos 0) ≡ pos 0
  pub found : (C : ℕ → ℕ → ℤ) → Coarser W H lev L F C → (q r : ℕ) → q < quarters W → r < quarters H → done q r
      → lev q r ≤ L → (a b : ℕ) → Around L q a → Around L r b
      → get_or coarse (b * functions W L + a) (pos 0) ≡ C a b

-- all squares are done
abbrev pub Whole : ℕ → ℕ → Type 0
Whole q r = Unit {0}
