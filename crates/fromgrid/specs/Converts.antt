-- A grid by its positions, its numbers level by level, and when they are those of a table over regions.
use Rattle.std.specs.Prelude.{◌≡◌, ◌⊎◌, Bool, true, false, cond, List, ℕ, zero, suc, ◌+◌, ◌*◌, ◌≤◌, ◌<◌, ℤ, pos}
use Rattle.std.specs.Prelude.{nat_abs, length, get_or, drop, Result, Ok, Err}
use Rattle.surface.specs.Sheet.{functions}
use Rattle.surface.specs.Support.{least_under, active}
use Rattle.surface.specs.Table.{places, slots, slice_of, limit}
use Rattle.surface.specs.Calls.{Answer, refused, done, SliceMeets, length_cause}
use Rattle.surface.specs.Carry.{carried}
use Rattle.surface.specs.Fields.{Judged, declined, contains, unless, in_part, number_at, all_within}
use Rattle.surface.specs.TableFile.{Sides, end_cause}
use Rattle.surface.specs.Grid.{Grid, numbers_in, grid_field, grid_contents}
use Rattle.answers.specs.declared.Refusal.{Refusal}
use Rattle.answers.specs.declared.Sheet.{Sheet}
use Rattle.answers.specs.Refusals.{number}
use Rattle.carry.specs.Carried.{next_number}
use Rattle.coarsening.specs.Coarser.{Backed, Whole}

-- ---- a grid that was judged

-- what follows the field of the sides
abbrev pub numbers_part : ℕ → ℕ → List ℕ → Judged Grid
numbers_part W H rest =
    in_part (grid_field W H rest) λ numbers rest2.
    unless (end_cause rest2) (contains (record { W = W; H = H; numbers = numbers }))

-- the numbers stand from byte 8 to the end of the file
pub record Good (file : List ℕ) (W H : ℕ) : Type 0 where
  pub side-W : (0 < W) × (W ≤ 8)
  pub side-H : (0 < H) × (H ≤ 8)
  pub size : length file ≡ 8 + 5 * places W H 3
  pub within : all_within (limit 3) (places W H 3) (drop 8 file) ≡ true
  pub contents : grid_contents file
      ≡ contains (record { W = W; H = H; numbers = numbers_in (places W H 3) (drop 8 file) })

-- the numbers' field after that of the sides: what it holds, with nothing after it; or the refusal number
abbrev pub NumbersJudged : Result (Unit {0}) Refusal → List ℕ → ℕ → ℕ → Type 0
NumbersJudged (Ok u) file W H =
    (length file ≡ 8 + 5 * places W H 3)
    × (all_within (limit 3) (places W H 3) (drop 8 file) ≡ true)
    × (numbers_part W H (drop 5 file)
    ≡ contains (record { W = W; H = H; numbers = numbers_in (places W H 3) (drop 8 file) }))
NumbersJudged (Err e) file W H = numbers_part W H (drop 5 file) ≡ declined (number e)

abbrev pub GridJudged : Result Sheet Refusal → List ℕ → Type 0
GridJudged (Ok s) file = Good file s.w s.h
GridJudged (Err e) file = grid_contents file ≡ declined (number e)

-- ---- numbers of all levels

-- those of levels 0 to 2 in slices, those of level 3 in the grid's body
abbrev pub number_in : ℕ → List ℕ → List ℤ → List ℤ → List ℤ → ℕ → ℕ → ℕ → ℤ
number_in W body l₀ l₁ l₂ zero a b = get_or l₀ (b * functions W 0 + a) (pos 0)
number_in W body l₀ l₁ l₂ (suc zero) a b = get_or l₁ (b * functions W 1 + a) (pos 0)
number_in W body l₀ l₁ l₂ (suc (suc zero)) a b = get_or l₂ (b * functions W 2 + a) (pos 0)
number_in W body l₀ l₁ l₂ (suc (suc (suc L))) a b = number_at body (b * functions W 3 + a)

-- the numbers of one level in a slice, in rows of n
abbrev pub in_rows : ℕ → List ℤ → ℕ → ℕ → ℤ
in_rows n s a b = get_or s (b * n + a) (pos 0)

-- the coefficients that they give: 0 at passive places
abbrev pub active_in : ℕ → ℕ → (ℕ → ℕ → ℕ) → (ℕ → ℕ → ℕ → ℤ) → ℕ → ℕ → ℕ → ℤ
active_in W H lev N L a b = cond (active W H lev L a b) (N L a b) (pos 0)

-- The number of function (a, b) of the finer level is its own, or what the numbers of the coarser level give.
abbrev pub AgreesAt : ℕ → ℕ → (ℕ → ℕ → ℕ) → ℕ → (ℕ → ℕ → ℤ) → (ℕ → ℕ → ℤ) → ℕ → ℕ → Type 0
AgreesAt W H lev L coarse fine a b = fine a b ≡ next_number W H lev L coarse (fine a b) a b

-- a test that row b does
abbrev pub RowTold : ℕ → ℕ → (ℕ → ℕ → ℕ) → ℕ → (ℕ → ℕ → ℤ) → (ℕ → ℕ → ℤ) → ℕ → Bool → Type 0
RowTold W H lev L coarse fine b t =
    (t ≡ true → (a : ℕ) → a < functions W (L + 1) → AgreesAt W H lev L coarse fine a b)
    × (t ≡ false → ((a : ℕ) → a < functions W (L + 1) → AgreesAt W H lev L coarse fine a b) → ⊥)

-- all rows do
abbrev pub Agrees : ℕ → ℕ → (ℕ → ℕ → ℕ) → ℕ → (ℕ → ℕ → ℤ) → (ℕ → ℕ → ℤ) → Type 0
Agrees W H lev L coarse fine =
    (a b : ℕ) → a < functions W (L + 1) → b < functions H (L + 1) → AgreesAt W H lev L coarse fine a b

-- The numbers are what a table over these regions carries: each function whose least level is below its own has the
-- two-scale sum, those whose least level is above it have 0, and all keep their limit.
pub record Fits (W H : ℕ) (lev : ℕ → ℕ → ℕ) (N : ℕ → ℕ → ℕ → ℤ) : Type 0 where
  pub agrees : (L : ℕ) → L < 3 → Agrees W H lev L (N L) (N (L + 1))
  pub none : (L a b : ℕ) → L < 4 → a < functions W L → b < functions H L → L < least_under W H lev L a b
      → N L a b ≡ pos 0
  pub small : (L a b : ℕ) → L < 4 → a < functions W L → b < functions H L → nat_abs (N L a b) ≤ limit L

-- Coefficients that carry given numbers of level 3, as those of an acceptable table do.
pub record Carries (W H : ℕ) (lev : ℕ → ℕ → ℕ) (coef : ℕ → ℕ → ℕ → ℤ) (G : ℕ → ℕ → ℤ) : Type 0 where
  pub numbers : (a b : ℕ) → a < functions W 3 → b < functions H 3 → carried W H lev coef 3 a b ≡ G a b
  pub fits : (L a b : ℕ) → L < 4 → a < functions W L → b < functions H L
      → nat_abs (carried W H lev coef L a b) ≤ limit L
  pub passive : (L a b : ℕ) → L < 4 → a < functions W L → b < functions H L → L < least_under W H lev L a b
      → coef L a b ≡ pos 0

-- ---- what the steps give

-- the body of a grid that was judged
pub record OfBody (W H : ℕ) (body : List ℕ) : Type 0 where
  pub side-W : (0 < W) × (W ≤ 8)
  pub side-H : (0 < H) × (H ≤ 8)
  pub size : length body ≡ 5 * places W H 3
  pub within : all_within (limit 3) (places W H 3) body ≡ true

-- its number of function (a, b)
abbrev pub in_body : ℕ → List ℕ → ℕ → ℕ → ℤ
in_body W body a b = number_at body (b * functions W 3 + a)

-- the numbers of each level are found from those of the level after it
pub record Levels (W H : ℕ) (lev : ℕ → ℕ → ℕ) (body : List ℕ) (l₀ l₁ l₂ : List ℤ) : Type 0 where
  pub two : Backed W H lev 2 (in_body W body) Whole l₂
  pub one : Backed W H lev 1 (in_rows (functions W 2) l₂) Whole l₁
  pub zero : Backed W H lev 0 (in_rows (functions W 1) l₁) Whole l₀

-- no coefficients carry the grid's numbers
abbrev pub NotCarried : ℕ → ℕ → (ℕ → ℕ → ℕ) → List ℕ → Type 0
NotCarried W H lev body = (coef : ℕ → ℕ → ℕ → ℤ) → ¬ Carries W H lev coef (in_body W body)

-- the numbers of each level agree with those of the level before it
abbrev pub AllAgree : ℕ → ℕ → (ℕ → ℕ → ℕ) → List ℕ → List ℤ → List ℤ → List ℤ → Type 0
AllAgree W H lev body l₀ l₁ l₂ =
    Agrees W H lev 0 (in_rows (functions W 0) l₀) (in_rows (functions W 1) l₁)
    × Agrees W H lev 1 (in_rows (functions W 1) l₁) (in_rows (functions W 2) l₂)
    × Agrees W H lev 2 (in_rows (functions W 2) l₂) (in_body W body)

-- both: then a table carries them
abbrev pub FoundAndAgree : ℕ → ℕ → (ℕ → ℕ → ℕ) → List ℕ → List ℤ → List ℤ → List ℤ → Type 0
FoundAndAgree W H lev body l₀ l₁ l₂ = Levels W H lev body l₀ l₁ l₂ × AllAgree W H lev body l₀ l₁ l₂

-- what is told of a grid over regions: 21 where no coefficients carry its numbers, else 16 or the table
abbrev pub Told : ℕ → ℕ → (ℕ → ℕ → ℕ) → List ℕ → List ℤ → Answer Sides → List ℤ → Type 0
Told W H lev body out r after =
    (NotCarried W H lev body × (r ≡ refused 21) × (after ≡ out))
    ⊎ ((N : ℕ → ℕ → ℕ → ℤ) × Fits W H lev N × ((a b : ℕ) → N 3 a b ≡ in_body W body a b)
    × SliceMeets
    (done (length_cause (slots W H) out) (record { W = W; H = H }) (slice_of W H (active_in W H lev N)) out) r after)
