-- Document 00's demands, and document 01's "What each call is held to", as statements about the outcomes of the calls.
-- Each is proved under its name in proofs/Demands.antt (Untruncated as not-truncated, OneTree as one-tree-each), but
-- for Refusals in proofs/Refusals.antt and WritesAcceptable in proofs/Writers.antt.
use Rattle.std.specs.Prelude.{◌≡◌, ◌↔◌, Bool, true, false, ◌||◌, cond, List, [], ◌∷◌, ℕ, suc, ◌+◌, ◌*◌, ◌/◌, ◌^◌, ◌≤◌, ◌<◌, min, max, ℤ, pos, nat_abs, ◌+ℤ◌, ◌*ℤ◌, eqb, ◌≤ℤ◌, Float, length, get_or, take}
use Rattle.finite.specs.Range.{sum, sum2}
use Rattle.surface.specs.Sheet.{Box, functions, steps, quarters, quarter_of, quarter_box, on_sheet}
use Rattle.surface.specs.Support.{low_end, high_end, active, holds_along, holds, in_region, in_box}
use Rattle.surface.specs.Spline.{spline_at}
use Rattle.surface.specs.Truncation.{D, weight, truncated, reading}
use Rattle.surface.specs.Carry.{carried}
use Rattle.surface.specs.Patch.{patch, evaluated, patch_reading, stop_level}
use Rattle.surface.specs.Quadtree.{visits}
use Rattle.surface.specs.Table.{tree_of, formed, regions_of, levels, slots, coefficients, limit, region_cause}
use Rattle.surface.specs.Table.{Acceptable, table_reading}
use Rattle.surface.specs.Calls.{Answer, refused, gives, Written, Done, fresh_outcome, set_outcome}
use Rattle.surface.specs.Calls.{activity_outcome, least_outcome, exact_outcome, display_outcome, cost_outcome}
use Rattle.surface.specs.Enquiry.{Slip, enquiry_outcome, commit_outcome}
use Rattle.surface.specs.FloatReading.{FloatMeets}
use Rattle.surface.specs.Slopes.{FloatSlopes, slopes_outcome, SlopesMeet}
use Rattle.surface.specs.Note.{Note, no_part}
use Rattle.surface.specs.TableFile.{file_outcome}
use Rattle.surface.specs.BenchLoading.{Benched, bench_outcome}
use Rattle.surface.specs.Saving.{save_outcome}
use Rattle.surface.specs.Grid.{write_grid_outcome, grid_contents, Converted, OverTree, read_grid_outcome}

-- ---- demand 1: "a call gives its full result, or one refusal number from document 01 and writes nothing"

abbrev pub among : ℕ → List ℕ → Bool
among n [] = false
among n (m ∷ ms) = eqb n m || among n ms

-- A refusal has one of the numbers that document 01 gives the call; document 02: "Demand 1 and document 01's table take
-- in this and every later new number".
abbrev pub RefusesWith : {A : Type 0} → List ℕ → Answer A → Type 0
RefusesWith {A} numbers answer = (n : ℕ) → answer ≡ refused n → among n numbers ≡ true

-- And it leaves both outputs as they were lent; an accepted call leaves them as long as they were.
pub record WritesAllOrNothing {A : Type 0} (numbers : List ℕ) (o : Written A) (tree_out : List ℕ)
    (numbers_out : List ℤ) : Type 0 where
  pub number : RefusesWith numbers o.result
  pub refusal : (n : ℕ) → o.result ≡ refused n → (o.tree ≡ tree_out) × (o.numbers ≡ numbers_out)
  pub lengths : (length o.tree ≡ length tree_out) × (length o.numbers ≡ length numbers_out)

-- The same of a call that writes to one lent slice: set to one place of it, activity and the conversion of a grid to
-- all of it, saving and the writing of a grid to its front.
pub record WritesSliceOrNothing {A B : Type 0} (numbers : List ℕ) (o : Done A B) (lent : List B) : Type 0 where
  pub number : RefusesWith numbers o.result
  pub refusal : (n : ℕ) → o.result ≡ refused n → o.after ≡ lent
  pub lengths : length o.after ≡ length lent

-- Document 02: "with ... a refused call, it says none and the part is empty".
abbrev pub TellsNote : Benched → Type 0
TellsNote o = (n : ℕ) → o.loaded.result ≡ refused n → o.note ≡ no_part

pub record Refusals : Type 0 where
  pub fresh : (W H : ℕ) (number : ℤ) (tree_out : List ℕ) (numbers_out : List ℤ)
      → WritesAllOrNothing (1 ∷ 10 ∷ 16 ∷ 17 ∷ []) (fresh_outcome W H number tree_out numbers_out) tree_out numbers_out
  pub enquiry : (W H : ℕ) (t : List ℕ) (cs : List ℤ) (box : Box) (level : ℕ)
      → RefusesWith (1 ∷ 2 ∷ 3 ∷ 4 ∷ 5 ∷ 7 ∷ 8 ∷ []) (enquiry_outcome W H t cs box level)
  pub commit : (W H : ℕ) (t : List ℕ) (cs : List ℤ) (slip : Slip) (tree_out : List ℕ) (numbers_out : List ℤ)
      → WritesAllOrNothing (1 ∷ 2 ∷ 3 ∷ 4 ∷ 5 ∷ 7 ∷ 8 ∷ 16 ∷ 17 ∷ 19 ∷ [])
      (commit_outcome W H t cs slip tree_out numbers_out) tree_out numbers_out
  pub set : (W H : ℕ) (t : List ℕ) (cs : List ℤ) (L : ℕ) (i j number : ℤ)
      → WritesSliceOrNothing (1 ∷ 2 ∷ 3 ∷ 4 ∷ 5 ∷ 8 ∷ 9 ∷ 10 ∷ []) (set_outcome W H t cs L i j number) cs
  pub activity : (W H : ℕ) (t : List ℕ) (L : ℕ) (out : List ℕ)
      → WritesSliceOrNothing (1 ∷ 2 ∷ 8 ∷ 16 ∷ []) (activity_outcome W H t L out) out
  pub least : (W H : ℕ) (t : List ℕ) (box : Box) → RefusesWith (1 ∷ 2 ∷ 7 ∷ []) (least_outcome W H t box)
  pub exact : (W H : ℕ) (t : List ℕ) (cs : List ℤ) (u v : ℕ)
      → RefusesWith (1 ∷ 2 ∷ 3 ∷ 4 ∷ 5 ∷ 6 ∷ []) (exact_outcome W H t cs u v)
  -- The f64 reading is any answer that meets its promise: refused exactly where the exact one is, with its number. So
  -- are the watts and slopes.
  pub watts : (W H : ℕ) (t : List ℕ) (cs : List ℤ) (u v : ℕ) (given : Answer Float)
      → FloatMeets (exact_outcome W H t cs u v) given
      → RefusesWith (1 ∷ 2 ∷ 3 ∷ 4 ∷ 5 ∷ 6 ∷ []) given
      × ((n : ℕ) → (given ≡ refused n) ↔ (exact_outcome W H t cs u v ≡ refused n))
  pub slopes : (W H : ℕ) (t : List ℕ) (cs : List ℤ) (u v : ℕ) (given : Answer FloatSlopes)
      → SlopesMeet (slopes_outcome W H t cs u v) given
      → RefusesWith (1 ∷ 2 ∷ 3 ∷ 4 ∷ 5 ∷ 6 ∷ []) given
      × ((n : ℕ) → (given ≡ refused n) ↔ (exact_outcome W H t cs u v ≡ refused n))
  pub display : (W H : ℕ) (t : List ℕ) (cs : List ℤ) (u v : ℕ)
      → RefusesWith (1 ∷ 2 ∷ 3 ∷ 4 ∷ 5 ∷ 6 ∷ []) (display_outcome W H t cs u v)
  pub cost : (W H : ℕ) (t : List ℕ) (cs : List ℤ) (u v tariff : ℕ)
      → RefusesWith (1 ∷ 2 ∷ 3 ∷ 4 ∷ 5 ∷ 6 ∷ 11 ∷ []) (cost_outcome W H t cs u v tariff)
  pub file : (bytes : List ℕ) (tree_out : List ℕ) (numbers_out : List ℤ)
      → WritesAllOrNothing (1 ∷ 2 ∷ 4 ∷ 12 ∷ 13 ∷ 14 ∷ 15 ∷ 16 ∷ 17 ∷ 20 ∷ []) (file_outcome bytes tree_out numbers_out)
      tree_out numbers_out
  pub bench : (bytes : List ℕ) (tree_out : List ℕ) (numbers_out : List ℤ)
      → WritesAllOrNothing (1 ∷ 2 ∷ 4 ∷ 12 ∷ 13 ∷ 14 ∷ 15 ∷ 16 ∷ 17 ∷ 20 ∷ [])
      (bench_outcome bytes tree_out numbers_out).loaded tree_out numbers_out
      × TellsNote (bench_outcome bytes tree_out numbers_out)
  pub save : (W H : ℕ) (t : List ℕ) (cs : List ℤ) (note : Note) (out : List ℕ)
      → WritesSliceOrNothing (1 ∷ 2 ∷ 3 ∷ 4 ∷ 5 ∷ 14 ∷ 18 ∷ []) (save_outcome W H t cs note out) out
  pub write_grid : (W H : ℕ) (t : List ℕ) (cs : List ℤ) (out : List ℕ)
      → WritesSliceOrNothing (1 ∷ 2 ∷ 3 ∷ 4 ∷ 5 ∷ 18 ∷ []) (write_grid_outcome W H t cs out) out
  -- Reading a grid, whichever of the two is so: that there is a table over the tree, or that there is none.
  pub read_grid : (file t : List ℕ) (out : List ℤ) (converted : Converted) → OverTree (grid_contents file) t converted
      → WritesSliceOrNothing (1 ∷ 2 ∷ 4 ∷ 12 ∷ 13 ∷ 14 ∷ 15 ∷ 16 ∷ 21 ∷ [])
      (read_grid_outcome (grid_contents file) t converted out) out

-- ---- demand 2: "A function is active exactly when the selection rule of source document 003 makes it so."

-- supp⁰ β ⊆ Ω^l of document 003. All edges of supports and regions are edges of level 3 cells, so a set of points is
-- the set of its level 3 cells: each cell (x, y) of the cut support of function (a, b) of level L lies in a quarter
-- square of level l or above.
abbrev pub SupportIn : ℕ → ℕ → (ℕ → ℕ → ℕ) → ℕ → ℕ → ℕ → ℕ → Type 0
SupportIn W H lev l L a b =
    (x y : ℕ) → low_end L a ≤ x → x < high_end W L a → low_end L b ≤ y → y < high_end H L b → l ≤ lev (x / 2) (y / 2)

-- supp⁰ β ⊆ Ω^ℓ ∧ supp⁰ β ⊄ Ω^(ℓ+1), as document 003 has it
abbrev pub Selected : ℕ → ℕ → (ℕ → ℕ → ℕ) → ℕ → ℕ → ℕ → Type 0
Selected W H lev L a b = SupportIn W H lev L L a b × ¬ SupportIn W H lev (suc L) L a b

-- The activity call's byte of function (a, b) is 1 exactly then.
abbrev pub SelectionRule : Type 0
SelectionRule =
    (W H : ℕ) (t : List ℕ) (L : ℕ) (out : List ℕ) → (activity_outcome W H t L out).result ≡ gives tt
    → (a b : ℕ) → a < functions W L → b < functions H L
    → (get_or (activity_outcome W H t L out).after (b * functions W L + a) 0 ≡ 1) ↔ Selected W H (levels t) L a b

-- The ends of a cut support are where its function stops being 0: level 3 cell x lies in it exactly when the spline is
-- not 0 in the middle of x. And "it holds the points strictly inside it": the points of the sheet where it is not 0.
abbrev pub SupportIsWhereNotZero : Type 0
SupportIsWhereNotZero =
    (n L a : ℕ) → 0 < n → L ≤ 3
    → ((x : ℕ) → x < 8 * n → ((low_end L a ≤ x) × (x < high_end n L a)) ↔ (0 < spline_at n L a (16 * x + 8)))
    × ((u : ℕ) → u ≤ 128 * n → (holds_along L a u ≡ true) ↔ (0 < spline_at n L a u))

-- "A level L function (i, j) is the product of two uniform cubic B-splines": so is its truncated function at a point,
-- when of the finer functions whose support holds the point none has its cut support in the region of its level.
abbrev pub Untruncated : Type 0
Untruncated =
    (W H : ℕ) (lev : ℕ → ℕ → ℕ) (u v : ℕ) → 0 < W → 0 < H → u ≤ 128 * W → v ≤ 128 * H
    → (n L a b : ℕ) → n + L ≡ 3
    → ((M c d : ℕ) → L < M → M ≤ 3 → c < functions W M → d < functions H M → holds M c d u v ≡ true
    → in_region W H lev M c d ≡ false)
    → truncated W H lev u v n L a b ≡ pos (spline_at W L a u * spline_at H L b v)

-- ---- demand 2: "A box insertion raises lower levels inside the box to the one named, and changes no others."

-- What an enquiry was lent, and what a commit was: "In demand 3's list every insertion has its own box, level and
-- outputs, whatever those are"; document 02: "a commit with whatever slip it is handed".
pub record Asked : Type 0 where
  pub box : Box
  pub level : ℕ

pub record Commit : Type 0 where
  pub slip : Slip
  pub tree_out : List ℕ
  pub numbers_out : List ℤ

-- The tree and the coefficients of a table; its sheet is W by H.
pub record Contents : Type 0 where
  pub tree : List ℕ
  pub numbers : List ℤ

-- "After an accepted insertion the table is the tree output up to the returned length, with the coefficients written;
-- after a refused one it is the table that was read."
abbrev pub left : Contents → Answer ℕ → List ℕ → List ℤ → Contents
left c (refused n) tree numbers = c
left c (gives n) tree numbers = record { tree = take n tree; numbers = numbers }

abbrev pub outcome_of : ℕ → ℕ → Contents → Commit → Written ℕ
outcome_of W H c k = commit_outcome W H c.tree c.numbers k.slip k.tree_out k.numbers_out

abbrev pub committed : ℕ → ℕ → Contents → Commit → Contents
committed W H c k = let o = outcome_of W H c k in left c o.result o.tree o.numbers

-- The slip's box and level are what a commit inserts.
abbrev pub InsertionRaises : Type 0
InsertionRaises =
    (W H : ℕ) (c : Contents) (k : Commit) (n : ℕ) → (outcome_of W H c k).result ≡ gives n
    → (q r : ℕ) → q < quarters W → r < quarters H
    → levels (committed W H c k).tree q r
    ≡ cond (in_box k.slip.box q r) (max (levels c.tree q r) k.slip.level) (levels c.tree q r)

-- ---- "So one set of regions has one tree, of 1 to 1,365 bytes."

abbrev pub SameRegions : ℕ → ℕ → List ℕ → List ℕ → Type 0
SameRegions W H s t = (q r : ℕ) → q < quarters W → r < quarters H → levels s q r ≡ levels t q r

-- A slice that is a tree of the form, and gives the sheet's quarter squares the levels lev.
abbrev pub TreeFor : ℕ → ℕ → (ℕ → ℕ → ℕ) → List ℕ → Type 0
TreeFor W H lev t =
    (formed W H (tree_of t) ≡ true) × ((q r : ℕ) → q < quarters W → r < quarters H → levels t q r ≡ lev q r)

-- There is such a tree, there is no other, and its size.
pub record OneTreeFor (W H : ℕ) (lev : ℕ → ℕ → ℕ) : Type 0 where
  pub tree : List ℕ
  pub exists : TreeFor W H lev tree
  pub only : (t : List ℕ) → TreeFor W H lev t → t ≡ tree
  pub size : (1 ≤ length tree) × (length tree ≤ 1365)

-- "Each quarter square has a level 0 to 3": whichever levels the squares of the sheet have.
abbrev pub OneTree : Type 0
OneTree =
    (W H : ℕ) → W ≤ 8 → H ≤ 8
    → (lev : ℕ → ℕ → ℕ) → ((q r : ℕ) → q < quarters W → r < quarters H → lev q r ≤ 3) → OneTreeFor W H lev

-- ---- demand 3: linearity, of tables that "share one sheet and one set of regions"

-- "at every place the first's coefficient is a times the second's plus b times the third's, a and b whole. Then at
-- every point the first's exact reading is a times the second's plus b times the third's."
abbrev pub LinearReadings : Type 0
LinearReadings =
    (W H : ℕ) (t₁ t₂ t₃ : List ℕ) (c₁ c₂ c₃ : List ℤ) (a b : ℤ)
    → Acceptable W H t₁ c₁ → Acceptable W H t₂ c₂ → Acceptable W H t₃ c₃
    → SameRegions W H t₁ t₂ → SameRegions W H t₁ t₃
    → ((p : ℕ) → p < slots W H → get_or c₁ p (pos 0) ≡ a *ℤ get_or c₂ p (pos 0) +ℤ b *ℤ get_or c₃ p (pos 0))
    → (u v : ℕ) (n₁ n₂ n₃ : ℤ) → exact_outcome W H t₁ c₁ u v ≡ gives n₁ → exact_outcome W H t₂ c₂ u v ≡ gives n₂
    → exact_outcome W H t₃ c₃ u v ≡ gives n₃ → n₁ ≡ a *ℤ n₂ +ℤ b *ℤ n₃

-- On an acceptable table and a point of the sheet the exact reading is given, and nowhere else.
abbrev pub ReadingGiven : Type 0
ReadingGiven =
    (W H : ℕ) (t : List ℕ) (cs : List ℤ) (u v : ℕ) (n : ℤ)
    → (exact_outcome W H t cs u v ≡ gives n)
    ↔ (Acceptable W H t cs × (on_sheet W H u v ≡ true) × (table_reading W H t cs u v ≡ n))

-- ---- demand 3: "each exact reading lies between the least and the greatest active coefficient, in watts, whose
-- support
-- holds the point"

-- An active function whose support holds the point.
pub record Around (W H : ℕ) (t : List ℕ) (u v : ℕ) : Type 0 where
  pub L : ℕ
  pub a : ℕ
  pub b : ℕ
  pub level : L < 4
  pub along_u : a < functions W L
  pub along_v : b < functions H L
  pub is_active : active W H (levels t) L a b ≡ true
  pub is_around : holds L a b u v ≡ true

abbrev pub coefficient_of : (W H : ℕ) (t : List ℕ) (cs : List ℤ) (u v : ℕ) → Around W H t u v → ℤ
coefficient_of W H t cs u v f = coefficients W H cs f.L f.a f.b

-- "Exact readings are compared as numerators over D; a level L coefficient c counts as c/64^L watt": of the two
-- functions one's coefficient is at most the reading n/D, and the other's at least.
pub record Bracketed (W H : ℕ) (t : List ℕ) (cs : List ℤ) (u v : ℕ) (n : ℤ) : Type 0 where
  pub low : Around W H t u v
  pub high : Around W H t u v
  pub at_least : (pos D *ℤ coefficient_of W H t cs u v low) ≤ℤ (pos (64 ^ low.L) *ℤ n)
  pub at_most : (pos (64 ^ high.L) *ℤ n) ≤ℤ (pos D *ℤ coefficient_of W H t cs u v high)

abbrev pub BracketedReadings : Type 0
BracketedReadings =
    (W H : ℕ) (t : List ℕ) (cs : List ℤ) (u v : ℕ) (n : ℤ)
    → exact_outcome W H t cs u v ≡ gives n → Bracketed W H t cs u v n

-- ---- demand 3: "take any list of box insertions, refused ones included, that starts from an acceptable table, each
-- insertion reading the table that the one before it left"

-- A step of the list, by its kind; document 02: "In demand 3's list enquiries and commits then take the place of
-- insertions". The table that it leaves: "after an enquiry, accepted or refused, the table is the one it read".
pub data Step : Type 0 where
  enquiry : Asked → Step
  commit : Commit → Step

abbrev pub after_step : ℕ → ℕ → Contents → Step → Contents
after_step W H c (enquiry e) = c
after_step W H c (commit k) = committed W H c k

unfoldable pub after_all : ℕ → ℕ → Contents → List Step → Contents
after_all W H c [] = c
after_all W H c (s ∷ ss) = after_all W H (after_step W H c s) ss

-- "After the list the exact reading at every point of the sheet equals that before the list, and so still lies between
-- those two coefficients of the starting table." The outcomes are equal at every point, on the sheet or off it.
abbrev pub RefinementMovesNoReading : Type 0
RefinementMovesNoReading =
    (W H : ℕ) (c : Contents) (ss : List Step) → Acceptable W H c.tree c.numbers
    → Acceptable W H (after_all W H c ss).tree (after_all W H c ss).numbers
    × ((u v : ℕ)
    → (exact_outcome W H (after_all W H c ss).tree (after_all W H c ss).numbers u v
    ≡ exact_outcome W H c.tree c.numbers u v)
    × ((n : ℤ) → exact_outcome W H (after_all W H c ss).tree (after_all W H c ss).numbers u v ≡ gives n
    → Bracketed W H c.tree c.numbers u v n))

-- The other calls that write a table leave an acceptable one.
pub record WritesAcceptable : Type 0 where
  pub fresh : (W H : ℕ) (number : ℤ) (tree_out : List ℕ) (numbers_out : List ℤ) (n : ℕ)
      → (fresh_outcome W H number tree_out numbers_out).result ≡ gives n
      → Acceptable W H (take n (fresh_outcome W H number tree_out numbers_out).tree)
      (fresh_outcome W H number tree_out numbers_out).numbers
  pub set : (W H : ℕ) (t : List ℕ) (cs : List ℤ) (L : ℕ) (i j number : ℤ)
      → (set_outcome W H t cs L i j number).result ≡ gives tt → Acceptable W H t
      (set_outcome W H t cs L i j number).after

-- ---- "a signed i64 numerator over D", "on a four by four patch of coefficients"

-- The numerator is at most 32,000×D in size, which is below 2^63.
abbrev pub ReadingFits : Type 0
ReadingFits =
    (W H : ℕ) (t : List ℕ) (cs : List ℤ) (u v : ℕ) (n : ℤ)
    → exact_outcome W H t cs u v ≡ gives n → nat_abs n ≤ 32000 * D

-- The patch subdivided from level to level gives the exact reading, and each entry keeps its level's limit.
abbrev pub PatchEvaluates : Type 0
PatchEvaluates =
    (W H : ℕ) (t : List ℕ) (cs : List ℤ) → Acceptable W H t cs → (u v : ℕ) → on_sheet W H u v ≡ true
    → (table_reading W H t cs u v ≡ patch_reading W H (levels t) (coefficients W H cs) u v)
    × ((L k l : ℕ) → L < 4 → k < 4 → l < 4 → nat_abs (patch W H (levels t) (coefficients W H cs) u v L k l) ≤ limit L)

-- ---- document 02, Four: "The reading stops subdividing at the greatest level under the quarter square holding its
-- point ...; for the exact reading the fraction, scaled to D, is the one document 01 defines"

-- From that level on each level L gives it, as its carried values times its splines and as its patch evaluated. (A
-- level above 3 counts as 3; no table has one.)
abbrev pub AnyLevel : Type 0
AnyLevel =
    (W H : ℕ) (lev : ℕ → ℕ → ℕ) (coef : ℕ → ℕ → ℕ → ℤ) (u v : ℕ) → 0 < W → 0 < H → u ≤ 128 * W → v ≤ 128 * H
    → (L : ℕ) → L ≤ 3 → min (stop_level W H lev u v) 3 ≤ L
    → (reading W H lev coef u v
    ≡ sum2 (functions W L) (functions H L)
    (λ a b. pos (spline_at W L a u * spline_at H L b v) *ℤ carried W H lev coef L a b))
    × (reading W H lev coef u v ≡ evaluated W H lev coef u v L)

-- "Our display will itself draw a dot where a table is refined under the point": asked for that quarter square as a
-- box, the least level call gives the square's level twice, and it is the level at which a reading stops.
abbrev pub DotTold : Type 0
DotTold =
    (W H : ℕ) (t : List ℕ) (u v : ℕ) → region_cause W H t ≡ 0
    → let level = levels t (quarter_of W u) (quarter_of H v) in
    let box = quarter_box W H u v in
    (least_outcome W H t box
    ≡ gives (record { least = level; greatest = level; visited = visits box 5 0 0 (regions_of (tree_of t)) }))
    × (stop_level W H (levels t) u v ≡ level)

-- ---- "Function (i) of level L is the sum of functions 2i to 2i+4 of level L+1 with weights 1, 4, 6, 4, 1 over 8"

-- It holds of these splines, along each direction: the numerators with the bare weights, over wholes that differ by 8.
abbrev pub TwoScale : Type 0
TwoScale =
    (n L a u : ℕ) → 0 < n → L < 3 → u ≤ 128 * n
    → (pos (spline_at n L a u) ≡ sum (functions n (suc L)) (λ c. pos (weight a c * spline_at n (suc L) c u)))
    × (6 * steps L ^ 3 ≡ 8 * (6 * steps (suc L) ^ 3))
