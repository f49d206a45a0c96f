-- Document 01, "Bench sheet": the cases marked * as one table about the outcomes. Proved in proofs/Bench.antt.
use Rattle.std.specs.Prelude.{◌≡◌, true, ◌&&◌, cond, List, [], ◌∷◌, ◌++◌, ℕ, zero, suc, ◌*◌, ◌^◌, ◌≤◌, ◌<◌, ℤ, pos, neg_ℤ, eqb, Float, length, get_or, replicate}
use Rattle.finite.specs.Range.{table_from}
use Rattle.surface.specs.Sheet.{Box, good_side, functions, on_sheet}
use Rattle.surface.specs.Support.{active, active_count}
use Rattle.surface.specs.Truncation.{D}
use Rattle.surface.specs.Table.{levels, places, coefficients, region_cause, Acceptable, table_reading}
use Rattle.surface.specs.Calls.{Answer, refused, gives, set_outcome, index, activity_outcome}
use Rattle.surface.specs.Calls.{least_outcome, exact_outcome, display_outcome, cost_outcome, whole_watts, cost_of}
use Rattle.surface.specs.Enquiry.{Slip, enquiry_outcome, commit_outcome}
use Rattle.surface.specs.FloatReading.{Near, FloatMeets}
use Rattle.surface.specs.Slopes.{FloatSlopes, NearSlopes, table_slopes, slopes_outcome, SlopesMeet}

-- ---- the tables

-- A row n times over.
abbrev pub rows : {A : Type 0} → ℕ → List A → List A
rows zero row = []
rows (suc n) row = row ++ rows n row

abbrev pub zeros : ℕ → List ℤ
zeros n = replicate n (pos 0)

-- "S is 1 by 1 with level 0 columns −1,000, 0, 1,000, 2,000 (i = −3 to 0), equal in all rows." The finer levels have
-- 25 + 49 + 121 places.
abbrev pub columns_s : List ℤ
columns_s = neg_ℤ (pos 1000) ∷ pos 0 ∷ pos 1000 ∷ pos 2000 ∷ []

abbrev pub S : List ℤ
S = rows 4 columns_s ++ zeros 195

-- "only (−3, −3) is 1" and "Only (−2, −2) is 1"
abbrev pub first : List ℤ
first = pos 1 ∷ zeros 210

abbrev pub second : List ℤ
second = zeros 5 ++ (pos 1 ∷ zeros 205)

-- "columns −32,000, 0, 32,000, 64,000, 96,000" at level 1
abbrev pub columns_carried : List ℤ
columns_carried = neg_ℤ (pos 32000) ∷ pos 0 ∷ pos 32000 ∷ pos 64000 ∷ pos 96000 ∷ []

abbrev pub carried_s : List ℤ
carried_s = zeros 16 ++ (rows 5 columns_carried ++ zeros 170)

-- 2 by 1, level 0 all 700 watts; and "every active coefficient 700 watts (44,800 at level 1)" over the refined tree
abbrev pub flat700 : List ℤ
flat700 = rows 4 (replicate 5 (pos 700)) ++ zeros 321

abbrev pub level700 : List ℤ
level700 =
    rows 4 (pos 0 ∷ replicate 4 (pos 700))
    ++ (rows 5 (pos 44800 ∷ pos 44800 ∷ zeros 5) ++ zeros 286)

abbrev pub flat : List ℕ
flat = 0 ∷ []

abbrev pub box : ℕ → ℕ → ℕ → ℕ → Box
box p q r s = record { u0 = p; v0 = q; u1 = r; v1 = s }

-- "tree 4 4 4 1 and nine 0"
abbrev pub refined : List ℕ
refined = 4 ∷ 4 ∷ 4 ∷ 1 ∷ replicate 9 0

-- A slip of a box and a level: the new tree's length, the active functions of levels 0 to 3, and the nodes visited.
abbrev pub slip : Box → ℕ → ℕ → ℕ → ℕ → ℕ → ℕ → ℕ → Slip
slip b level length a0 a1 a2 a3 visited =
    record {
      box = b;
      level = level;
      tree_length = length;
      active0 = a0;
      active1 = a1;
      active2 = a2;
      active3 = a3;
      visited = visited;
    }

-- "S, level 1 box 0,0 to 4,4: tree 4 4 4 1 and nine 0; 25 active", and of that tree "4 nodes"
abbrev pub slip_s : Slip
slip_s = slip (box 0 0 4 4) 1 13 0 25 0 0 4

-- ---- what a line says of a table

-- "columns ..., equal in all rows": function (a, b) of level L has the a-th coefficient of the row, whatever b is.
abbrev pub Columns : ℕ → ℕ → List ℤ → ℕ → List ℤ → Type 0
Columns W H cs L row =
    (a b : ℕ) → a < functions W L → b < functions H L → coefficients W H cs L a b ≡ get_or row a (pos 0)

-- "only (i, j) is 1", on 1 by 1: of all levels' coefficients it is that of function (i, j) of level 0 alone.
abbrev pub OnlyOne : List ℤ → ℤ → ℤ → Type 0
OnlyOne cs i j =
    (L a b : ℕ) → L < 4 → a < functions 1 L → b < functions 1 L
    → coefficients 1 1 cs L a b ≡ cond (eqb L 0 && eqb a (index i) && eqb b (index j)) (pos 1) (pos 0)

-- How many functions of levels 0, 1, 2 and 3 are active under a tree.
abbrev pub active_counts : ℕ → ℕ → List ℕ → List ℕ
active_counts W H t = table_from 0 4 (active_count W H (levels t))

-- The activity call gives these bytes of level L, whatever an output of their length held.
abbrev pub ActivityIs : ℕ → ℕ → List ℕ → ℕ → List ℕ → Type 0
ActivityIs W H t L bytes =
    (out : List ℕ) → length out ≡ length bytes
    → activity_outcome W H t L out ≡ record { result = gives tt; after = bytes }

-- Every call that is lent this tree gives this number, whatever else it is lent, and leaves that as it was.
pub record TreeGives (W H : ℕ) (t : List ℕ) (n : ℕ) : Type 0 where
  pub least : (b : Box) → least_outcome W H t b ≡ refused n
  pub activity : (L : ℕ) (out : List ℕ) → activity_outcome W H t L out ≡ record { result = refused n; after = out }
  pub enquiry : (cs : List ℤ) (b : Box) (level : ℕ) → enquiry_outcome W H t cs b level ≡ refused n
  pub commit : (cs : List ℤ) (s : Slip) (tree_out : List ℕ) (numbers_out : List ℤ)
      → commit_outcome W H t cs s tree_out numbers_out
      ≡ record { result = refused n; tree = tree_out; numbers = numbers_out }
  pub set : (cs : List ℤ) (L : ℕ) (i j number : ℤ)
      → set_outcome W H t cs L i j number ≡ record { result = refused n; after = cs }
  pub exact : (cs : List ℤ) (u v : ℕ) → exact_outcome W H t cs u v ≡ refused n
  pub watts : (cs : List ℤ) (u v : ℕ) (given : Answer Float) → FloatMeets (exact_outcome W H t cs u v) given
      → given ≡ refused n
  pub slopes : (cs : List ℤ) (u v : ℕ) (given : Answer FloatSlopes) → SlopesMeet (slopes_outcome W H t cs u v) given
      → given ≡ refused n
  pub display : (cs : List ℤ) (u v : ℕ) → display_outcome W H t cs u v ≡ refused n
  pub cost : (cs : List ℤ) (u v tariff : ℕ) → cost_outcome W H t cs u v tariff ≡ refused n

-- ---- the cases

-- "S is 1 by 1 with level 0 columns −1,000, 0, 1,000, 2,000 (i = −3 to 0), equal in all rows."
abbrev pub ColumnsOfS : Type 0
ColumnsOfS = Columns 1 1 S 0 columns_s

-- "S at (64, 5): numerator 500×D = 79,164,837,199,872,000"
abbrev pub Slope : Type 0
Slope = (exact_outcome 1 1 flat S 64 5 ≡ gives (pos 79164837199872000)) × (500 * D ≡ 79164837199872000)

-- "1 by 1, only (−3, −3) is 1: at (0, 0) 2^42, at (128, 128) 0"
abbrev pub Corners : Type 0
Corners =
    OnlyOne first (neg_ℤ (pos 3)) (neg_ℤ (pos 3))
    × (exact_outcome 1 1 flat first 0 0 ≡ gives (pos (2 ^ 42)))
    × (exact_outcome 1 1 flat first 128 128 ≡ gives (pos 0))

-- "Only (−2, −2) is 1: at (0, 0) 2^46"
abbrev pub NextCorner : Type 0
NextCorner =
    OnlyOne second (neg_ℤ (pos 2)) (neg_ℤ (pos 2)) × (exact_outcome 1 1 flat second 0 0 ≡ gives (pos (2 ^ 46)))

-- "S, level 1 box 0,0 to 4,4: tree 4 4 4 1 and nine 0", 13 bytes, which the commit returns; the lent tree output has a
-- byte more, which stays.
abbrev pub Inserted : Type 0
Inserted =
    commit_outcome 1 1 flat S slip_s (replicate 14 9) (replicate 211 (pos 9))
    ≡ record { result = gives 13; tree = refined ++ (9 ∷ []); numbers = carried_s }

-- "columns −32,000, 0, 32,000, 64,000, 96,000": of level 1; the other levels' places hold 0, as their slice shows.
abbrev pub ColumnsInserted : Type 0
ColumnsInserted = Columns 1 1 carried_s 1 columns_carried

-- "25 active": all of level 1, and none of another level
abbrev pub AllOfLevelOne : Type 0
AllOfLevelOne =
    (active_counts 1 1 refined ≡ 0 ∷ 25 ∷ 0 ∷ 0 ∷ [])
    × ActivityIs 1 1 refined 0 (replicate 16 0)
    × ActivityIs 1 1 refined 1 (replicate 25 1)
    × ActivityIs 1 1 refined 2 (replicate 49 0)
    × ActivityIs 1 1 refined 3 (replicate 121 0)

-- "That tree, box 0,0 to 4,4: least level 1, 4 nodes"; by document 02 the greatest level too, here and below
abbrev pub Visited : Type 0
Visited = least_outcome 1 1 refined (box 0 0 4 4) ≡ gives (record { least = 1; greatest = 1; visited = 4 })

-- "2 by 1, the same box: 16 active at level 0, 10 at level 1": the commit; "Box 0,0 to 8,4: least level 0, 5 nodes"
abbrev pub slip_two_by_one : Slip
slip_two_by_one = slip (box 0 0 4 4) 1 13 16 10 0 0 4

abbrev pub TwoByOne : Type 0
TwoByOne =
    (commit_outcome 2 1 flat flat700 slip_two_by_one (replicate 13 9) (replicate 341 (pos 9))
    ≡ record { result = gives 13; tree = refined; numbers = level700 })
    × (least_outcome 2 1 refined (box 0 0 8 4) ≡ gives (record { least = 0; greatest = 1; visited = 5 }))

-- "16 active at level 0, 10 at level 1": the last four of each row and the first two, and none of levels 2 and 3
abbrev pub SixteenAndTen : Type 0
SixteenAndTen =
    (active_counts 2 1 refined ≡ 16 ∷ 10 ∷ 0 ∷ 0 ∷ [])
    × ActivityIs 2 1 refined 0 (rows 4 (0 ∷ replicate 4 1))
    × ActivityIs 2 1 refined 1 (rows 5 (1 ∷ 1 ∷ replicate 5 0))
    × ActivityIs 2 1 refined 2 (replicate 77 0)
    × ActivityIs 2 1 refined 3 (replicate 209 0)

-- "It, every active coefficient 700 watts (44,800 at level 1)", and "Passive places hold 0"
abbrev pub Every700 : Type 0
Every700 =
    (64 * 700 ≡ 44800)
    × ((L a b : ℕ) → L < 4 → a < functions 2 L → b < functions 1 L
    → coefficients 2 1 level700 L a b ≡ cond (active 2 1 (levels refined) L a b) (pos (64 ^ L * 700)) (pos 0))

-- "700×D at each point"
abbrev pub Equal : Type 0
Equal = (u v : ℕ) → on_sheet 2 1 u v ≡ true → exact_outcome 2 1 refined level700 u v ≡ gives (pos (700 * D))

-- "8 by 8, tree 3: 4,489 active": all of level 3, and none of another level
abbrev pub Finest : Type 0
Finest =
    (active_counts 8 8 (3 ∷ []) ≡ 0 ∷ 0 ∷ 0 ∷ 4489 ∷ [])
    × ActivityIs 8 8 (3 ∷ []) 0 (replicate 121 0)
    × ActivityIs 8 8 (3 ∷ []) 1 (replicate 361 0)
    × ActivityIs 8 8 (3 ∷ []) 2 (replicate 1225 0)
    × ActivityIs 8 8 (3 ∷ []) 3 (replicate 4489 1)

-- "Tree 4 0 0 0 0: 2": on every sheet. "Tree 1 on 1 by 1: 2"
abbrev pub Trees : Type 0
Trees =
    ((W H : ℕ) → good_side W ≡ true → good_side H ≡ true → TreeGives W H (4 ∷ 0 ∷ 0 ∷ 0 ∷ 0 ∷ []) 2)
    × TreeGives 1 1 (1 ∷ []) 2

-- "on 8 by 8 accepted": by the least level, by activity at every level, and in a table
abbrev pub OneOnEight : Type 0
OneOnEight =
    (least_outcome 8 8 (1 ∷ []) (box 0 0 4 4) ≡ gives (record { least = 1; greatest = 1; visited = 1 }))
    × ((L : ℕ) (out : List ℕ) → L ≤ 3 → length out ≡ places 8 8 L
    → (activity_outcome 8 8 (1 ∷ []) L out).result ≡ gives tt)
    × Acceptable 8 8 (1 ∷ []) (zeros 6196)

-- "1 by 1: u 128 accepted, 129 gives 6": on every acceptable table, by each reading. At u = 128 any v of the sheet
-- will do, at 129 none.
pub record LastPoint (t : List ℕ) (cs : List ℤ) : Type 0 where
  pub exact : (v : ℕ) → v ≤ 128 → exact_outcome 1 1 t cs 128 v ≡ gives (table_reading 1 1 t cs 128 v)
  pub watts : (v : ℕ) (given : Answer Float) → v ≤ 128 → FloatMeets (exact_outcome 1 1 t cs 128 v) given
      → (x : Float) × (given ≡ gives x) × Near (2 ^ 30) D (table_reading 1 1 t cs 128 v) x
  pub slopes : (v : ℕ) (given : Answer FloatSlopes) → v ≤ 128 → SlopesMeet (slopes_outcome 1 1 t cs 128 v) given
      → (x : FloatSlopes) × (given ≡ gives x) × NearSlopes (table_slopes 1 1 t cs 128 v) x
  pub display : (v : ℕ) → v ≤ 128 → display_outcome 1 1 t cs 128 v ≡ gives (whole_watts (table_reading 1 1 t cs 128 v))
  pub cost : (v tariff : ℕ) → v ≤ 128 → tariff ≤ 99999
      → cost_outcome 1 1 t cs 128 v tariff ≡ gives (cost_of (table_reading 1 1 t cs 128 v) tariff)
  pub exact_past : (v : ℕ) → exact_outcome 1 1 t cs 129 v ≡ refused 6
  pub watts_past : (v : ℕ) (given : Answer Float) → FloatMeets (exact_outcome 1 1 t cs 129 v) given → given ≡ refused 6
  pub slopes_past : (v : ℕ) (given : Answer FloatSlopes) → SlopesMeet (slopes_outcome 1 1 t cs 129 v) given
      → given ≡ refused 6
  pub display_past : (v : ℕ) → display_outcome 1 1 t cs 129 v ≡ refused 6
  pub cost_past : (v tariff : ℕ) → cost_outcome 1 1 t cs 129 v tariff ≡ refused 6

abbrev pub LastPoints : Type 0
LastPoints =
    ((t : List ℕ) (cs : List ℤ) → Acceptable 1 1 t cs → LastPoint t cs)
    × (exact_outcome 1 1 flat S 128 5 ≡ gives (pos (1000 * D)))
    × (exact_outcome 1 1 flat S 129 5 ≡ refused 6)

-- "Box 0,0 to 5,4 gives 7": the least level of every tree of the form; of every acceptable table the enquiry, whatever
-- the level, and the commit, whatever else the slip tells and whatever the outputs are, which stay
abbrev pub WideBox : Type 0
WideBox =
    ((t : List ℕ) → region_cause 1 1 t ≡ 0 → least_outcome 1 1 t (box 0 0 5 4) ≡ refused 7)
    × ((t : List ℕ) (cs : List ℤ) (level : ℕ) → Acceptable 1 1 t cs
    → enquiry_outcome 1 1 t cs (box 0 0 5 4) level ≡ refused 7)
    × ((t : List ℕ) (cs : List ℤ) (s : Slip) (tree_out : List ℕ) (numbers_out : List ℤ) → Acceptable 1 1 t cs
    → s.box ≡ box 0 0 5 4
    → commit_outcome 1 1 t cs s tree_out numbers_out
    ≡ record { result = refused 7; tree = tree_out; numbers = numbers_out })
    × (least_outcome 1 1 flat (box 0 0 5 4) ≡ refused 7)
    × (enquiry_outcome 1 1 flat S (box 0 0 5 4) 1 ≡ refused 7)

-- The table.
pub record BenchSheet : Type 0 where
  pub columns_of_s : ColumnsOfS
  pub slope : Slope
  pub corners : Corners
  pub next_corner : NextCorner
  pub inserted : Inserted
  pub columns_inserted : ColumnsInserted
  pub all_of_level_one : AllOfLevelOne
  pub visited : Visited
  pub two_by_one : TwoByOne
  pub sixteen_and_ten : SixteenAndTen
  pub every700 : Every700
  pub equal : Equal
  pub finest : Finest
  pub trees : Trees
  pub one_on_eight : OneOnEight
  pub last_points : LastPoints
  pub wide_box : WideBox
