-- Slips applied to a small table, which compute: what a reader can work by hand from documents 01 and 02. A wrong
-- definition is tried on these, beside it; more cases are in bench's SlipCases.
use mathlib.Core.Path.{◌≡◌, refl}
use mathlib.Core.List.{List, [], ◌∷◌}
use Prim.Native.Nat.{ℕ}
use lib.IntN.{ℤ, pos}
use lib.ListN.{replicate}
use Rattle.finite.specs.Range.{every, count, total, least}
use Rattle.surface.specs.Sheet.{eighths}
use Rattle.surface.specs.Quadtree.{bytes, parse, well_formed, level_at, region_tree, visits}
use Rattle.surface.specs.Support.{least_under, active_in_row, active_count}
use Rattle.surface.specs.Table.{levels, start, coefficients, within_limits, passive_zero, region_cause, table_cause}
use Rattle.surface.specs.Calls.{Answer, refused, new_tree}
use Rattle.surface.specs.Enquiry.{Slip, slip_of, commit_cause, commit_outcome}
use Rattle.surface.proofs.Applied.{corner}

-- the corner box at level 1, with these numbers told
abbrev told : ℕ → ℕ → ℕ → ℕ → ℕ → ℕ → Slip
told length a0 a1 a2 a3 visited =
    record {
      box = corner;
      level = 1;
      tree_length = length;
      active0 = a0;
      active1 = a1;
      active2 = a2;
      active3 = a3;
      visited = visited;
    }

-- 1 by 1 at level 0, all coefficients 0
abbrev zeros : List ℤ
zeros = replicate 211 (pos 0)

zeros-acceptable : table_cause 1 1 (0 ∷ []) zeros ≡ 0
unfolding table_cause region_cause within_limits passive_zero every least_under least eighths levels level_at parse well_formed
    start coefficients
zeros-acceptable = refl

-- The new tree is 4 4 4 1 and nine 0, all 25 functions of level 1 are active and none else, and four nodes are visited
-- under the box. Of the tree that was read the numbers are 1; 16, 0, 0, 0; 1.
pub slip-told : slip_of 1 1 (0 ∷ []) corner 1 ≡ told 13 0 25 0 0 4
unfolding slip_of new_tree bytes region_tree active_count active_in_row total count least_under least eighths levels level_at
    parse visits
slip-told = refl

-- what a commit of a slip to no outputs, which 16 and 17 would refuse, answers
abbrev answered : Slip → Answer ℕ
answered s = (commit_outcome 1 1 (0 ∷ []) zeros s [] []).result

-- Each number of the slip off by one is 19, before 16 and 17.
pub slip-judged : (answered (told 12 0 25 0 0 4) ≡ refused 19)
    × (answered (told 13 1 25 0 0 4) ≡ refused 19)
    × (answered (told 13 0 24 0 0 4) ≡ refused 19)
    × (answered (told 13 0 25 1 0 4) ≡ refused 19)
    × (answered (told 13 0 25 0 1 4) ≡ refused 19)
    × (answered (told 13 0 25 0 0 3) ≡ refused 19)
unfolding commit_outcome commit_cause
slip-judged = (
  simp (zeros-acceptable, slip-told),
  simp (zeros-acceptable, slip-told),
  simp (zeros-acceptable, slip-told),
  simp (zeros-acceptable, slip-told),
  simp (zeros-acceptable, slip-told),
  simp (zeros-acceptable, slip-told),
)
