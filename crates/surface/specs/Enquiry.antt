-- Document 02, Five: "On the stand a box is drawn first and accepted after a look at its price. Split insertion." The
-- slip, and the outcomes of the enquiry and of the commit on every input.
use Rattle.std.specs.Prelude.{Bool, not, ◌&&◌, List, ℕ, ℤ, eqb, length}
use Rattle.surface.specs.Sheet.{Box}
use Rattle.surface.specs.Quadtree.{visits}
use Rattle.surface.specs.Support.{active_count}
use Rattle.surface.specs.Table.{cause, ◌or_else◌, tree_of, regions_of, levels}
use Rattle.surface.specs.Calls.{Answer, answer, Written, written, outputs_cause, new_tree, new_coefficients}
use Rattle.surface.specs.Calls.{refinement_cause}

-- "a slip: box, level, new tree length, active functions of each level over the new tree, and the tree nodes that one
-- least-level call over the box will visit in the new tree"
pub record Slip : Type 0 where
  pub box : Box
  pub level : ℕ
  pub tree_length : ℕ
  pub active0 : ℕ
  pub active1 : ℕ
  pub active2 : ℕ
  pub active3 : ℕ
  pub visited : ℕ

-- The slip that a table gives for a box and a level. The table's coefficients have no part in it.
unfoldable pub slip_of : ℕ → ℕ → List ℕ → Box → ℕ → Slip
slip_of W H t box n =
    let new = new_tree t box n in
    record {
      box = box;
      level = n;
      tree_length = length new;
      active0 = active_count W H (levels new) 0;
      active1 = active_count W H (levels new) 1;
      active2 = active_count W H (levels new) 2;
      active3 = active_count W H (levels new) 3;
      visited = visits box 5 0 0 (regions_of (tree_of new));
    }

-- ---- "The enquiry takes the table, box and level with insertion's checks, writes nothing and gives a slip"

unfoldable pub enquiry_outcome : ℕ → ℕ → List ℕ → List ℤ → Box → ℕ → Answer Slip
enquiry_outcome W H t cs box n = answer (refinement_cause W H t cs box n) (slip_of W H t box n)

-- ---- "The commit takes the table and the slip and inserts as before."

-- Two slips are the same, number by number.
abbrev pub same_slip : Slip → Slip → Bool
same_slip a b =
    eqb a.box.u0 b.box.u0
    && eqb a.box.v0 b.box.v0
    && eqb a.box.u1 b.box.u1
    && eqb a.box.v1 b.box.v1
    && eqb a.level b.level
    && eqb a.tree_length b.tree_length
    && eqb a.active0 b.active0
    && eqb a.active1 b.active1
    && eqb a.active2 b.active2
    && eqb a.active3 b.active3
    && eqb a.visited b.visited

-- "19, the slip is not the one that this table gives for the slip's own box and level"
abbrev pub slip_cause : ℕ → ℕ → List ℕ → Slip → ℕ
slip_cause W H t s = cause 19 (not (same_slip s (slip_of W H t s.box s.level)))

-- Insertion's checks of the slip's own box and level; 19 "after 8 and before 16"; then 16 and 17.
unfoldable pub commit_cause : ℕ → ℕ → List ℕ → List ℤ → Slip → List ℕ → List ℤ → ℕ
commit_cause W H t cs s tree_out numbers_out =
    refinement_cause W H t cs s.box s.level
    or_else slip_cause W H t s
    or_else outputs_cause W H (new_tree t s.box s.level) tree_out numbers_out

-- The answer is the new tree's length.
unfoldable pub commit_outcome : ℕ → ℕ → List ℕ → List ℤ → Slip → List ℕ → List ℤ → Written ℕ
commit_outcome W H t cs s tree_out numbers_out =
    let new = new_tree t s.box s.level in
    written
    (commit_cause W H t cs s tree_out numbers_out)
    (length new)
    new
    (new_coefficients W H t cs s.box s.level)
    tree_out
    numbers_out
