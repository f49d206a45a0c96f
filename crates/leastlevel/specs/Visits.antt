-- What a walk of a subtree finds, and the levels under a box.
use Rattle.std.specs.Prelude.{◌≡◌, cond, List, ℕ, zero, suc, ◌+◌, ◌^◌, ◌≤◌, min, max, leb, length}
use Rattle.surface.specs.Sheet.{Box}
use Rattle.surface.specs.Quadtree.{Quadtree, leaf, split, bytes, meets, visits}
use Rattle.surface.specs.Support.{least_where, greatest_where, in_box}
use Rattle.surface.specs.Table.{tree_of, regions_of, levels}
use Rattle.quadtree.specs.Subtree.{Subtree}
use Rattle.leastlevel.specs.declared.Levels.{Levels}

-- what the least or the greatest level so far, m, becomes with a visited node of this byte: a leaf's is taken in by op
abbrev pub level_with : (ℕ → ℕ → ℕ) → ℕ → ℕ → ℕ
level_with op b m = cond (leb b 3) (op m b) m

-- a visited node is counted, and if it is a leaf its level is taken in
pub record Visited (b : ℕ) (before after : Levels) : Type 0 where
  pub lowest : after.least ≡ level_with min b before.least
  pub highest : after.greatest ≡ level_with max b before.greatest
  pub counted : after.visited ≡ before.visited + 1

-- how many trees a node of this byte begins
abbrev pub begun : ℕ → ℕ
begun b = cond (leb b 3) 0 4

-- some tree stands at a position, and where each that does ends
abbrev pub Standing : List ℕ → ℕ → Type 0
Standing t at = (k : ℕ) × (q : Quadtree) × Subtree k t at q

abbrev pub EndsAt : List ℕ → ℕ → ℕ → Type 0
EndsAt t at end = (k : ℕ) (q : Quadtree) → Subtree k t at q → end ≡ at + length (bytes q)

-- the levels of the leaves visited, taken together by op from none on, of the tree of the square of side 2^k at (x, y)
unfoldable pub taken : (ℕ → ℕ → ℕ) → ℕ → Box → ℕ → ℕ → ℕ → Quadtree → ℕ
taken op none b k x y (leaf l) = cond (meets b k x y) l none
taken op none b zero x y (split sw se nw ne) = none
taken op none b (suc k) x y (split sw se nw ne) =
    cond (meets b (suc k) x y)
    (op (op (taken op none b k x y sw) (taken op none b k (x + 2 ^ k) y se))
    (op (taken op none b k x (y + 2 ^ k) nw) (taken op none b k (x + 2 ^ k) (y + 2 ^ k) ne)))
    none

-- of the tree q of the square of side 2^k at (x, y): the position after it, its levels and its nodes visited
pub record WalkOf (k x y : ℕ) (b : Box) (q : Quadtree) (at next : ℕ) (before after : Levels) : Type 0 where
  pub ends : next ≡ at + length (bytes q)
  pub lowest : after.least ≡ min before.least (taken min 3 b k x y q)
  pub highest : after.greatest ≡ max before.greatest (taken max 0 b k x y q)
  pub counted : after.visited ≡ before.visited + cond (meets b k x y) (visits b k x y q) 0

-- the same of the tree that stands there, with no more nodes than bytes, so that the count fits
pub record WalkedOver (x y side : ℕ) (b : Box) (t : List ℕ) (at next : ℕ) (before after : Levels) : Type 0 where
  pub low : after.least ≤ 3
  pub few : after.visited ≤ next
  pub inside : next ≤ length t
  pub walks : (k : ℕ) (q : Quadtree) → side ≡ 2 ^ k → Subtree k t at q → WalkOf k x y b q at next before after

-- document 01's least level under a box with the number of tree nodes visited, and document 02's greatest level
pub record LevelsOf (W H : ℕ) (t : List ℕ) (b : Box) (least greatest visited : ℕ) : Type 0 where
  pub lowest : least ≡ least_where W H (levels t) (in_box b)
  pub highest : greatest ≡ greatest_where W H (levels t) (in_box b)
  pub counted : visited ≡ visits b 5 0 0 (regions_of (tree_of t))
