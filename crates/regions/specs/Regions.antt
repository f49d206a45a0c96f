-- What the insertion of a box into the regions gives, and what the tree of given levels is as bytes.
use Rattle.std.specs.Prelude.{◌≡◌, true, cond, List, ℕ, ◌+◌, ◌*◌, ◌^◌, ◌≤◌, ◌<◌, length, get_or, take}
use Rattle.surface.specs.Sheet.{Box}
use Rattle.surface.specs.Quadtree.{Quadtree, leaf, bytes, join, region_tree}
use Rattle.surface.specs.Carry.{raised}
use Rattle.surface.specs.Support.{in_box}
use Rattle.rows.specs.Rows.{levels_of, Nested, Painted}
use Rattle.quadtree.specs.Subtree.{Square, row}

-- the tree of the square of side 2^k at (x, y), as bytes
abbrev pub bytes_of : ℕ → ℕ → ℕ → (ℕ → ℕ → ℕ) → List ℕ
bytes_of k x y lev = bytes (region_tree k x y lev)

-- bytes that stand from a position on, with the position after them
pub record Stands (bs : List ℕ) (at next : ℕ) (out : List ℕ) : Type 0 where
  pub ends : next ≡ at + length bs
  pub here : (i : ℕ) → i < length bs → get_or out (at + i) 0 ≡ get_or bs i 0

-- the tree of a square may be written from a position on: the square lies in the root's, and its bytes have room
pub record Writable (x y side at : ℕ) (out : List ℕ) : Type 0 where
  pub square : Square x y side
  pub room : 3 * at + 4 * (side * side) ≤ 4096
  pub size : length out ≡ 1365

-- a leaf of a level written at a position, and nothing before it changed
pub record LeafAt (level at next : ℕ) (before after : List ℕ) : Type 0 where
  pub size : length after ≡ 1365
  pub tree : Stands (bytes (leaf level)) at next after
  pub before-it : (p : ℕ) → p < at → get_or after p 0 ≡ get_or before p 0

-- four trees that were written behind a position are one tree from that position on, no longer than they were
pub record Joined (at end next : ℕ) (before after : List ℕ) : Type 0 where
  pub size : length after ≡ 1365
  pub forth : at < next
  pub room : next ≤ end
  pub tree : (sw se nw ne : Quadtree) → Stands (row sw se nw ne) (at + 1) end before
      → Stands (bytes (join sw se nw ne)) at next after
  pub before-it : (p : ℕ) → p < at → get_or after p 0 ≡ get_or before p 0

-- the tree of a square written from a position on, and nothing before it changed
pub record BuiltFrom (x y side : ℕ) (lev : ℕ → ℕ → ℕ) (at next : ℕ) (before after : List ℕ) : Type 0 where
  pub size : length after ≡ 1365
  pub forth : at < next
  pub room : 3 * next + 1 ≤ 3 * at + 4 * (side * side)
  pub tree : (k : ℕ) → side ≡ 2 ^ k → Stands (bytes_of k x y lev) at next after
  pub before-it : (p : ℕ) → p < at → get_or after p 0 ≡ get_or before p 0

-- the level that the insertion of a box names for a square, counted from the corner (x, y): 0 where it names none
abbrev pub named : Box → ℕ → ℕ → ℕ → ℕ → ℕ → ℕ
named box level x y q r = cond (in_box box (x + q) (y + r)) level 0

-- every square of the square of a side at (x, y) lies in the box and has no level above the one named
pub record TakesLevel (x y side : ℕ) (box : Box) (level : ℕ) (rows : List ℕ) : Type 0 where
  pub inside : (q r : ℕ) → x ≤ q → q < x + side → y ≤ r → r < y + side → in_box box q r ≡ true
  pub low : (q r : ℕ) → x ≤ q → q < x + side → y ≤ r → r < y + side → levels_of rows q r ≤ level

-- the squares of a box in the square of a side at (x, y) are raised to a level, and the tree of their new levels is
-- written from a position on
pub record InsertedFrom (x y side : ℕ) (box : Box) (level : ℕ) (rows new : List ℕ) (at next : ℕ)
    (before after : List ℕ) : Type 0 where
  pub raises : Painted x y side (named box level x y) rows new
  pub builds : BuiltFrom x y side (raised (levels_of rows) box level) at next before after

-- "Insertion gives each square in the box the greater of its old level and the one named": the new levels, and their
-- tree
pub record Inserted (box : Box) (level : ℕ) (rows new : List ℕ) (n : ℕ) (out : List ℕ) : Type 0 where
  pub nested : Nested new
  pub levels : (q r : ℕ) → q < 32 → r < 32 → levels_of new q r ≡ raised (levels_of rows) box level q r
  pub size : length out ≡ 1365
  pub fits : n ≤ 1365
  pub tree : take n out ≡ bytes_of 5 0 0 (raised (levels_of rows) box level)
