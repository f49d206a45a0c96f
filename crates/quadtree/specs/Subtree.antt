-- The squares of a tree, and a subtree that is written from a position on.
use Rattle.std.specs.Prelude.{◌≡◌, List, ◌++◌, ℕ, ◌+◌, ◌^◌, ◌≤◌, length, drop}
use Rattle.surface.specs.Quadtree.{Quadtree, found, bytes, parse}

-- a square of the tree: its side is a power of two, and it lies in the root's square
pub record Square (x y side : ℕ) : Type 0 where
  pub height : ℕ
  pub power : side ≡ 2 ^ height
  pub in_u : x + side ≤ 32
  pub in_v : y + side ≤ 32

-- the bytes of four trees, one after the other
abbrev pub row : Quadtree → Quadtree → Quadtree → Quadtree → List ℕ
row sw se nw ne = bytes sw ++ (bytes se ++ (bytes nw ++ bytes ne))

-- the tree q of a square of side 2^k stands in t from a position on
abbrev pub Subtree : ℕ → List ℕ → ℕ → Quadtree → Type 0
Subtree k t at q = parse k (drop at t) ≡ found q (drop (at + length (bytes q)) t)

-- some tree of a square of this side does
pub record Readable (side : ℕ) (t : List ℕ) (at : ℕ) : Type 0 where
  pub height : ℕ
  pub tree : Quadtree
  pub power : side ≡ 2 ^ height
  pub stands : Subtree height t at tree
