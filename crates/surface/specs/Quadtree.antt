-- Document 01, "Regions": the tree that gives each quarter square its level, how it is written, and its form.
use Rattle.std.specs.Prelude.{Bool, true, false, not, ◌&&◌, ◌||◌, cond, List, [], ◌∷◌, ◌++◌, ℕ, zero, suc, ◌+◌, ◌-◌, ◌^◌, leb, ltb, eqb}
use Rattle.surface.specs.Sheet.{Box, quarters}

-- A leaf of a level, or a split into the south-west, south-east, north-west and north-east child
-- ("west is small u, south small v").
pub data Quadtree : Type 0 where
  leaf : ℕ → Quadtree
  split : Quadtree → Quadtree → Quadtree → Quadtree → Quadtree

-- "It is written parent first: bytes 0 to 3 are a leaf of that level, byte 4 a split followed by its south-west,
-- south-east, north-west and north-east children."
unfoldable pub bytes : Quadtree → List ℕ
bytes (leaf l) = l ∷ []
bytes (split sw se nw ne) = 4 ∷ (bytes sw ++ (bytes se ++ (bytes nw ++ bytes ne)))

-- A tree read off the front of a list, with the bytes after it; or none.
pub data Parsed : Type 0 where
  none : Parsed
  found : Quadtree → List ℕ → Parsed

-- Goes on with the tree and the bytes after it.
abbrev pub and_then : Parsed → (Quadtree → List ℕ → Parsed) → Parsed
and_then none f = none
and_then (found t rest) f = f t rest

-- Reads a leaf, or a split whose children the given reader reads.
abbrev pub parse_node : (List ℕ → Parsed) → List ℕ → Parsed
parse_node child [] = none
parse_node child (b ∷ s) =
    elim (leb b 3) [
      | true ↦ found (leaf b) s
      | false ↦
          elim (eqb b 4) [
            | true ↦
                and_then (child s) λ sw s1.
                and_then (child s1) λ se s2.
                and_then (child s2) λ nw s3.
                and_then (child s3) λ ne s4.
                found (split sw se nw ne) s4
            | false ↦ none
          ]
    ]

-- Reads the tree of a square of side 2^k quarters. "A single quarter can't split": at k = 0 no child is read.
unfoldable pub parse : ℕ → List ℕ → Parsed
parse zero s = parse_node (λ _. none) s
parse (suc k) s = parse_node (parse k) s

-- "four children that are equal leaves"
abbrev pub equal_leaves : Quadtree → Quadtree → Quadtree → Quadtree → Bool
equal_leaves (leaf a) (leaf b) (leaf c) (leaf d) = eqb a b && eqb a c && eqb a d
equal_leaves (leaf a) (leaf b) (leaf c) (split d e f g) = false
equal_leaves (leaf a) (leaf b) (split c d e f) g = false
equal_leaves (leaf a) (split b c d e) f g = false
equal_leaves (split a b c d) e f g = false

-- The form of the tree of the square of side 2^k quarters with low corner (x, y), on a sheet of W by H cells:
-- levels 0 to 3, "a single quarter can't split, four children that are equal leaves are not allowed, and squares
-- beyond the sheet have level 0".
unfoldable pub well_formed : ℕ → ℕ → ℕ → ℕ → ℕ → Quadtree → Bool
well_formed W H k x y (leaf l) =
    leb l 3 && (eqb l 0 || (leb (x + 2 ^ k) (quarters W) && leb (y + 2 ^ k) (quarters H)))
well_formed W H zero x y (split sw se nw ne) = false
well_formed W H (suc k) x y (split sw se nw ne) =
    well_formed W H k x y sw
    && well_formed W H k (x + 2 ^ k) y se
    && well_formed W H k x (y + 2 ^ k) nw
    && well_formed W H k (x + 2 ^ k) (y + 2 ^ k) ne
    && not (equal_leaves sw se nw ne)

-- The child of a split that holds a place: west or not, south or not.
abbrev pub quadrant : Bool → Bool → Quadtree → Quadtree → Quadtree → Quadtree → Quadtree
quadrant true true sw se nw ne = sw
quadrant false true sw se nw ne = se
quadrant true false sw se nw ne = nw
quadrant false false sw se nw ne = ne

-- The place within that child, whose side is h.
abbrev pub within : ℕ → ℕ → ℕ
within h q = cond (ltb q h) q (q - h)

-- A leaf's level, or the level in the child that holds the place, whose side is h.
abbrev pub level_in : (Quadtree → ℕ → ℕ → ℕ) → ℕ → Quadtree → ℕ → ℕ → ℕ
level_in child h (leaf l) q r = l
level_in child h (split sw se nw ne) q r =
    child (quadrant (ltb q h) (ltb r h) sw se nw ne) (within h q) (within h r)

-- "Each quarter square has a level 0 to 3": that of the square at (q, r) from the low corner of a square of side 2^k.
unfoldable pub level_at : ℕ → Quadtree → ℕ → ℕ → ℕ
level_at zero t q r = level_in (λ _ _ _. 0) 0 t q r
level_at (suc k) t q r = level_in (level_at k) (2 ^ k) t q r

-- Four subtrees as one tree: equal leaves are merged.
abbrev pub join : Quadtree → Quadtree → Quadtree → Quadtree → Quadtree
join sw se nw ne = cond (equal_leaves sw se nw ne) sw (split sw se nw ne)

-- "So one set of regions has one tree": the tree of the square of side 2^k at (x, y) whose levels are lev.
unfoldable pub region_tree : ℕ → ℕ → ℕ → (ℕ → ℕ → ℕ) → Quadtree
region_tree zero x y lev = leaf (lev x y)
region_tree (suc k) x y lev =
    join
    (region_tree k x y lev)
    (region_tree k (x + 2 ^ k) y lev)
    (region_tree k x (y + 2 ^ k) lev)
    (region_tree k (x + 2 ^ k) (y + 2 ^ k) lev)

-- The square of side 2^k at (x, y) shares area with the box.
abbrev pub meets : Box → ℕ → ℕ → ℕ → Bool
meets b k x y = ltb x b.u1 && ltb b.u0 (x + 2 ^ k) && (ltb y b.v1 && ltb b.v0 (y + 2 ^ k))

-- "The root is visited, and each child of a visited split whose square shares area with the box; nothing else is":
-- the nodes visited of the tree of the square of side 2^k at (x, y), itself visited.
unfoldable pub visits : Box → ℕ → ℕ → ℕ → Quadtree → ℕ
visits b k x y (leaf l) = 1
visits b zero x y (split sw se nw ne) = 1
visits b (suc k) x y (split sw se nw ne) =
    1
    + cond (meets b k x y) (visits b k x y sw) 0
    + cond (meets b k (x + 2 ^ k) y) (visits b k (x + 2 ^ k) y se) 0
    + cond (meets b k x (y + 2 ^ k)) (visits b k x (y + 2 ^ k) nw) 0
    + cond (meets b k (x + 2 ^ k) (y + 2 ^ k)) (visits b k (x + 2 ^ k) (y + 2 ^ k) ne) 0
