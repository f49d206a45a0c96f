-- Boxes of the code as the boxes of document 01, the squares that share area with one, and those that lie in it.
use Rattle.std.specs.Prelude.{Bool, ◌&&◌, ℕ, ◌+◌, ◌≤◌, ◌<◌, leb, ltb}
use Rattle.surface.specs.Sheet as sheet
use Rattle.surface.specs.Sheet.{quarters}
use Rattle.boxes.specs.declared.Box.{Box}

-- the box of document 01 that a box of the code is
abbrev pub box_of : Box → sheet.Box
box_of b = record { u0 = b.u0; v0 = b.v0; u1 = b.u1; v1 = b.v1 }

-- a box with area that lies in the sheet
abbrev pub InSheet : ℕ → ℕ → sheet.Box → Type 0
InSheet W H b = (b.u0 < b.u1) × (b.v0 < b.v1) × (b.u1 ≤ quarters W) × (b.v1 ≤ quarters H)

-- along one direction, the n places from x on share one with the places lo to hi - 1
abbrev pub overlap : ℕ → ℕ → ℕ → ℕ → Bool
overlap lo hi x n = ltb x hi && ltb lo (x + n)

-- the square of a side at (x, y) shares area with the box
abbrev pub shares_area : ℕ → ℕ → ℕ → sheet.Box → Bool
shares_area x y side b = overlap b.u0 b.u1 x side && overlap b.v0 b.v1 y side

-- along one direction, the n places from x on are among the places lo to hi - 1
abbrev pub among : ℕ → ℕ → ℕ → ℕ → Bool
among lo hi x n = leb lo x && leb (x + n) hi

-- the square of a side at (x, y) lies in the box
abbrev pub lies_in : ℕ → ℕ → ℕ → sheet.Box → Bool
lies_in x y side b = among b.u0 b.u1 x side && among b.v0 b.v1 y side
