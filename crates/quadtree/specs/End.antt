-- Where a subtree that is written from a position on ends.
use Rattle.std.specs.Prelude.{Bool, ◌&&◌, cond, List, ℕ, ◌+◌, eqb, length, get_or, drop}
use Rattle.surface.specs.Quadtree.{Parsed, none, found, bytes, parse, well_formed}

-- the position that stands for no end: no slice is that long
abbrev pub nowhere : ℕ
nowhere = 18446744073709551615

abbrev pub end_of_parsed : ℕ → ℕ → ℕ → ℕ → ℕ → ℕ → Parsed → ℕ
end_of_parsed W H k x y at none = nowhere
end_of_parsed W H k x y at (found q rest) = cond (well_formed W H k x y q) (at + length (bytes q)) nowhere

-- the position after the tree of the square of side 2^k at (x, y), if there is one of the form
unfoldable pub end_of : ℕ → ℕ → ℕ → ℕ → ℕ → List ℕ → ℕ → ℕ
end_of W H k x y t at = end_of_parsed W H k x y at (parse k (drop at t))

-- the trees that are written from a position to before an end are four equal leaves
abbrev pub equal_bytes : List ℕ → ℕ → ℕ → Bool
equal_bytes t at end =
    eqb end (at + 4)
    && (eqb (get_or t at 0) (get_or t (at + 1) 0)
    && eqb (get_or t at 0) (get_or t (at + 2) 0)
    && eqb (get_or t at 0) (get_or t (at + 3) 0))
