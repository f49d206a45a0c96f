-- `insert` meets its contract: the square of side 32 holds all quarter squares.
use mathlib.Core.Path.{refl}
use native.Mathlib.Omega.{arith}
use Rattle.quadtree.specs.Subtree.{Square}
use Rattle.regions.proofs.InsertLaws.{inserted-all}
use Rattle.regions.proofs.insert.Goals as goal

pub insert_from-requires : goal.insert_from-requires
insert_from-requires c = let p = c.requires in
    let square : Square 0 0 32 = record { height = 5; power = refl; in_u = omega arith; in_v = omega arith } in
    (record { square = square; room = omega arith; size = p.3 }, p.0, p.1, p.2)

pub returns : goal.returns
returns c = let p = c.requires in
    inserted-all p.2 p.0 c.insert_from.ensures
