-- The level's part of the slice has the level's coefficients, row by row.
use mathlib.Core.Path.{◌∙◌}
use Prim.Native.Nat.{◌+◌, ◌≤◌}
use native.Mathlib.Omega.{arith}
use lib.ListN.{length}
use Rattle.activity.proofs.WindowLaws.{functions-le}
use Rattle.coefficients.proofs.Parts.{level-fits, part_length}
use Rattle.point.proofs.PointLaws.{rows_fit, level-own}
use Rattle.point.proofs.own.of_level.Goals.{After-places}
use Rattle.point.proofs.own.of_level.Goals as goal

-- the level's part is inside the slice
inside : (c : After-places)
    → c.start-first.result + c.places.result ≤ length c.args.numbers.now
inside c =
    rw c.requires.5
    (level-fits c.args.w c.args.h c.args.level c.start-first.result c.places.result
    c.requires.2 c.start-first.ensures.0 c.places.ensures.0)

pub slice_bounds-in_part-end : goal.slice_bounds-in_part-end
slice_bounds-in_part-end c = inside c

pub in_part-requires : goal.in_part-requires
in_part-requires c = let a = c.args in
    let n = c.functions-n in
    let size = part_length c.start-first.result c.places.result a.numbers.now (inside (goal.at.in_part-requires c).After-places) in (
      omega (arith, n.ensures.0),
      n.ensures.1,
      omega (arith, functions-le a.h a.level c.requires.1 c.requires.2),
      rw (size ∙ c.places.ensures.0)
          (rows_fit a.w a.h a.level a.b n.result n.ensures.0 c.requires.4),
    )

pub returns : goal.returns
returns c = λ k l hk hl.
    let a = c.args in
    c.in_part.ensures k l hk hl
    ∙ level-own a.w a.h a.level c.start-first.result c.places.result
    c.functions-n.result a.a a.b a.numbers.now c.start-first.ensures.0
    c.places.ensures.0 c.functions-n.ensures.0 c.requires.3 c.requires.4 k l hk hl
