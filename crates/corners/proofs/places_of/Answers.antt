use mathlib.Core.Path.{sym, ◌∙◌}
use native.Mathlib.Omega.{arith}
use Rattle.finite.proofs.Tests.{both}
use Rattle.surface.specs.Sheet.{good_side}
use Rattle.corners.proofs.CornerLaws.{no-sheet, on-sheet, good-small, slots_small}
use Rattle.corners.proofs.places_of.Goals as goal

pub returns-then-not-good_sides : goal.returns-then-not-good_sides
returns-then-not-good_sides c = let a = c.args in
    (sym (no-sheet a.w a.h (sym c.good_sides.ensures ∙ c.if-not-good_sides.true)), omega arith)

pub returns : goal.returns
returns c = let a = c.args in
    let good = sym c.good_sides.ensures ∙ c.if-not-good_sides.false in
    let sides = both (good_side a.w) (good_side a.h) good in (
      c.start.ensures.0 ∙ sym (on-sheet a.w a.h good),
      rw c.start.ensures.0 (slots_small a.w a.h (good-small a.w sides.0) (good-small a.h sides.1)),
    )
