-- Each way out of `region_cause` gives the cause of document 01.
use mathlib.Core.Path.{◌≡◌, refl, sym, ◌∙◌}
use mathlib.Core.Bool.{true, false, ◌&&◌}
use native.Mathlib.Omega.{arith}
use Rattle.surface.specs.Sheet.{good_side}
use Rattle.surface.specs.Table.{tree_of, formed}
use Rattle.surface.proofs.TableLaws.{good-side}
use Rattle.finite.proofs.Tests.{both}
use Rattle.table.proofs.CauseLaws.{region-by}
use Rattle.table.proofs.cause.region_cause.Goals.{Else-not-good_sides}
use Rattle.table.proofs.cause.region_cause.Goals as goal

-- past their test both sides are good
good : (c : Else-not-good_sides) → (good_side c.args.w && good_side c.args.h) ≡ true
good c = sym c.good_sides.ensures ∙ c.if-not-good_sides.false

pub regions-requires : goal.regions-requires
regions-requires c = let a = c.args in
    let g = both (good_side a.w) (good_side a.h) (good (goal.at.regions-requires c).Else-not-good_sides) in
    ((good-side a.w g.0).1, (good-side a.h g.1).1)

pub returns-then-not-good_sides : goal.returns-then-not-good_sides
returns-then-not-good_sides c = let a = c.args in (
  region-by a.w a.h a.t.now false (formed a.w a.h (tree_of a.t.now)) (sym c.if-not-good_sides.true ∙ c.good_sides.ensures) refl,
  λ e. absurd (omega arith),
)

pub returns-else-regions : goal.returns-else-regions
returns-else-regions c = let a = c.args in (
  region-by a.w a.h a.t.now true false (sym (good (goal.at.returns-else-regions c).Else-not-good_sides))
      (sym c.if-regions.false ∙ c.regions.ensures.0),
  λ e. absurd (omega arith),
)

pub returns-then-regions : goal.returns-then-regions
returns-then-regions c = let a = c.args in (
  region-by a.w a.h a.t.now true true (sym (good (goal.at.returns-then-regions c).Else-not-good_sides))
      (sym c.if-regions.true ∙ c.regions.ensures.0),
  λ _. c.regions.ensures.1 c.if-regions.true,
)
