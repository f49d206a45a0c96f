-- The patch of the level to stop at is that of document 01 under the rows, and so under the tree that the rows are of.
use mathlib.Core.Path.{◌∙◌, ap, sym, subst}
use lib.Dec.{T}
use borrow.Author.Rules.{sfits_of}
use mir.Syntax.{w64}
use mir.ValLaws.{to_z-of_z}
use Rattle.surface.specs.Slopes.{ExactSlopes}
use Rattle.point.proofs.PatchLaws.{point-ready, evaluate-ready, reading-of, slopes-of}
use Rattle.point.proofs.read_at.Goals as goal

pub level_of-level-requires : goal.level_of-level-requires
level_of-level-requires c = let a = c.args in
    let r = point-ready a.w a.h a.rows.now a.numbers.now a.u a.v c.requires in
    (r.0, r.1, r.2, r.3)

pub place_of-place-requires : goal.place_of-place-requires
place_of-place-requires c = let a = c.args in
    let r = point-ready a.w a.h a.rows.now a.numbers.now a.u a.v c.requires in
    (r.0, r.1, r.2, r.3, c.level_of-level.ensures.1, r.4, r.5)

pub evaluate_slopes-requires : goal.evaluate_slopes-requires
evaluate_slopes-requires c = let a = c.args in
    evaluate-ready a.w a.h a.rows.now a.numbers.now a.u a.v c.requires c.level_of-level.result
    c.place_of-place.result c.patch_of-patch.result c.level_of-level.ensures.0 c.place_of-place.ensures
    c.patch_of-patch.ensures

pub returns-then-sloped : goal.returns-then-sloped
returns-then-sloped c = λ t painted acc.
    let a = c.args in
    let same = slopes-of a.w a.h a.rows.now a.numbers.now a.u a.v
    (c.requires.0, c.requires.1, (t, painted, acc)) c.level_of-level.result c.place_of-place.result
    c.patch_of-patch.result c.level_of-level.ensures.0 c.place_of-place.ensures c.patch_of-patch.ensures
    c.evaluate_slopes.result c.evaluate_slopes.ensures in
    (ap (λ (e : ExactSlopes). e.watts) same, λ _. same)

pub evaluate-requires : goal.evaluate-requires
evaluate-requires c = let a = c.args in
    evaluate-ready a.w a.h a.rows.now a.numbers.now a.u a.v c.requires c.level_of-level.result
    c.place_of-place.result c.patch_of-patch.result c.level_of-level.ensures.0 c.place_of-place.ensures
    c.patch_of-patch.ensures

pub returns : goal.returns
returns c = λ t painted acc.
    let a = c.args in
    let same = reading-of a.w a.h a.rows.now a.numbers.now a.u a.v
    (c.requires.0, c.requires.1, (t, painted, acc)) c.level_of-level.result c.place_of-place.result
    c.patch_of-patch.result c.level_of-level.ensures.0 c.place_of-place.ensures c.patch_of-patch.ensures
    c.evaluate.result c.evaluate.ensures in (
      to_z-of_z w64 c.evaluate.result (sfits_of c.evaluate.type_inv) ∙ same,
      λ e. absurd (subst T (sym e ∙ c.if-sloped.false) tt),
    )
