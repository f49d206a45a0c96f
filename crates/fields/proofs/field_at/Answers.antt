-- Each way out of `field_at` gives the field of document 01.
use mathlib.Core.Path.{◌≡◌, sym, ◌∙◌}
use mathlib.Core.Bool.{true}
use native.Mathlib.Omega.{arith}
use borrow.Author.Tests.{not-true, not-false}
use Rattle.fields.specs.Positions.{between}
use Rattle.fields.proofs.PositionLaws.{cut-head, other_tag, wrong-length, cut-body, whole-body, sizes}
use Rattle.fields.proofs.field_at.Goals.{Else-wrong}
use Rattle.fields.proofs.field_at.Goals as goal

pub returns-then-left-lt-HEAD : goal.returns-then-left-lt-HEAD
returns-then-left-lt-HEAD c = let a = c.args in
    (cut-head a.tag a.low a.high a.file.now a.at c.if-left-lt-HEAD.true, tt)

pub returns-then-found-tag : goal.returns-then-found-tag
returns-then-found-tag c = let a = c.args in
    (other_tag a.tag a.low a.high a.file.now a.at c.if-left-lt-HEAD.false c.if-found-tag.true, tt)

pub returns-then-wrong : goal.returns-then-wrong
returns-then-wrong c = let a = c.args in (
  wrong-length a.tag a.low a.high a.file.now a.at c.if-left-lt-HEAD.false (omega arith)
      c.length_at-n.ensures.0 (not-true _ (sym c.outside-wrong.ensures ∙ c.if-wrong.true)),
  tt,
)

-- the length is one that the field may have
in_bounds : (c : Else-wrong)
    → let a = c.args in
    between a.low a.high c.length_at-n.result ≡ true
in_bounds c = not-false _ (sym c.outside-wrong.ensures ∙ c.if-wrong.false)

pub returns-then-left-n : goal.returns-then-left-n
returns-then-left-n c = let a = c.args in (
  cut-body a.tag a.low a.high a.file.now a.at c.if-left-lt-HEAD.false (omega arith)
      c.length_at-n.ensures.0 (in_bounds (goal.at.returns-then-left-n c).Else-wrong) c.if-left-n.true,
  tt,
)

pub returns : goal.returns
returns c = let a = c.args in
    let s = sizes c.length_at-n.result a.low a.high (in_bounds (goal.at.returns c).Else-wrong) in (
      whole-body a.tag a.low a.high a.file.now a.at c.if-left-lt-HEAD.false c.if-found-tag.false
          c.length_at-n.ensures.0 (in_bounds (goal.at.returns c).Else-wrong) c.if-left-n.false,
      omega (arith, s.0, s.1),
    )
