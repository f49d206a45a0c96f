-- Before each turn the rows below b agree.
use mathlib.Core.Path.{sym}
use mathlib.Core.Bool.{true≢false}
use native.Mathlib.Omega.{arith}
use Rattle.finite.proofs.Tests.{below_more}
use Rattle.fromgrid.proofs.agrees.Goals as goal

pub row_agrees-requires : goal.row_agrees-requires
row_agrees-requires c = let p = c.requires in
    (p.0, p.1, p.2, p.3, p.4, p.5, p.6, omega (arith, c.functions-m.ensures.0, c.loop-b-test.true))

pub returns-then-not-row_agrees : goal.returns-then-not-row_agrees
returns-then-not-row_agrees c = (
  λ t. absurd (true≢false (sym t)),
  λ _ all. c.row_agrees.ensures.1 c.if-not-row_agrees.true
      (λ a ha. all a c.loop-b.b ha (omega (arith, c.functions-m.ensures.0, c.loop-b-test.true))),
)

pub loop-b-preserved : goal.loop-b-preserved
loop-b-preserved c =
    below_more _ c.loop-b.b c.loop-b.invariant (c.row_agrees.ensures.0 c.if-not-row_agrees.false)

pub returns : goal.returns
returns c = (
  λ _ a b ha hb. c.loop-b.invariant b (omega (arith, c.functions-m.ensures.0, c.loop-b-test.false)) a ha,
  λ t. absurd (true≢false t),
)
