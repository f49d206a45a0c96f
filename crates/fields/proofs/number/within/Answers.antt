-- Before each turn the numbers before the k-th keep the limit.
use mathlib.Core.Path.{sym, ◌∙◌}
use native.Mathlib.Omega.{arith}
use Rattle.fields.proofs.NumberLaws.{within_none, within_more, within_all, within-lost}
use Rattle.fields.proofs.number.within.Goals as goal

pub loop-k-init : goal.loop-k-init
loop-k-init c = let a = c.args in within_none a.most a.body.now

pub returns-then-not-keeps : goal.returns-then-not-keeps
returns-then-not-keeps c = let a = c.args in
    within-lost a.most a.body.now a.n c.loop-k.k c.loop-k-test.true
    (sym c.if-not-keeps.true ∙ c.keeps.ensures)

pub loop-k-preserved : goal.loop-k-preserved
loop-k-preserved c = let loop = c.loop-k in
    let a = c.args in within_more a.most a.body.now loop.k loop.invariant (sym c.if-not-keeps.false ∙ c.keeps.ensures)

pub returns : goal.returns
returns c = let a = c.args in
    within_all a.most a.body.now c.loop-k.k a.n (omega arith) c.loop-k.invariant
