-- Before each turn the quarter squares met so far are all above the level.
use native.Mathlib.Omega.{arith}
use Rattle.rows.specs.Rows.{levels_of}
use Rattle.coarsening.proofs.FindLaws.{along, one-more, row-more}
use Rattle.coarsening.proofs.find.find.Goals as goal

pub loop-r-init : goal.loop-r-init
loop-r-init c q r eq er h = let a = c.args in
    absurd (omega (arith, h, (along a.level c.side_at-side.result a.y r c.requires.0 c.side_at-side.ensures er).0))

pub loop-q-init : goal.loop-q-init
loop-q-init c = let a = c.args in (
  c.loop-r.invariant,
  λ q e h. absurd (omega (arith, h, (along a.level c.side_at-side.result a.x q c.requires.0 c.side_at-side.ensures e).0)),
)

pub loop-q-preserved : goal.loop-q-preserved
loop-q-preserved c = let a = c.args in (
  c.loop-q.invariant.0,
  one-more a.level a.x c.loop-r.r c.loop-q.q (levels_of a.rows.now) c.loop-q.invariant.1
      (omega (arith, c.level_at.ensures, c.if-level_at-most.false)),
)

pub loop-r-preserved : goal.loop-r-preserved
loop-r-preserved c = let a = c.args in
    row-more a.level c.side_at-side.result a.x a.y c.loop-r.r c.loop-q.q (levels_of a.rows.now) c.requires.0
    c.side_at-side.ensures (omega (arith, c.loop-q-test.false)) c.loop-q.invariant.0 c.loop-q.invariant.1

pub returns : goal.returns
returns c q r eq er = let a = c.args in
    let in_side = along a.level c.side_at-side.result a.y r c.requires.0 c.side_at-side.ensures er in
    c.loop-r.invariant q r eq er (omega (arith, c.loop-r-test.false, in_side.1))
