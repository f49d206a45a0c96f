-- `walk` meets its contract: past the slice, a leaf, four quarters, four lesser squares.
use Rattle.std.proofs.Common.{arith, true, false, sym, ◌∙◌, ◌+◌, ◌/◌}
use Rattle.quadtree.proofs.WalkLaws.{judged-past, judged-split, short, child-asks}
use Rattle.quadtree.proofs.walk.+walk.Goals as goal

pub returns-then-t-at : goal.returns-then-t-at
returns-then-t-at t c = judged-past (short _ c.well_formed.0.1) c.requires.4 c.if-t-at.true

pub walk-p1-requires : goal.walk-p1-requires
walk-p1-requires t c =
    let p = c.requires in
    let k = child-asks _ _ _ _ (c.args.x) (c.args.y) c.decreases p.0 p.1 c.if-side-eq2.false (omega (arith, p.0)) (omega (arith, p.0)) in
    (k.0, (k.1, k.2, p.2, p.3, p.4))

pub walk-p2-requires : goal.walk-p2-requires
walk-p2-requires t c =
    let p = c.requires in
    let k = child-asks _ _ _ _ (c.args.x + c.args.side / 2) (c.args.y) c.decreases p.0 p.1 c.if-side-eq2.false (omega (arith, p.0)) (omega (arith, p.0)) in
    (k.0, (k.1, k.2, p.2, p.3, c.walk-p1.ensures.size))

pub walk-p3-requires : goal.walk-p3-requires
walk-p3-requires t c =
    let p = c.requires in
    let k = child-asks _ _ _ _ (c.args.x) (c.args.y + c.args.side / 2) c.decreases p.0 p.1 c.if-side-eq2.false (omega (arith, p.0)) (omega (arith, p.0)) in
    (k.0, (k.1, k.2, p.2, p.3, c.walk-p2.ensures.size))

pub walk-p4-requires : goal.walk-p4-requires
walk-p4-requires t c =
    let p = c.requires in
    let k = child-asks _ _ _ _ (c.args.x + c.args.side / 2) (c.args.y + c.args.side / 2) c.decreases p.0 p.1 c.if-side-eq2.false (omega (arith, p.0)) (omega (arith, p.0)) in
    (k.0, (k.1, k.2, p.2, p.3, c.walk-p3.ensures.size))

pub returns-then-equal_leaves : goal.returns-then-equal_leaves
returns-then-equal_leaves t c =
    judged-split (short _ c.well_formed.0.1) c.if-t-at.false c.if-t-at-ne4.false c.requires.1
    c.walk-p1.ensures c.walk-p2.ensures c.walk-p3.ensures c.walk-p4.ensures true
    (sym c.equal_leaves.ensures ∙ c.if-equal_leaves.true)

pub returns : goal.returns
returns t c =
    judged-split (short _ c.well_formed.0.1) c.if-t-at.false c.if-t-at-ne4.false c.requires.1
    c.walk-p1.ensures c.walk-p2.ensures c.walk-p3.ensures c.walk-p4.ensures false
    (sym c.equal_leaves.ensures ∙ c.if-equal_leaves.false)
