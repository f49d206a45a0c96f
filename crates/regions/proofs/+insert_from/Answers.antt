-- `insert_from` meets its contract: a square away from the box, a single quarter, one that takes the level, four squares.
use Rattle.std.proofs.Common.{arith, sym, ◌∙◌}
use Rattle.boxes.specs.Boxes.{box_of}
use Rattle.regions.proofs.BuildLaws.{some, parts, less, first, second, third, fourth, written}
use Rattle.regions.proofs.InsertLaws.{inserted-none, inserted-one, inserted-leaf, inserted-four}
use Rattle.regions.proofs.PaintLaws.{painted-nested}
use Rattle.regions.proofs.+insert_from.Goals as goal

pub returns-then-not-meets : goal.returns-then-not-meets
returns-then-not-meets t c =
    inserted-none (box_of c.args.b.now) c.args.level (sym c.meets.ensures ∙ c.if-not-meets.true) c.requires.2
    c.build_from.ensures

pub returns-then-side-eq1 : goal.returns-then-side-eq1
returns-then-side-eq1 t c =
    inserted-one (box_of c.args.b.now) c.args.level c.if-side-eq1.true
    (sym c.meets.ensures ∙ c.if-not-meets.false) (omega arith) (omega arith)
    c.requires.1 c.requires.3 c.raise_square.ensures c.level_at-raised.ensures c.write_leaf.ensures

pub returns-then-takes_level : goal.returns-then-takes_level
returns-then-takes_level t c =
    inserted-leaf (box_of c.args.b.now) c.args.level (some c.requires.0).1 c.requires.1
    (c.takes_level.ensures c.if-takes_level.true) c.raise_square-then-takes_level.ensures c.write_leaf-then-takes_level.ensures

pub insert_from-p1-requires : goal.insert_from-p1-requires
insert_from-p1-requires t c =
    let p = c.requires in
    let w = p.0 in
    let more = c.if-side-eq1.false in
    (less w more c.decreases, (first w more (omega (arith, w.square)), p.1, p.2, p.3))

pub insert_from-p2-requires : goal.insert_from-p2-requires
insert_from-p2-requires t c =
    let p = c.requires in
    let w = p.0 in
    let more = c.if-side-eq1.false in
    (less w more c.decreases, (second w more c.insert_from-p1.ensures.builds (omega (arith, w.square)), p.1, c.insert_from-p1.ensures.raises.size, painted-nested c.insert_from-p1.ensures.raises p.3))

pub insert_from-p3-requires : goal.insert_from-p3-requires
insert_from-p3-requires t c =
    let p = c.requires in
    let w = p.0 in
    let more = c.if-side-eq1.false in
    (less w more c.decreases, (third w more c.insert_from-p1.ensures.builds c.insert_from-p2.ensures.builds (omega (arith, w.square)), p.1, c.insert_from-p2.ensures.raises.size, painted-nested c.insert_from-p2.ensures.raises (painted-nested c.insert_from-p1.ensures.raises p.3)))

pub insert_from-end-requires : goal.insert_from-end-requires
insert_from-end-requires t c =
    let p = c.requires in
    let w = p.0 in
    let more = c.if-side-eq1.false in
    (less w more c.decreases, (fourth w more c.insert_from-p1.ensures.builds c.insert_from-p2.ensures.builds c.insert_from-p3.ensures.builds (omega (arith, w.square)), p.1, c.insert_from-p3.ensures.raises.size, painted-nested c.insert_from-p3.ensures.raises (painted-nested c.insert_from-p2.ensures.raises (painted-nested c.insert_from-p1.ensures.raises p.3))))

pub join-requires : goal.join-requires
join-requires t c = written c.requires.0 c.if-side-eq1.false c.insert_from-p1.ensures.builds c.insert_from-p2.ensures.builds c.insert_from-p3.ensures.builds c.insert_from-end.ensures.builds

pub returns : goal.returns
returns t c =
    let w = c.requires.0 in
    inserted-four (parts w c.if-side-eq1.false) w.square.in_u w.square.in_v c.insert_from-p1.ensures c.insert_from-p2.ensures c.insert_from-p3.ensures c.insert_from-end.ensures
    c.join.ensures
