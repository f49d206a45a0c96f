-- `build_from` meets its contract: a single quarter, a square of level 0, four squares.
use Rattle.std.proofs.Common.{arith}
use Rattle.regions.proofs.BuildLaws.{some, parts, less, first, second, third, fourth, written}
use Rattle.regions.proofs.BuildLaws.{built-one, built-leaf, built-four}
use Rattle.regions.proofs.PaintLaws.{none-level, three-levels}
use Rattle.regions.proofs.+build_from.Goals as goal

pub returns-then-side-eq1 : goal.returns-then-side-eq1
returns-then-side-eq1 t c =
    let a = c.args in
    let low = three-levels a.rows.now a.x a.y in
    built-one c.if-side-eq1.true (omega (arith, c.level_at-level.ensures, low)) c.level_at-level.ensures
    c.write_leaf.ensures

pub returns-then-none_in : goal.returns-then-none_in
returns-then-none_in t c =
    let a = c.args in
    let w = c.requires.0 in
    built-leaf (some w).1 (omega arith) c.write_leaf-then-none_in.ensures λ q r xq qx yr ry.
    let low =
    none-level 0 a.x a.y a.side (omega arith) c.requires.1 w.square.in_u w.square.in_v
    (c.none_in.ensures.0 c.if-none_in.true) q r xq qx yr ry in
    omega arith

pub build_from-p1-requires : goal.build_from-p1-requires
build_from-p1-requires t c =
    let p = c.requires in
    let w = p.0 in
    let more = c.if-side-eq1.false in
    (less w more c.decreases, (first w more (omega (arith, w.square)), p.1))

pub build_from-p2-requires : goal.build_from-p2-requires
build_from-p2-requires t c =
    let p = c.requires in
    let w = p.0 in
    let more = c.if-side-eq1.false in
    (less w more c.decreases, (second w more c.build_from-p1.ensures (omega (arith, w.square)), p.1))

pub build_from-p3-requires : goal.build_from-p3-requires
build_from-p3-requires t c =
    let p = c.requires in
    let w = p.0 in
    let more = c.if-side-eq1.false in
    (less w more c.decreases, (third w more c.build_from-p1.ensures c.build_from-p2.ensures (omega (arith, w.square)), p.1))

pub build_from-end-requires : goal.build_from-end-requires
build_from-end-requires t c =
    let p = c.requires in
    let w = p.0 in
    let more = c.if-side-eq1.false in
    (less w more c.decreases, (fourth w more c.build_from-p1.ensures c.build_from-p2.ensures c.build_from-p3.ensures (omega (arith, w.square)), p.1))

pub join-requires : goal.join-requires
join-requires t c = written c.requires.0 c.if-side-eq1.false c.build_from-p1.ensures c.build_from-p2.ensures c.build_from-p3.ensures c.build_from-end.ensures

pub returns : goal.returns
returns t c = built-four (parts c.requires.0 c.if-side-eq1.false) c.build_from-p1.ensures c.build_from-p2.ensures c.build_from-p3.ensures c.build_from-end.ensures c.join.ensures
