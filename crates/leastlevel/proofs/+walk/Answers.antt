-- `walk` meets its contract: a square away from the box, a leaf, four squares.
use Rattle.std.proofs.Common.{ℕ, ◌≤◌, List, sym, ◌∙◌, arith}
use Rattle.surface.specs.Sheet.{Box}
use Rattle.leastlevel.specs.declared.Levels.{Levels}
use Rattle.leastlevel.specs.Visits.{WalkedOver}
use Rattle.leastlevel.proofs.WalkLaws.{readable-inside, half-less, readable-first, readable-second}
use Rattle.leastlevel.proofs.WalkLaws.{readable-third, readable-fourth, visited-ready, walk-away, walk-leaf, walk_split}
use Rattle.leastlevel.proofs.+walk.Goals as goal

pub returns-then-not-meets : goal.returns-then-not-meets
returns-then-not-meets t c =
    let a = c.args in
    let p = c.requires in
    walk-away _ a.t.now a.x a.y a.side a.at _ a.found.now p.2 p.3 p.4
    (sym c.meets.ensures ∙ c.if-not-meets.true) c.skip.ensures

pub bounds-t-at : goal.bounds-t-at
bounds-t-at t c = readable-inside c.requires.2

pub visit-requires : goal.visit-requires
visit-requires t c = omega (arith, readable-inside c.requires.2, c.requires.4, c.well_formed.0.1)

pub overflow_add-result : goal.overflow_add-result
overflow_add-result t c = omega (arith, readable-inside c.requires.2, c.well_formed.0.1)

pub returns-then-byte-le3 : goal.returns-then-byte-le3
returns-then-byte-le3 t c =
    let a = c.args in
    let p = c.requires in
    walk-leaf _ a.t.now a.x a.y a.side a.at a.found.now _ (readable-inside p.2) c.if-byte-le3.true p.3 p.4
    (sym c.meets.ensures ∙ c.if-not-meets.false) c.visit.ensures

-- what a walk leaves for the next one
after : {x y side p q : ℕ} {b : Box} {t : List ℕ} {f g : Levels} → WalkedOver x y side b t p q f g
    → (g.least ≤ 3) × (g.visited ≤ q)
after w = (w.low, w.few)

pub walk-p1-requires : goal.walk-p1-requires
walk-p1-requires t c =
    let p = c.requires in
    let ready = visited-ready _ c.args.at c.args.found.now _ c.if-byte-le3.false p.3 p.4 c.visit.ensures in (
      omega (arith, half-less p.2 c.if-byte-le3.false, c.decreases),
      (omega (arith, p), omega (arith, p), readable-first p.2 c.if-byte-le3.false, ready.0, ready.1),
    )

pub walk-p2-requires : goal.walk-p2-requires
walk-p2-requires t c =
    let p = c.requires in
    let ready = after c.walk-p1.ensures in (
      omega (arith, half-less p.2 c.if-byte-le3.false, c.decreases),
      (omega (arith, p), omega (arith, p), readable-second p.2 c.if-byte-le3.false c.walk-p1.ensures, ready.0, ready.1),
    )

pub walk-p3-requires : goal.walk-p3-requires
walk-p3-requires t c =
    let p = c.requires in
    let ready = after c.walk-p2.ensures in (
      omega (arith, half-less p.2 c.if-byte-le3.false, c.decreases),
      (omega (arith, p), omega (arith, p), readable-third p.2 c.if-byte-le3.false c.walk-p1.ensures c.walk-p2.ensures, ready.0, ready.1),
    )

pub walk-requires : goal.walk-requires
walk-requires t c =
    let p = c.requires in
    let ready = after c.walk-p3.ensures in (
      omega (arith, half-less p.2 c.if-byte-le3.false, c.decreases),
      (omega (arith, p), omega (arith, p), readable-fourth p.2 c.if-byte-le3.false c.walk-p1.ensures c.walk-p2.ensures c.walk-p3.ensures, ready.0, ready.1),
    )

pub returns : goal.returns
returns t c =
    walk_split c.if-byte-le3.false (sym c.meets.ensures ∙ c.if-not-meets.false) c.visit.ensures
    c.walk-p1.ensures c.walk-p2.ensures c.walk-p3.ensures c.walk.ensures
