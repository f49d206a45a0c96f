-- `takes_level` meets its contract: the square lies in the box, and nested regions bound its levels.
use mathlib.Core.Bool.{false≢true}
use mathlib.Core.Path.{sym, ◌∙◌}
use native.Mathlib.Omega.{arith}
use Rattle.boxes.specs.Boxes.{box_of}
use Rattle.boxes.proofs.BoxLaws.{box-holds}
use Rattle.regions.proofs.PaintLaws.{none-level, three-levels}
use Rattle.regions.proofs.takes_level.Goals as goal

pub returns-then-not-holds : goal.returns-then-not-holds
returns-then-not-holds c e = absurd (false≢true e)

pub returns-then-level-eq3 : goal.returns-then-level-eq3
returns-then-level-eq3 c e = let a = c.args in
    record {
      inside = λ q r. box-holds (box_of a.b.now) a.x a.y a.side q r
          (sym c.holds.ensures ∙ c.if-not-holds.false);
      low = λ q r _ _ _ _. omega (arith, three-levels a.rows.now q r, c.if-level-eq3.true);
    }

pub none_in-requires : goal.none_in-requires
none_in-requires c = let p = c.requires in
    (omega (arith, c.if-level-eq3.false, p.3), p.0, p.1, p.2)

pub returns : goal.returns
returns c e = let a = c.args in
    let p = c.requires in
    record {
      inside = λ q r. box-holds (box_of a.b.now) a.x a.y a.side q r
          (sym c.holds.ensures ∙ c.if-not-holds.false);
      low = none-level a.level a.x a.y a.side (omega (arith, c.if-level-eq3.false, p.3)) p.4 p.1
          p.2 (c.none_in.ensures.0 e);
    }
