use Rattle.rows.specs.Rows.{levels_of}
use Rattle.coarsening.proofs.FindLaws.{Above, RowAbove}
use Rattle.coarsening.proofs.find.find.Given as goal

abbrev pub invariant-loop-r : goal.invariant-loop-r
invariant-loop-r l = Above l.level l.x l.y (levels_of l.rows) l.r

abbrev pub invariant-loop-q : goal.invariant-loop-q
invariant-loop-q l =
    Above l.level l.x l.y (levels_of l.rows) l.r × RowAbove l.level l.x (levels_of l.rows) l.r l.q
