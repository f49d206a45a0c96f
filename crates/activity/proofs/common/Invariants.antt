use Prim.Native.Nat.{◌+◌}
use Rattle.activity.specs.Marks.{Common}
use Rattle.activity.proofs.common.Given as goal

abbrev pub invariant-loop-row : goal.invariant-loop-row
invariant-loop-row l = Common l.rows l.from (l.from + l.row-index) l.word
