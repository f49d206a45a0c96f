use Rattle.surface.specs.Table.{start}
use Rattle.passive.specs.Cleared.{ClearedTo}
use Rattle.passive.proofs.clear.Given as goal

abbrev pub invariant-loop-level : goal.invariant-loop-level
invariant-loop-level l = ClearedTo (start l.w l.h l.level) l.w l.h l.rows l.initial.out l.out
