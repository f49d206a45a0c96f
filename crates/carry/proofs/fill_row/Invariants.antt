use mathlib.Core.List.{List}
use Prim.Native.Nat.{◌*◌}
use lib.IntN.{ℤ}
use Rattle.carry.specs.Carried.{carried_if}
use Rattle.passive.proofs.RowLaws.{Rule, Turn}
use Rattle.carry.proofs.fill_row.Given as goal

abbrev pub rule : List ℤ → Rule
rule sums t a z = carried_if t z sums a

abbrev pub invariant-loop-k : goal.invariant-loop-k
invariant-loop-k l = Turn (rule l.sums) l.e l.initial.m l.own l.initial.row (2 * l.k) l.m l.row
