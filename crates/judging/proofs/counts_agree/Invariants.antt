-- Before each turn the counts of the levels below are those found.
use Prim.Native.Nat.{ℕ, ◌<◌}
use Rattle.judging.specs.Judged.{count_of}
use Rattle.judging.proofs.CountsLaws.{Agrees}
use Rattle.judging.proofs.counts_agree.Given as goal

abbrev pub invariant-loop-level : goal.invariant-loop-level
invariant-loop-level l = (L : ℕ) → L < l.level → Agrees (count_of l.fn.counts) l.body L
