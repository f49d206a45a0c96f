-- Before each turn the fields of the levels below are judged.
use Prim.Native.Nat.{ℕ, ◌≤◌}
use lib.ListN.{length, drop}
use Rattle.surface.specs.TableFile.{level_fields}
use Rattle.activity.specs.Counts.{Counted}
use Rattle.judging.specs.Judged.{ends_at}
use Rattle.judging.proofs.levels_judge.Given as goal

abbrev pub invariant-loop-level : goal.invariant-loop-level
invariant-loop-level l =
    (l.at ≤ length l.file)
    × ((W H : ℕ) (lev : ℕ → ℕ → ℕ) → Counted W H lev l.fn.counts
    → ends_at l.file l.at (level_fields W H lev l.level (drop l.from l.file)))
