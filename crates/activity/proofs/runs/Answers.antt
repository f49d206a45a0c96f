-- `runs` meets its contract: level by level from level 3 up, runs of twice as many bits.
use mathlib.Core.Path.{◌≡◌}
use Prim.Native.Nat.{ℕ, ◌/◌, ◌^◌}
use native.Mathlib.Omega.{arith}
use lib.Bits.{bit_and}
use Rattle.surface.specs.Sheet.{eighths}
use Rattle.activity.specs.Marks.{Runs}
use Rattle.activity.proofs.BitLaws.{run-one, run-twice}
use Rattle.activity.proofs.runs.Goals as goal

abbrev twice : ℕ → ℕ → ℕ
twice n run = bit_and run (run / 2 ^ n)

two : (word : ℕ) → Runs word 2 (twice 1 word)
two word = run-twice word 1 word (run-one word)

four : (word : ℕ) → Runs word 4 (twice 2 (twice 1 word))
four word = run-twice word 2 (twice 1 word) (two word)

eight : (word : ℕ) → Runs word 8 (twice 4 (twice 2 (twice 1 word)))
eight word = run-twice word 4 (twice 2 (twice 1 word)) (four word)

pub returns-then-level-eq3 : goal.returns-then-level-eq3
unfolding eighths
returns-then-level-eq3 c = rw c.if-level-eq3.true (two c.args.word)

pub returns-then-level-eq2 : goal.returns-then-level-eq2
unfolding eighths
returns-then-level-eq2 c = rw c.if-level-eq2.true (four c.args.word)

pub returns-then-level-eq1 : goal.returns-then-level-eq1
unfolding eighths
returns-then-level-eq1 c = rw c.if-level-eq1.true (eight c.args.word)

pub returns : goal.returns
unfolding eighths
returns c = let coarse : c.args.level ≡ 0 =
    omega (arith, c.if-level-eq1.false, c.if-level-eq2.false, c.if-level-eq3.false) in
    rw coarse (run-twice c.args.word 8 _ (eight c.args.word))
