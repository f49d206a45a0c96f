-- Before each turn the rows before y are done.
use mathlib.Core.Path.{◌≡◌, sym, ap, ◌∙◌}
use mathlib.Core.Bool.{true≢false}
use Prim.Native.Nat.{◌+◌, ◌-◌}
use native.Mathlib.Omega.{arith}
use lib.IntN.{pos}
use lib.ListN.{length, length-replicate}
use Rattle.surface.specs.Sheet.{functions}
use Rattle.surface.specs.Table.{places}
use Rattle.rows.specs.Rows.{levels_of}
use Rattle.coarsening.proofs.BackLaws.{backed-none, backed-all}
use Rattle.coarsening.proofs.back_level.Goals.{At-loop-y, Start}
use Rattle.coarsening.proofs.back_level.Goals as goal

-- the level's rows of cells
tall : (c : At-loop-y)
    → c.functions-high.result - 3 + 3 ≡ functions c.args.h c.args.level
tall c = let f = c.functions-high.ensures in omega (arith, f)

pub loop-y-init : goal.loop-y-init
loop-y-init c = let a = c.args in
    backed-none a.w a.h (levels_of a.rows.now) a.level _ c.requires.4 a.coarse.now c.requires.5

pub back_row-requires : goal.back_row-requires
back_row-requires c = (
  c.requires.1,
  c.requires.3,
  c.requires.4,
  omega (arith, tall (goal.at.back_row-requires c).At-loop-y, c.loop-y-test.true),
  c.loop-y.invariant,
  c.requires.6,
  c.requires.7,
)

pub returns-then-not-back_row : goal.returns-then-not-back_row
returns-then-not-back_row c = (λ t. absurd (true≢false (sym t)), λ _. c.back_row.ensures.1 c.if-not-back_row.true)

pub loop-y-preserved : goal.loop-y-preserved
loop-y-preserved c = c.back_row.ensures.0 c.if-not-back_row.false

pub returns : goal.returns
returns c = let a = c.args in (
  λ _. backed-all a.w a.h (levels_of a.rows.now) a.level _ c.requires.4 c.loop-y.y _
      (omega (arith, tall (goal.at.returns c).At-loop-y, c.loop-y-test.false)) c.loop-y.invariant,
  λ t. absurd (true≢false t),
)

-- the slice is as long as it was
begun : (c : Start)
    → places c.args.w c.args.h c.args.level ≡ length c.args.coarse.now
begun c = sym (ap length c.requires.5 ∙ length-replicate (places c.args.w c.args.h c.args.level) (pos 0))

pub shape_of-coarse-then-not-back_row : goal.shape_of-coarse-then-not-back_row
shape_of-coarse-then-not-back_row c = c.coarse-1.given ∙ c.loop-y.invariant.size ∙ begun (goal.at.shape_of-coarse-then-not-back_row c).Start

pub shape_of-coarse : goal.shape_of-coarse
shape_of-coarse c = c.loop-y.invariant.size ∙ begun (goal.at.shape_of-coarse c).Start

pub overflow_sub-high : goal.overflow_sub-high
overflow_sub-high c =
    let f = c.functions-high.ensures in omega (arith, f)
