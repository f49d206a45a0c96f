-- Before each turn the rows below b are cleared.
use mathlib.Core.Path.{◌∙◌, subst}
use Prim.Native.Nat.{◌+◌, ◌≤◌, ◌<◌}
use native.Mathlib.Omega.{arith}
use lib.ListN.{length}
use Rattle.surface.specs.Sheet.{functions}
use Rattle.surface.specs.Table.{start}
use Rattle.activity.proofs.WindowLaws.{eighths-le}
use Rattle.coefficients.proofs.Parts.{row-end, row_next}
use Rattle.passive.specs.Cleared.{ClearedTo}
use Rattle.passive.proofs.SliceLaws.{rows_end}
use Rattle.passive.proofs.ClearLaws.{row-cleared}
use Rattle.passive.proofs.clear_level.Goals.{In-loop-b}
use Rattle.passive.proofs.clear_level.Goals as goal

-- a turn's row is one of the level's, and inside the slice
row : (c : In-loop-b)
    → c.loop-b.b < functions c.args.h c.args.level
row c = subst (λ k. c.loop-b.b < k) c.functions-m.ensures.0 c.loop-b-test.true

inside : (c : In-loop-b)
    → c.loop-b.from + c.functions-n.result ≤ length c.loop-b.out
inside c =
    let loop = c.loop-b in
    let a = c.args in
    rw (c.loop-b.auto.out ∙ c.requires.3)
    (row-end a.w a.h a.level loop.b c.functions-n.result loop.from
    c.functions-n.ensures.0 loop.invariant.0 (omega (arith, c.requires.2)) (row c))

pub clear_row-requires : goal.clear_row-requires
clear_row-requires c = omega (arith, c.eighths-e.ensures, eighths-le c.args.level)

pub loop-b-preserved : goal.loop-b-preserved
loop-b-preserved c = let loop = c.loop-b in
    let a = c.args in
    let n = c.functions-n.result in (
      row_next loop.b n (start a.w a.h a.level) loop.invariant.0,
      λ before done. row-cleared a.w a.h a.level loop.b n loop.from c.functions-n.ensures.0
          loop.invariant.0 (omega (arith, c.requires.2)) (row (goal.at.loop-b-preserved c).In-loop-b) c.eighths-e.result a.rows.now
          c.active_row-marks.result c.eighths-e.ensures c.active_row-marks.ensures before loop.out
          c.clear_row.new.row (c.loop-b.auto.out ∙ c.requires.3) c.clear_row.ensures (loop.invariant.1 before done),
    )

pub returns : goal.returns
returns c = let loop = c.loop-b in
    let a = c.args in (
      loop.auto.out ∙ c.requires.3,
      λ before done. subst (λ k. ClearedTo k a.w a.h a.rows.now before loop.out)
          (rows_end a.w a.h a.level loop.b c.functions-n.ensures.0 c.functions-m.ensures.0
          (omega arith) c.loop-b-test.false loop.invariant.0) (loop.invariant.1 before done),
    )

pub slice_bounds-clear_row-end : goal.slice_bounds-clear_row-end
slice_bounds-clear_row-end c =
    inside (goal.at.slice_bounds-clear_row-end c).In-loop-b
