-- `put_strip` meets its contract: the window of each level from that of the level before it.
use mathlib.Core.Path.{ap, ◌∙◌}
use Prim.Native.Nat.{◌+◌, ◌*◌, ◌≤◌}
use native.Mathlib.Omega.{arith}
use lib.IntN.{pos}
use lib.ListN.{length, replicate}
use lib.Seq.{length-take-le}
use Rattle.togrid.proofs.WindowLaws.{strip-fits, window-zero}
use Rattle.togrid.proofs.strip.put_strip.Goals.{After-functions-end2}
use Rattle.togrid.proofs.strip.put_strip.Goals as goal

-- the strip's four rows of level 0 stand in the slice
inside : (c : After-functions-end2)
    → let n = c.functions-n.result in
    let a = c.args in
    a.y * n + 4 * n ≤ length a.numbers.now
inside c =
    let a = c.args in
    let n = c.functions-n in
    strip-fits a.w a.h a.rows.now a.numbers.now a.y n.result n.ensures.0 c.requires.1 c.requires.0.size

pub slice_bounds-fill_window-end-2 : goal.slice_bounds-fill_window-end-2
slice_bounds-fill_window-end-2 c = inside (goal.at.slice_bounds-fill_window-end-2 c).After-functions-end2

pub fill_window-requires : goal.fill_window-requires
fill_window-requires c = let a = c.args in
    let n = c.functions-n in
    let end = c.functions-end1 in (
      c.requires.0,
      omega arith,
      omega (arith, c.requires.1),
      length-take-le (5 * end.result) (replicate 95 (pos 0)) (omega (arith, end.ensures.0, c.requires.0.small-W))
          ∙ ap (λ n. 5 * n) end.ensures.0,
      window-zero a.w a.h a.rows.now a.numbers.now a.y n.result n.ensures.0 c.requires.1
          (inside (goal.at.fill_window-requires c).After-functions-end2),
    )
