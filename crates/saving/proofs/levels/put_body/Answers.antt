-- `put_body` meets its contract: before each turn the rows below b are put.
use mathlib.Core.Path.{◌≡◌, ap, subst}
use mathlib.Core.List.{List}
use Prim.Native.Nat.{ℕ, ◌+◌, ◌*◌, ◌≤◌, ◌<◌}
use native.Mathlib.Omega.{arith}
use lib.ListN.{length}
use Rattle.finite.specs.Range.{joined}
use Rattle.finite.proofs.Joined.{joined-through}
use Rattle.surface.specs.Sheet.{functions}
use Rattle.surface.specs.TableFile.{row_bytes, level_body}
use Rattle.rows.specs.Rows.{levels_of}
use Rattle.activity.specs.Marks.{marked}
use Rattle.activity.proofs.WindowLaws.{eighths-le}
use Rattle.coefficients.proofs.Parts.{part, row_fits}
use Rattle.fields.specs.Put.{Put}
use Rattle.fields.proofs.PutLaws.{put-none, put_next}
use Rattle.saving.specs.Saved.{in_part, marked_bytes}
use Rattle.saving.proofs.BodyLaws.{row-bytes, row-spelt}
use Rattle.saving.proofs.levels.put_body.Goals.{After-active_row-marks, In-loop-b, Start}
use Rattle.saving.proofs.levels.put_body.Goals as goal

-- what each row adds
abbrev texts : Start → ℕ → List ℕ
texts s b =
    let a = s.args in
    row_bytes a.w a.h (levels_of a.rows.now) (in_part a.w a.part.now) a.level b

pub loop-b-init : goal.loop-b-init
loop-b-init c = put-none (texts (goal.at.loop-b-init c).Start) c.args.at c.args.out.now

-- a turn's row is one of the level's, and stands in its part
below : (c : In-loop-b)
    → let a = c.args in
    c.loop-b.b < functions a.h a.level
below c = subst (λ k. c.loop-b.b < k) c.functions-m.ensures.0 c.loop-b-test.true

inside : (c : In-loop-b)
    → let n = c.functions-n.result in
    c.loop-b.b * n + n ≤ length c.args.part.now
inside c =
    let a = c.args in
    row_fits a.w a.h a.level c.loop-b.b c.functions-n.result c.functions-m.result
    a.part.now c.functions-n.ensures.0 c.functions-m.ensures.0 c.loop-b-test.true c.requires.4

-- what a turn adds is its row's
same : (c : After-active_row-marks)
    → let n = c.functions-n.result in
    marked_bytes (marked c.eighths-e.result c.active_row-marks.result) (part (c.loop-b.b * n) n c.args.part.now)
    ≡ row_bytes c.args.w c.args.h (levels_of c.args.rows.now) (in_part c.args.w c.args.part.now) c.args.level c.loop-b.b
same c =
    let a = c.args in
    row-bytes a.w a.h a.level c.loop-b.b c.functions-n.result c.eighths-e.result
    (levels_of a.rows.now) c.active_row-marks.result a.part.now c.functions-n.ensures.0
    c.eighths-e.ensures (inside c.before) c.active_row-marks.ensures

pub put_row-to-requires : goal.put_row-to-requires
unfolding level_body
put_row-to-requires c =
    let start = (goal.at.put_row-to-requires c).Start in
    let turn = (goal.at.put_row-to-requires c).In-loop-b in
    let step = (goal.at.put_row-to-requires c).After-active_row-marks in
    let loop = c.loop-b in
    let a = c.args in (
      omega (arith, c.eighths-e.ensures, eighths-le a.level),
      omega (
        arith,
        c.requires.6,
        loop.auto.out,
        loop.invariant.0,
        joined-through (texts start) (functions a.h a.level) loop.b (below turn),
        ap length (same step),
      ),
      row-spelt a.w a.h a.level loop.b c.functions-n.result c.eighths-e.result
          (levels_of a.rows.now) c.active_row-marks.result a.part.now c.functions-n.ensures.0
          c.eighths-e.ensures (inside turn) c.requires.5 (below turn),
    )

pub loop-b-preserved : goal.loop-b-preserved
loop-b-preserved c = let loop = c.loop-b in
    let a = c.args in
    put_next loop.b (texts (goal.at.loop-b-preserved c).Start) _ a.at a.out.now loop.to loop.out c.put_row-to.result
    c.put_row-to.new.out loop.invariant c.put_row-to.ensures (same (goal.at.loop-b-preserved c).After-active_row-marks)

pub returns : goal.returns
unfolding level_body
returns c = let loop = c.loop-b in
    let a = c.args in
    let all : loop.b ≡ functions a.h a.level = omega (arith, c.functions-m.ensures.0) in
    subst (λ m. Put (joined m (texts (goal.at.returns c).Start)) a.at a.out.now loop.to loop.out) all loop.invariant

pub slice_bounds-put_row-end : goal.slice_bounds-put_row-end
slice_bounds-put_row-end c = inside (goal.at.slice_bounds-put_row-end c).In-loop-b
