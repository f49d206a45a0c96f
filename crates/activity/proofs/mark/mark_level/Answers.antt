-- `mark_level` meets its contract: before each turn the rows below b are marked.
use mathlib.Core.Path.{◌≡◌, ap, ◌∙◌}
use Prim.Native.Nat.{ℕ, ◌≤◌, ◌+◌, ◌-◌, ◌*◌}
use native.Mathlib.Nat.{mul_comm, suc-mul, mul-le-mul_right}
use native.Mathlib.Omega.{arith}
use lib.ListN.{length, take, drop, length-take, length-drop}
use Rattle.finite.specs.Range.{table_from}
use Rattle.activity.specs.Mark.{row_marks, active_mark}
use Rattle.activity.proofs.ActiveLaws.{row-marks}
use Rattle.activity.proofs.WindowLaws.{eighths-le}
use Rattle.finite.proofs.Written.{rows_none, rows_next}
use Rattle.activity.proofs.mark.mark_level.Goals.{In-loop-b}
use Rattle.activity.proofs.mark.mark_level.Goals as goal

pub loop-b-init : goal.loop-b-init
loop-b-init c = let args = c.args in rows_none args.n (active_mark args.w args.h args.level args.rows.now) args.out.now

count : (at n : ℕ) → at + n - at ≡ n
count at n = omega arith

-- row b lies within the slice
row_fits : (c : In-loop-b)
    → let n = c.args.n in
    c.loop-b.b * n + n ≤ length c.loop-b.out
row_fits c =
    let args = c.args in
    let b = c.loop-b.b in
    omega (arith, mul-le-mul_right args.n c.loop-b-test.true, suc-mul b args.n, mul_comm args.n args.m)

pub mark_row-requires : goal.mark_row-requires
mark_row-requires c = omega (arith, c.eighths-e.ensures, eighths-le c.args.level)

pub loop-b-preserved : goal.loop-b-preserved
loop-b-preserved c = let side = c.eighths-e in
    let args = c.args in
    let out = c.loop-b.out in
    let b = c.loop-b.b in
    let n = args.n in
    let at = b * n in
    let row = c.mark_row.new.row in
    let mark = active_mark args.w args.h args.level args.rows.now in
    let marks = c.active_row-marks in
    let size : length (take (at + n - at) (drop at out)) ≡ n =
    omega (arith, length-take (at + n - at) (drop at out), length-drop at out, row_fits (goal.at.loop-b-preserved c).In-loop-b) in
    let new : row ≡ table_from 0 n (λ a. mark a b) =
    c.mark_row.ensures
    ∙ ap (row_marks side.result marks.result) size
    ∙ row-marks args.w args.h args.level n b args.rows.now side.result marks.result
    c.requires.3 side.ensures marks.ensures in
    rows_next n b (at + n - at) mark args.out.now out row c.loop-b.invariant (count at n) new
