-- `fill` gives the outcome of document 01: a last cause with nothing written, or the table read, and the note.
use Rattle.std.proofs.lemmas.Result.{err_from_is_err_and}
use mathlib.Core.Path.{◌≡◌, sym, ◌∙◌}
use Prim.Native.Nat.{◌-◌, ◌≤◌}
use native.Mathlib.Omega.{arith}
use lib.ListN.{length}
use Rattle.surface.specs.Table.{slots}
use Rattle.answers.specs.Refusals.{cause_of}
use Rattle.fields.proofs.FieldLaws.{held}
use Rattle.fields.proofs.PutLaws.{put_front}
use Rattle.judging.specs.Judged.{tree_in}
use Rattle.loading.proofs.ReadLaws.{tree-length, fill-refused, ended, bench-done, outputs-fit}
use Rattle.loading.proofs.fill.Goals.{In_ok-last_cause}
use Rattle.loading.proofs.fill.Goals as goal

pub returns-in_err-last_cause : goal.returns-in_err-last_cause
returns-in_err-last_cause c = let a = c.args in
    let p = err_from_is_err_and c.from_residual.result c.from_residual.ensures.1 in
    rw (p.1, p.2)
    (fill-refused a.file.now a.end a.from a.last a.w a.h a.rows.now c.requires.1.1.0 (cause_of c.end_cause-after.result)
    c.requires.0 c.requires.1.1.1 c.end_cause-after.ensures a.tree_out.now a.numbers_out.now _
    c.in_err-last_cause.ensures)

-- no cause applies
fits : (c : In_ok-last_cause)
    → let a = c.args in
    (length a.numbers_out.now ≡ slots a.w a.h) × (a.end - 8 ≤ length a.tree_out.now)
fits c =
    let a = c.args in
    outputs-fit a.file.now a.end a.from a.last a.w a.h a.rows.now c.requires.1.1.0 (cause_of c.end_cause-after.result)
    c.requires.0 c.requires.1.1.1 c.end_cause-after.ensures a.tree_out.now a.numbers_out.now
    (sym c.in_ok-last_cause.ensures)

pub put-requires : goal.put-requires
put-requires c =
    omega (
      arith,
      tree-length c.args.file.now c.args.end c.requires.0.size,
      (fits (goal.at.put-requires c).In_ok-last_cause).1,
    )

pub load_levels-requires : goal.load_levels-requires
load_levels-requires c = let p = c.requires in
    let fit = (fits (goal.at.load_levels-requires c).In_ok-last_cause).0 in
    (p.0.small-W, p.0.small-H, p.0.nested, fit, (p.1.1.0, (_, p.1.1.1)))

pub note_at-requires : goal.note_at-requires
note_at-requires c = let a = c.args in (
  c.requires.1.0,
  (ended a.file.now a.end a.from a.last a.w a.h a.rows.now c.requires.1.1.0 (cause_of c.end_cause-after.result)
      c.requires.0 c.requires.1.1.1 c.end_cause-after.ensures a.tree_out.now a.numbers_out.now
      (sym c.in_ok-last_cause.ensures)).0,
)

pub returns : goal.returns
returns c = let a = c.args in
    let numbers = c.requires.1.1.0 in
    bench-done a.file.now a.end a.from a.last a.w a.h a.rows.now numbers (cause_of c.end_cause-after.result)
    c.requires.0 c.requires.1.1.1 c.end_cause-after.ensures a.tree_out.now a.numbers_out.now c.note_at.result
    c.note_at.ensures c.in_ok-last_cause.ensures
    (put_front (tree_in a.file.now a.end) a.tree_out.now c.put.result _ c.put.ensures)
    (held _ numbers _ _ (sym c.load_levels.ensures.1 ∙ c.requires.1.1.1)).0
