-- `write_refined` refuses with 16 or 17 and writes nothing, or writes the table.
use Rattle.std.proofs.lemmas.Result.{err_from_is_err_and}
use mathlib.Core.Path.{◌≡◌, refl, sym}
use Prim.Native.Nat.{◌≤◌}
use native.Mathlib.Omega.{arith}
use lib.ListN.{length}
use Rattle.surface.specs.Table.{slots}
use Rattle.surface.proofs.RefusalLaws.{outputs}
use Rattle.fields.proofs.PutLaws.{put_front}
use Rattle.answers.proofs.AnswerLaws.{table-refused, table_done}
use Rattle.refinement.proofs.write_refined.Goals.{In_ok-outputs_cause}
use Rattle.refinement.proofs.write_refined.Goals as goal

pub returns-in_err-outputs_cause : goal.returns-in_err-outputs_cause
returns-in_err-outputs_cause c = let a = c.args in
    let p = err_from_is_err_and c.from_residual.result c.from_residual.ensures.1 in
    rw (p.1, p.2) (table-refused c.in_err-outputs_cause.field-0.0 c.in_err-outputs_cause.ensures _ a.tree.now _ _ _)

-- past 16 and 17
fit : (c : In_ok-outputs_cause)
    → let a = c.args in
    (length a.tree.now ≤ length a.tree_out.now) × (length a.numbers_out.now ≡ slots a.w a.h)
fit c =
    let a = c.args in
    outputs a.w a.h a.tree.now a.tree_out.now a.numbers_out.now
    (sym c.in_ok-outputs_cause.ensures)

pub put-requires : goal.put-requires
put-requires c = omega (arith, (fit (goal.at.put-requires c).In_ok-outputs_cause).0)

pub carry_over-requires : goal.carry_over-requires
carry_over-requires c = let p = c.requires in
    (p.0, p.1, p.2, (fit (goal.at.carry_over-requires c).In_ok-outputs_cause).1, p.3, p.4, p.5)

pub returns : goal.returns
returns c = let a = c.args in
    table_done (c.in_ok-outputs_cause.ensures) refl c.carry_over.ensures
    a.tree.now a.tree_out.now _ a.numbers_out.now
    (put_front a.tree.now a.tree_out.now _ _ c.put.ensures)
