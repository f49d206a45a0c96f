-- `commit` gives the outcome of document 02: a refusal with nothing written, or the new table.
use Rattle.std.proofs.lemmas.Result.{err_from_is_err_and}
use mathlib.Core.Path.{◌≡◌, refl, sym, ap, ◌∙◌, subst}
use mathlib.Core.Bool.{not}
use Prim.Native.Nat.{◌≤◌}
use native.Mathlib.Nat.{sub-zero}
use native.Mathlib.Omega.{arith}
use lib.ListN.{take}
use Rattle.surface.specs.Table.{cause}
use Rattle.surface.specs.Calls.{TableMeets, new_tree, refinement_cause}
use Rattle.surface.specs.Enquiry.{slip_of, same_slip, commit_cause, commit_outcome}
use Rattle.surface.proofs.Causes.{first, past}
use Rattle.surface.proofs.TableLaws.{Sound, sound, sides}
use Rattle.surface.proofs.Steps.{accepted}
use Rattle.rows.specs.Rows.{level_rows}
use Rattle.answers.specs.declared.Refusal as Causes
use Rattle.answers.specs.Answers.{slip_told, value_answer}
use Rattle.answers.proofs.AnswerLaws.{number-positive, table-refused}
use Rattle.insertion.proofs.NewTableLaws.{old-nested, carried-fit}
use Rattle.insertion.proofs.NewTableLaws.{refined-commit}
use Rattle.insertion.proofs.commit.Goals.{After-same, In_ok-refinement_cause, Start}
use Rattle.insertion.proofs.commit.Goals as goal

pub returns-in_err-refinement_cause : goal.returns-in_err-refinement_cause
unfolding commit_outcome commit_cause
returns-in_err-refinement_cause c =
    let a = c.args in
    let e = c.in_err-refinement_cause.field-0.0 in
    let s = slip_told a.slip in
    let p = err_from_is_err_and c.from_residual.result c.from_residual.ensures.1 in
    rw (p.1, p.2)
    (table-refused e (first c.in_err-refinement_cause.ensures.0 (number-positive e) _) _
    (new_tree a.tree.now s.box s.level) _ _ _)

-- past the causes of what is read
none : (c : In_ok-refinement_cause)
    → let a = c.args in
    let s = slip_told a.slip in
    0 ≡ refinement_cause a.w a.h a.tree.now a.numbers.now s.box s.level
none c = c.in_ok-refinement_cause.ensures.0

painted : (c : In_ok-refinement_cause) → c.refinement_cause.new.rows ≡ level_rows c.args.tree.now
painted c = c.in_ok-refinement_cause.ensures.1 refl

-- so the table is acceptable and the level at most 3
fit : (c : In_ok-refinement_cause)
    → let a = c.args in Sound a.w a.h a.tree.now a.numbers.now × ((slip_told a.slip).level ≤ 3)
fit c =
    let a = c.args in
    let s = slip_told a.slip in
    let fits = accepted a.w a.h a.tree.now a.numbers.now s.box s.level (sym (none c)) in
    (sound a.w a.h a.tree.now a.numbers.now fits.0, fits.3)

pub insert-own-requires : goal.insert-own-requires
insert-own-requires c =
    let a = c.args in
    ((a.tree.now, (a.numbers.now, c.in_ok-refinement_cause.ensures.1 refl, c.in_ok-refinement_cause.ensures.0)), refl)

-- the slip is compared with the one that the table gives
compared : (c : After-same)
    → let a = c.args in
    let s = slip_told a.slip in
    c.same.result ≡ same_slip s (slip_of a.w a.h a.tree.now s.box s.level)
compared c =
    let a = c.args in
    let none = c.in_ok-refinement_cause.ensures in
    c.same.ensures
    ∙ ap (same_slip (slip_told a.slip)) (c.insert-own.ensures.0 a.tree.now a.numbers.now (none.1 refl) none.0)

pub returns-then-not-same : goal.returns-then-not-same
unfolding commit_outcome commit_cause
returns-then-not-same c =
    let a = c.args in
    let s = slip_told a.slip in
    let at = goal.at.returns-then-not-same c in
    let other = sym c.if-not-same.true ∙ compared at.After-same in
    table-refused Causes.TheVariants.Slip
    (past (none at.In_ok-refinement_cause) (first (ap (λ b. cause 19 (not b)) other) (λ z. absurd (omega arith)) _))
    _ (new_tree a.tree.now s.box s.level) _ _ _

pub write_refined-requires : goal.write_refined-requires
write_refined-requires c = let a = c.args in
    let t = a.tree.now in
    let table = (fit (goal.at.write_refined-requires c).In_ok-refinement_cause).0 in
    let n = sides table in (
      n.1,
      n.3,
      table.size,
      old-nested t _ (painted (goal.at.write_refined-requires c).In_ok-refinement_cause),
      c.insert-own.ensures.1.nested,
      carried-fit t _ (painted (goal.at.write_refined-requires c).In_ok-refinement_cause) a.w a.h n.1 n.3 a.numbers.now table,
    )

pub returns : goal.returns
returns c = let a = c.args in
    let s = slip_told a.slip in
    let n = sides (fit (goal.at.returns c).In_ok-refinement_cause).0 in
    subst
    (λ o. TableMeets o (value_answer c.write_refined.result) c.write_refined.new.tree_out
    c.write_refined.new.numbers_out)
    (refined-commit a.tree.now _ (painted (goal.at.returns c).In_ok-refinement_cause) s c.insert-own.ensures.1 a.w a.h n.1 n.3
    a.numbers.now (none (goal.at.returns c).In_ok-refinement_cause)
    (ap (λ b. cause 19 (not b)) (sym c.if-not-same.false ∙ compared (goal.at.returns c).After-same)) _ a.tree_out.now
    a.numbers_out.now (ap (λ k. take k c.insert-own.new.built) (sub-zero c.insert-own.result.length)))
    c.write_refined.ensures
