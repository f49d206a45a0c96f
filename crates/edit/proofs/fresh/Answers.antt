-- `fresh` gives the outcome of document 01: a refusal with nothing written, or the fresh table.
use Rattle.std.proofs.lemmas.Result.{err_from_is_err_and}
use mathlib.Core.Path.{◌≡◌, refl, sym, ap, ◌∙◌}
use mathlib.Core.List.{[], ◌∷◌}
use Prim.Native.Nat.{◌≤◌, ◌<◌}
use native.Mathlib.Omega.{arith}
use lib.ListN.{length}
use lib.Seq.{set_split}
use mir.Syntax.{w64}
use mir.Val.{of_z, to_z}
use mir.ValLaws.{to_z-of_z}
use Rattle.surface.specs.Table.{slots}
use Rattle.surface.specs.Calls.{fresh_cause, fresh_outcome}
use Rattle.coefficients.proofs.Sizes.{starts}
use Rattle.answers.proofs.AnswerLaws.{table-refused, table_done}
use Rattle.edit.proofs.FreshLaws.{fresh-spread, fresh-none}
use Rattle.edit.proofs.fresh.Goals.{In_ok-fresh_cause, Start}
use Rattle.edit.proofs.fresh.Goals as goal

-- the number as the machine has it
same : (c : Start) → let a = c.args in
    fresh_cause a.w a.h (to_z w64 (of_z w64 a.number)) a.tree_out.now a.numbers_out.now
    ≡ fresh_cause a.w a.h a.number a.tree_out.now a.numbers_out.now
same c = let a = c.args in
    ap (λ z. fresh_cause a.w a.h z a.tree_out.now a.numbers_out.now) (to_z-of_z w64 a.number c.ranges.number)

pub returns-in_err-fresh_cause : goal.returns-in_err-fresh_cause
unfolding fresh_outcome
returns-in_err-fresh_cause c =
    let p = err_from_is_err_and c.from_residual.result c.from_residual.ensures.1 in
    let found = c.in_err-fresh_cause.ensures ∙ same (goal.at.returns-in_err-fresh_cause c).Start in
    rw (p.1, p.2) (table-refused c.in_err-fresh_cause.field-0.0 found _ (0 ∷ []) _ _ _)

-- no cause applies
none : (c : In_ok-fresh_cause)
    → let a = c.args in
    0 ≡ fresh_cause a.w a.h a.number a.tree_out.now a.numbers_out.now
none c = let a = c.args in
    c.in_ok-fresh_cause.ensures
    ∙ ap (λ z. fresh_cause a.w a.h z a.tree_out.now a.numbers_out.now) (to_z-of_z w64 a.number c.ranges.number)

-- what follows for the sides and the outputs
sizes : (c : In_ok-fresh_cause)
    → let a = c.args in
    (a.w ≤ 8) × (a.h ≤ 8) × (length a.numbers_out.now ≡ slots a.w a.h) × (0 < length a.tree_out.now)
sizes c =
    let a = c.args in
    fresh-none a.w a.h a.number a.tree_out.now a.numbers_out.now (sym (none c))

pub places-coarse-requires : goal.places-coarse-requires
places-coarse-requires c = ((sizes c).0, (sizes c).1, omega arith)

pub spread-requires : goal.spread-requires
spread-requires c = let a = c.args in
    let h : c.places-coarse.result ≤ length a.numbers_out.now =
    omega (arith, (sizes (goal.at.spread-requires c).In_ok-fresh_cause).2, (starts a.w a.h).4, c.places-coarse.ensures.0) in
    h

pub bounds-tree_out-0 : goal.bounds-tree_out-0
bounds-tree_out-0 c = (sizes (goal.at.bounds-tree_out-0 c).In_ok-fresh_cause).3

pub returns : goal.returns
unfolding fresh_outcome
returns c = let spread = c.spread in
    let places = c.places-coarse in
    let a = c.args in
    let size = sizes (goal.at.returns c).In_ok-fresh_cause in
    let numbers = a.numbers_out.now in
    table_done (none (goal.at.returns c).In_ok-fresh_cause) refl
    (spread.ensures
    ∙ fresh-spread a.w a.h a.number (to_z w64 (of_z w64 a.number)) places.result (length numbers)
    places.ensures.0 (to_z-of_z w64 a.number c.ranges.number) size.2)
    (0 ∷ []) a.tree_out.now _ numbers (set_split a.tree_out.now 0 0 size.3)
