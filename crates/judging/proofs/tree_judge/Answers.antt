-- Each way out of `tree_judge` says what the field of the tree holds.
use Rattle.std.specs.Prelude.{Ok, Err}
use Rattle.std.proofs.lemmas.Result.{err_from_is_err_and}
use mathlib.Core.Path.{◌≡◌, refl, sym, ◌∙◌}
use mathlib.Core.Bool.{Bool, true, false, not}
use native.Mathlib.Omega.{arith}
use lib.ListN.{drop}
use Rattle.surface.specs.Table.{cause, tree_of, formed}
use Rattle.surface.specs.Fields.{unless, holds}
use Rattle.surface.specs.TableFile.{tree_field}
use Rattle.fields.proofs.PositionLaws.{checked-faulty, checked-told}
use Rattle.judging.specs.Judged.{tree_in}
use Rattle.judging.proofs.tree_judge.Goals.{After-regions}
use Rattle.judging.proofs.tree_judge.Goals as goal

pub returns-in_err-end : goal.returns-in_err-end
unfolding tree_field
returns-in_err-end c = let a = c.args in
    let p = err_from_is_err_and c.from_residual.result c.from_residual.ensures.1 in
    rw (p.1, p.2)
    (checked-faulty 2 1 1365 2 (λ t. formed a.w a.h (tree_of t)) (λ t. t) a.file.now 5 (Err _)
    c.in_err-end.ensures.0 _ refl)

-- the field by the test of the tree
told : (c : After-regions) (t : Bool) → c.regions.result ≡ t
    → let a = c.args in
    let end = c.in_ok-end.end in
    tree_field a.w a.h (drop 5 a.file.now)
    ≡ unless (cause 2 (not t)) (holds (tree_in a.file.now end) (drop end a.file.now))
unfolding tree_field
told c t q =
    let a = c.args in
    let end = c.in_ok-end.end in
    checked-told 2 1 1365 2 (λ t. formed a.w a.h (tree_of t)) (λ t. t) a.file.now 5 (Ok end)
    c.in_ok-end.ensures.0 end refl t (sym q ∙ c.regions.ensures.0)

pub returns-then-not-regions : goal.returns-then-not-regions
returns-then-not-regions c = told (goal.at.returns-then-not-regions c).After-regions false c.if-not-regions.true

pub returns : goal.returns
returns c = let good = c.if-not-regions.false in
    let k = c.in_ok-end.ensures.1 in
    (omega (arith, k.0), k.2, c.regions.ensures.1 good, told (goal.at.returns c).After-regions true good)
