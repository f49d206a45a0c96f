-- Each way out of `counts_judge` says what the field of the counts holds.
use Rattle.std.specs.Prelude.{Ok, Err}
use Rattle.std.proofs.lemmas.Result.{err_from_is_err_and}
use mathlib.Core.Path.{◌≡◌, refl, sym, ◌∙◌}
use mathlib.Core.Bool.{Bool, true, false, not}
use mathlib.Core.List.{[]}
use native.Mathlib.Omega.{arith}
use lib.ListN.{drop}
use Rattle.surface.specs.Table.{cause}
use Rattle.surface.specs.Fields.{unless, holds}
use Rattle.surface.specs.TableFile.{counts_agree, counts_field}
use Rattle.fields.specs.Positions.{body_at}
use Rattle.fields.proofs.PositionLaws.{checked-faulty, checked-told, body-size}
use Rattle.judging.specs.Judged.{count_of}
use Rattle.judging.proofs.CountsLaws.{counts-lacking, counts-there, tag-there, no-tag}
use Rattle.judging.proofs.counts_judge.Goals.{After-counts_agree}
use Rattle.judging.proofs.counts_judge.Goals as goal

-- the end of the file, or another tag
pub returns-then-at-file : goal.returns-then-at-file
returns-then-at-file c = let a = c.args in
    let file = a.file.now in (
      c.requires,
      ([], counts-lacking (count_of a.counts) _ (no-tag file a.at 2 (omega (arith, c.if-at-file.true)))),
    )

pub returns-then-file-at-ne-COUNTS_TAG : goal.returns-then-file-at-ne-COUNTS_TAG
returns-then-file-at-ne-COUNTS_TAG c = let a = c.args in
    let file = a.file.now in (
      c.requires,
      ([], counts-lacking (count_of a.counts) _ (λ e. c.if-file-at-ne-COUNTS_TAG.true (sym (tag-there file a.at) ∙ e))),
    )

-- tag 3 stands there
pub returns-in_err-end : goal.returns-in_err-end
returns-in_err-end c = let a = c.args in
    let file = a.file.now in
    let n = count_of a.counts in
    let p = err_from_is_err_and c.from_residual.result c.from_residual.ensures.1 in
    rw (p.1, p.2)
    (counts-there n (drop a.at file) (tag-there file a.at ∙ c.if-file-at-ne-COUNTS_TAG.false)
    ∙ checked-faulty 3 8 8 20 (counts_agree n) (λ b. b) file a.at (Err _) c.in_err-end.ensures.0 _ refl)

pub counts_agree-requires : goal.counts_agree-requires
counts_agree-requires c = let a = c.args in
    let w = c.in_ok-end.ensures.1 in
    body-size a.file.now a.at c.in_ok-end.end w.2 ∙ omega (arith, w.0, w.1)

-- the field by the test of its counts
told : (c : After-counts_agree) (t : Bool) → c.counts_agree.result ≡ t
    → let a = c.args in
    let end = c.in_ok-end.end in
    counts_field (count_of a.counts) (drop a.at a.file.now)
    ≡ unless (cause 20 (not t)) (holds (body_at a.file.now a.at end) (drop end a.file.now))
told c t q =
    let a = c.args in
    let file = a.file.now in
    let n = count_of a.counts in
    let end = c.in_ok-end.end in
    counts-there n (drop a.at file) (tag-there file a.at ∙ c.if-file-at-ne-COUNTS_TAG.false)
    ∙ checked-told 3 8 8 20 (counts_agree n) (λ b. b) file a.at (Ok end) c.in_ok-end.ensures.0 end refl t
    (sym q ∙ c.counts_agree.ensures)

pub returns-then-not-counts_agree : goal.returns-then-not-counts_agree
returns-then-not-counts_agree c =
    told (goal.at.returns-then-not-counts_agree c).After-counts_agree false c.if-not-counts_agree.true

pub returns : goal.returns
returns c = (
  c.in_ok-end.ensures.1.2,
  (_, told (goal.at.returns c).After-counts_agree true c.if-not-counts_agree.false),
)
