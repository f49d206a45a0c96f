-- Each way out of `numbers_judge` says what the field of the numbers holds.
use Rattle.std.proofs.lemmas.Result.{err_from_is_err_and}
use mathlib.Core.Path.{sym, ◌∙◌}
use native.Mathlib.Omega.{arith}
use Rattle.fields.proofs.PositionLaws.{body-size}
use Rattle.fromgrid.proofs.JudgeLaws.{numbers-faulty, numbers-past, numbers_more, numbers-whole}
use Rattle.fromgrid.proofs.judge.numbers_judge.Goals as goal

pub returns-in_err-end : goal.returns-in_err-end
returns-in_err-end c = let a = c.args in
    let p = err_from_is_err_and c.from_residual.result c.from_residual.ensures.1 in
    let n = c.places-count in
    rw (p.1, p.2) (numbers-faulty a.file.now a.w a.h n.result n.ensures.0 _ c.in_err-end.ensures.0)

pub within-requires : goal.within-requires
within-requires c = let a = c.args in
    let k = c.in_ok-end.ensures.1 in
    (omega (arith, k.0, body-size a.file.now 5 c.in_ok-end.end k.2), omega arith)

pub returns-then-not-within : goal.returns-then-not-within
returns-then-not-within c = let a = c.args in
    let n = c.places-count in
    numbers-past a.file.now a.w a.h n.result n.ensures.0 c.in_ok-end.end c.in_ok-end.ensures.0
    (sym c.if-not-within.true ∙ c.within.ensures)

pub returns-then-end-file : goal.returns-then-end-file
returns-then-end-file c = let a = c.args in
    let n = c.places-count in
    numbers_more a.file.now a.w a.h n.result n.ensures.0 c.in_ok-end.end c.in_ok-end.ensures.0
    (sym c.if-not-within.false ∙ c.within.ensures) c.if-end-file.true

pub returns : goal.returns
returns c = let a = c.args in
    let n = c.places-count in
    numbers-whole a.file.now a.w a.h n.result n.ensures.0 c.in_ok-end.end c.in_ok-end.ensures.0 c.in_ok-end.ensures.1
    (sym c.if-not-within.false ∙ c.within.ensures) c.if-end-file.false
