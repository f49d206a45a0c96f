-- Each way out of `end_cause` is the cause of what follows the levels.
use Rattle.std.proofs.lemmas.Result.{err_from_is_err_and}
use Rattle.judging.proofs.NoteLaws.{end-faulty, end-past, end_whole}
use Rattle.judging.proofs.end_cause.Goals as goal

pub returns-in_err-end : goal.returns-in_err-end
returns-in_err-end c = let a = c.args in
    let p = err_from_is_err_and c.from_residual.result c.from_residual.ensures.1 in
    rw (p.1, p.2) (end-faulty a.file.now a.at _ c.in_err-end.ensures)

pub returns-then-end-file : goal.returns-then-end-file
returns-then-end-file c = let a = c.args in
    end-past a.file.now a.at c.in_ok-end.end c.in_ok-end.ensures c.if-end-file.true

pub returns : goal.returns
returns c = let a = c.args in
    end_whole a.file.now a.at c.in_ok-end.end c.in_ok-end.ensures c.if-end-file.false
