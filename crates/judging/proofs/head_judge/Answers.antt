-- Each way out of `head_judge` says what the file's contents are.
use Rattle.std.proofs.lemmas.Result.{err_from_is_err_and}
use Rattle.judging.proofs.JudgeLaws.{head-faulty, head-told}
use Rattle.judging.proofs.head_judge.Goals as goal

pub returns-in_err-sides : goal.returns-in_err-sides
returns-in_err-sides c =
    let p = err_from_is_err_and c.from_residual.result c.from_residual.ensures.1 in
    rw (p.1, p.2) (head-faulty c.args.file.now _ c.in_err-sides.ensures)

pub returns : goal.returns
returns c = let s = c.in_ok-sides in
    head-told c.args.file.now _ s.sides.w s.sides.h s.ensures c.tree_judge.result c.tree_judge.ensures
