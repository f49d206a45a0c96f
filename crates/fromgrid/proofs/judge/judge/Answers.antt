-- Each way out of `judge` says what the grid holds.
use Rattle.std.proofs.lemmas.Result.{err_from_is_err_and}
use Rattle.fromgrid.proofs.JudgeLaws.{sides-declined, numbers-declined, grid-good}
use Rattle.fromgrid.proofs.judge.judge.Goals as goal

pub returns-in_err-sides : goal.returns-in_err-sides
returns-in_err-sides c =
    let p = err_from_is_err_and c.from_residual.result c.from_residual.ensures.1 in
    rw (p.1, p.2) (sides-declined c.args.file.now _ c.in_err-sides.ensures)

pub returns-in_err-numbers_judge : goal.returns-in_err-numbers_judge
returns-in_err-numbers_judge c =
    let r = c.from_residual-in_err-numbers_judge in
    let p = err_from_is_err_and r.result r.ensures.1 in
    let s = c.in_ok-sides in
    rw (p.1, p.2)
    (numbers-declined c.args.file.now s.sides.w s.sides.h s.ensures _ c.in_err-numbers_judge.ensures)

pub returns : goal.returns
returns c = let s = c.in_ok-sides in
    grid-good c.args.file.now s.sides.w s.sides.h s.ensures c.in_ok-numbers_judge.ensures
