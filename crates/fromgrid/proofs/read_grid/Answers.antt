-- `read_grid`: a grid that is declined is refused with its number, else it is converted over the tree.
use Rattle.std.proofs.lemmas.Result.{err_from_is_err_and}
use Rattle.fromgrid.proofs.Promise.{declined-kept}
use Rattle.fromgrid.proofs.read_grid.Goals as goal

pub returns-in_err-sides : goal.returns-in_err-sides
returns-in_err-sides c = let a = c.args in
    let p = err_from_is_err_and c.from_residual.result c.from_residual.ensures.1 in
    rw (p.1, p.2) (declined-kept a.grid.now a.tree.now a.numbers_out.now _ c.in_err-sides.ensures)

pub returns : goal.returns
returns c = c.over_tree.ensures
