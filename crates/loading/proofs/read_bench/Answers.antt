-- A file that is refused for its head.
use Rattle.std.proofs.lemmas.Result.{err_from_is_err_and}
use Rattle.loading.proofs.ReadLaws.{bench-declined}
use Rattle.loading.proofs.read_bench.Goals as goal

pub returns-in_err-end : goal.returns-in_err-end
returns-in_err-end c = let a = c.args in
    let p = err_from_is_err_and c.from_residual.result c.from_residual.ensures.1 in
    rw (p.1, p.2) (bench-declined a.file.now a.tree_out.now a.numbers_out.now _ c.in_err-end.ensures)
