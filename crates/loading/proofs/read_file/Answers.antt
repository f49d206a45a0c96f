-- The controller's loader answers as the bench loader does.
use Rattle.std.specs.Prelude.{Ok, Err}
use Rattle.std.proofs.lemmas.Result.{err_from_is_err_and}
use Rattle.loading.proofs.ReadLaws.{bench-reads}
use Rattle.loading.proofs.read_file.Goals as goal

pub returns-in_err-bench : goal.returns-in_err-bench
returns-in_err-bench c = let a = c.args in
    let p = err_from_is_err_and c.from_residual.result c.from_residual.ensures.1 in
    rw (p.1, p.2) (bench-reads a.file.now a.tree_out.now a.numbers_out.now (Err _) _ _ c.in_err-bench.ensures)

pub returns : goal.returns
returns c = let a = c.args in
    bench-reads a.file.now a.tree_out.now a.numbers_out.now (Ok c.in_ok-bench.bench) _ _ c.in_ok-bench.ensures
