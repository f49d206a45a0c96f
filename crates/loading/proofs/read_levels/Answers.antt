-- Each way out of `read_levels` gives the outcome of document 01.
use Rattle.std.proofs.lemmas.Result.{err_from_is_err_and}
use Rattle.rows.specs.Rows.{levels_of}
use Rattle.loading.proofs.ReadLaws.{levels-declined, bench-declined}
use Rattle.loading.proofs.read_levels.Goals as goal

pub returns-in_err-last : goal.returns-in_err-last
returns-in_err-last c = let a = c.args in
    let p = err_from_is_err_and c.from_residual.result c.from_residual.ensures.1 in
    let declined = c.in_err-last.ensures a.w a.h (levels_of a.rows.now) c.requires.1 in
    rw (p.1, p.2)
    (bench-declined a.file.now a.tree_out.now a.numbers_out.now _
    (levels-declined a.file.now a.end a.from a.w a.h a.rows.now _ c.requires.0 declined))

pub fill-requires : goal.fill-requires
fill-requires c = let a = c.args in (c.requires.0, c.in_ok-last.ensures a.w a.h (levels_of a.rows.now) c.requires.1)
