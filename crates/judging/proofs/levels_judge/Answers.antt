-- A level that is faulty, or one more that stands.
use Rattle.std.proofs.lemmas.Result.{err_from_is_err_and}
use mathlib.Core.Path.{◌≡◌, subst}
use mathlib.Core.List.{[]}
use native.Mathlib.Omega.{arith}
use lib.ListN.{drop}
use Rattle.surface.specs.TableFile.{level_fields}
use Rattle.judging.specs.Judged.{ends_at}
use Rattle.judging.proofs.JudgeLaws.{levels-none, levels-faulty, levels-good}
use Rattle.judging.proofs.levels_judge.Goals as goal

pub loop-level-init : goal.loop-level-init
loop-level-init c = let p = c.requires in (p.0, λ W H lev n. (p.0, ([], levels-none W H lev _)))

pub returns-in_err-at : goal.returns-in_err-at
returns-in_err-at c = let a = c.args in
    let p = err_from_is_err_and c.from_residual.result c.from_residual.ensures.1 in
    let h = c.loop-level-test.true in
    rw (p.1, p.2) λ W H lev n.
    levels-faulty W H lev (drop a.from a.file.now) a.file.now c.loop-level.at c.loop-level.level
    (c.loop-level.invariant.1 W H lev n) _
    (c.in_err-at.ensures.1 W H lev (n c.loop-level.level h).0) h

pub loop-level-preserved : goal.loop-level-preserved
loop-level-preserved c = let a = c.args in
    let h = c.loop-level-test.true in (
      c.in_ok-at.ensures.0,
      λ W H lev n. levels-good W H lev (drop a.from a.file.now) a.file.now c.loop-level.at c.loop-level.level
          (c.loop-level.invariant.1 W H lev n) c.in_ok-at.at
          (c.in_ok-at.ensures.1 W H lev (n c.loop-level.level h).0),
    )

pub returns : goal.returns
returns c W H lev n = let a = c.args in
    let all : c.loop-level.level ≡ 4 = omega arith in
    subst (λ k. ends_at a.file.now c.loop-level.at (level_fields W H lev k (drop a.from a.file.now))) all
    (c.loop-level.invariant.1 W H lev n)
