-- A count that differs, or none.
use mathlib.Core.Path.{◌≡◌, ◌∙◌}
use native.Mathlib.Omega.{arith}
use Rattle.surface.specs.Fields.{two_bytes_at}
use Rattle.judging.specs.Judged.{count_of}
use Rattle.judging.proofs.CountsLaws.{agree-all, agree-lost}
use Rattle.judging.proofs.counts_agree.Goals as goal

pub returns-then-two_bytes-count : goal.returns-then-two_bytes-count
returns-then-two_bytes-count c = let a = c.args in
    let read : c.two_bytes.result ≡ two_bytes_at a.body.now c.loop-level.level = omega (arith, c.two_bytes.ensures.0) in
    agree-lost (count_of a.counts) a.body.now c.loop-level.level c.loop-level-test.true
    (λ e. c.if-two_bytes-count.true (read ∙ e))

pub returns : goal.returns
returns c = let a = c.args in
    agree-all (count_of a.counts) a.body.now (λ L h. c.loop-level.invariant L (omega (arith, c.loop-level-test.false)))
