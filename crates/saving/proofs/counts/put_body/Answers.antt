-- `put_body` meets its contract: before each turn the counts of the levels below it are put.
use mathlib.Core.Path.{◌≡◌, refl, subst}
use native.Mathlib.Omega.{arith}
use Rattle.finite.specs.Range.{joined}
use Rattle.fields.specs.Put.{Put}
use Rattle.fields.proofs.PutLaws.{put-none, put_next}
use Rattle.surface.specs.TableFile.{counts_body}
use Rattle.saving.proofs.counts.put_body.Invariants.{texts}
use Rattle.saving.proofs.counts.put_body.Goals as goal

pub loop-count-init : goal.loop-count-init
loop-count-init c = let a = c.args in (omega arith, put-none (texts a.counts) a.at a.out.now)

pub loop-count-preserved : goal.loop-count-preserved
loop-count-preserved c = let loop = c.loop-count in
    let a = c.args in (
      omega (arith, c.put_two-to.ensures.0, loop.invariant.0),
      put_next loop.count-index (texts a.counts) _ a.at a.out.now loop.to loop.out c.put_two-to.result
          c.put_two-to.new.out loop.invariant.1 c.put_two-to.ensures refl,
    )

pub returns : goal.returns
unfolding counts_body
returns c = let loop = c.loop-count in
    let a = c.args in
    let all : loop.count-index ≡ 4 = omega arith in
    subst (λ n. Put (joined n (texts a.counts)) a.at a.out.now loop.to loop.out) all loop.invariant.1
