-- `set_bits` meets its contract: after i turns the mask is set in the first i of the words lent.
use native.Mathlib.Omega.{arith}
use Rattle.rows.specs.Rows.{in_span}
use Rattle.rows.proofs.Spans.{no_span}
use Rattle.rows.proofs.MaskLaws.{mask-none, mask-next, mask-part}
use Rattle.rows.proofs.set_bits.Goals as goal

pub loop-word-init : goal.loop-word-init
loop-word-init c = mask-none (in_span 0 0) c.args.mask _ (no_span 0)

pub loop-word-preserved : goal.loop-word-preserved
loop-word-preserved c = mask-next c.loop-word.word-index c.args.mask _ c.loop-word.word-items
    (omega (arith, c.loop-word.auto.word-items, c.loop-word-test.true)) c.loop-word.invariant

pub returns : goal.returns
returns c = mask-part c.args.from c.args.n _ c.loop-word.word-index c.args.mask c.args.rows.now c.loop-word.word-items
    (omega arith) (omega arith) c.loop-word-test.false c.loop-word.auto.word-items c.loop-word.invariant
