-- A turn puts one byte more.
use Rattle.std.proofs.Common.{◌+◌, ap, ◌∙◌, arith}
use Rattle.std.proofs.Math.ListN.{get_or, set}
use Rattle.std.proofs.lemmas.List.Edits.{paste_more}
use Rattle.fields.proofs.put.Goals as goal

pub loop-i-preserved : goal.loop-i-preserved
loop-i-preserved c =
    let a = c.args in
    let i = c.loop-i.i in
    ap (λ o. set o (a.at + i) (get_or a.text.now i 0)) c.loop-i.invariant
    ∙ paste_more a.out.now a.at a.text.now i 0 (omega (arith, c.requires)) c.loop-i-test.true
