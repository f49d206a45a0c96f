use mathlib.Core.Path.{◌≡◌, ◌∙◌, subst}
use lib.ListN.{take}
use Rattle.text.specs.Text.{decimal}
use Rattle.fields.specs.Put.{Put}
use Rattle.text.proofs.TextLaws.{fewest-decimal}
use Rattle.text.proofs.decimal.Goals.{After-decimal-k}
use Rattle.text.proofs.decimal.Goals as goal

-- the digits that `io` gives are the number's text
text : (c : After-decimal-k)
    → take c.decimal-k.result c.decimal-k.new.out ≡ decimal c.args.n
text c =
    c.decimal-k.ensures.digits ∙ fewest-decimal c.args.n c.decimal-k.result c.decimal-k.ensures.len

pub put-requires : goal.put-requires
put-requires c = rw (text (goal.at.put-requires c).After-decimal-k) c.requires

pub returns : goal.returns
returns c = subst (λ l. Put l c.args.at c.args.out.now c.put.result c.put.new.out)
    (text (goal.at.returns c).After-decimal-k) c.put.ensures
