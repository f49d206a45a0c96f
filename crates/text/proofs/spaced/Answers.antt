use native.Mathlib.Omega.{arith}
use lib.ListN.{length-append}
use Rattle.text.specs.Text.{decimal, space}
use Rattle.fields.proofs.PutLaws.{put_both}
use Rattle.text.proofs.spaced.Goals as goal

pub decimal-next-requires : goal.decimal-next-requires
decimal-next-requires c = omega (arith, length-append (decimal c.args.n) space, c.requires)

pub put_byte-requires : goal.put_byte-requires
put_byte-requires c = omega (arith, c.decimal-next.ensures.0, c.decimal-next.auto.out, length-append (decimal c.args.n) space, c.requires)

pub returns : goal.returns
returns c = put_both (decimal c.args.n) space c.args.at c.args.out.now c.decimal-next.result
    c.decimal-next.new.out c.put_byte.result c.put_byte.new.out c.decimal-next.ensures
    c.put_byte.ensures
