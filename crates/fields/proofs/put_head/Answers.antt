-- `put_head` meets its contract.
use mathlib.Core.List.{[], ◌∷◌}
use Rattle.surface.specs.Fields.{two_bytes}
use Rattle.fields.proofs.PutLaws.{put_both}
use Rattle.fields.proofs.put_head.Goals as goal

pub returns : goal.returns
returns c = let a = c.args in
    put_both (a.tag ∷ []) (two_bytes a.n) a.at a.out.now c.put_byte-length.result c.put_byte-length.new.out
    c.put_two.result c.put_two.new.out c.put_byte-length.ensures c.put_two.ensures
