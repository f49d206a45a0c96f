-- `put_field` meets its contract.
use mathlib.Core.Path.{refl}
use lib.ListN.{length}
use Rattle.fields.proofs.PutLaws.{put-field}
use Rattle.saving.proofs.put_field.Goals as goal

pub returns : goal.returns
returns c = let a = c.args in
    put-field a.tag (length a.body.now) a.body.now a.at a.out.now c.put_head-to.result
    c.put_head-to.new.out c.put.result c.put.new.out refl c.put_head-to.ensures
    c.put.ensures
