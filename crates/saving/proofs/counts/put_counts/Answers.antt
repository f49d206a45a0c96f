-- `put_counts` meets its contract.
use mathlib.Core.Path.{sym}
use Rattle.fields.proofs.PutLaws.{put-field}
use Prim.Native.Nat.{ℕ}
use lib.ListN.{get_or}
use Rattle.surface.specs.TableFile.{counts_body}
use Rattle.tablefile.proofs.CountsField.{counts-length}
use Rattle.saving.proofs.counts.put_counts.Goals as goal

pub returns : goal.returns
returns c = let a = c.args in
    let n : ℕ → ℕ = λ L. get_or a.counts L 0 in
    put-field 3 8 (counts_body n) a.at a.out.now c.put_head-body.result c.put_head-body.new.out
    c.put_body.result c.put_body.new.out (sym (counts-length n)) c.put_head-body.ensures
    c.put_body.ensures
