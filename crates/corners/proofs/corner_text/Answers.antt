use mathlib.Core.Path.{sym}
use Prim.Native.Nat.{◌≤◌}
use native.Mathlib.Omega.{arith}
use lib.ListN.{length}
use lib.Seq.{length-take-le}
use Rattle.corners.proofs.corner_text.Goals as goal

pub returns : goal.returns
returns c = let r = c.text_into.result in
    let o = c.text_into.new.out in
    let e = c.text_into.ensures in
    let fits : r ≤ length o = omega (arith, e.1, c.text_into.auto.out, c.requires) in
    record { prefix_len = (fits, sym (length-take-le r o fits)); out_after = e.0.1 }
