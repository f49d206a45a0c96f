-- `level_at` meets its contract: the three bits of a quarter square are read as the definition has them.
use mathlib.Core.Path.{sym, ap}
use Prim.Native.Nat.{◌+◌}
use native.Mathlib.Nat.{zero-add}
use lib.ListN.{get_or}
use Rattle.finite.specs.Bits.{bit}
use Rattle.rows.specs.Rows.{in_rows}
use Rattle.rows.proofs.level_at.Goals as goal

pub returns : goal.returns
unfolding bit
returns c = let a = c.args in
    sym (ap (λ i. bit (get_or a.rows.now i 0) a.q + in_rows a.rows.now 1 a.q a.r
    + in_rows a.rows.now 2 a.q a.r) (zero-add a.r))
