-- The splines as sums of products of r and q, which are products of three steps.
use Prim.Native.Nat.{◌-◌}
use native.Mathlib.Omega.{arith}
use Rattle.evaluation.proofs.Evaluation.{splines}
use Rattle.evaluation.proofs.splines_at.Goals as goal

pub returns : goal.returns
returns c = let a = c.args in
    splines a.n a.r (a.n - a.r) c.triple-a.result
    c.triple-x.result c.triple-y.result c.triple-d.result (omega arith)
    c.triple-a.ensures c.triple-x.ensures c.triple-y.ensures
    c.triple-d.ensures
