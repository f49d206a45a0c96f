-- The derivatives as sums of products of r and q, taken from 0 where they fall.
use Prim.Native.Nat.{◌+◌, ◌-◌}
use native.Mathlib.Omega.{arith}
use Rattle.evaluation.proofs.Evaluation.{negated_fits, derivatives}
use Rattle.evaluation.proofs.derivatives_at.Goals as goal

pub overflow_sub-result : goal.overflow_sub-result
overflow_sub-result c = negated_fits c.triple-a.result (omega (arith, c.triple-a.ensures.1))

pub overflow_sub-result-2 : goal.overflow_sub-result-2
overflow_sub-result-2 c = negated_fits (c.triple-d.result + c.triple-x.result)
    (omega (arith, c.triple-x.ensures.1, c.triple-d.ensures.1))

pub returns : goal.returns
returns c = let a = c.args in
    derivatives a.n a.r (a.n - a.r) c.triple-a.result c.triple-x.result
    c.triple-d.result (omega arith) c.triple-a.ensures c.triple-x.ensures
    c.triple-d.ensures
