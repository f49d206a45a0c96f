-- `places` meets its contract.
use mathlib.Core.Path.{◌≡◌, ap₂, ◌∙◌}
use Prim.Native.Nat.{◌-◌, ◌*◌, ◌/◌, ◌%◌, ◌^◌, ◌≤◌}
use native.Mathlib.Omega.{arith}
use lib.Pow.{pow_mono}
use Rattle.activity.proofs.CountLaws.{one_shl, spread-is}
use Rattle.activity.proofs.count.places.Goals.{Start}
use Rattle.activity.proofs.count.places.Goals as goal

reach : (c : Start) → 1 * 2 ^ (c.args.n * c.args.e) % 2 ^ 64 ≡ 2 ^ (c.args.n * c.args.e)
reach c = one_shl (c.args.n * c.args.e) (omega arith)

side : (c : Start) → 1 * 2 ^ c.args.e % 2 ^ 64 ≡ 2 ^ c.args.e
side c = one_shl c.args.e (omega arith)

some : (c : Start) → 2 ≤ 2 ^ c.args.e
some c = pow_mono {i = 1} {j = c.args.e} c.requires.0

pub returns : goal.returns
returns c = ap₂ (λ x y. (x - 1) / (y - 1)) (reach c) (side c) ∙ spread-is c.args.e c.args.n c.requires.0

pub nonzero_div-result : goal.nonzero_div-result
nonzero_div-result c =
    omega (arith, side c, some c)
