-- `eighths` meets its contract: the four levels one by one.
use mathlib.Core.Path.{◌≡◌, refl}
use Prim.Native.Nat.{ℕ, zero, suc, ◌/◌, ◌^◌, ◌≤◌}
use native.Mathlib.Omega.{arith}
use Rattle.surface.specs.Sheet.{eighths}
use Rattle.activity.proofs.eighths.Goals as goal

halved : (L : ℕ) → L ≤ 3 → 8 / 2 ^ L ≡ eighths L
unfolding eighths
halved zero h = refl
halved (suc zero) h = refl
halved (suc (suc zero)) h = refl
halved (suc (suc (suc zero))) h = refl
halved (suc (suc (suc (suc L)))) h = absurd (omega arith)

pub returns : goal.returns
returns c = halved c.args.level c.requires
