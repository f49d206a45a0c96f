-- The sizes of the levels, level by level.
use mathlib.Core.Path.{◌≡◌, refl, ap}
use Prim.Native.Nat.{ℕ, ◌+◌, ◌^◌, ◌≤◌, ◌<◌}
use native.Mathlib.Nat.{mul-le-mul_left, pow-le-pow_right}
use native.Mathlib.Omega.{arith}
use Rattle.surface.specs.Table.{places, start, limit}

pub start-at : (W H L j : ℕ) → L ≡ j → start W H L ≡ start W H j
start-at W H L j e = ap (λ k. start W H k) e

-- where the levels' parts start, and the whole
pub starts : (W H : ℕ)
    → (start W H 0 ≡ 0)
    × (start W H 1 ≡ places W H 0)
    × (start W H 2 ≡ places W H 0 + places W H 1)
    × (start W H 3 ≡ places W H 0 + places W H 1 + places W H 2)
    × (start W H 4 ≡ places W H 0 + places W H 1 + places W H 2 + places W H 3)
unfolding start
starts W H =
    let z : 0 + places W H 0 ≡ places W H 0 = native.Mathlib.Nat.zero-add (places W H 0) in (
      refl,
      z,
      ap (λ k. k + places W H 1) z,
      ap (λ k. k + places W H 1 + places W H 2) z,
      ap (λ k. k + places W H 1 + places W H 2 + places W H 3) z,
    )

pub limit-below : (L : ℕ) → L ≤ 3 → limit L < 9000000000
limit-below L h =
    let power : 64 ^ L ≤ 262144 = pow-le-pow_right {n = 64} (omega arith) {i = L} {j = 3} h in
    omega (arith, mul-le-mul_left 32000 power)
