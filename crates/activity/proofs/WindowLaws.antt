-- Sizes of levels, and the quarters under a cut support.
use mathlib.Core.Path.{◌≡◌}
use mathlib.Core.Bool.{true}
use mathlib.Core.Logic.{◌↔◌}
use Prim.Native.Nat.{ℕ, zero, suc, ◌+◌, ◌-◌, ◌*◌, ◌/◌, ◌^◌, ◌≤◌, ◌<◌}
use native.Mathlib.Nat.{mul-le-mul}
use native.Mathlib.Omega.{arith}
use lib.Pow.{pow_mono, pow_pos}
use Rattle.finite.proofs.Tests.{lts-true, lts-intro}
use Rattle.surface.specs.Sheet.{eighths, functions, quarters}
use Rattle.surface.specs.Support.{low_end, high_end, shares}
use Rattle.activity.specs.Over.{Over}
use Rattle.activity.specs.declared.Window.{Window}

-- ---- sizes

pub eighths-le : (L : ℕ) → eighths L ≤ 8
unfolding eighths
eighths-le L = pow_mono {i = 3 - L} {j = 3} (omega arith)

pub eighths-some : (L : ℕ) → 1 ≤ eighths L
unfolding eighths
eighths-some L = pow_pos (3 - L)

pub place-le : (a e : ℕ) → a < 67 → e ≤ 8 → a * e ≤ 528
place-le a e ha he = let small : a ≤ 66 = omega arith in mul-le-mul small he

pub functions-le : (n L : ℕ) → n ≤ 8 → L ≤ 3 → functions n L ≤ 67
functions-le n L hn hL =
    let power : 2 ^ L ≤ 8 = pow_mono {i = L} {j = 3} hL in
    omega (arith, mul-le-mul hn power)

-- a row's functions take up to 88 eighths, three cells past the sheet
pub row-size : (W L n e : ℕ) → W ≤ 8 → L ≤ 3 → n ≡ functions W L → e ≡ eighths L → n * e ≤ 88
unfolding eighths
row-size W zero n e hW hL size side = rw (size, side) (omega arith)
row-size W (suc zero) n e hW hL size side = rw (size, side) (omega arith)
row-size W (suc (suc zero)) n e hW hL size side = rw (size, side) (omega arith)
row-size W (suc (suc (suc zero))) n e hW hL size side = rw (size, side) (omega arith)
row-size W (suc (suc (suc (suc L)))) n e hW hL size side = absurd (omega arith)

-- ---- the window of a cut support

-- the quarters that share length with it are those from low to before high
pub shares-window : (n L a q : ℕ)
    → (shares n L a q ≡ true) ↔ ((low_end L a / 2 ≤ q) × (q < (high_end n L a + 1) / 2))
shares-window n L a q = (
  λ e. let s = lts-true (low_end L a) (2 * q + 2) (2 * q) (high_end n L a) e in (omega arith, omega arith),
  λ h. lts-intro (low_end L a) (2 * q + 2) (2 * q) (high_end n L a) (omega arith) (omega arith),
)

pub window-fits : (n L a : ℕ) → (high_end n L a + 1) / 2 ≤ quarters n
window-fits n L a = omega arith

pub window-order : (n L a : ℕ) → L ≤ 3 → a < functions n L → low_end L a / 2 ≤ (high_end n L a + 1) / 2
unfolding eighths
window-order n zero a hL ha = omega arith
window-order n (suc zero) a hL ha = omega arith
window-order n (suc (suc zero)) a hL ha = omega arith
window-order n (suc (suc (suc zero))) a hL ha = omega arith
window-order n (suc (suc (suc (suc L)))) a hL ha = absurd (omega arith)

-- what a row's window is asked for, and where it ends
pub window-asks : (n L b : ℕ) → n ≤ 8 → L ≤ 3 → b < functions n L → (n ≤ 8) × (L ≤ 3) × (b < 67)
window-asks n L b hn hL hb = (hn, hL, omega (arith, functions-le n L hn hL))

pub window-ends : (n L b : ℕ) {w : Window} → n ≤ 8 → L ≤ 3 → b < functions n L → Over n L b w
    → (w.low ≤ w.high) × (w.high ≤ 32)
window-ends n L b hn hL hb over = (
  omega (arith, over.0, over.1, window-order n L b hL hb),
  omega (arith, over.1, window-fits n L b),
)
