-- The machine's tests of a coefficient against its limit, and against 0.
use mathlib.Core.Path.{◌≡◌}
use native.Mathlib.Omega.{arith}
use lib.IntN.{ℤ, pos, negsuc, nat_abs}
use mir.Syntax.{w64}
use mir.Val.{SFits, of_z}

-- ---- the machine's tests of a coefficient c, whose limit m is in z

pub zero_of : (c : ℤ) → SFits w64 c → of_z w64 c ≡ 0 → nat_abs c ≡ 0
zero_of (pos n) s e = e
zero_of (negsuc n) s e = absurd (omega (arith, s.sfits))

pub of_zero : (c : ℤ) → nat_abs c ≡ 0 → of_z w64 c ≡ 0
of_zero (pos n) e = e
of_zero (negsuc n) e = absurd (omega arith)
