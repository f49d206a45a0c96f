-- Numbers of two bytes: a written one is read back, and the numbers of a body determine its bytes.
use mathlib.Core.Path.{◌≡◌}
use mathlib.Core.List.{List}
use Prim.Native.Nat.{ℕ, zero, suc, ◌+◌, ◌*◌, ◌<◌}
use native.Mathlib.Nat.{add-zero}
use native.Mathlib.Omega.{arith}
use lib.ListN.{length, get_or}
use Rattle.surface.specs.Fields.{two_bytes_at, Bytes, byte_of}
use Rattle.fields.proofs.FieldLaws.{byte, groups-same}

pub two-read : (n : ℕ) → n < 65536 → 256 * byte_of 1 n + byte_of 0 n ≡ n
two-read n h = omega arith

module _ (b c : List ℕ) (hb : Bytes b) (hc : Bytes c) where
  same_bytes : (k : ℕ) → two_bytes_at b k ≡ two_bytes_at c k → (r : ℕ) → r < 2
      → get_or b (2 * k + r) 0 ≡ get_or c (2 * k + r) 0
  same_bytes k e zero l = rw (add-zero (2 * k)) (omega (arith, byte b hb (2 * k + 1), byte c hc (2 * k + 1)))
  same_bytes k e (suc zero) l = omega (arith, byte b hb (2 * k + 1), byte c hc (2 * k + 1))
  same_bytes k e (suc (suc r)) l = absurd (omega arith)

  -- bodies of n numbers each, number by number the same
  pub two-determine : (n : ℕ) → length b ≡ 2 * n → length c ≡ 2 * n
      → ((k : ℕ) → k < n → two_bytes_at b k ≡ two_bytes_at c k) → b ≡ c
  two-determine n eb ec h = groups-same 2 n b c (omega arith) eb ec (λ k r l. same_bytes k (h k l) r)
