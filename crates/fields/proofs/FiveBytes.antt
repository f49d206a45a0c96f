-- Numbers of five bytes: each number has one spelling, so the numbers of a body determine its bytes.
use mathlib.Core.Path.{◌≡◌, sym, ap, ◌∙◌}
use mathlib.Core.Bool.{Bool, true, false, cond}
use mathlib.Core.List.{List}
use Prim.Native.Nat.{ℕ, zero, suc, ◌+◌, ◌-◌, ◌*◌, ◌^◌, ◌<◌}
use native.Mathlib.Nat.{add-zero}
use native.Mathlib.Omega.{arith}
use lib.IntN.{pos, negsuc}
use lib.Dec.{ltb}
use lib.ListN.{length, get_or}
use Rattle.surface.specs.Fields.{unsigned_at, twos_complement, number_at, Bytes, byte_of}
use Rattle.fields.proofs.FieldLaws.{byte, groups-same}

-- a number below 2^40 is determined by its two's complement
twos-complement-inj : (m n : ℕ) → m < 2 ^ 40 → n < 2 ^ 40 → twos_complement m ≡ twos_complement n → m ≡ n
twos-complement-inj m n hm hn e = go (ltb m (2 ^ 39)) (ltb n (2 ^ 39)) e
  where
    go : (s t : Bool)
        → cond s (pos m) (negsuc (2 ^ 40 - 1 - m)) ≡ cond t (pos n) (negsuc (2 ^ 40 - 1 - n)) → m ≡ n
    go true true e = cc
    go true false e = absurd (let z : ◌≡◌ {A = ℕ} 0 1 = cc in omega arith)
    go false true e = absurd (let z : ◌≡◌ {A = ℕ} 0 1 = cc in omega arith)
    go false false e = let z : 2 ^ 40 - 1 - m ≡ 2 ^ 40 - 1 - n = cc in omega arith

module _ (b : List ℕ) (h : Bytes b) (k : ℕ) where
  unsigned_small : unsigned_at b k < 2 ^ 40
  unsigned_small =
      omega (
        arith,
        byte b h (5 * k),
        byte b h (5 * k + 1),
        byte b h (5 * k + 2),
        byte b h (5 * k + 3),
        byte b h (5 * k + 4),
      )

  -- the bytes of the number are those in the body
  spelled : (r : ℕ) → r < 5 → get_or b (5 * k + r) 0 ≡ byte_of (4 - r) (unsigned_at b k)
  spelled r l = go (byte b h (5 * k)) (byte b h (5 * k + 1)) (byte b h (5 * k + 2)) (byte b h (5 * k + 3)) r l
    where
      go : get_or b (5 * k) 0 < 256 → get_or b (5 * k + 1) 0 < 256 → get_or b (5 * k + 2) 0 < 256
          → get_or b (5 * k + 3) 0 < 256 → (r : ℕ) → r < 5 → get_or b (5 * k + r) 0 ≡ byte_of (4 - r) (unsigned_at b k)
      go h0 h1 h2 h3 zero l = rw (add-zero (5 * k)) (omega (arith, byte b h (5 * k + 4)))
      go h0 h1 h2 h3 (suc zero) l = omega (arith, byte b h (5 * k + 4))
      go h0 h1 h2 h3 (suc (suc zero)) l = omega (arith, byte b h (5 * k + 4))
      go h0 h1 h2 h3 (suc (suc (suc zero))) l = omega (arith, byte b h (5 * k + 4))
      go h0 h1 h2 h3 (suc (suc (suc (suc zero)))) l = omega (arith, byte b h (5 * k + 4))
      go h0 h1 h2 h3 (suc (suc (suc (suc (suc r))))) l = absurd (omega arith)

module _ (b c : List ℕ) (hb : Bytes b) (hc : Bytes c) where
  same_bytes : (k : ℕ) → number_at b k ≡ number_at c k → (r : ℕ) → r < 5 → get_or b (5 * k + r) 0 ≡ get_or c (5 * k + r) 0
  same_bytes k e r l =
      let same = twos-complement-inj (unsigned_at b k) (unsigned_at c k) (unsigned_small b hb k) (unsigned_small c hc k)
      e in
      spelled b hb k r l ∙ ap (byte_of (4 - r)) same ∙ sym (spelled c hc k r l)

  -- bodies of n numbers each, number by number the same
  pub numbers-determine : (n : ℕ) → length b ≡ 5 * n → length c ≡ 5 * n
      → ((k : ℕ) → k < n → number_at b k ≡ number_at c k) → b ≡ c
  numbers-determine n eb ec h = groups-same 5 n b c (omega arith) eb ec (λ k r l. same_bytes k (h k l) r)
