-- Laws of the numbers of a body: two's complement, and the test of their limits.
use mathlib.Core.Path.{◌≡◌, refl, ap, ◌∙◌}
use mathlib.Core.Bool.{Bool, true, false}
use mathlib.Core.List.{List}
use Prim.Native.Nat.{ℕ, suc, ◌+◌, ◌-◌, ◌*◌, ◌%◌, ◌≤◌, ◌<◌}
use native.Mathlib.Nat.{mod-lt}
use native.Mathlib.Decide.{dec_lt}
use native.Mathlib.Numerals.{add-one}
use native.Mathlib.Omega.{arith}
use borrow.Author.Tests.{lt-ltb, le-ltb, leb-true, le-leb}
use lib.Dec.{leb}
use lib.IntN.{pos, negsuc, nat_abs, ◌-ℤ◌}
use lib.ListN.{get_or}
use mir.Syntax.{w64}
use mir.Val.{SFits, of_z, to_z}
use mir.ValLaws.{to_z_pos, to_z-of_z}
use Rattle.finite.specs.Range.{every}
use Rattle.finite.proofs.Tests.{same_test, every_true}
use Rattle.surface.specs.Fields.{unsigned_at, twos_complement, number_at, all_within}

-- five bytes from two pairs and one
pub five-bytes : (b : List ℕ) (k at high middle low n : ℕ) → at ≡ 5 * k
    → high ≡ get_or b at 0 * 256 + get_or b (at + 1) 0
    → middle ≡ get_or b (at + 2) 0 * 256 + get_or b (at + 2 + 1) 0 → low ≡ get_or b (at + 4) 0
    → n ≡ (high * 65536 + middle) * 256 + low → n ≡ unsigned_at b k
five-bytes b k at high middle low n e p q r s =
    let third : get_or b (at + 2 + 1) 0 ≡ get_or b (at + 3) 0 = ap (λ i. get_or b i 0) (omega arith) in
    rw (← e) (omega (arith, third))

-- ---- two's complement: half the range is added, the sum cut to the range, and half the range taken away

pub less-fits : (y m : ℕ) → 1 ≤ m → m ≤ 4611686018427387904 → SFits w64 (to_z w64 (y % m) -ℤ pos 549755813888)
less-fits y m some h =
    let x : y % m < m = mod-lt y some in
    rw (to_z_pos w64 (y % m) (omega arith)) (go (dec_lt (y % m) 549755813888))
  where
    go : Dec (y % m < 549755813888) → SFits w64 (pos (y % m) -ℤ pos 549755813888)
    go (yes l) = rw (lt-ltb (y % m) 549755813888 l) (record { sfits = omega arith })
    go (no l) = rw (le-ltb (y % m) 549755813888 (omega arith)) (record { sfits = omega (arith, mod-lt y some) })

shifted : (n : ℕ) → n < 1099511627776
    → pos ((n + 549755813888) % 1099511627776) -ℤ pos 549755813888 ≡ twos_complement n
shifted n h = go (dec_lt n 549755813888)
  where
    go : Dec (n < 549755813888) → pos ((n + 549755813888) % 1099511627776) -ℤ pos 549755813888 ≡ twos_complement n
    go (yes l) =
        let r : (n + 549755813888) % 1099511627776 ≡ n + 549755813888 = omega arith in
        rw (r, lt-ltb n 549755813888 l, le-ltb (n + 549755813888) 549755813888 (omega arith)) (ap pos (omega arith))
    go (no l) =
        let r : (n + 549755813888) % 1099511627776 ≡ n - 549755813888 = omega arith in
        rw (r, le-ltb n 549755813888 (omega arith), lt-ltb (n - 549755813888) 549755813888 (omega arith))
        (ap negsuc (omega arith))

pub number : (b : List ℕ) (k n : ℕ) → n ≡ unsigned_at b k → n < 1099511627776
    → to_z w64 (of_z w64 (to_z w64 ((n + 549755813888) % 1099511627776) -ℤ pos 549755813888)) ≡ number_at b k
number b k n e h =
    let x = (n + 549755813888) % 1099511627776 in
    to_z-of_z w64 (to_z w64 x -ℤ pos 549755813888)
    (less-fits (n + 549755813888) 1099511627776 (omega arith) (omega arith))
    ∙ ap (λ z. z -ℤ pos 549755813888) (to_z_pos w64 x (omega arith))
    ∙ shifted n h
    ∙ ap twos_complement e

-- ---- limits

same-leb : (a b c d : ℕ) → (a ≤ b → c ≤ d) → (c ≤ d → a ≤ b) → leb a b ≡ leb c d
same-leb a b c d f g =
    same_test (leb a b) (leb c d) (λ t. le-leb c d (f (leb-true a b t))) (λ t. le-leb a b (g (leb-true c d t)))

module _ (b : List ℕ) (k m : ℕ) (small : m < 549755813888) where
  -- a number keeps a limit m if by m more, cut to the range, it is at most twice m
  pub keeps-test : (n : ℕ) → n ≡ unsigned_at b k → n < 1099511627776
      → leb ((n + m) % 1099511627776) (2 * m) ≡ leb (nat_abs (number_at b k)) m
  keeps-test n e h = rw (← e) (go (dec_lt n 549755813888))
    where
      go : Dec (n < 549755813888) → leb ((n + m) % 1099511627776) (2 * m) ≡ leb (nat_abs (twos_complement n)) m
      go (yes l) =
          rw (lt-ltb n 549755813888 l)
          (same-leb ((n + m) % 1099511627776) (2 * m) n m (λ t. omega arith) (λ t. omega arith))
      go (no l) =
          rw (le-ltb n 549755813888 (omega arith))
          (same-leb ((n + m) % 1099511627776) (2 * m) (suc (1099511627775 - n)) m (λ t. omega arith)
          (λ t. omega arith))

-- ---- the first numbers of a body

module _ (most : ℕ) (b : List ℕ) where
  abbrev pub kept : ℕ → Bool
  kept k = leb (nat_abs (number_at b k)) most

  pub within_none : true ≡ every 0 kept
  unfolding every
  within_none = refl

  pub within_more : (k : ℕ) → true ≡ every k kept → true ≡ kept k → true ≡ every (k + 1) kept
  unfolding every
  within_more k e h = rw (add-one k, ← e) h

  pub within_all : (k n : ℕ) → k ≡ n → true ≡ every k kept → true ≡ all_within most n b
  unfolding all_within
  within_all k n e h = rw (← e) h

  pub within-lost : (n k : ℕ) → k < n → false ≡ kept k → false ≡ all_within most n b
  unfolding all_within
  within-lost n k l h = go (every n kept) refl
    where
      go : (t : Bool) → every n kept ≡ t → false ≡ t
      go true e = h ∙ every_true n kept e k l
      go false e = refl
