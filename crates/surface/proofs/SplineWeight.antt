-- The weights of the two-scale relation by parity of the child, and the sides of cells from level to level.
use mathlib.Core.List.{[], ◌∷◌}
use mathlib.Core.Path.{◌≡◌, sym, ◌∙◌}
use Prim.Native.Nat.{ℕ, suc, ◌+◌, ◌-◌, ◌*◌, ◌≤◌, ◌<◌}
use native.Mathlib.Decide.{dec_le}
use native.Mathlib.Nat.{one-le-pow, pow-succ'}
use native.Mathlib.Omega.{arith}
use lib.ListN.{get_or}
use borrow.Author.Tests.{le-leb, lt-leb}
use Rattle.surface.specs.Sheet.{eighths}
use Rattle.surface.specs.Truncation.{weight}

-- the k-th child has the k-th weight
pub weight-at : (a c k : ℕ) → c + 3 ≡ 2 * a + k → weight a c ≡ get_or (1 ∷ 4 ∷ 6 ∷ 4 ∷ 1 ∷ []) k 0
unfolding weight
weight-at a c k e =
    let place : c + 3 - 2 * a ≡ k = omega arith in
    rw (le-leb (2 * a) (c + 3) (omega arith), place)

-- a child before the first has the weight 0
pub weight-before : (a c : ℕ) → c + 3 < 2 * a → weight a c ≡ 0
unfolding weight
weight-before a c h = rw (lt-leb (2 * a) (c + 3) h)

-- and so has a child after the fifth
pub weight-after : (a c : ℕ) → 2 * a + 2 ≤ c → weight a c ≡ 0
weight-after a c h =
    let past : c + 3 ≡ 2 * a + suc (suc (suc (suc (suc (c - (2 * a + 2)))))) = omega arith in
    weight-at a c _ past

-- the weight depends only on how far the child is from twice the parent
pub weight-shift : (m a c a' c' : ℕ) → a' ≡ m + a → c' ≡ 2 * m + c → weight a' c' ≡ weight a c
weight-shift m a c a' c' p q = go (dec_le (2 * a) (c + 3))
  where
    go : Dec (2 * a ≤ c + 3) → weight a' c' ≡ weight a c
    go (yes h) =
        let k = c + 3 - 2 * a in
        weight-at a' c' k (omega arith) ∙ sym (weight-at a c k (omega arith))
    go (no h) = weight-before a' c' (omega arith) ∙ sym (weight-before a c (omega arith))

-- the parents of an even child
pub weight-even-0 : (m : ℕ) → weight m (2 * m) ≡ 4
weight-even-0 m = weight-at m (2 * m) 3 (omega arith)

pub weight-even-1 : (m : ℕ) → weight (m + 1) (2 * m) ≡ 4
weight-even-1 m = weight-at (m + 1) (2 * m) 1 (omega arith)

pub weight-even-low : (m a : ℕ) → a < m → weight a (2 * m) ≡ 0
weight-even-low m a h = weight-after a (2 * m) (omega arith)

pub weight-even-high : (m a : ℕ) → m + 2 ≤ a → weight a (2 * m) ≡ 0
weight-even-high m a h = weight-before a (2 * m) (omega arith)

-- the parents of an odd child
pub weight-odd-0 : (m : ℕ) → weight m (2 * m + 1) ≡ 1
weight-odd-0 m = weight-at m (2 * m + 1) 4 (omega arith)

pub weight-odd-1 : (m : ℕ) → weight (m + 1) (2 * m + 1) ≡ 6
weight-odd-1 m = weight-at (m + 1) (2 * m + 1) 2 (omega arith)

pub weight-odd-2 : (m : ℕ) → weight (m + 2) (2 * m + 1) ≡ 1
weight-odd-2 m = weight-at (m + 2) (2 * m + 1) 0 (omega arith)

pub weight-odd-low : (m a : ℕ) → a < m → weight a (2 * m + 1) ≡ 0
weight-odd-low m a h = weight-after a (2 * m + 1) (omega arith)

pub weight-odd-high : (m a : ℕ) → m + 3 ≤ a → weight a (2 * m + 1) ≡ 0
weight-odd-high m a h = weight-before a (2 * m + 1) (omega arith)

-- a child with a weight is one of the five
pub weight-parent : (a c : ℕ) → 0 < weight a c → (2 * a ≤ c + 3) × (c + 3 ≤ 2 * a + 4)
weight-parent a c p = (low (dec_le (2 * a) (c + 3)), high (dec_le (c + 3) (2 * a + 4)))
  where
    low : Dec (2 * a ≤ c + 3) → 2 * a ≤ c + 3
    low (yes h) = h
    low (no h) = omega (arith, weight-before a c (omega arith))

    high : Dec (c + 3 ≤ 2 * a + 4) → c + 3 ≤ 2 * a + 4
    high (yes h) = h
    high (no h) = omega (arith, weight-after a c (omega arith))

-- each level halves the side of a cell
pub eighths-step : (L : ℕ) → L < 3 → eighths L ≡ 2 * eighths (suc L)
unfolding eighths
eighths-step L h =
    let e : 3 - L ≡ suc (3 - suc L) = omega arith in
    rw (e, pow-succ')

pub eighths-pos : (L : ℕ) → 0 < eighths L
unfolding eighths
eighths-pos L = one-le-pow (3 - L) 2 (omega arith)
