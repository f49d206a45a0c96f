-- Trees that stand one after the other, and what reading a byte of the first leaves of them.
use mathlib.Core.Path.{◌≡◌, subst}
use mathlib.Core.List.{List}
use Prim.Native.Nat.{ℕ, zero, suc, ◌+◌, ◌-◌, ◌≤◌, ◌<◌}
use native.Mathlib.Nat.{add-zero}
use native.Mathlib.Decide.{dec_le}
use native.Mathlib.Omega.{arith}
use borrow.Author.Tests.{le-leb, lt-leb}
use lib.ListN.{length, get_or}
use Rattle.surface.specs.Quadtree.{Quadtree, bytes}
use Rattle.quadtree.specs.Subtree.{Subtree}
use Rattle.quadtree.proofs.SubtreeLaws.{bytes-some, subtree-inside, subtree-bytes, subtree-leaf, subtree-split}
use Rattle.leastlevel.specs.Visits.{begun}

-- n trees stand in t from p to before end
abbrev pub Forest : ℕ → List ℕ → ℕ → ℕ → Type 0
Forest zero t p end = p ≡ end
Forest (suc n) t p end = (k : ℕ) × (q : Quadtree) × Subtree k t p q × Forest n t (p + length (bytes q)) end

-- each has a byte
pub forest-long : (n : ℕ) (t : List ℕ) (p end : ℕ) → Forest n t p end → p + n ≤ end
forest-long zero t p end f = omega arith
forest-long (suc n) t p end (k, q, s, f) =
    omega (arith, bytes-some q, forest-long n t (p + length (bytes q)) end f)

-- the first tree's byte stands in t
pub forest-inside : (n : ℕ) (t : List ℕ) (p end : ℕ) → 0 < n → Forest n t p end → p < length t
forest-inside zero t p end h f = absurd (omega arith)
forest-inside (suc n) t p end h (k, q, s, f) = (subtree-inside k t p q s).0

-- and is that of a leaf or of a split
pub forest-byte : (n : ℕ) (t : List ℕ) (p end : ℕ) → 0 < n → Forest n t p end → get_or t p 0 ≤ 4
unfolding bytes
forest-byte zero t p end h f = absurd (omega arith)
forest-byte (suc n) t p end h (k, q, s, f) = go (dec_le (get_or t p 0) 3)
  where
    go : Dec (get_or t p 0 ≤ 3) → get_or t p 0 ≤ 4
    go (yes low) = omega arith
    go (no high) =
        let c = subtree-split k t p q s (omega arith) in
        let at : get_or t p 0 ≡ get_or (bytes q) 0 0 = rw (add-zero p) at (subtree-bytes k t p q s 0 (bytes-some q)) in
        let four : get_or (bytes q) 0 0 ≡ 4 = rw c.whole in
        omega arith

-- a leaf is read with its byte, and of a split its children are left
pub forest-next : (n : ℕ) (t : List ℕ) (p end : ℕ) → 0 < n → Forest n t p end
    → Forest (n + begun (get_or t p 0) - 1) t (p + 1) end
unfolding bytes
forest-next zero t p end h f = absurd (omega arith)
forest-next (suc n) t p end h (k, q, s, f) = go (dec_le (get_or t p 0) 3)
  where
    go : Dec (get_or t p 0 ≤ 3) → Forest (suc n + begun (get_or t p 0) - 1) t (p + 1) end
    go (yes low) =
        let less : n ≡ suc n + 0 - 1 = omega arith in
        rw (le-leb (get_or t p 0) 3 low)
        (subst (λ m. Forest m t (p + 1) end) less
        (subst (λ m. Forest n t (p + length (bytes m)) end) (subtree-leaf k t p q s low) f))
    go (no high) =
        let c = subtree-split k t p q s (omega arith) in
        let j = c.j in
        let more : suc (suc (suc (suc n))) ≡ suc n + 4 - 1 = omega arith in
        rw (lt-leb (get_or t p 0) 3 (omega arith))
        (subst (λ m. Forest m t (p + 1) end) more (
          j,
          c.sw,
          c.first,
          (
            j,
            c.se,
            c.second,
            (
              j,
              c.nw,
              c.third,
              (
                j,
                c.ne,
                c.fourth,
                subst (λ m. Forest n t m end) c.end f,
              ),
            ),
          ),
        ))
