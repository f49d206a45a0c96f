-- The marks of a row from one function on: those of the next one, and the mark of the first.
use mathlib.Core.Path.{◌≡◌, refl, sym, ap, ap₂, ◌∙◌}
use mathlib.Core.Bool.{cond}
use Prim.Native.Nat.{ℕ, zero, suc, ◌+◌, ◌*◌, ◌/◌, ◌%◌, ◌^◌, ◌<◌}
use native.Mathlib.Nat.{add-zero, zero-add, add_assoc, zero-mul, suc-mul, div-one, mod-lt, zero-lt-suc}
use native.Mathlib.Omega.{arith}
use lib.Dec.{leb}
use borrow.Author.Tests.{eq-eqb, ne_eqb}
use Rattle.finite.specs.Bits.{bit}
use Rattle.finite.specs.Range.{count, total}
use Rattle.finite.proofs.Bits.{bit-small, bit-shr}
use Rattle.activity.specs.Marks.{mark_at, marked, From}
use Rattle.activity.specs.declared.Marks.{Marks}

pub from-none : (e : ℕ) (m : Marks) → From e 0 m m
from-none e m k = ap (mark_at e m) (sym (zero-add k))

pub from_next : (e a : ℕ) (m r s : Marks) → From e a m r → From e 1 r s → From e (a + 1) m s
from_next e a m r s f g k = g k ∙ f (1 + k) ∙ ap (mark_at e m) (sym (add_assoc a 1 k))

-- the lowest bit is the mark of the first
pub from-here : (e a : ℕ) (m r : Marks) → From e a m r → r.even % 2 ≡ mark_at e m a
unfolding bit
from-here e a m r f =
    rw (zero-mul e) (ap (λ n. n % 2) (sym (div-one r.even))) ∙ f 0 ∙ ap (mark_at e m) (add-zero a)

-- even and odd functions change places, and the word of the first goes on by a cell's side
pub marks-next : (e : ℕ) (m : Marks) → From e 1 m (record { even = m.odd; odd = m.even / 2 ^ e })
marks-next e m k = go (k % 2) refl
  where
    go : (d : ℕ) → k % 2 ≡ d → mark_at e (record { even = m.odd; odd = m.even / 2 ^ e }) k ≡ mark_at e m (1 + k)
    go zero h =
        let half : (1 + k) / 2 ≡ k / 2 = omega arith in
        rw (eq-eqb (k % 2) 0 h, ne_eqb ((1 + k) % 2) 0 (λ z. omega arith), half)
    go (suc d) h =
        let half : (1 + k) / 2 ≡ suc (k / 2) = omega (arith, mod-lt k (zero-lt-suc 1)) in
        rw (ne_eqb (k % 2) 0 (λ z. omega arith), eq-eqb ((1 + k) % 2) 0 (omega arith), half, suc-mul (k / 2) e)
        (bit-shr m.even e (k / 2 * e) ∙ ap (bit m.even) (omega arith))

-- ---- marks as numbers

pub digit : (x : ℕ) → x < 2 → x ≡ cond (leb 1 x) 1 0
digit zero h = refl
digit (suc zero) h = refl
digit (suc (suc x)) h = absurd (omega arith)

pub marks-counted : (e : ℕ) (m : Marks) (n : ℕ) → total n (mark_at e m) ≡ count n (marked e m)
unfolding total count
marks-counted e m zero = refl
marks-counted e m (suc n) = ap₂ ◌+◌ (marks-counted e m n) (digit (mark_at e m n) (bit-small _ (n / 2 * e)))
