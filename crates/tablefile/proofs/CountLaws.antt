-- Laws of counts and totals: what stands before a place, and the place before which a given number stand.
use mathlib.Core.Path.{◌≡◌, refl, subst}
use mathlib.Core.Bool.{Bool, true, false, cond}
use Prim.Native.Nat.{ℕ, zero, suc, ◌+◌, ◌*◌, ◌≤◌, ◌<◌}
use native.Mathlib.Nat.{le_refl, le_step, lt-suc_self, zero-mul, suc-mul}
use native.Mathlib.Decide.{dec_lt}
use native.Mathlib.Omega.{arith}
use Rattle.finite.specs.Range.{count, total}

total-step : (n : ℕ) (f : ℕ → ℕ) → total (suc n) f ≡ total n f + f n
unfolding total
total-step n f = refl

pub total-le : (n c : ℕ) (f : ℕ → ℕ) → ((k : ℕ) → f k ≤ c) → total n f ≤ n * c
unfolding total
total-le zero c f h = rw (zero-mul c) (le_refl 0)
total-le (suc n) c f h = omega (arith, total-le n c f h, h n, suc-mul n c)

-- ---- what stands before a place

pub total-through : (n : ℕ) (f : ℕ → ℕ) (b : ℕ) → b < n → total b f + f b ≤ total n f
total-through zero f b h = absurd (omega arith)
total-through (suc n) f b h = go (total-through n f b) (dec_lt b n)
  where
    go : (b < n → total b f + f b ≤ total n f) → Dec (b < n) → total b f + f b ≤ total (suc n) f
    go ih (yes l) = omega (arith, ih l, total-step n f)
    go ih (no l) = let e : b ≡ n = omega arith in rw e (omega (arith, total-step n f))

-- of the numbers below n with p, fewer come before one of them than there are
pub count-before : (n : ℕ) (p : ℕ → Bool) (a : ℕ) → a < n → p a ≡ true → count a p < count n p
unfolding count
count-before zero p a h e = absurd (omega arith)
count-before (suc n) p a h e = go (λ l. count-before n p a l e) (dec_lt a n)
  where
    go : (a < n → count a p < count n p) → Dec (a < n) → count a p < count n p + cond (p n) 1 0
    go ih (yes l) = omega (arith, ih l)
    go ih (no l) =
        let q : a ≡ n = omega arith in
        let t : p n ≡ true = subst (λ k. p k ≡ true) q e in
        rw (q, t) (omega arith)

-- ---- the place before which k stand

pub total-split : (n : ℕ) (f : ℕ → ℕ) (k : ℕ) → k < total n f
    → (b : ℕ) × (b < n) × (total b f ≤ k) × (k < total b f + f b)
unfolding total
total-split zero f k h = absurd (omega arith)
total-split (suc n) f k h = go (total-split n f k) (dec_lt k (total n f))
  where
    go : (k < total n f → (b : ℕ) × (b < n) × (total b f ≤ k) × (k < total b f + f b)) → Dec (k < total n f)
        → (b : ℕ) × (b < suc n) × (total b f ≤ k) × (k < total b f + f b)
    go ih (yes l) = let r = ih l in (r.0, le_step r.1, r.2, r.3)
    go ih (no l) = (n, lt-suc_self n, omega arith, h)

pub count-split : (n : ℕ) (p : ℕ → Bool) (k : ℕ) → k < count n p
    → (a : ℕ) × (a < n) × (p a ≡ true) × (count a p ≡ k)
unfolding count
count-split zero p k h = absurd (omega arith)
count-split (suc n) p k h = go (count-split n p k) (dec_lt k (count n p))
  where
    go : (k < count n p → (a : ℕ) × (a < n) × (p a ≡ true) × (count a p ≡ k)) → Dec (k < count n p)
        → (a : ℕ) × (a < suc n) × (p a ≡ true) × (count a p ≡ k)
    go ih (yes l) = let r = ih l in (r.0, le_step r.1, r.2, r.3)
    go ih (no l) = last (p n) refl h
      where
        last : (t : Bool) → p n ≡ t → k < count n p + cond t 1 0
            → (a : ℕ) × (a < suc n) × (p a ≡ true) × (count a p ≡ k)
        last true e h = (n, lt-suc_self n, e, omega arith)
        last false e h = absurd (omega arith)
