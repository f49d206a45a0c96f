-- Maxima over the numbers 0 to n - 1.
use mathlib.Core.Path.{◌≡◌}
use Prim.Native.Nat.{ℕ, zero, suc, ◌≤◌, ◌<◌, max}
use native.Mathlib.Nat.{le_trans, le-max_left, le-max_right, max-le, le_step, lt-suc_self}
use native.Mathlib.Decide.{dec_lt}
use native.Mathlib.Omega.{arith}
use Rattle.finite.specs.Range.{greatest}

pub le-greatest : (n : ℕ) (f : ℕ → ℕ) (k : ℕ) → k < n → f k ≤ greatest n f
unfolding greatest
le-greatest zero f k h = absurd (omega arith)
le-greatest (suc n) f k h = go (λ l. le-greatest n f k l) (dec_lt k n)
  where
    go : (k < n → f k ≤ greatest n f) → Dec (k < n) → f k ≤ max (greatest n f) (f n)
    go ih (yes l) = le_trans (ih l) (le-max_left (greatest n f) (f n))
    go ih (no l) = let e : k ≡ n = omega arith in rw e (le-max_right (greatest n f) (f n))

pub greatest-le : (n m : ℕ) (f : ℕ → ℕ) → ((k : ℕ) → k < n → f k ≤ m) → greatest n f ≤ m
unfolding greatest
greatest-le zero m f h = omega arith
greatest-le (suc n) m f h = max-le (greatest-le n m f (λ k l. h k (le_step l))) (h n (lt-suc_self n))
