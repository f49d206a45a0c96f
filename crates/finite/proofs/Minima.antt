-- Minima over the numbers 0 to n - 1.
use mathlib.Core.Path.{◌≡◌}
use Prim.Native.Nat.{ℕ, zero, suc, ◌≤◌, ◌<◌, min}
use native.Mathlib.Nat.{le_refl, le_trans, min-le_left, min-le_right, le-min, le_step, lt-suc_self}
use native.Mathlib.Decide.{dec_lt}
use native.Mathlib.Omega.{arith}
use Rattle.finite.specs.Range.{least}

pub least-le-top : (top n : ℕ) (f : ℕ → ℕ) → least top n f ≤ top
unfolding least
least-le-top top zero f = le_refl top
least-le-top top (suc n) f = le_trans (min-le_left (least top n f) (f n)) (least-le-top top n f)

pub least-le : (top n : ℕ) (f : ℕ → ℕ) (k : ℕ) → k < n → least top n f ≤ f k
unfolding least
least-le top zero f k h = absurd (omega arith)
least-le top (suc n) f k h = go (λ l. least-le top n f k l) (dec_lt k n)
  where
    go : (k < n → least top n f ≤ f k) → Dec (k < n) → min (least top n f) (f n) ≤ f k
    go ih (yes l) = le_trans (min-le_left (least top n f) (f n)) (ih l)
    go ih (no l) = let e : k ≡ n = omega arith in rw e (min-le_right (least top n f) (f n))

pub le-least : (top n m : ℕ) (f : ℕ → ℕ) → m ≤ top → ((k : ℕ) → k < n → m ≤ f k) → m ≤ least top n f
unfolding least
le-least top zero m f t h = t
le-least top (suc n) m f t h = le-min (le-least top n m f t (λ k l. h k (le_step l))) (h n (lt-suc_self n))

-- a least number below the top is that of one of the n
pub least-attained : (top n : ℕ) (f : ℕ → ℕ) (m : ℕ) → least top n f ≡ m → m < top → (k : ℕ) × (k < n) × (f k ≡ m)
unfolding least
least-attained top zero f m e h = absurd (omega arith)
least-attained top (suc n) f m e h = go (least-attained top n f m) (dec_lt (f n) (least top n f))
  where
    go : (least top n f ≡ m → m < top → (k : ℕ) × (k < n) × (f k ≡ m)) → Dec (f n < least top n f)
        → (k : ℕ) × (k < suc n) × (f k ≡ m)
    go ih (yes l) = (n, lt-suc_self n, omega arith)
    go ih (no l) = let (k, hk, p) = ih (omega arith) h in (k, le_step hk, p)
