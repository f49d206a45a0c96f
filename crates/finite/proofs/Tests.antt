-- Laws of tests, counts and totals over the numbers 0 to n - 1, and of tests over a grid.
use mathlib.Core.Path.{◌≡◌, refl, sym, ap₂, subst}
use native.Mathlib.Numerals.{add-one}
use mathlib.Core.Bool.{Bool, true, false, ◌&&◌, cond, and-eq-true_iff}
use Prim.Native.Nat.{ℕ, zero, suc, ◌+◌, ◌≤◌, ◌<◌}
use native.Mathlib.Nat.{le_step, lt-suc_self, not-suc-le-zero, le_refl}
use native.Mathlib.Decide.{dec_lt}
use native.Mathlib.Omega.{arith}
use lib.Dec.{leb, ltb}
use borrow.Author.Tests.{leb-true, ltb-true, le-leb, lt-ltb}
use Rattle.finite.specs.Range.{every, every2, count, total}

-- two tests are equal when each holds as the other does
pub same_test : (s t : Bool) → (s ≡ true → t ≡ true) → (t ≡ true → s ≡ true) → s ≡ t
same_test true t f g = sym (f refl)
same_test false true f g = g refl
same_test false false f g = refl

-- ---- tests that are conjunctions

pub both : (a b : Bool) → (a && b) ≡ true → (a ≡ true) × (b ≡ true)
both true b e = (refl, e)
both false b e = absurd (subst lib.Dec.T (sym e) tt)

pub and_intro : (a b : Bool) → a ≡ true → b ≡ true → (a && b) ≡ true
and_intro a b p q = rw (p, q)

-- two orders tested together
pub lts-true : (a b c d : ℕ) → (ltb a b && ltb c d) ≡ true → (a < b) × (c < d)
lts-true a b c d e = (ltb-true a b (both (ltb a b) (ltb c d) e).0, ltb-true c d (both (ltb a b) (ltb c d) e).1)

pub lts-intro : (a b c d : ℕ) → a < b → c < d → (ltb a b && ltb c d) ≡ true
lts-intro a b c d p q = and_intro (ltb a b) (ltb c d) (lt-ltb a b p) (lt-ltb c d q)

-- q is one of the numbers lo to hi - 1
abbrev pub between : ℕ → ℕ → ℕ → Bool
between lo hi q = leb lo q && ltb q hi

pub between-true : (lo hi q : ℕ) → between lo hi q ≡ true → (lo ≤ q) × (q < hi)
between-true lo hi q e =
    (leb-true lo q (both (leb lo q) (ltb q hi) e).0, ltb-true q hi (both (leb lo q) (ltb q hi) e).1)

pub between-intro : (lo hi q : ℕ) → lo ≤ q → q < hi → between lo hi q ≡ true
between-intro lo hi q l h = and_intro (leb lo q) (ltb q hi) (le-leb lo q l) (lt-ltb q hi h)

pub pick : (b : Bool) (P : Bool → Type 0) → (b ≡ true → P true) → (b ≡ false → P false) → P b
pick true P t f = t refl
pick false P t f = f refl

-- ---- what holds below a number

-- and at it, holds below the next
pub below_more : (P : ℕ → Type 0) (k : ℕ) → ((i : ℕ) → i < k → P i) → P k → (i : ℕ) → i < k + 1 → P i
below_more P k h e i l = go (dec_lt i k)
  where
    go : Dec (i < k) → P i
    go (yes d) = h i d
    go (no d) = let q : k ≡ i = omega arith in subst P q e

-- ---- tests that hold everywhere

pub every_true : (n : ℕ) (p : ℕ → Bool) → every n p ≡ true → (k : ℕ) → k < n → p k ≡ true
unfolding every
every_true zero p e k h = absurd (not-suc-le-zero h)
every_true (suc n) p e k h =
    let both : (every n p ≡ true) × (p n ≡ true) = (and-eq-true_iff (every n p) (p n)).0 e in
    go (every_true n p both.0 k) both.1 (dec_lt k n)
  where
    go : (k < n → p k ≡ true) → p n ≡ true → Dec (k < n) → p k ≡ true
    go ih last (yes l) = ih l
    go ih last (no l) = let q : k ≡ n = omega arith in rw q last

pub every-intro : (n : ℕ) (p : ℕ → Bool) → ((k : ℕ) → k < n → p k ≡ true) → every n p ≡ true
unfolding every
every-intro zero p h = refl
every-intro (suc n) p h = rw (every-intro n p (λ k l. h k (le_step l))) (h n (lt-suc_self n))

pub every-cong : (n : ℕ) (p q : ℕ → Bool) → ((k : ℕ) → k < n → p k ≡ q k) → every n p ≡ every n q
unfolding every
every-cong zero p q h = refl
every-cong (suc n) p q h = ap₂ ◌&&◌ (every-cong n p q (λ k l. h k (le_step l))) (h n (lt-suc_self n))

-- ---- the same over a grid

module _ (n m : ℕ) where
  pub every2-true : (p : ℕ → ℕ → Bool) → every2 n m p ≡ true → (a b : ℕ) → a < n → b < m → p a b ≡ true
  every2-true p e a b ha hb = every_true m (p a) (every_true n (λ a. every m (λ b. p a b)) e a ha) b hb

  pub every2-intro : (p : ℕ → ℕ → Bool) → ((a b : ℕ) → a < n → b < m → p a b ≡ true) → every2 n m p ≡ true
  every2-intro p h = every-intro n (λ a. every m (λ b. p a b)) (λ a ha. every-intro m (p a) (λ b hb. h a b ha hb))

  pub every2-cong : (p q : ℕ → ℕ → Bool) → ((a b : ℕ) → a < n → b < m → p a b ≡ q a b) → every2 n m p ≡ every2 n m q
  every2-cong p q h =
      every-cong n (λ a. every m (λ b. p a b)) (λ a. every m (λ b. q a b))
      (λ a ha. every-cong m (p a) (q a) (λ b hb. h a b ha hb))

-- ---- totals

pub total-none : (f : ℕ → ℕ) → 0 ≡ total 0 f
unfolding total
total-none f = refl

pub total-more : (n k x : ℕ) (f : ℕ → ℕ) → k ≡ total n f → x ≡ f n → k + x ≡ total (n + 1) f
unfolding total
total-more n k x f e h = rw (add-one n) (ap₂ ◌+◌ e h)

pub total-cong : (n : ℕ) (f g : ℕ → ℕ) → ((k : ℕ) → k < n → f k ≡ g k) → total n f ≡ total n g
unfolding total
total-cong zero f g h = refl
total-cong (suc n) f g h = ap₂ ◌+◌ (total-cong n f g (λ k l. h k (le_step l))) (h n (lt-suc_self n))

-- ---- counts

pub count_none : (p : ℕ → Bool) → 0 ≡ count 0 p
unfolding count
count_none p = refl

pub count-one : (n k : ℕ) (p : ℕ → Bool) → k ≡ count n p → p n ≡ true → k + 1 ≡ count (n + 1) p
unfolding count
count-one n k p e h = rw (add-one n, h, e)

pub count_same : (n k : ℕ) (p : ℕ → Bool) → k ≡ count n p → p n ≡ false → k ≡ count (n + 1) p
unfolding count
count_same n k p e h = rw (add-one n, h) (omega arith)

pub count-cong : (n : ℕ) (p q : ℕ → Bool) → ((k : ℕ) → k < n → p k ≡ q k) → count n p ≡ count n q
unfolding count
count-cong zero p q h = refl
count-cong (suc n) p q h =
    ap₂ (λ c t. c + cond t 1 0) (count-cong n p q (λ k l. h k (le_step l))) (h n (lt-suc_self n))

pub count-le : (n : ℕ) (p : ℕ → Bool) → count n p ≤ n
unfolding count
count-le zero p = le_refl 0
count-le (suc n) p = omega (arith, count-le n p, at_most_one (p n))
  where
    at_most_one : (t : Bool) → cond t 1 0 ≤ 1
    at_most_one true = omega arith
    at_most_one false = omega arith
