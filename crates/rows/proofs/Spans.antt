-- Spans of numbers, and what is raised in spans that follow one another.
use mathlib.Core.Bool.{Bool, true, false, ◌&&◌, ◌||◌, cond, and-eq-true_iff, and-false, and_comm}
use mathlib.Core.Path.{◌≡◌, ap, ◌∙◌}
use Prim.Native.Nat.{ℕ, ◌+◌, ◌-◌, ◌*◌, ◌/◌, ◌%◌, ◌≤◌, ◌<◌, max}
use native.Mathlib.Decide.{dec_lt}
use native.Mathlib.Omega.{arith}
use lib.Dec.{leb, ltb}
use borrow.Author.Tests.{ltb-true, leb-true, lt-ltb, le-ltb, le-leb, lt-leb}
use Rattle.finite.proofs.Tests.{same_test}
use Rattle.rows.specs.Rows.{in_span}

pub in-span : (x n q : ℕ) → x ≤ q → q < x + n → in_span x n q ≡ true
in-span x n q l u = rw (le-leb x q l) (lt-ltb q (x + n) u)

pub before-span : (x n q : ℕ) → q < x → in_span x n q ≡ false
before-span x n q l = rw (lt-leb x q l)

pub past-span : (x n q : ℕ) → x + n ≤ q → in_span x n q ≡ false
past-span x n q u = rw (le-ltb q (x + n) u) (and-false (leb x q))

pub span-true : (x n q : ℕ) → in_span x n q ≡ true → (x ≤ q) × (q < x + n)
span-true x n q e =
    let both = (and-eq-true_iff (leb x q) (ltb q (x + n))).0 e in
    (leb-true x q both.0, ltb-true q (x + n) both.1)

pub no_span : (x q : ℕ) → in_span x 0 q ≡ false
no_span x q = go (dec_lt q x)
  where
    go : Dec (q < x) → in_span x 0 q ≡ false
    go (yes l) = before-span x 0 q l
    go (no l) = past-span x 0 q (omega arith)

-- a span and the one that follows it
pub span-apart : (x n m q : ℕ) → in_span (x + n) m q ≡ true → in_span x n q ≡ false
span-apart x n m q e = let s = span-true (x + n) m q e in past-span x n q (omega arith)

pub span-or : (x n m q : ℕ) → in_span x (n + m) q ≡ (in_span (x + n) m q || in_span x n q)
span-or x n m q = go (dec_lt q (x + n)) (dec_lt q (x + (n + m)))
  where
    go : Dec (q < x + n) → Dec (q < x + (n + m)) → in_span x (n + m) q ≡ (in_span (x + n) m q || in_span x n q)
    go (yes l) d = rw (before-span (x + n) m q l, lt-ltb q (x + n) l, lt-ltb q (x + (n + m)) (omega arith))
    go (no l) (yes d) =
        rw (in-span x (n + m) q (omega arith) d, in-span (x + n) m q (omega arith) (omega arith))
    go (no l) (no d) =
        rw (
          past-span x (n + m) q (omega arith),
          past-span (x + n) m q (omega arith),
          past-span x n q (omega arith),
        )

-- places of n words from row y of a level on are those of that level and of the n rows
pub row-test : (l y n p : ℕ) → y + n ≤ 32 → in_span (l * 32 + y) n p ≡ (in_span l 1 (p / 32) && in_span y n (p % 32))
row-test l y n p fits =
    same_test (in_span (l * 32 + y) n p) (in_span l 1 (p / 32) && in_span y n (p % 32))
    (λ e.
    let s = span-true (l * 32 + y) n p e in
    rw (in-span l 1 (p / 32) (omega arith) (omega arith)) (in-span y n (p % 32) (omega arith) (omega arith)))
    (λ e.
    let both = (and-eq-true_iff (in_span l 1 (p / 32)) (in_span y n (p % 32))).0 e in
    let level = span-true l 1 (p / 32) both.0 in
    let row = span-true y n (p % 32) both.1 in
    in-span (l * 32 + y) n p (omega arith) (omega arith))

-- ---- spans that are raised one after the other

-- a span that follows another: both are one span
span-join : (x a b q : ℕ) (c : Bool) (u v o : ℕ)
    → max (max o (cond (in_span x a q && c) u 0)) (cond (in_span (x + a) b q && c) v 0)
    ≡ max o (cond (in_span x (a + b) q && c) (cond (ltb (q - x) a) u v) 0)
span-join x a b q c u v o = go (dec_lt q x) (dec_lt q (x + a)) (dec_lt q (x + (a + b)))
  where
    one : (c : Bool) → max (max o (cond c u 0)) 0 ≡ max o (cond c u 0)
    one c = omega arith

    two : (c : Bool) → max (max o 0) (cond c v 0) ≡ max o (cond c v 0)
    two c = omega arith

    none : max (max o 0) 0 ≡ max o 0
    none = omega arith

    go : Dec (q < x) → Dec (q < x + a) → Dec (q < x + (a + b))
        → max (max o (cond (in_span x a q && c) u 0)) (cond (in_span (x + a) b q && c) v 0)
        ≡ max o (cond (in_span x (a + b) q && c) (cond (ltb (q - x) a) u v) 0)
    go (yes l) e f = rw (before-span x a q l, before-span (x + a) b q (omega arith), before-span x (a + b) q l) none
    go (no l) (yes e) f =
        rw (
          before-span (x + a) b q e,
          in-span x a q (omega arith) e,
          in-span x (a + b) q (omega arith) (omega arith),
          lt-ltb (q - x) a (omega arith),
        )
        (one c)
    go (no l) (no e) (yes f) =
        rw (
          in-span (x + a) b q (omega arith) (omega arith),
          past-span x a q (omega arith),
          in-span x (a + b) q (omega arith) f,
          le-ltb (q - x) a (omega arith),
        )
        (two c)
    go (no l) (no e) (no f) =
        rw (
          past-span (x + a) b q (omega arith),
          past-span x a q (omega arith),
          past-span x (a + b) q (omega arith),
        )
        none

-- the same, of the second of two spans
join-span : (y a b r : ℕ) (c : Bool) (u v o : ℕ)
    → max (max o (cond (c && in_span y a r) u 0)) (cond (c && in_span (y + a) b r) v 0)
    ≡ max o (cond (c && in_span y (a + b) r) (cond (ltb (r - y) a) u v) 0)
join-span y a b r c u v o =
    rw (and_comm c (in_span (y + a) b r), and_comm c (in_span y a r), and_comm c (in_span y (a + b) r))
    (span-join y a b r c u v o)

-- four squares that are raised one after the other are one
pub join-quarters : (x y h q r a b c d o : ℕ)
    → max (max (max (max o
    (cond (in_span x h q && in_span y h r) a 0))
    (cond (in_span (x + h) h q && in_span y h r) b 0))
    (cond (in_span x h q && in_span (y + h) h r) c 0))
    (cond (in_span (x + h) h q && in_span (y + h) h r) d 0)
    ≡ max o
    (cond (in_span x (h + h) q && in_span y (h + h) r)
    (cond (ltb (r - y) h) (cond (ltb (q - x) h) a b) (cond (ltb (q - x) h) c d)) 0)
join-quarters x y h q r a b c d o =
    span-join x h h q (in_span (y + h) h r) c d _
    ∙ ap (λ m. max m (cond (in_span x (h + h) q && in_span (y + h) h r) (cond (ltb (q - x) h) c d) 0))
    (span-join x h h q (in_span y h r) a b o)
    ∙ join-span y h h r (in_span x (h + h) q) (cond (ltb (q - x) h) a b) (cond (ltb (q - x) h) c d) o
