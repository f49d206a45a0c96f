-- Laws of finite sums.
use mathlib.Core.Path.{◌≡◌, refl, sym, ap, ◌∙◌}
use Prim.Native.Nat.{ℕ, zero, suc, ◌+◌, ◌-◌, ◌≤◌, ◌<◌}
use native.Mathlib.Omega.{arith}
use native.Mathlib.Nat.{le_step, lt-suc_self, add-zero, add-suc}
use lib.IntN.{ℤ, pos, ◌+ℤ◌, ◌*ℤ◌, +ℤ_idl, +ℤ_idr, +ℤ_assoc, +ℤ_comm, *ℤ-zero, *ℤ_comm}
use lib.Signed.{◌≤ℤ◌, ≤ℤ_refl}
use Rattle.finite.specs.Range.{sum, sum2}
use Rattle.finite.proofs.Int.{*ℤ-add, +ℤ-left-comm}
use Rattle.finite.proofs.Order.{+ℤ-mono}

-- sums of terms that agree below n
pub sum-cong : (n : ℕ) (f g : ℕ → ℤ) → ((k : ℕ) → k < n → f k ≡ g k) → sum n f ≡ sum n g
unfolding sum
sum-cong zero f g h = refl
sum-cong (suc n) f g h = rw (sum-cong n f g (λ k l. h k (le_step l)), h n (lt-suc_self n))

pub sum-zero : (n : ℕ) (f : ℕ → ℤ) → ((k : ℕ) → k < n → f k ≡ pos 0) → sum n f ≡ pos 0
unfolding sum
sum-zero zero f h = refl
sum-zero (suc n) f h = rw (sum-zero n f (λ k l. h k (le_step l)), h n (lt-suc_self n))

pub sum-add : (n : ℕ) (f g : ℕ → ℤ) → sum n (λ k. f k +ℤ g k) ≡ sum n f +ℤ sum n g
unfolding sum
sum-add zero f g = refl
sum-add (suc n) f g = rw (sum-add n f g) (simp (+ℤ_assoc, +ℤ_comm, +ℤ-left-comm))

pub sum-scale : (n : ℕ) (c : ℤ) (f : ℕ → ℤ) → sum n (λ k. c *ℤ f k) ≡ c *ℤ sum n f
unfolding sum
sum-scale zero c f = sym (*ℤ-zero c)
sum-scale (suc n) c f = rw (sum-scale n c f) (sym (*ℤ-add c (sum n f) (f n)))

pub sum-swap : (n m : ℕ) (f : ℕ → ℕ → ℤ) → sum n (λ a. sum m (λ b. f a b)) ≡ sum m (λ b. sum n (λ a. f a b))
unfolding sum
sum-swap zero m f = sym (sum-zero m (λ b. pos 0) (λ k l. refl))
sum-swap (suc n) m f = rw (sum-swap n m f) (sym (sum-add m (λ b. sum n (λ a. f a b)) (λ b. f n b)))

pub sum_mono : (n : ℕ) (f g : ℕ → ℤ) → ((k : ℕ) → k < n → f k ≤ℤ g k) → sum n f ≤ℤ sum n g
unfolding sum
sum_mono zero f g h = ≤ℤ_refl (pos 0)
sum_mono (suc n) f g h = +ℤ-mono (sum_mono n f g (λ k l. h k (le_step l))) (h n (lt-suc_self n))

-- the first n terms, and the m after them
pub sum-split : (n m : ℕ) (f : ℕ → ℤ) → sum (n + m) f ≡ sum n f +ℤ sum m (λ k. f (n + k))
unfolding sum
sum-split n zero f = rw (add-zero n, +ℤ_idr)
sum-split n (suc m) f =
    rw (add-suc n m)
    (ap (λ t. t +ℤ f (n + m)) (sum-split n m f) ∙ +ℤ_assoc (sum n f) (sum m (λ k. f (n + k))) (f (n + m)))

-- a sum whose terms vanish below lo and from lo + k on is the sum of its k terms between
pub sum-window : (n lo k : ℕ) (f : ℕ → ℤ) → lo + k ≤ n → ((a : ℕ) → a < lo → f a ≡ pos 0)
    → ((a : ℕ) → lo + k ≤ a → f a ≡ pos 0) → sum n f ≡ sum k (λ j. f (lo + j))
sum-window n lo k f h low high =
    let e : n ≡ lo + k + (n - (lo + k)) = omega arith in
    ap (λ t. sum t f) e
    ∙ sum-split (lo + k) (n - (lo + k)) f
    ∙ ap (λ t. sum (lo + k) f +ℤ t) (sum-zero (n - (lo + k)) (λ j. f (lo + k + j))
    (λ j l. high (lo + k + j) (omega arith)))
    ∙ +ℤ_idr (sum (lo + k) f)
    ∙ sum-split lo k f
    ∙ ap (λ t. t +ℤ sum k (λ j. f (lo + j))) (sum-zero lo f low)
    ∙ +ℤ_idl (sum k (λ j. f (lo + j)))

-- ---- in two directions

pub sum2-cong : (n m : ℕ) (f g : ℕ → ℕ → ℤ) → ((a b : ℕ) → a < n → b < m → f a b ≡ g a b) → sum2 n m f ≡ sum2 n m g
sum2-cong n m f g h =
    sum-cong n (λ a. sum m (λ b. f a b)) (λ a. sum m (λ b. g a b))
    (λ a la. sum-cong m (f a) (g a) (λ b lb. h a b la lb))

pub sum2-zero : (n m : ℕ) (f : ℕ → ℕ → ℤ) → ((a b : ℕ) → a < n → b < m → f a b ≡ pos 0) → sum2 n m f ≡ pos 0
sum2-zero n m f h = sum-zero n (λ a. sum m (λ b. f a b)) (λ a la. sum-zero m (f a) (λ b lb. h a b la lb))

pub sum2-add : (n m : ℕ) (f g : ℕ → ℕ → ℤ) → sum2 n m (λ a b. f a b +ℤ g a b) ≡ sum2 n m f +ℤ sum2 n m g
sum2-add n m f g =
    sum-cong n (λ a. sum m (λ b. f a b +ℤ g a b)) (λ a. sum m (λ b. f a b) +ℤ sum m (λ b. g a b))
    (λ a la. sum-add m (f a) (g a))
    ∙ sum-add n (λ a. sum m (λ b. f a b)) (λ a. sum m (λ b. g a b))

pub sum2-scale : (n m : ℕ) (c : ℤ) (f : ℕ → ℕ → ℤ) → sum2 n m (λ a b. c *ℤ f a b) ≡ c *ℤ sum2 n m f
sum2-scale n m c f =
    sum-cong n (λ a. sum m (λ b. c *ℤ f a b)) (λ a. c *ℤ sum m (λ b. f a b)) (λ a la. sum-scale m c (f a))
    ∙ sum-scale n c (λ a. sum m (λ b. f a b))

pub sum2-mono : (n m : ℕ) (f g : ℕ → ℕ → ℤ) → ((a b : ℕ) → a < n → b < m → f a b ≤ℤ g a b) → sum2 n m f ≤ℤ sum2 n m g
sum2-mono n m f g h =
    sum_mono n (λ a. sum m (λ b. f a b)) (λ a. sum m (λ b. g a b))
    (λ a la. sum_mono m (f a) (g a) (λ b lb. h a b la lb))

-- one grid's sum inside another's
pub sum2-swap : (n m p q : ℕ) (f : ℕ → ℕ → ℕ → ℕ → ℤ)
    → sum2 n m (λ a b. sum2 p q (λ c d. f a b c d)) ≡ sum2 p q (λ c d. sum2 n m (λ a b. f a b c d))
sum2-swap n m p q f =
    sum-cong n (λ a. sum m (λ b. sum2 p q (λ c d. f a b c d))) (λ a. sum p (λ c. sum m (λ b. sum q (λ d. f a b c d))))
    (λ a la. sum-swap m p (λ b c. sum q (λ d. f a b c d)))
    ∙ sum-swap n p (λ a c. sum m (λ b. sum q (λ d. f a b c d)))
    ∙ sum-cong p (λ c. sum n (λ a. sum m (λ b. sum q (λ d. f a b c d))))
    (λ c. sum q (λ d. sum2 n m (λ a b. f a b c d)))
    (λ c lc. sum-cong n (λ a. sum m (λ b. sum q (λ d. f a b c d))) (λ a. sum q (λ d. sum m (λ b. f a b c d)))
    (λ a la. sum-swap m q (λ b d. f a b c d))
    ∙ sum-swap n q (λ a d. sum m (λ b. f a b c d)))

-- a product of weights, one for each direction, and a term of both
pub sum2-product : (n m : ℕ) (f g : ℕ → ℤ) → sum2 n m (λ a b. f a *ℤ g b) ≡ sum n f *ℤ sum m g
sum2-product n m f g =
    sum-cong n (λ a. sum m (λ b. f a *ℤ g b)) (λ a. sum m g *ℤ f a)
    (λ a la. sum-scale m (f a) g ∙ *ℤ_comm (f a) (sum m g))
    ∙ sum-scale n (sum m g) f
    ∙ *ℤ_comm (sum m g) (sum n f)
