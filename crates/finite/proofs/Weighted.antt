-- Sums with weights that are naturals. Each premise may use that its weight is not 0.
use mathlib.Core.Path.{◌≡◌, sym, ap, ◌∙◌, subst}
use mathlib.Core.Logic.{◌⊎◌, inl, inr}
use Prim.Native.Nat.{ℕ, ◌<◌}
use native.Mathlib.Nat.{eq-zero-or-pos}
use lib.IntN.{ℤ, pos, ◌*ℤ◌, zero-*ℤ, *ℤ_comm}
use lib.Signed.{◌≤ℤ◌, ≤ℤ_refl}
use Rattle.finite.specs.Range.{sum, sum2}
use Rattle.finite.proofs.Order.{scale-mono}
use Rattle.finite.proofs.Int.{*ℤ-assoc}
use Rattle.finite.proofs.Sum.{sum-cong, sum-scale, sum2-cong, sum2-mono, sum2-scale}

-- two terms with one weight are equal where the values are, if the weight is not 0
pub term-cong : (w : ℕ) (x y : ℤ) → (0 < w → x ≡ y) → pos w *ℤ x ≡ pos w *ℤ y
term-cong w x y h = go (eq-zero-or-pos w)
  where
    go : (w ≡ 0) ⊎ (0 < w) → pos w *ℤ x ≡ pos w *ℤ y
    go (inl e) = rw e (zero-*ℤ x ∙ sym (zero-*ℤ y))
    go (inr p) = ap (λ t. pos w *ℤ t) (h p)

term-mono : (w : ℕ) (x y : ℤ) → (0 < w → x ≤ℤ y) → (pos w *ℤ x) ≤ℤ (pos w *ℤ y)
term-mono w x y h = go (eq-zero-or-pos w)
  where
    go : (w ≡ 0) ⊎ (0 < w) → (pos w *ℤ x) ≤ℤ (pos w *ℤ y)
    go (inl e) = rw e (subst (λ t. (pos 0 *ℤ x) ≤ℤ t) (zero-*ℤ x ∙ sym (zero-*ℤ y)) (≤ℤ_refl (pos 0 *ℤ x)))
    go (inr p) = scale-mono w (h p)

module _ (n m : ℕ) (w : ℕ → ℕ → ℕ) (f : ℕ → ℕ → ℤ) (x : ℤ) where
  scaled : sum2 n m (λ a b. pos (w a b)) *ℤ x ≡ sum2 n m (λ a b. pos (w a b) *ℤ x)
  scaled =
      *ℤ_comm (sum2 n m (λ a b. pos (w a b))) x
      ∙ sym (sum2-scale n m x (λ a b. pos (w a b)))
      ∙ sum2-cong n m (λ a b. x *ℤ pos (w a b)) (λ a b. pos (w a b) *ℤ x) (λ a b la lb. *ℤ_comm x (pos (w a b)))

  -- a bound of every value that has a weight bounds the weighted sum
  pub weighted-low : ((a b : ℕ) → a < n → b < m → 0 < w a b → x ≤ℤ f a b)
      → (sum2 n m (λ a b. pos (w a b)) *ℤ x) ≤ℤ (sum2 n m (λ a b. pos (w a b) *ℤ f a b))
  weighted-low h =
      rw scaled
      (sum2-mono n m (λ a b. pos (w a b) *ℤ x) (λ a b. pos (w a b) *ℤ f a b)
      (λ a b la lb. term-mono (w a b) x (f a b) (h a b la lb)))

  pub weighted-high : ((a b : ℕ) → a < n → b < m → 0 < w a b → f a b ≤ℤ x)
      → (sum2 n m (λ a b. pos (w a b) *ℤ f a b)) ≤ℤ (sum2 n m (λ a b. pos (w a b)) *ℤ x)
  weighted-high h =
      rw scaled
      (sum2-mono n m (λ a b. pos (w a b) *ℤ f a b) (λ a b. pos (w a b) *ℤ x)
      (λ a b la lb. term-mono (w a b) (f a b) x (h a b la lb)))

pub weighted-cong : (n m : ℕ) (w : ℕ → ℕ → ℕ) (f g : ℕ → ℕ → ℤ)
    → ((a b : ℕ) → a < n → b < m → 0 < w a b → f a b ≡ g a b)
    → sum2 n m (λ a b. pos (w a b) *ℤ f a b) ≡ sum2 n m (λ a b. pos (w a b) *ℤ g a b)
weighted-cong n m w f g h =
    sum2-cong n m (λ a b. pos (w a b) *ℤ f a b) (λ a b. pos (w a b) *ℤ g a b)
    (λ a b la lb. term-cong (w a b) (f a b) (g a b) (h a b la lb))

-- a weight that is a product leaves the sum along its direction
split-weight : (n : ℕ) (x : ℤ) (w g : ℕ → ℤ) → sum n (λ b. x *ℤ w b *ℤ g b) ≡ x *ℤ sum n (λ b. w b *ℤ g b)
split-weight n x w g =
    sum-cong n (λ b. x *ℤ w b *ℤ g b) (λ b. x *ℤ (w b *ℤ g b)) (λ b l. *ℤ-assoc x (w b) (g b))
    ∙ sum-scale n x (λ b. w b *ℤ g b)

-- weights that are products, one of each direction: a weighted sum of weighted sums
pub nested : (n m : ℕ) (w w' : ℕ → ℤ) (f : ℕ → ℕ → ℤ)
    → sum n (λ a. w a *ℤ sum m (λ b. w' b *ℤ f a b)) ≡ sum2 n m (λ a b. w a *ℤ w' b *ℤ f a b)
nested n m w w' f =
    sum-cong n (λ a. w a *ℤ sum m (λ b. w' b *ℤ f a b)) (λ a. sum m (λ b. w a *ℤ w' b *ℤ f a b))
    (λ a la. sym (split-weight m (w a) w' (λ b. f a b)))

-- where the weighted sum along each direction has fewer terms, so has the sum over both
pub both-directions : (n m k l : ℕ) (w w' s s' : ℕ → ℤ) (g g' : ℕ → ℕ)
    → ((f : ℕ → ℤ) → sum n (λ a. w a *ℤ f a) ≡ sum k (λ i. s i *ℤ f (g i)))
    → ((f : ℕ → ℤ) → sum m (λ b. w' b *ℤ f b) ≡ sum l (λ j. s' j *ℤ f (g' j)))
    → (f : ℕ → ℕ → ℤ)
    → sum2 n m (λ a b. w a *ℤ w' b *ℤ f a b) ≡ sum2 k l (λ i j. s i *ℤ s' j *ℤ f (g i) (g' j))
both-directions n m k l w w' s s' g g' along along' f =
    sum-cong n (λ a. sum m (λ b. w a *ℤ w' b *ℤ f a b)) (λ a. w a *ℤ sum l (λ j. s' j *ℤ f a (g' j)))
    (λ a la. split-weight m (w a) w' (λ b. f a b) ∙ ap (λ t. w a *ℤ t) (along' (λ b. f a b)))
    ∙ along (λ a. sum l (λ j. s' j *ℤ f a (g' j)))
    ∙ nested k l s s' (λ i j. f (g i) (g' j))
