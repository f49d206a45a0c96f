-- Four in a row: what holds of each of them.
use mathlib.Core.Path.{◌≡◌}
use mathlib.Core.List.{[], ◌∷◌}
use Prim.Native.Nat.{ℕ, ◌<◌}
pub use Rattle.finite.proofs.Four.{each}

pub four : {A : Type 0} {a b c d a' b' c' d' : A} → a ≡ a' → b ≡ b' → c ≡ c' → d ≡ d'
    → a ∷ b ∷ c ∷ d ∷ [] ≡ a' ∷ b' ∷ c' ∷ d' ∷ []
four e f g h = λ i. e i ∷ f i ∷ g i ∷ h i ∷ []

-- and of each of four in each of four
pub each-of-each : (P : ℕ → ℕ → Type 0) → P 0 0 → P 0 1 → P 0 2 → P 0 3 → P 1 0 → P 1 1 → P 1 2 → P 1 3
    → P 2 0 → P 2 1 → P 2 2 → P 2 3 → P 3 0 → P 3 1 → P 3 2 → P 3 3 → (k l : ℕ) → k < 4 → l < 4 → P k l
each-of-each P a b c d e f g h i j k l m n o p x y hx hy =
    each (λ x. P x y) (each (P 0) a b c d y hy) (each (P 1) e f g h y hy) (each (P 2) i j k l y hy)
    (each (P 3) m n o p y hy) x hx
