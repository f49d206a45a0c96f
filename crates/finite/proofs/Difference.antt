-- A signed number as the difference of two naturals: equal, added, multiplied, and its size.
use mathlib.Core.Path.{◌≡◌, ◌∙◌, ap, ap₂}
use Prim.Native.Nat.{ℕ, ◌+◌, ◌*◌, ◌≤◌}
use lib.IntN.{pos, neg_ℤ, nat_abs, ◌+ℤ◌, ◌-ℤ◌, ◌*ℤ◌}
use Rattle.finite.proofs.Int.{add-*ℤ, *ℤ-add, neg-mul, mul-neg}
use Rattle.finite.proofs.Order.{zarith, sum-parts, neg-parts, le-abs}

pub difference : (a b c d : ℕ) → a + d ≡ c + b → pos a -ℤ pos b ≡ pos c -ℤ pos d
difference a b c d e =
    omega (
      zarith,
      sum-parts (pos a) (neg_ℤ (pos b)),
      neg-parts (pos b),
      sum-parts (pos c) (neg_ℤ (pos d)),
      neg-parts (pos d),
    )

pub add-differences : (a b c d : ℕ) → (pos a -ℤ pos b) +ℤ (pos c -ℤ pos d) ≡ pos (a + c) -ℤ pos (b + d)
add-differences a b c d =
    omega (
      zarith,
      sum-parts (pos a -ℤ pos b) (pos c -ℤ pos d),
      sum-parts (pos a) (neg_ℤ (pos b)),
      neg-parts (pos b),
      sum-parts (pos c) (neg_ℤ (pos d)),
      neg-parts (pos d),
      sum-parts (pos (a + c)) (neg_ℤ (pos (b + d))),
      neg-parts (pos (b + d)),
    )

pub scale-difference : (n a b : ℕ) → pos n *ℤ (pos a -ℤ pos b) ≡ pos (n * a) -ℤ pos (n * b)
scale-difference n a b =
    *ℤ-add (pos n) (pos a) (neg_ℤ (pos b)) ∙ ap (λ t. pos (n * a) +ℤ t) (mul-neg (pos n) (pos b))

pub multiply-differences : (a b c d : ℕ)
    → (pos a -ℤ pos b) *ℤ (pos c -ℤ pos d) ≡ pos (a * c + b * d) -ℤ pos (a * d + b * c)
multiply-differences a b c d =
    add-*ℤ (pos a) (neg_ℤ (pos b)) (pos c -ℤ pos d)
    ∙ ap₂ ◌+ℤ◌ (scale-difference a c d) (neg-mul (pos b) (pos c -ℤ pos d) ∙ ap neg_ℤ (scale-difference b c d))
    ∙ omega (
      zarith,
      sum-parts (pos (a * c) -ℤ pos (a * d)) (neg_ℤ (pos (b * c) -ℤ pos (b * d))),
      sum-parts (pos (a * c)) (neg_ℤ (pos (a * d))),
      neg-parts (pos (a * d)),
      neg-parts (pos (b * c) -ℤ pos (b * d)),
      sum-parts (pos (b * c)) (neg_ℤ (pos (b * d))),
      neg-parts (pos (b * d)),
      sum-parts (pos (a * c + b * d)) (neg_ℤ (pos (a * d + b * c))),
      neg-parts (pos (a * d + b * c)),
    )

pub difference-size : (a b : ℕ) → nat_abs (pos a -ℤ pos b) ≤ a + b
difference-size a b =
    le-abs (pos a -ℤ pos b)
    (omega (zarith, sum-parts (pos a) (neg_ℤ (pos b)), neg-parts (pos b), neg-parts (pos (a + b))))
    (omega (zarith, sum-parts (pos a) (neg_ℤ (pos b)), neg-parts (pos b)))
