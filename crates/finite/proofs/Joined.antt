-- Laws of lists that stand one after the other: how long they are, and when they are the same.
use mathlib.Core.Path.{◌≡◌, refl, sym, ap, ap₂, ◌∙◌, subst}
use mathlib.Core.List.{List, ◌++◌}
use Prim.Native.Nat.{ℕ, zero, suc, ◌+◌, ◌≤◌, ◌<◌}
use native.Mathlib.Nat.{lt-suc_self, le_step}
use native.Mathlib.Decide.{dec_lt}
use native.Mathlib.Omega.{arith}
use lib.ListN.{length, length-append}
use Rattle.finite.specs.Range.{total, joined}

module _ {A : Type 0} where
  pub joined_length : (f : ℕ → List A) (n : ℕ) → length (joined n f) ≡ total n (λ k. length (f k))
  unfolding joined total
  joined_length f zero = refl
  joined_length f (suc n) = length-append (joined n f) (f n) ∙ ap (λ m. m + length (f n)) (joined_length f n)

  -- the lists up to one of them are no longer than all
  pub joined-through : (f : ℕ → List A) (n b : ℕ) → b < n
      → length (joined b f) + length (f b) ≤ length (joined n f)
  unfolding joined
  joined-through f zero b h = absurd (omega arith)
  joined-through f (suc n) b h = go (joined-through f n b) (dec_lt b n)
    where
      go : (b < n → length (joined b f) + length (f b) ≤ length (joined n f)) → Dec (b < n)
          → length (joined b f) + length (f b) ≤ length (joined n f ++ f n)
      go ih (yes d) = omega (arith, ih d, length-append (joined n f) (f n))
      go ih (no d) =
          let e : n ≡ b = omega arith in
          subst (λ k. length (joined b f) + length (f b) ≤ length (joined k f ++ f k)) (sym e)
          (omega (arith, length-append (joined b f) (f b)))

  pub joined-cong : (n : ℕ) (f g : ℕ → List A) → ((k : ℕ) → k < n → f k ≡ g k) → joined n f ≡ joined n g
  unfolding joined
  joined-cong zero f g h = refl
  joined-cong (suc n) f g h =
      ap₂ ◌++◌ (joined-cong n f g (λ k l. h k (le_step l))) (h n (lt-suc_self n))
