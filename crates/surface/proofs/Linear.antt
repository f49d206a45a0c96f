-- Demand 3, linearity: the reading is a sum of coefficients times functions that do not depend on them. So is a slope.
use mathlib.Core.Path.{◌≡◌, ap, ◌∙◌}
use mathlib.Core.Bool.{Bool, true, false, cond}
use Prim.Native.Nat.{ℕ, ◌-◌, ◌<◌}
use lib.IntN.{ℤ, pos, ◌+ℤ◌, ◌*ℤ◌, *ℤ-zero}
use Rattle.finite.specs.Range.{sum, sum2}
use Rattle.finite.proofs.Int.{*ℤ-assoc, add-*ℤ}
use Rattle.finite.proofs.Sum.{sum-cong, sum-add, sum-scale, sum2-cong, sum2-add, sum2-scale}
use Rattle.surface.specs.Sheet.{functions}
use Rattle.surface.specs.Support.{active}
use Rattle.surface.specs.Truncation.{truncation, level_sum, active_sum}

module _ (W H : ℕ) (lev : ℕ → ℕ → ℕ) (x y : ℤ) (f g h : ℕ → ℕ → ℕ → ℤ) where
  term : (t : Bool) (p q k z : ℤ) → p ≡ x *ℤ q +ℤ y *ℤ k
      → cond t (p *ℤ z) (pos 0) ≡ x *ℤ cond t (q *ℤ z) (pos 0) +ℤ y *ℤ cond t (k *ℤ z) (pos 0)
  term true p q k z e = rw (e, add-*ℤ (x *ℤ q) (y *ℤ k) z, *ℤ-assoc x q z, *ℤ-assoc y k z)
  term false p q k z e = rw (*ℤ-zero x, *ℤ-zero y)

  pub linear : ((L a b : ℕ) → L < 4 → a < functions W L → b < functions H L → f L a b ≡ x *ℤ g L a b +ℤ y *ℤ h L a b)
      → (p : ℕ → ℕ → ℕ → ℤ)
      → active_sum W H lev f p ≡ x *ℤ active_sum W H lev g p +ℤ y *ℤ active_sum W H lev h p
  unfolding active_sum
  linear e p =
      sum-cong 4 (level f) (λ L. x *ℤ level g L +ℤ y *ℤ level h L) per-level
      ∙ sum-add 4 (λ L. x *ℤ level g L) (λ L. y *ℤ level h L)
      ∙ ap (λ t. t +ℤ sum 4 (λ L. y *ℤ level h L)) (sum-scale 4 x (level g))
      ∙ ap (λ t. x *ℤ sum 4 (level g) +ℤ t) (sum-scale 4 y (level h))
    where
      level : (ℕ → ℕ → ℕ → ℤ) → ℕ → ℤ
      level k L = level_sum W H lev k p L

      one : (ℕ → ℕ → ℕ → ℤ) → ℕ → ℕ → ℕ → ℤ
      one k L a b = cond (active W H lev L a b) (k L a b *ℤ truncation W H lev p (3 - L) L a b) (pos 0)

      per-level : (L : ℕ) → L < 4 → level f L ≡ x *ℤ level g L +ℤ y *ℤ level h L
      per-level L l =
          sum2-cong (functions W L) (functions H L) (one f L) (λ a b. x *ℤ one g L a b +ℤ y *ℤ one h L a b)
          (λ a b la lb. term (active W H lev L a b) (f L a b) (g L a b) (h L a b) (truncation W H lev p (3 - L) L a b)
          (e L a b l la lb))
          ∙ sum2-add (functions W L) (functions H L) (λ a b. x *ℤ one g L a b) (λ a b. y *ℤ one h L a b)
          ∙ ap (λ t. t +ℤ sum2 (functions W L) (functions H L) (λ a b. y *ℤ one h L a b))
          (sum2-scale (functions W L) (functions H L) x (one g L))
          ∙ ap (λ t. x *ℤ level g L +ℤ t) (sum2-scale (functions W L) (functions H L) y (one h L))

-- it depends on the coefficients of its functions alone
pub reading-cong : (W H : ℕ) (lev : ℕ → ℕ → ℕ) (f g : ℕ → ℕ → ℕ → ℤ)
    → ((L a b : ℕ) → L < 4 → a < functions W L → b < functions H L → f L a b ≡ g L a b)
    → (p : ℕ → ℕ → ℕ → ℤ) → active_sum W H lev f p ≡ active_sum W H lev g p
unfolding active_sum
reading-cong W H lev f g h p =
    sum-cong 4 (λ L. level_sum W H lev f p L) (λ L. level_sum W H lev g p L)
    λ L hL. sum2-cong (functions W L) (functions H L)
    (λ a b. cond (active W H lev L a b) (f L a b *ℤ truncation W H lev p (3 - L) L a b) (pos 0))
    (λ a b. cond (active W H lev L a b) (g L a b *ℤ truncation W H lev p (3 - L) L a b) (pos 0))
    λ a b ha hb. ap (λ t. cond (active W H lev L a b) (t *ℤ truncation W H lev p (3 - L) L a b) (pos 0))
    (h L a b hL ha hb)
