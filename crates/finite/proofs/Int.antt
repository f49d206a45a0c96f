-- Laws of the integers that the kit leaves out: the ring, and linear facts through `omega`.
-- `up z` and `dn z` are the parts of z above and below zero; a linear goal on integers is one on these parts.
use mathlib.Core.Path.{◌≡◌, refl, sym, ap, ◌∙◌}
use Prim.Native.Nat.{ℕ, zero, suc, ◌*◌}
use native.Mathlib.Nat.{mul_assoc}
use lib.IntN.{ℤ, pos, negsuc, pred_ℤ, neg_ℤ, ◌+ℤ◌, ◌-ℤ◌, ◌*ℤ◌, neg_ℤ-neg_ℤ, +ℤ-suc_ℤ, +ℤ-pred_ℤ, +ℤ_idl, +ℤ_idr, +ℤ_assoc}
use lib.IntN.{+ℤ_comm, suc_ℤ-*ℤ, pred_ℤ-*ℤ, zero-*ℤ, *ℤ_comm}

-- ---- the ring

pub neg-mul : (x y : ℤ) → neg_ℤ x *ℤ y ≡ neg_ℤ (x *ℤ y)
neg-mul (pos zero) y = rw (zero-*ℤ y)
neg-mul (pos (suc a)) (pos b) = refl
neg-mul (pos (suc a)) (negsuc b) = sym (neg_ℤ-neg_ℤ (pos (suc a * suc b)))
neg-mul (negsuc a) (pos b) = sym (neg_ℤ-neg_ℤ (pos (suc a * b)))
neg-mul (negsuc a) (negsuc b) = refl

pub mul-neg : (x y : ℤ) → x *ℤ neg_ℤ y ≡ neg_ℤ (x *ℤ y)
mul-neg x y = *ℤ_comm x (neg_ℤ y) ∙ neg-mul y x ∙ ap neg_ℤ (*ℤ_comm y x)

-- an integer is a natural, or the negation of one
sign-cases : (P : ℤ → Type 0) → ((n : ℕ) → P (pos n)) → ((z : ℤ) → P z → P (neg_ℤ z)) → (z : ℤ) → P z
sign-cases P p s (pos n) = p n
sign-cases P p s (negsuc n) = s (pos (suc n)) (p (suc n))

pub *ℤ-assoc : (x y z : ℤ) → x *ℤ y *ℤ z ≡ x *ℤ (y *ℤ z)
*ℤ-assoc x y z =
    sign-cases (λ x. x *ℤ y *ℤ z ≡ x *ℤ (y *ℤ z))
    (λ a. sign-cases (λ y. pos a *ℤ y *ℤ z ≡ pos a *ℤ (y *ℤ z))
    (λ b. sign-cases (λ z. pos a *ℤ pos b *ℤ z ≡ pos a *ℤ (pos b *ℤ z))
    (λ c. ap pos (mul_assoc a b c))
    (λ z e. mul-neg (pos a *ℤ pos b) z ∙ ap neg_ℤ e ∙ sym (mul-neg (pos a) (pos b *ℤ z)) ∙ ap (λ t. pos a *ℤ t)
    (sym (mul-neg (pos b) z)))
    z)
    (λ y e. ap (λ t. t *ℤ z) (mul-neg (pos a) y) ∙ neg-mul (pos a *ℤ y) z ∙ ap neg_ℤ e ∙ sym
    (mul-neg (pos a) (y *ℤ z)) ∙ ap (λ t. pos a *ℤ t) (sym (neg-mul y z)))
    y)
    (λ x e. ap (λ t. t *ℤ z) (neg-mul x y) ∙ neg-mul (x *ℤ y) z ∙ ap neg_ℤ e ∙ sym (neg-mul x (y *ℤ z)))
    x

pub add-*ℤ : (x y z : ℤ) → (x +ℤ y) *ℤ z ≡ x *ℤ z +ℤ y *ℤ z
add-*ℤ x (pos zero) z = rw (+ℤ_idr x, zero-*ℤ z, +ℤ_idr)
add-*ℤ x (pos (suc n)) z =
    ap (λ t. t *ℤ z) (+ℤ-suc_ℤ x (pos n)) ∙ suc_ℤ-*ℤ (x +ℤ pos n) z ∙ ap (λ t. t +ℤ z) (add-*ℤ x (pos n) z)
    ∙ +ℤ_assoc (x *ℤ z) (pos n *ℤ z) z ∙ ap (λ t. x *ℤ z +ℤ t) (sym (suc_ℤ-*ℤ (pos n) z))
add-*ℤ x (negsuc zero) z =
    ap (λ t. t *ℤ z) (+ℤ-pred_ℤ x (pos 0) ∙ ap pred_ℤ (+ℤ_idr x)) ∙ pred_ℤ-*ℤ x z
    ∙ ap (λ t. x *ℤ z +ℤ t) (sym (pred_ℤ-*ℤ (pos 0) z ∙ ap (λ t. t -ℤ z) (zero-*ℤ z) ∙ +ℤ_idl (neg_ℤ z)))
add-*ℤ x (negsuc (suc n)) z =
    ap (λ t. t *ℤ z) (+ℤ-pred_ℤ x (negsuc n)) ∙ pred_ℤ-*ℤ (x +ℤ negsuc n) z ∙ ap (λ t. t -ℤ z) (add-*ℤ x (negsuc n) z)
    ∙ +ℤ_assoc (x *ℤ z) (negsuc n *ℤ z) (neg_ℤ z) ∙ ap (λ t. x *ℤ z +ℤ t) (sym (pred_ℤ-*ℤ (negsuc n) z))

pub *ℤ-add : (x y z : ℤ) → x *ℤ (y +ℤ z) ≡ x *ℤ y +ℤ x *ℤ z
*ℤ-add x y z = *ℤ_comm x (y +ℤ z) ∙ add-*ℤ y z x ∙ ap (λ t. t +ℤ z *ℤ x) (*ℤ_comm y x) ∙ ap (λ t. x *ℤ y +ℤ t)
    (*ℤ_comm z x)

pub *ℤ-left-comm : (x y z : ℤ) → x *ℤ (y *ℤ z) ≡ y *ℤ (x *ℤ z)
*ℤ-left-comm x y z = sym (*ℤ-assoc x y z) ∙ ap (λ t. t *ℤ z) (*ℤ_comm x y) ∙ *ℤ-assoc y x z

pub +ℤ-left-comm : (x y z : ℤ) → x +ℤ (y +ℤ z) ≡ y +ℤ (x +ℤ z)
+ℤ-left-comm x y z = sym (+ℤ_assoc x y z) ∙ ap (λ t. t +ℤ z) (+ℤ_comm x y) ∙ +ℤ_assoc y x z

pub one-*ℤ : (z : ℤ) → pos 1 *ℤ z ≡ z
one-*ℤ z = suc_ℤ-*ℤ (pos 0) z ∙ ap (λ t. t +ℤ z) (zero-*ℤ z) ∙ +ℤ_idl z

-- for `simp`: both sides of a polynomial identity are multiplied out and sorted
pub ruleset ring = (*ℤ-add, add-*ℤ, *ℤ-assoc, *ℤ_comm, *ℤ-left-comm, +ℤ_assoc, +ℤ_comm, +ℤ-left-comm)
