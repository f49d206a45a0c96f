-- Chains of causes: "The lowest number that applies is given, and none when nothing applies."
use mathlib.Core.Path.{◌≡◌, refl, ap, ◌∙◌}
use mathlib.Core.Bool.{Bool, true, false, not}
use Prim.Native.Nat.{ℕ, zero, suc}
use native.Mathlib.Omega.{arith}
use Rattle.surface.specs.Table.{cause, ◌or_else◌}

-- ---- which cause a chain gives

-- its first, where that one applies
pub first : {a c : ℕ} → c ≡ a → (c ≡ 0 → ⊥) → (b : ℕ) → c ≡ a or_else b
first {a} {c} e h b = go c h ∙ ap (λ a. a or_else b) e
  where
    go : (c : ℕ) → (c ≡ 0 → ⊥) → c ≡ c or_else b
    go zero h = absurd (h refl)
    go (suc c) h = refl

-- what the rest of it gives, where its first does not apply
pub past : {a b c : ℕ} → 0 ≡ a → c ≡ b → c ≡ a or_else b
past {a} {b} e f = f ∙ ap (λ a. a or_else b) e

-- a chain after another is one chain
pub or_else-assoc : (a b c : ℕ) → (a or_else b) or_else c ≡ a or_else b or_else c
or_else-assoc zero b c = refl
or_else-assoc (suc a) b c = refl

-- ---- what a chain that gives none excludes

pub or_else-none : (m n : ℕ) → m or_else n ≡ 0 → (m ≡ 0) × (n ≡ 0)
or_else-none zero n e = (refl, e)
or_else-none (suc m) n e = absurd (omega arith)

pub none-or_else : (m n : ℕ) → m ≡ 0 → n ≡ 0 → m or_else n ≡ 0
none-or_else m n p q = rw (p, q)

-- ---- one cause, by its test

pub cause-none : (n : ℕ) (t : Bool) → cause (suc n) (not t) ≡ 0 → t ≡ true
cause-none n true e = refl
cause-none n false e = absurd (omega arith)

pub none-cause : (n : ℕ) (t : Bool) → t ≡ true → cause n (not t) ≡ 0
none-cause n t e = rw e

pub cause-off : (j : ℕ) (t : Bool) → cause (suc j) t ≡ 0 → t ≡ false
cause-off j true e = absurd (omega arith)
cause-off j false e = refl
