-- The codes and values of an answer that a call is known to have given.
use Rattle.std.specs.Prelude.{Result, Ok, Err}
use mathlib.Core.Path.{◌≡◌, refl, sym, ap, ap₂, ◌∙◌, subst}
use mathlib.Core.List.{List}
use Prim.Native.Nat.{ℕ, zero, suc}
use lib.IntN.{ℤ}
use Rattle.surface.specs.Calls.{Answer, refused, gives, answer, Done, SliceMeets}
use Rattle.surface.specs.Enquiry.{Slip}
use Rattle.surface.specs.TableFile.{Sides}
use Rattle.surface.specs.Grid.{ReadGrid}
use Rattle.answers.specs.declared.Refusal.{Refusal}
use Rattle.answers.specs.declared.Sheet.{Sheet}
use Rattle.answers.specs.Refusals.{number}
use Rattle.answers.specs.Answers.{sheet_answer}
use Rattle.answers.specs.Codes.{code_of, NumberTold, active_of, SlipTold}
use Rattle.answers.specs.Codes.{or_given, SheetWritten}

pub slip-given : {o : Answer Slip} (s : Slip) (l v : ℕ) (active : List ℕ) → gives s ≡ o
    → SlipTold o 0 l s.tree_length active (active_of s) v s.visited
slip-given s l v active e =
    subst (λ o. SlipTold o 0 l s.tree_length active (active_of s) v s.visited) e (refl, refl, refl, refl)

pub slip-refused : {o : Answer Slip} (n l v : ℕ) (active : List ℕ) → refused n ≡ o → SlipTold o n l l active active v v
slip-refused n l v active e = subst (λ o. SlipTold o n l l active active v v) e (refl, refl, refl, refl)

pub number-given : {A : Type 0} {o : Answer A} (n a : A) → gives n ≡ o → NumberTold o 0 a n
number-given n a e = subst (λ o. NumberTold o 0 a n) e (refl, refl)

-- a code and the value beside it, told of the outcome by cause k, are that outcome: no refusal number is 0
pub told : {A : Type 0} (k : ℕ) (a old new : A) (code : ℕ) → NumberTold (answer k a) code old new
    → answer code new ≡ answer k a
told zero a old new code p = ap₂ answer p.0 p.1
told (suc k) a old new code p = ap (λ m. answer m new) p.0

-- ---- a grid converted over a tree

-- what holds of an outcome by which table there is goes over to what follows from it
read-grid : {file t : List ℕ} {out : List ℤ} {P Q : Done Sides ℤ → Type 0} → ((o : Done Sides ℤ) → P o → Q o)
    → ReadGrid file t out P → ReadGrid file t out Q
read-grid f r = record { converted = r.converted; right = r.right; outcome = f _ r.outcome }

abbrev SheetTold : Answer Sides → ℕ → ℕ → ℕ → ℕ → ℕ → Type 0
SheetTold z code w₀ w h₀ h =
    (code ≡ code_of z) × (w ≡ or_given (λ s. s.W) z w₀) × (h ≡ or_given (λ s. s.H) z h₀)

pub sheet-given : {file t : List ℕ} {out after : List ℤ} {r : Result Sheet Refusal} (s : Sheet) (a b : ℕ) → r ≡ Ok s
    → ReadGrid file t out (λ o. SliceMeets o (sheet_answer r) after)
    → ReadGrid file t out (λ o. SheetWritten o 0 a s.w b s.h after)
sheet-given s a b e =
    read-grid λ o p.
    let t = subst (λ z. SheetTold z 0 a s.w b s.h) (ap sheet_answer (sym e) ∙ p.0) (refl, refl, refl) in
    (t.0, t.1, t.2, p.1)

pub sheet-refused : {file t : List ℕ} {out after : List ℤ} {r : Result Sheet Refusal} (e : Refusal) (a b : ℕ) → r ≡ Err e
    → ReadGrid file t out (λ o. SliceMeets o (sheet_answer r) after)
    → ReadGrid file t out (λ o. SheetWritten o (number e) a a b b after)
sheet-refused e a b q =
    read-grid λ o p.
    let t = subst (λ z. SheetTold z (number e) a a b b) (ap sheet_answer (sym q) ∙ p.0) (refl, refl, refl) in
    (t.0, t.1, t.2, p.1)
