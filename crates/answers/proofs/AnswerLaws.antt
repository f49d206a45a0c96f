-- Laws of answers and lent buffers that the calls share.
use Rattle.std.specs.Prelude.{refl}
use mathlib.Core.Path.{◌≡◌, ap, subst, ◌∙◌}
use mathlib.Core.List.{List}
use Prim.Native.Nat.{ℕ, zero, suc}
use lib.IntN.{ℤ}
use Rattle.surface.specs.Table.{◌or_else◌}
use Rattle.surface.specs.Calls.{Answer, refused, gives, answer, afterwards, put, written, TableMeets, done, SliceMeets}
use Rattle.answers.specs.declared.Refusal as Causes
use Rattle.answers.specs.declared.Refusal.{Refusal}
use Rattle.answers.specs.Refusals.{number}

-- no refusal has the number 0
pub number-positive : (e : Refusal) → ¬ (number e ≡ 0)
number-positive Causes.TheVariants.Side h = cc
number-positive Causes.TheVariants.Tree h = cc
number-positive Causes.TheVariants.NumbersLength h = cc
number-positive Causes.TheVariants.CoefficientLimit h = cc
number-positive Causes.TheVariants.PassiveNotZero h = cc
number-positive Causes.TheVariants.Point h = cc
number-positive Causes.TheVariants.Box h = cc
number-positive Causes.TheVariants.Level h = cc
number-positive Causes.TheVariants.Function h = cc
number-positive Causes.TheVariants.NumberLimit h = cc
number-positive Causes.TheVariants.Tariff h = cc
number-positive Causes.TheVariants.FileEnds h = cc
number-positive Causes.TheVariants.FileTag h = cc
number-positive Causes.TheVariants.FileFieldLength h = cc
number-positive Causes.TheVariants.FileGoesOn h = cc
number-positive Causes.TheVariants.OutputLength h = cc
number-positive Causes.TheVariants.TreeOutputShort h = cc
number-positive Causes.TheVariants.FileOutputShort h = cc
number-positive Causes.TheVariants.Slip h = cc
number-positive Causes.TheVariants.FileCount h = cc
number-positive Causes.TheVariants.NoTable h = cc
number-positive Causes.TheVariants.Window h = cc
number-positive Causes.TheVariants.Record h = cc

-- a cause is the refusal, and the buffer keeps its contents
refusal : {A : Type 0} (n : ℕ) (a : A) → ¬ (n ≡ 0) → refused n ≡ answer n a
refusal zero a h = absurd (h refl)
refusal (suc n) a h = refl

pub refused-with : {A : Type 0} {c : ℕ} (e : Refusal) → number e ≡ c → (a : A) → refused (number e) ≡ answer c a
refused-with e q a = refusal (number e) a (number-positive e) ∙ ap (λ c. answer c a) q

pub gives-with : {A : Type 0} {c : ℕ} {a x : A} → 0 ≡ c → x ≡ a → gives x ≡ answer c a
gives-with {a} e p = ap gives p ∙ ap (λ c. answer c a) e

kept : {A : Type 0} (n : ℕ) (old new : A) → ¬ (n ≡ 0) → old ≡ afterwards n old new
kept zero old new h = absurd (h refl)
kept (suc n) old new h = refl

-- ---- a call that writes a table, or a slice: refused with the cause and nothing written, or done

pub table-refused : {A : Type 0} {c : ℕ} (e : Refusal) → number e ≡ c → (a : A) (tree : List ℕ) (numbers : List ℤ)
    (tree_out : List ℕ) (numbers_out : List ℤ)
    → TableMeets (written c a tree numbers tree_out numbers_out) (refused (number e)) tree_out numbers_out
table-refused {c} e q a tree numbers tree_out numbers_out = (
  refused-with e q a,
  kept (number e) tree_out (put tree tree_out) (number-positive e)
      ∙ ap (λ c. afterwards c tree_out (put tree tree_out)) q,
  kept (number e) numbers_out numbers (number-positive e) ∙ ap (λ c. afterwards c numbers_out numbers) q,
)

pub table_done : {A : Type 0} {c : ℕ} {a x : A} {numbers after : List ℤ} → 0 ≡ c → x ≡ a → after ≡ numbers
    → (tree tree_out t : List ℕ) (numbers_out : List ℤ) → t ≡ put tree tree_out
    → TableMeets (written c a tree numbers tree_out numbers_out) (gives x) t after
table_done {a} {numbers} e p q tree tree_out t numbers_out r = (
  gives-with e p,
  r ∙ ap (λ c. afterwards c tree_out (put tree tree_out)) e,
  q ∙ ap (λ c. afterwards c numbers_out numbers) e,
)

pub slice-refused : {A B : Type 0} {c : ℕ} (e : Refusal) → number e ≡ c → (a : A) (new lent : List B)
    → SliceMeets (done c a new lent) (refused (number e)) lent
slice-refused e q a new lent = (
  refused-with e q a,
  kept (number e) lent new (number-positive e) ∙ ap (λ c. afterwards c lent new) q,
)

pub slice-done : {A B : Type 0} {c : ℕ} {a x : A} {new after : List B} → 0 ≡ c → x ≡ a → after ≡ new → (lent : List B)
    → SliceMeets (done c a new lent) (gives x) after
slice-done {new} e q p lent = (gives-with e q, p ∙ ap (λ c. afterwards c lent new) e)

-- ---- a call that makes something of another's answer

module _ {A B : Type 0} where
  abbrev mapped : (A → B) → Answer A → Answer B
  mapped f (refused n) = refused n
  mapped f (gives a) = gives (f a)

  mapped-answer : (c : ℕ) (a : A) (f : A → B) → mapped f (answer c a) ≡ answer c (f a)
  mapped-answer zero a f = refl
  mapped-answer (suc c) a f = refl

  pub refused-by : {m : ℕ} (c : ℕ) (a : A) (f : A → B) → refused m ≡ answer c a → refused m ≡ answer c (f a)
  refused-by c a f e = ap (mapped f) e ∙ mapped-answer c a f

  pub gives-by : {x : A} (c : ℕ) (a : A) (f : A → B) → gives x ≡ answer c a → gives (f x) ≡ answer c (f a)
  gives-by c a f e = ap (mapped f) e ∙ mapped-answer c a f

  -- it may have a cause of its own, after the other's
  pub refused-before : {m : ℕ} (c d : ℕ) (a : A) (b : B) → refused m ≡ answer c a → refused m ≡ answer (c or_else d) b
  refused-before zero d a b e = absurd (subst Gives e tt)
    where
      Gives : Answer A → Type 0
      Gives (refused n) = Unit
      Gives (gives a) = ⊥
  refused-before (suc c) d a b e = ap (mapped (λ _. b)) e

  pub gives-before : {x : A} (c d : ℕ) (a : A) (f : A → B) → gives x ≡ answer c a
      → answer d (f x) ≡ answer (c or_else d) (f a)
  gives-before {x} zero d a f e = ap (λ y. answer d (f (value y))) e
    where
      value : Answer A → A
      value (refused n) = x
      value (gives a) = a
  gives-before (suc c) d a f e = absurd (subst Refused e tt)
    where
      Refused : Answer A → Type 0
      Refused (refused n) = ⊥
      Refused (gives a) = Unit
