-- What a least and a greatest record are: proved once, of any order and the choice of the first of two by it.
use mathlib.Core.Path.{◌≡◌, refl, sym, ap, ◌∙◌, subst}
use mathlib.Core.Logic.{◌↔◌, ◌⊎◌, inl, inr}
use mathlib.Core.Bool.{Bool, true, false, not, cond}
use mathlib.Core.List.{List, [], ◌∷◌}
use Prim.Native.Nat.{ℕ, zero, suc, ◌<◌, suc-le-suc}
use native.Mathlib.Nat.{zero-lt-suc, le_of_suc-le-suc, not-suc-le-zero}
use native.Mathlib.Omega.{arith}
use lib.Dec.{T}
use lib.IntN.{ℤ, pos}
use lib.Signed.{◌≤ℤ◌, ≤ℤ_refl, lt_z, lt_z_yes, lt_z_no, clash_ℤ}
use lib.ListN.{length, get_or}
use Rattle.finite.proofs.Order.{≤ℤ-trans, ≤ℤ-antisym, ≤ℤ-total}
use Rattle.finite.proofs.Tests.{pick}
use Rattle.surface.specs.Window.{lesser, greater, folded, Extreme, missing, present}
use Rattle.records.specs.Extremes.{Outermost, LeastRecord, GreatestRecord}

-- an order, and a choice of the first of two by it
record Choice (R : ℤ → ℤ → Type 0) (f : ℤ → ℤ → ℤ) : Type 0 where
  same : (x : ℤ) → R x x
  trans : {x y z : ℤ} → R x y → R y z → R x z
  antisym : {x y : ℤ} → R x y → R y x → x ≡ y
  one : (x y : ℤ) → (f x y ≡ x) ⊎ (f x y ≡ y)
  first : (x y : ℤ) → R (f x y) x × R (f x y) y

module _ {R : ℤ → ℤ → Type 0} {f : ℤ → ℤ → ℤ} (c : Choice R f) where
  -- what is folded is one of the records
  fold-among : (x : ℤ) (xs : List ℤ) → (k : ℕ) × (k < length (x ∷ xs)) × (get_or (x ∷ xs) k (pos 0) ≡ folded f x xs)
  unfolding folded
  fold-among x [] = (0, zero-lt-suc 0, refl)
  fold-among x (y ∷ ys) = go (fold-among (f x y) ys) (c.one x y)
    where
      go : (k : ℕ) × (k < length (f x y ∷ ys)) × (get_or (f x y ∷ ys) k (pos 0) ≡ folded f (f x y) ys)
          → (f x y ≡ x) ⊎ (f x y ≡ y)
          → (k : ℕ) × (k < length (x ∷ y ∷ ys)) × (get_or (x ∷ y ∷ ys) k (pos 0) ≡ folded f x (y ∷ ys))
      go (zero, h, e) (inl s) = (0, zero-lt-suc _, sym s ∙ e)
      go (zero, h, e) (inr s) = (1, suc-le-suc (zero-lt-suc _), sym s ∙ e)
      go (suc k, h, e) s = (suc (suc k), suc-le-suc h, e)

  -- and each of them follows it
  fold-bounds : (x : ℤ) (xs : List ℤ) (k : ℕ) → k < length (x ∷ xs) → R (folded f x xs) (get_or (x ∷ xs) k (pos 0))
  unfolding folded
  fold-bounds x [] zero h = c.same x
  fold-bounds x [] (suc k) h = absurd (not-suc-le-zero (le_of_suc-le-suc h))
  fold-bounds x (y ∷ ys) zero h = c.trans (fold-bounds (f x y) ys 0 (zero-lt-suc _)) (c.first x y).0
  fold-bounds x (y ∷ ys) (suc zero) h = c.trans (fold-bounds (f x y) ys 0 (zero-lt-suc _)) (c.first x y).1
  fold-bounds x (y ∷ ys) (suc (suc k)) h = fold-bounds (f x y) ys (suc k) (le_of_suc-le-suc h)

  abbrev told : List ℤ → Extreme
  told [] = missing
  told (x ∷ xs) = present (folded f x xs)

  told-outermost : (records : List ℤ) → ((x : ℤ) → (told records ≡ present x) ↔ Outermost R records x)
      × ((told records ≡ missing) ↔ (records ≡ []))
  told-outermost [] = (
    λ x. (
      λ e. absurd (let z : ◌≡◌ {A = ℕ} 0 1 = cc in omega arith),
      λ o. absurd (not-suc-le-zero o.among.1),
    ),
    (λ e. refl, λ e. refl),
  )
  told-outermost (y ∷ ys) = (
    λ x. (
      λ e.
          let same : folded f y ys ≡ x = cc in
          let a = fold-among y ys in
          record {
            among = (a.0, a.1, a.2 ∙ same);
            bounds = λ k h. subst (λ z. R z (get_or (y ∷ ys) k (pos 0))) same (fold-bounds y ys k h);
          },
      λ o.
          let a = fold-among y ys in
          ap present
          (c.antisym (subst (R (folded f y ys)) o.among.2 (fold-bounds y ys o.among.0 o.among.1))
          (subst (R x) a.2 (o.bounds a.0 a.1))),
    ),
    (
      λ e. absurd (let z : ◌≡◌ {A = ℕ} 0 1 = cc in omega arith),
      λ e. absurd (let z : ◌≡◌ {A = ℕ} 0 1 = cc in omega arith),
    ),
  )

-- ---- both choices

choose : (x y : ℤ) (t : Bool) → (cond t y x ≡ x) ⊎ (cond t y x ≡ y)
choose x y true = inr refl
choose x y false = inl refl

-- what a test of two numbers shows
test-le : (x y : ℤ) → lt_z x y ≡ true → x ≤ℤ y
test-le x y e = go (≤ℤ-total x y)
  where
    go : (x ≤ℤ y) ⊎ (y ≤ℤ x) → x ≤ℤ y
    go (inl h) = h
    go (inr h) = clash_ℤ (lt_z_yes (subst T (sym e) tt)) h

test-ge : (x y : ℤ) → lt_z x y ≡ false → y ≤ℤ x
test-ge x y e = lt_z_no (subst (λ t. T (not t)) (sym e) tt)

least-choice : Choice ◌≤ℤ◌ lesser
least-choice =
    record {
      same = ≤ℤ_refl;
      trans = ≤ℤ-trans;
      antisym = ≤ℤ-antisym;
      one = λ x y. choose x y (lt_z y x);
      first = λ x y.
          pick (lt_z y x) (λ t. (cond t y x ≤ℤ x) × (cond t y x ≤ℤ y)) (λ e. (test-le y x e, ≤ℤ_refl y))
          (λ e. (≤ℤ_refl x, test-ge y x e));
    }

greatest-choice : Choice (λ x y. y ≤ℤ x) greater
greatest-choice =
    record {
      same = ≤ℤ_refl;
      trans = λ p q. ≤ℤ-trans q p;
      antisym = λ p q. ≤ℤ-antisym q p;
      one = λ x y. choose x y (lt_z x y);
      first = λ x y.
          pick (lt_z x y) (λ t. (x ≤ℤ cond t y x) × (y ≤ℤ cond t y x)) (λ e. (test-le x y e, ≤ℤ_refl y))
          (λ e. (≤ℤ_refl x, test-ge x y e));
    }

pub least-record : LeastRecord
least-record (x ∷ xs) = told-outermost least-choice (x ∷ xs)
least-record [] = told-outermost least-choice []

pub greatest-record : GreatestRecord
greatest-record (x ∷ xs) = told-outermost greatest-choice (x ∷ xs)
greatest-record [] = told-outermost greatest-choice []
