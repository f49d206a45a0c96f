-- A least element of a finite family that a test picks out, and a greatest one.
use mathlib.Core.Path.{◌≡◌, refl, subst}
use mathlib.Core.Bool.{Bool, true, false, false≢true}
use mathlib.Core.Logic.{◌⊎◌, inl, inr}
use Prim.Native.Nat.{ℕ, zero, suc, ◌<◌}
use native.Mathlib.Nat.{le_step, lt-suc_self, not-suc-le-zero}
use native.Mathlib.Decide.{dec_lt}
use native.Mathlib.Omega.{arith}
use lib.IntN.{ℤ, neg_ℤ}
use lib.Signed.{◌≤ℤ◌, ≤ℤ_refl}
use Rattle.finite.proofs.Order.{zarith, neg-parts, ≤ℤ-trans, ≤ℤ-total}

-- an element with P at which val is least
abbrev pub Bottom : {A : Type 0} → (A → Type 0) → (A → ℤ) → Type 0
Bottom {A} P val = (x : A) × P x × ((y : A) → P y → val x ≤ℤ val y)

-- no element has P, or there is one with P at which val is least
abbrev pub Least : {A : Type 0} → (A → Type 0) → (A → ℤ) → Type 0
Least {A} P val = ((x : A) → P x → ⊥) ⊎ Bottom P val

-- a family of one element
pub least-test : (t : Bool) (v : ℤ) → Least {A = Unit {0}} (λ _. t ≡ true) (λ _. v)
least-test true v = inr (tt, refl, λ y e. ≤ℤ_refl v)
least-test false v = inl (λ x e. false≢true e)

-- ---- the union of n families

module _ {A : Type 0} (P : ℕ → A → Type 0) (val : ℕ → A → ℤ) where
  -- the elements of the families below n
  abbrev Below : ℕ → ℕ × A → Type 0
  Below n x = (x.0 < n) × P x.0 x.1

  abbrev value : ℕ × A → ℤ
  value x = val x.0 x.1

  -- what holds of the families below n and of family n holds of those below n + 1
  below_suc : (n : ℕ) (R : ℕ × A → Type 0) → ((x : ℕ × A) → Below n x → R x) → ((a : A) → P n a → R (n, a))
      → (x : ℕ × A) → Below (suc n) x → R x
  below_suc n R f g x h = go (dec_lt x.0 n)
    where
      go : Dec (x.0 < n) → R x
      go (yes l) = f x (l, h.1)
      go (no l) =
          let e : n ≡ x.0 = omega arith in
          subst (λ k. P k x.1 → R (k, x.1)) e (g x.1) h.1

  over : (n : ℕ) → Least (Below n) value → Least (P n) (val n) → Least (Below (suc n)) value
  over n = go
    where
      keep : (s : Bottom (Below n) value) → ((a : A) → P n a → value s.0 ≤ℤ val n a) → Bottom (Below (suc n)) value
      keep s h = (s.0, (le_step s.1.0, s.1.1), below_suc n (λ y. value s.0 ≤ℤ value y) s.2 h)

      move : (t : Bottom (P n) (val n)) → ((y : ℕ × A) → Below n y → val n t.0 ≤ℤ value y)
          → Bottom (Below (suc n)) value
      move t h = ((n, t.0), (lt-suc_self n, t.1), below_suc n (λ y. val n t.0 ≤ℤ value y) h t.2)

      lower : (s : Bottom (Below n) value) (t : Bottom (P n) (val n))
          → (value s.0 ≤ℤ val n t.0) ⊎ (val n t.0 ≤ℤ value s.0) → Bottom (Below (suc n)) value
      lower s t (inl h) = keep s (λ a p. ≤ℤ-trans h (t.2 a p))
      lower s t (inr h) = move t (λ y p. ≤ℤ-trans h (s.2 y p))

      go : Least (Below n) value → Least (P n) (val n) → Least (Below (suc n)) value
      go (inl e) (inl f) = inl (below_suc n (λ x. ⊥) e f)
      go (inl e) (inr t) = inr (move t (λ y p. absurd (e y p)))
      go (inr s) (inl f) = inr (keep s (λ a p. absurd (f a p)))
      go (inr s) (inr t) = inr (lower s t (≤ℤ-total (value s.0) (val n t.0)))

pub least-over : (n : ℕ) {A : Type 0} (P : ℕ → A → Type 0) (val : ℕ → A → ℤ) → ((k : ℕ) → Least (P k) (val k))
    → Least {A = ℕ × A} (λ x. (x.0 < n) × P x.0 x.1) (λ x. val x.0 x.1)
least-over zero P val h = inl (λ x p. not-suc-le-zero p.0)
least-over (suc n) P val h = over P val n (least-over n P val h) (h n)

-- ---- families over a level L and a place (a, b) of its grid

-- the test p fails at each place
abbrev pub Nowhere : (k : ℕ) (n m : ℕ → ℕ) (p : ℕ → ℕ → ℕ → Bool) → Type 0
Nowhere k n m p = (L a b : ℕ) → L < k → a < n L → b < m L → p L a b ≡ true → ⊥

-- a place with p at which val is least
pub record Lowest (k : ℕ) (n m : ℕ → ℕ) (p : ℕ → ℕ → ℕ → Bool) (val : ℕ → ℕ → ℕ → ℤ) : Type 0 where
  pub L : ℕ
  pub a : ℕ
  pub b : ℕ
  pub L-in : L < k
  pub a_in : a < n L
  pub b-in : b < m L
  pub holds : p L a b ≡ true
  pub least : (L' a' b' : ℕ) → L' < k → a' < n L' → b' < m L' → p L' a' b' ≡ true → val L a b ≤ℤ val L' a' b'

-- a place with p at which val is greatest
pub record Highest (k : ℕ) (n m : ℕ → ℕ) (p : ℕ → ℕ → ℕ → Bool) (val : ℕ → ℕ → ℕ → ℤ) : Type 0 where
  pub L : ℕ
  pub a : ℕ
  pub b : ℕ
  pub L-in : L < k
  pub a_in : a < n L
  pub b-in : b < m L
  pub holds : p L a b ≡ true
  pub greatest : (L' a' b' : ℕ) → L' < k → a' < n L' → b' < m L' → p L' a' b' ≡ true → val L' a' b' ≤ℤ val L a b

pub least3 : (k : ℕ) (n m : ℕ → ℕ) (p : ℕ → ℕ → ℕ → Bool) (val : ℕ → ℕ → ℕ → ℤ)
    → Nowhere k n m p ⊎ Lowest k n m p val
least3 k n m p val =
    go (least-over k _ _ λ L. least-over (n L) _ _ λ a. least-over (m L) _ _ λ b. least-test (p L a b) (val L a b))
  where
    -- an element is (L, (a, (b, tt)))
    In : ℕ × (ℕ × (ℕ × Unit {0})) → Type 0
    In x =
        (x.0 < k) × ((x.1.0 < n x.0) × ((x.1.1.0 < m x.0) × (p x.0 x.1.0 x.1.1.0 ≡ true)))

    go : Least In (λ x. val x.0 x.1.0 x.1.1.0) → Nowhere k n m p ⊎ Lowest k n m p val
    go (inl e) = inl (λ L a b hL ha hb h. e (L, (a, (b, tt))) (hL, (ha, (hb, h))))
    go (inr s) =
        inr (record {
          L = s.0.0;
          a = s.0.1.0;
          b = s.0.1.1.0;
          L-in = s.1.0;
          a_in = s.1.1.0;
          b-in = s.1.1.1.0;
          holds = s.1.1.1.1;
          least = λ L a b hL ha hb h. s.2 (L, (a, (b, tt))) (hL, (ha, (hb, h)));
        })

-- a negation turns the order round
pub neg-le : {x y : ℤ} → neg_ℤ x ≤ℤ neg_ℤ y → y ≤ℤ x
neg-le {x} {y} h = omega (zarith, (neg-parts x).0, (neg-parts x).1, (neg-parts y).0, (neg-parts y).1)

pub greatest3 : (k : ℕ) (n m : ℕ → ℕ) (p : ℕ → ℕ → ℕ → Bool) (val : ℕ → ℕ → ℕ → ℤ)
    → Nowhere k n m p ⊎ Highest k n m p val
greatest3 k n m p val = go (least3 k n m p (λ L a b. neg_ℤ (val L a b)))
  where
    go : Nowhere k n m p ⊎ Lowest k n m p (λ L a b. neg_ℤ (val L a b)) → Nowhere k n m p ⊎ Highest k n m p val
    go (inl e) = inl e
    go (inr s) =
        inr (record {
          L = s.L;
          a = s.a;
          b = s.b;
          L-in = s.L-in;
          a_in = s.a_in;
          b-in = s.b-in;
          holds = s.holds;
          greatest = λ L a b hL ha hb h. neg-le (s.least L a b hL ha hb h);
        })
