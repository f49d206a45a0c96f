-- The faults of one coefficient more, one law for each way through the loop of `of_marked`.
use mathlib.Core.Path.{◌≡◌, sym, ap, ◌∙◌}
use mathlib.Core.Bool.{Bool, true, false, not, and-true, and-false, or-true}
use mathlib.Core.List.{List}
use Prim.Native.Nat.{ℕ, ◌+◌, ◌<◌}
use native.Mathlib.Numerals.{add-one}
use native.Mathlib.Omega.{arith}
use borrow.Author.Tests.{le-leb, lt-leb, eq-eqb, ne_eqb, ltb-true, ltb-false}
use lib.Dec.{ltb}
use lib.IntN.{ℤ, pos, nat_abs}
use lib.ListN.{length, get_or}
use mir.Syntax.{w64}
use mir.Val.{SFits, of_z}
use Rattle.finite.specs.Range.{every}
use Rattle.finite.proofs.Tests.{every-intro, every-cong}
use Rattle.coefficients.proofs.FaultLaws.{zero_of, of_zero}
use Rattle.faults.specs.Faults.{keeps_limit, keeps_zero, FaultsBelow, RowFaults}

-- ---- a test at each number, at one number more

more : (n : ℕ) (p : ℕ → Bool) {t : Bool} → t ≡ not (every n p) → p n ≡ true → t ≡ not (every (n + 1) p)
unfolding every
more n p e q = rw (add-one n, q, and-true (every n p)) e

lost : (n : ℕ) (p : ℕ → Bool) → p n ≡ false → true ≡ not (every (n + 1) p)
unfolding every
lost n p q = rw (add-one n, q, and-false (every n p))

-- ---- one coefficient more: 0, passive and not 0, active and past its limit, active and within it

pub none : (m : ℕ) (active : ℕ → Bool) (row : List ℤ) {over stray : Bool} → over ≡ false → stray ≡ false
    → FaultsBelow 0 m active row over stray
unfolding every
none m active row e f = record { limits = e; zeros = f }

abbrev coef : List ℤ → ℕ → ℤ
coef row k = get_or row k (pos 0)

module _ {k m : ℕ} {active : ℕ → Bool} {row : List ℤ} {over stray : Bool}
    (h : FaultsBelow k m active row over stray) (s : SFits w64 (coef row k)) where
  pub zero_more : of_z w64 (coef row k) ≡ 0 → FaultsBelow (k + 1) m active row over stray
  zero_more e =
      let z : nat_abs (coef row k) ≡ 0 = zero_of (coef row k) s e in
      record {
        limits = more k _ h.limits (rw (le-leb (nat_abs (coef row k)) m (omega arith), or-true));
        zeros = more k _ h.zeros (rw (eq-eqb (nat_abs (coef row k)) 0 z, or-true));
      }

  pub stray-more : (of_z w64 (coef row k) ≡ 0 → ⊥) → active k ≡ false → FaultsBelow (k + 1) m active row over true
  stray-more z passive =
      record {
        limits = more k _ h.limits (rw passive);
        zeros = lost k _ (rw (passive, ne_eqb (nat_abs (coef row k)) 0 (λ e. z (of_zero (coef row k) e))));
      }

  module _ (here : active k ≡ true) where
    pub past_more : true ≡ ltb m (nat_abs (coef row k)) → FaultsBelow (k + 1) m active row true stray
    past_more t =
        record {
          limits = lost k _ (rw (here, lt-leb (nat_abs (coef row k)) m (ltb-true m _ (sym t))));
          zeros = more k _ h.zeros (rw here);
        }

    pub within_more : false ≡ ltb m (nat_abs (coef row k)) → FaultsBelow (k + 1) m active row over stray
    within_more t =
        record {
          limits = more k _ h.limits (rw (here, le-leb (nat_abs (coef row k)) m (ltb-false m _ (sym t))));
          zeros = more k _ h.zeros (rw here);
        }

-- ---- whole rows

-- a row of zeros has no fault
pub zero_row : (m : ℕ) (active : ℕ → Bool) (row : List ℤ) {over stray : Bool} → over ≡ false → stray ≡ false
    → ((k : ℕ) → k < length row → nat_abs (get_or row k (pos 0)) ≡ 0) → RowFaults m active row over stray
zero_row m active row e f zeros =
    record {
      limits = e ∙ sym (ap not (every-intro (length row) (λ a. keeps_limit m (active a) (get_or row a (pos 0)))
          (λ k l. rw (le-leb (nat_abs (coef row k)) m (omega (arith, zeros k l)), or-true))));
      zeros = f ∙ sym (ap not (every-intro (length row) (λ a. keeps_zero (active a) (get_or row a (pos 0)))
          (λ k l. rw (eq-eqb (nat_abs (coef row k)) 0 (zeros k l), or-true))));
    }

-- the faults by marks that say which functions are active
pub same-marks : (m : ℕ) (mark active : ℕ → Bool) (row : List ℤ) {over stray : Bool}
    → ((k : ℕ) → k < length row → mark k ≡ active k) → RowFaults m mark row over stray
    → RowFaults m active row over stray
same-marks m mark active row same f =
    record {
      limits = f.limits
          ∙ ap not (every-cong (length row) (λ a. keeps_limit m (mark a) (coef row a))
          (λ a. keeps_limit m (active a) (coef row a)) (λ k l. ap (λ t. keeps_limit m t (coef row k)) (same k l)));
      zeros = f.zeros
          ∙ ap not (every-cong (length row) (λ a. keeps_zero (mark a) (coef row a))
          (λ a. keeps_zero (active a) (coef row a))
          (λ k l. ap (λ t. keeps_zero t (coef row k)) (same k l)));
    }
