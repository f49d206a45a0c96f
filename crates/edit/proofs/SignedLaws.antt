-- The machine's tests of an index against the sides of its level.
use mathlib.Core.Path.{◌≡◌, sym, ap, ◌∙◌, subst}
use mathlib.Core.Bool.{Bool, true, false, not}
use Prim.Native.Nat.{ℕ, ◌≤◌}
use native.Mathlib.Omega.{arith}
use borrow.Author.Tests.{lt-leb, le-leb, ltb-true, ltb-false}
use lib.IntN.{ℤ, pos, negsuc, ◌+ℤ◌}
use lib.Signed.{le_z, lt_z}
use mir.Syntax.{w64}
use mir.Val.{SFits, of_z, to_z}
use mir.ValLaws.{to_z-of_z}
use Rattle.surface.specs.Sheet.{cells}
use Rattle.surface.specs.Calls.{index_fits, index}
use Rattle.surface.proofs.Writers.{index_of}
use Rattle.activity.proofs.WindowLaws.{functions-le}

-- at least -3 exactly when not below it
not-below : (i : ℤ) (b : Bool) → lt_z i (negsuc 2) ≡ b → le_z (negsuc 2) i ≡ not b
not-below (pos m) b e = ap not e
not-below (negsuc m) true e = lt-leb m 2 (ltb-true 2 m e)
not-below (negsuc m) false e = le-leb m 2 (ltb-false 2 m e)

module _ (n L : ℕ) {i : ℤ} (s : SFits w64 i) where
  pub index-low : lt_z (to_z w64 (of_z w64 i)) (negsuc 2) ≡ true → false ≡ index_fits n L i
  index-low t =
      let u : lt_z i (negsuc 2) ≡ true = rw (to_z-of_z w64 i s) at t in
      rw (not-below i true u)

  pub index-high : {z : ℤ} → z ≡ pos (cells n L) → lt_z (to_z w64 (of_z w64 i)) (negsuc 2) ≡ false
      → lt_z (to_z w64 (of_z w64 i)) z ≡ index_fits n L i
  index-high e t =
      let u : lt_z i (negsuc 2) ≡ false = rw (to_z-of_z w64 i s) at t in
      rw (not-below i false u, to_z-of_z w64 i s, e)

-- its sum with 3, as the machine has it
module _ (n L : ℕ) {i : ℤ} (s : SFits w64 i) (hn : n ≤ 8) (hL : L ≤ 3) (e : index_fits n L i ≡ true) where
  pub sum_fits : SFits w64 (to_z w64 (of_z w64 i) +ℤ pos 3)
  sum_fits =
      let f = index_of n L i e in
      subst (λ z. SFits w64 z) (sym (ap (λ z. z +ℤ pos 3) (to_z-of_z w64 i s) ∙ f.0))
      (record { sfits = omega (arith, f.1, functions-le n L hn hL) })

  pub sum_is : to_z w64 (of_z w64 (to_z w64 (of_z w64 i) +ℤ pos 3)) ≡ pos (index i)
  sum_is =
      to_z-of_z w64 (to_z w64 (of_z w64 i) +ℤ pos 3) sum_fits
      ∙ ap (λ z. z +ℤ pos 3) (to_z-of_z w64 i s)
      ∙ (index_of n L i e).0
