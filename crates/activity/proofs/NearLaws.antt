-- The sixteen functions of a patch: four columns of marks, from the marks of four rows.
use mathlib.Core.Path.{◌≡◌, ap, ◌∙◌}
use mathlib.Core.Bool.{Bool, false}
use mathlib.Core.List.{List, [], ◌∷◌}
use Prim.Native.Nat.{ℕ, ◌+◌, ◌<◌}
use native.Mathlib.Nat.{add-zero}
use native.Mathlib.Omega.{arith}
use lib.Dec.{leb}
use lib.ListN.{get_or}
use Rattle.finite.proofs.Four.{each}
use Rattle.surface.specs.Sheet.{eighths, functions}
use Rattle.surface.specs.Support.{least_under}
use Rattle.activity.specs.Marks.{marked, RegionRow}
use Rattle.activity.specs.Near.{Column, NearRegion}
use Rattle.activity.specs.declared.Marks.{Marks}

-- the marks of the rows b to b + 3, for the region of their own level
pub record FourRows (W H L b : ℕ) (lev : ℕ → ℕ → ℕ) (m0 m1 m2 m3 : Marks) : Type 0 where
  pub row0 : RegionRow W H L b L lev m0
  pub row1 : RegionRow W H L (b + 1) L lev m1
  pub row2 : RegionRow W H L (b + 2) L lev m2
  pub row3 : RegionRow W H L (b + 3) L lev m3

module _ (W H L a b : ℕ) (lev : ℕ → ℕ → ℕ) (e : ℕ) (m0 m1 m2 m3 : Marks) where
  abbrev Entry : ℕ → List Bool → ℕ → Type 0
  Entry k x l = get_or x l false ≡ leb L (least_under W H lev L (a + k) (b + l))

  column : (k : ℕ) (x : List Bool) → e ≡ eighths L → a + k < functions W L → FourRows W H L b lev m0 m1 m2 m3
      → Column e m0 m1 m2 m3 (a + k) x → (l : ℕ) → l < 4 → Entry k x l
  column k x side fits r c =
      each (Entry k x)
      (rw (add-zero b) (c.row0 ∙ ap (λ e. marked e m0 (a + k)) side ∙ r.row0 (a + k) fits))
      (c.row1 ∙ ap (λ e. marked e m1 (a + k)) side ∙ r.row1 (a + k) fits)
      (c.row2 ∙ ap (λ e. marked e m2 (a + k)) side ∙ r.row2 (a + k) fits)
      (c.row3 ∙ ap (λ e. marked e m3 (a + k)) side ∙ r.row3 (a + k) fits)

pub near-columns : (W H L a b : ℕ) (lev : ℕ → ℕ → ℕ) (e : ℕ) {m0 m1 m2 m3 : Marks} {x0 x1 x2 x3 : List Bool}
    → e ≡ eighths L → a + 3 < functions W L → FourRows W H L b lev m0 m1 m2 m3
    → Column e m0 m1 m2 m3 a x0 → Column e m0 m1 m2 m3 (a + 1) x1 → Column e m0 m1 m2 m3 (a + 2) x2
    → Column e m0 m1 m2 m3 (a + 3) x3 → NearRegion W H L a b lev (x0 ∷ x1 ∷ x2 ∷ x3 ∷ [])
near-columns W H L a b lev e {m0} {m1} {m2} {m3} {x0} {x1} {x2} {x3} side fits r c0 c1 c2 c3 k l hk hl =
    each (λ k. Entry W H L a b lev e m0 m1 m2 m3 k (get_or (x0 ∷ x1 ∷ x2 ∷ x3 ∷ []) k []) l)
    (column W H L a b lev e m0 m1 m2 m3 0 x0 side (omega arith) r (rw (add-zero a) c0) l hl)
    (column W H L a b lev e m0 m1 m2 m3 1 x1 side (omega arith) r c1 l hl)
    (column W H L a b lev e m0 m1 m2 m3 2 x2 side (omega arith) r c2 l hl)
    (column W H L a b lev e m0 m1 m2 m3 3 x3 side (omega arith) r c3 l hl)
    k hk
