-- Which of the sixteen functions of a patch have their cut support in a region.
use Rattle.std.specs.Prelude.{Bool, false, List, [], ◌≡◌, ℕ, ◌+◌, ◌<◌, leb, get_or}
use Rattle.surface.specs.Support.{least_under}
use Rattle.activity.specs.Marks.{marked}
use Rattle.activity.specs.declared.Marks.{Marks}

-- whether function a is marked in each of four rows
pub record Column (e : ℕ) (m0 m1 m2 m3 : Marks) (a : ℕ) (x : List Bool) : Type 0 where
  pub row0 : get_or x 0 false ≡ marked e m0 a
  pub row1 : get_or x 1 false ≡ marked e m1 a
  pub row2 : get_or x 2 false ≡ marked e m2 a
  pub row3 : get_or x 3 false ≡ marked e m3 a

-- entry (k, l) is that of function (a + k, b + l) of level L, of the region of its own level
abbrev pub NearRegion : ℕ → ℕ → ℕ → ℕ → ℕ → (ℕ → ℕ → ℕ) → List (List Bool) → Type 0
NearRegion W H L a b lev x =
    (k l : ℕ) → k < 4 → l < 4 → get_or (get_or x k []) l false ≡ leb L (least_under W H lev L (a + k) (b + l))
