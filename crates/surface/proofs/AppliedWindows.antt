-- A window of four places, which computes: what a reader can work by hand from document 02. A wrong definition is tried
-- on these, beside it.
use mathlib.Core.Path.{◌≡◌, refl}
use mathlib.Core.List.{List, [], ◌∷◌}
use Prim.Native.Nat.{ℕ}
use lib.IntN.{ℤ, pos, neg_ℤ}
use lib.ListN.{replicate}
use Rattle.finite.specs.Range.{table_from}
use Rattle.surface.specs.Calls.{Answer, refused, gives, Done}
use Rattle.surface.specs.Window.{WindowState, record_cause, record_outcome, folded}
use Rattle.surface.specs.Window.{missing, present, Figures, figures_outcome}

abbrev at : ℕ → ℕ → WindowState
at held oldest = record { held = held; oldest = oldest }

-- a slice of four places, whichever of them hold records
abbrev four : List ℤ
four = pos 91 ∷ pos 92 ∷ pos 93 ∷ pos 94 ∷ []

abbrev leaves : ℕ → ℕ → List ℤ → Done WindowState ℤ
leaves held oldest window = record { result = gives (at held oldest); after = window }

abbrev declines : ℕ → List ℤ → Done WindowState ℤ
declines n window = record { result = refused n; after = window }

-- "the first goes to the place named as the oldest's"; "A new record takes the place after the newest held, place 0
-- following the last place"; "When the window is full it overwrites the oldest, and the next place becomes the
-- oldest's"
pub records-placed : (record_outcome four (at 0 2) (pos 7) ≡ leaves 1 2 (pos 91 ∷ pos 92 ∷ pos 7 ∷ pos 94 ∷ []))
    × (record_outcome four (at 2 2) (pos 7) ≡ leaves 3 2 (pos 7 ∷ pos 92 ∷ pos 93 ∷ pos 94 ∷ []))
    × (record_outcome four (at 3 2) (pos 7) ≡ leaves 4 2 (pos 91 ∷ pos 7 ∷ pos 93 ∷ pos 94 ∷ []))
    × (record_outcome four (at 4 2) (pos 7) ≡ leaves 4 3 (pos 91 ∷ pos 92 ∷ pos 7 ∷ pos 94 ∷ []))
    × (record_outcome four (at 4 3) (pos 7) ≡ leaves 4 0 (pos 91 ∷ pos 92 ∷ pos 93 ∷ pos 7 ∷ []))
unfolding record_outcome
records-placed = (refl, refl, refl, refl, refl)

-- 22: "a window of 0 or above 1,440 places, or more held than places, or the oldest outside them"; 23: "a new record
-- beyond 32,000 in size, after 22"
pub records-declined : (record_outcome [] (at 0 0) (pos 7) ≡ declines 22 [])
    × (record_outcome four (at 5 0) (pos 7) ≡ declines 22 four)
    × (record_outcome four (at 0 4) (pos 7) ≡ declines 22 four)
    × (record_outcome four (at 0 0) (pos 32001) ≡ declines 23 four)
    × (record_outcome four (at 0 0) (neg_ℤ (pos 32001)) ≡ declines 23 four)
    × (record_outcome four (at 5 0) (pos 32001) ≡ declines 22 four)
    × (record_outcome four (at 0 0) (neg_ℤ (pos 32000)) ≡ leaves 1 0 (neg_ℤ (pos 32000) ∷ pos 92 ∷ pos 93 ∷ pos 94 ∷ []))
    × (record_cause 1440 (at 1440 1439) (pos 32000) ≡ 0)
    × (record_cause 1441 (at 0 0) (pos 0) ≡ 22)
unfolding record_outcome
records-declined = (refl, refl, refl, refl, refl, refl, refl, refl, refl)

-- "the total, least and greatest of the records held. ... With none held the total is 0 and the other two are marked
-- missing."
abbrev figures : ℤ → ℤ → ℤ → Answer Figures
figures total least greatest = gives (record { total = total; least = present least; greatest = present greatest })

pub figures-told : (figures_outcome four (at 0 2)
    ≡ gives (record { total = pos 0; least = missing; greatest = missing }))
    × (figures_outcome four (at 3 2) ≡ figures (pos 278) (pos 91) (pos 94))
    × (figures_outcome (neg_ℤ (pos 5) ∷ pos 3 ∷ pos 9 ∷ neg_ℤ (pos 8) ∷ []) (at 2 1) ≡ figures (pos 12) (pos 3) (pos 9))
    × (figures_outcome (neg_ℤ (pos 5) ∷ pos 3 ∷ []) (at 2 1) ≡ figures (neg_ℤ (pos 2)) (neg_ℤ (pos 5)) (pos 3))
    × (figures_outcome (replicate 2 (pos 2147483647)) (at 2 1)
    ≡ figures (pos 4294967294) (pos 2147483647) (pos 2147483647))
    × (figures_outcome four (at 0 4) ≡ refused 22)
unfolding figures_outcome folded table_from
figures-told = (refl, refl, refl, refl, refl, refl)
