-- A patch by value is its sixteen numbers: what is known of an array of arrays is how many elements each has.
use mathlib.Core.Path.{◌≡◌, refl, ◌∙◌}
use mathlib.Core.List.{List, [], ◌∷◌}
use Prim.Native.Nat.{ℕ, zero, suc, ◌<◌}
use native.Mathlib.Omega.{arith}
use lib.Dec.{lit<}
use lib.IntN.{ℤ, pos}
use lib.ListN.{length, get_or}
use mir.Syntax.{w64}
use mir.Val.{Val}
use denote.Array.{Array}
use denote.Array as array
use denote.Laws.{Is}
use denote.Shadow.{shadow}
use denote.Signed.{SInt}
use Rattle.patch.specs.Steps.{FourByFour}
use Rattle.patch.proofs.Four.{four}

elements : {A : Type 0} (d : A) (x : List A) → length x ≡ 4
    → x ≡ get_or x 0 d ∷ get_or x 1 d ∷ get_or x 2 d ∷ get_or x 3 d ∷ []
elements d [] h = absurd (omega arith)
elements d (a ∷ []) h = absurd (omega arith)
elements d (a ∷ b ∷ []) h = absurd (omega arith)
elements d (a ∷ b ∷ c ∷ []) h = absurd (omega arith)
elements d (a ∷ b ∷ c ∷ e ∷ []) h = refl
elements d (a ∷ b ∷ c ∷ e ∷ f ∷ x) h = absurd (omega arith)

row-length : (p : List (List ℤ)) (us : List Val) → shadow (array.each (List ℤ) (Array (SInt w64) 4).own_val p us)
    → (k : ℕ) → k < length p → length (get_or p k []) ≡ 4
row-length [] us s k h = absurd (omega arith)
row-length (x ∷ p) [] s k h = absurd s
row-length (x ∷ p) (u ∷ us) s zero h = s.0.1.0.1
row-length (x ∷ p) (u ∷ us) s (suc k) h = row-length p us s.1 k (omega arith)

pub four-by-four : (p : List (List ℤ)) (vs : List Val) → Is (Array (Array (SInt w64) 4) 4) p vs → FourByFour p
four-by-four p vs g =
    let n : length p ≡ 4 = g.1.0.1 in
    let row : (k : ℕ) → k < 4 → length (get_or p k []) ≡ 4 = λ k hk. row-length p g.0 g.1.1 k (omega arith) in
    elements [] p n
    ∙ four (elements (pos 0) (get_or p 0 []) (row 0 (lit< tt))) (elements (pos 0) (get_or p 1 []) (row 1 (lit< tt)))
    (elements (pos 0) (get_or p 2 []) (row 2 (lit< tt)))
    (elements (pos 0) (get_or p 3 []) (row 3 (lit< tt)))
