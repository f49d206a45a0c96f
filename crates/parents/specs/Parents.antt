-- What undoing a step of subdivision gives: the parents, of numbers that are their children.
use Rattle.std.specs.Prelude.{◌≡◌, List, [], ◌∷◌, ℕ, ◌*◌, ◌≤◌, ◌<◌, ℤ, pos, nat_abs, get_or}
use Rattle.surface.specs.Patch.{subdivided}
use Rattle.patch.specs.Patches.{entry, Bounded}
use Rattle.patch.specs.Steps.{even_of, odd_of, children_of}

-- the largest number between the two directions: 49 times the limit of level 3
abbrev pub wide : ℕ
wide = 411041792000

abbrev pub Wide : ℤ → Type 0
Wide z = nat_abs z ≤ wide

abbrev pub FourWide : List ℤ → Type 0
FourWide s = (k : ℕ) → k < 4 → Wide (get_or s k (pos 0))

-- the second of three parents, from their children
abbrev pub SecondOf : ℤ → ℤ → ℤ → ℤ → Type 0
SecondOf a b c x =
    ((p q r : ℤ) → a ≡ even_of p q → b ≡ odd_of p q r → c ≡ even_of q r → x ≡ q)
    × ((m : ℕ) → nat_abs a ≤ m → nat_abs b ≤ m → nat_abs c ≤ m → nat_abs x ≤ 6 * m)

-- the other parent of an even child
abbrev pub OtherOf : ℤ → ℤ → ℤ → Type 0
OtherOf even known x =
    ((p : ℤ) → even ≡ even_of p known → x ≡ p)
    × ((m : ℕ) → nat_abs even ≤ m → nat_abs known ≤ 6 * m → nat_abs x ≤ 7 * m)

-- the third parent of an odd child
abbrev pub ThirdOf : ℤ → ℤ → ℤ → ℤ → Type 0
ThirdOf odd first middle x =
    ((p : ℤ) → odd ≡ odd_of first middle p → x ≡ p)
    × ((m : ℕ) → nat_abs odd ≤ m → nat_abs first ≤ 6 * m → nat_abs middle ≤ 7 * m → nat_abs x ≤ 49 * m)

-- the four numbers that the children x in a half come from, if they come from any, and their size
abbrev pub FourWithin : ℕ → List ℤ → List ℤ → Type 0
FourWithin half x r =
    ((p : ℕ → ℤ) → ((k : ℕ) → k < 4 → get_or x k (pos 0) ≡ get_or (children_of half (p 0) (p 1) (p 2) (p 3)) k (pos 0))
    → (k : ℕ) → k < 4 → get_or r k (pos 0) ≡ p k)
    × ((m : ℕ) → ((k : ℕ) → k < 4 → nat_abs (get_or x k (pos 0)) ≤ m)
    → (k : ℕ) → k < 4 → nat_abs (get_or r k (pos 0)) ≤ 49 * m)

abbrev pub ParentsOf : ℕ → ℤ → ℤ → ℤ → ℤ → List ℤ → Type 0
ParentsOf half a b c d r = FourWithin half (a ∷ b ∷ c ∷ d ∷ []) r

-- of each row, and row l becomes column l
abbrev pub RowsBack : ℕ → List (List ℤ) → List (List ℤ) → Type 0
RowsBack half p r =
    ((f : ℕ → ℕ → ℤ)
    → ((l k : ℕ) → l < 4 → k < 4
    → entry p l k ≡ get_or (children_of half (f 0 l) (f 1 l) (f 2 l) (f 3 l)) k (pos 0))
    → (i l : ℕ) → i < 4 → l < 4 → entry r i l ≡ f i l)
    × ((m : ℕ) → Bounded m p → Bounded (49 * m) r)

-- the patch that these numbers are subdivided from, if they are; row l of both has what is l-th along v
abbrev pub Back : ℕ → ℕ → List (List ℤ) → List (List ℤ) → Type 0
Back g h p r =
    ((f : ℕ → ℕ → ℤ) → ((k l : ℕ) → k < 4 → l < 4 → entry p l k ≡ subdivided g h f k l)
    → (i j : ℕ) → i < 4 → j < 4 → entry r j i ≡ f i j)
    × Bounded 20141047808000 r
