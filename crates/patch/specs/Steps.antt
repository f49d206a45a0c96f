-- What the private functions compute.
use Rattle.std.specs.Prelude.{Bool, cond, ◌≡◌, List, [], ◌∷◌, ℕ, ◌+◌, ◌*◌, ◌/◌, ◌%◌, ◌≤◌, ◌<◌, ℤ, pos, nat_abs, ◌+ℤ◌, ◌*ℤ◌, eqb, get_or, set}
use Rattle.patch.specs.Patches.{entry}

-- the largest entry between the two directions of a step: 8 times 131072000
abbrev pub midway : ℕ
midway = 1048576000

abbrev pub Small : ℤ → Type 0
Small z = nat_abs z ≤ midway

-- four such numbers
abbrev pub AllSmall : ℤ → ℤ → ℤ → ℤ → Type 0
AllSmall a b c d = Small a × Small b × Small c × Small d

-- two such numbers together
abbrev pub Paired : ℤ → Type 0
Paired z = nat_abs z ≤ 2 * midway

-- an even child is that of two parents in a row
abbrev pub even_of : ℤ → ℤ → ℤ
even_of x y = pos 4 *ℤ (x +ℤ y)

-- an odd child is that of three
abbrev pub odd_of : ℤ → ℤ → ℤ → ℤ
odd_of x y z = x +ℤ pos 6 *ℤ y +ℤ z

-- the four children in half g of four parents in a row
unfoldable pub children_of : ℕ → ℤ → ℤ → ℤ → ℤ → List ℤ
children_of g a b c d =
    cond (eqb g 0)
    (even_of a b ∷ odd_of a b c ∷ even_of b c ∷ odd_of b c d ∷ [])
    (odd_of a b c ∷ even_of b c ∷ odd_of b c d ∷ even_of c d ∷ [])

-- the patch of sixteen numbers, row by row
abbrev pub patch_of : (ℕ → ℕ → ℤ) → List (List ℤ)
patch_of f =
    (f 0 0 ∷ f 0 1 ∷ f 0 2 ∷ f 0 3 ∷ [])
    ∷ (f 1 0 ∷ f 1 1 ∷ f 1 2 ∷ f 1 3 ∷ [])
    ∷ (f 2 0 ∷ f 2 1 ∷ f 2 2 ∷ f 2 3 ∷ [])
    ∷ (f 3 0 ∷ f 3 1 ∷ f 3 2 ∷ f 3 3 ∷ [])
    ∷ []

-- four rows of four numbers
abbrev pub FourByFour : List (List ℤ) → Type 0
FourByFour p = p ≡ patch_of (entry p)

-- what stands at place n, row by row
abbrev pub placed : List (List ℤ) → ℕ → ℤ
placed p n = entry p (n / 4) (n % 4)

-- the patch with x there
abbrev pub with_place : List (List ℤ) → ℕ → ℤ → List (List ℤ)
with_place p n x = set p (n / 4) (set (get_or p (n / 4) []) (n % 4) x)

-- four places and the parents there, of which children can be made
abbrev pub Parents : List (List ℤ) → ℕ → ℕ → ℕ → ℕ → Type 0
Parents p i j k l =
    (i < 16) × (j < 16) × (k < 16) × (l < 16) × AllSmall (placed p i) (placed p j) (placed p k) (placed p l)

-- the patch with four numbers at four places
abbrev pub with_line : List (List ℤ) → ℕ → ℕ → ℕ → ℕ → List ℤ → List (List ℤ)
with_line p i j k l x =
    with_place
    (with_place (with_place (with_place p i (get_or x 0 (pos 0))) j (get_or x 1 (pos 0))) k (get_or x 2 (pos 0)))
    l (get_or x 3 (pos 0))

-- the patch with the children in half g of four parents at the parents' places
unfoldable pub with_children : ℕ → List (List ℤ) → ℕ → ℕ → ℕ → ℕ → List (List ℤ)
with_children g p i j k l = with_line p i j k l (children_of g (placed p i) (placed p j) (placed p k) (placed p l))

-- the place of number n of line m: of a row along v, of a column along u
abbrev pub place : Bool → ℕ → ℕ → ℕ
place v m n = cond v (4 * m + n) (4 * n + m)

-- a step along v: each row has its children in half h
unfoldable pub along_v : ℕ → List (List ℤ) → List (List ℤ)
along_v h p =
    patch_of (λ k l. get_or (children_of h (entry p k 0) (entry p k 1) (entry p k 2) (entry p k 3)) l (pos 0))

-- a step along u: each column has its children in half g
unfoldable pub along_u : ℕ → List (List ℤ) → List (List ℤ)
along_u g p =
    patch_of (λ k l. get_or (children_of g (entry p 0 l) (entry p 1 l) (entry p 2 l) (entry p 3 l)) k (pos 0))
