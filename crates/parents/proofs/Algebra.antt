-- Parents from their children, of integers.
use mathlib.Core.Path.{◌≡◌, sym, ap, ◌∙◌}
use mathlib.Core.List.{List, [], ◌∷◌}
use Prim.Native.Nat.{ℕ, ◌+◌, ◌-◌, ◌*◌, ◌≤◌, ◌<◌}
use native.Mathlib.Nat.{le_refl}
use native.Mathlib.Omega.{arith}
use lib.Dec.{lit<}
use lib.IntN.{ℤ, pos, nat_abs, neg_ℤ, ◌+ℤ◌, ◌-ℤ◌, ◌*ℤ◌, +ℤ_comm}
use lib.ListN.{get_or}
use lib.Signed.{quot_z}
use Rattle.finite.proofs.Order.{zarith, up, dn, sum-parts, neg-parts, scale-parts, abs-mul}
use Rattle.surface.specs.Patch.{subdivided}
use Rattle.surface.proofs.PatchReading.{subdivided-cong}
use Rattle.patch.specs.Patches.{entry, Bounded}
use Rattle.patch.specs.Steps.{even_of, odd_of, children_of, patch_of, along_v, along_u}
use Rattle.patch.proofs.Four.{each}
use Rattle.patch.proofs.Subdivision.{patch-entry, row-entry, column-entry, subdivides}
use Rattle.parents.specs.Parents.{SecondOf, OtherOf, ThirdOf, ParentsOf, FourWithin, RowsBack, Back}
use Rattle.parents.proofs.Sizes.{abs-sub, quot-parts, quot-small}

by_4 : (p : ℤ) → quot_z (pos 4 *ℤ p) (pos 4) ≡ p
by_4 p = omega (zarith, quot-parts 4 (pos 4 *ℤ p), scale-parts 4 p)

by-16 : (p : ℤ) → quot_z (pos 16 *ℤ p) (pos 16) ≡ p
by-16 p = omega (zarith, quot-parts 16 (pos 16 *ℤ p), scale-parts 16 p)

-- a difference by its parts
minus-parts : (a b : ℤ) → up (a -ℤ b) + (dn a + up b) ≡ dn (a -ℤ b) + (up a + dn b)
minus-parts a b = omega (arith, sum-parts a (neg_ℤ b), neg-parts b)

even-parts : (x y : ℤ) → up (even_of x y) + 4 * (dn x + dn y) ≡ dn (even_of x y) + 4 * (up x + up y)
even-parts x y = omega (arith, scale-parts 4 (x +ℤ y), sum-parts x y)

odd-parts : (x y z : ℤ) → up (odd_of x y z) + (dn x + 6 * dn y + dn z) ≡ dn (odd_of x y z) + (up x + 6 * up y + up z)
odd-parts x y z = omega (arith, sum-parts (x +ℤ pos 6 *ℤ y) z, sum-parts x (pos 6 *ℤ y), scale-parts 6 y)

pub second_is : (p q r : ℤ) → quot_z (pos 4 *ℤ odd_of p q r -ℤ even_of p q -ℤ even_of q r) (pos 16) ≡ q
second_is p q r =
    let a = even_of p q in
    let b = pos 4 *ℤ odd_of p q r in
    let c = even_of q r in
    let sixteen : b -ℤ a -ℤ c ≡ pos 16 *ℤ q =
    omega (
      zarith,
      minus-parts (b -ℤ a) c,
      minus-parts b a,
      even-parts p q,
      even-parts q r,
      odd-parts p q r,
      scale-parts 4 (odd_of p q r),
      scale-parts 16 q,
    ) in
    ap (λ z. quot_z z (pos 16)) sixteen ∙ by-16 q

pub other-is : (p q : ℤ) → quot_z (even_of p q) (pos 4) -ℤ q ≡ p
other-is p q =
    ap (λ z. z -ℤ q) (by_4 (p +ℤ q)) ∙ omega (zarith, minus-parts (p +ℤ q) q, sum-parts p q)

pub third-is : (p q r : ℤ) → odd_of p q r -ℤ p -ℤ pos 6 *ℤ q ≡ r
third-is p q r =
    omega (
      zarith,
      minus-parts (odd_of p q r -ℤ p) (pos 6 *ℤ q),
      minus-parts (odd_of p q r) p,
      odd-parts p q r,
      scale-parts 6 q,
    )

-- ---- sizes

module _ {m : ℕ} where
  pub second-size : (a b c : ℤ) → nat_abs a ≤ m → nat_abs b ≤ m → nat_abs c ≤ m
      → nat_abs (quot_z (pos 4 *ℤ b -ℤ a -ℤ c) (pos 16)) ≤ 6 * m
  second-size a b c ha hb hc =
      let four = abs-mul (pos 4) b (le_refl 4) hb in
      let all = abs-sub (pos 4 *ℤ b -ℤ a) c (abs-sub (pos 4 *ℤ b) a four ha) hc in
      quot-small 16 (pos 4 *ℤ b -ℤ a -ℤ c) (omega (arith, all))

  pub other-size : (a q : ℤ) → nat_abs a ≤ m → nat_abs q ≤ 6 * m → nat_abs (quot_z a (pos 4) -ℤ q) ≤ 7 * m
  other-size a q ha hq =
      let all = abs-sub (quot_z a (pos 4)) q (quot-small 4 a ha) hq in omega (arith, all)

  pub third-size : (d p q : ℤ) → nat_abs d ≤ m → nat_abs p ≤ 6 * m → nat_abs q ≤ 7 * m
      → nat_abs (d -ℤ p -ℤ pos 6 *ℤ q) ≤ 49 * m
  third-size d p q hd hp hq =
      let six = abs-mul (pos 6) q (le_refl 6) hq in
      let all = abs-sub (d -ℤ p) (pos 6 *ℤ q) (abs-sub d p hd hp) six in omega (arith, all)

-- ---- four parents

even-comm : (x y : ℤ) → even_of x y ≡ even_of y x
even-comm x y = ap (λ z. pos 4 *ℤ z) (+ℤ_comm x y)

odd-mirror : (x y z : ℤ) → odd_of x y z ≡ odd_of z y x
odd-mirror x y z = omega (zarith, odd-parts x y z, odd-parts z y x)

abbrev list : ℤ → ℤ → ℤ → ℤ → List ℤ
list a b c d = a ∷ b ∷ c ∷ d ∷ []

-- what the four calls give, in either half
module _ {a b c d p0 p1 p2 p3 : ℤ} where
  pub near-is : SecondOf a b c p1 → OtherOf c p1 p2 → OtherOf a p1 p0 → ThirdOf d p1 p2 p3
      → ParentsOf 0 a b c d (list p0 p1 p2 p3)
  unfolding children_of
  near-is s o o' t = (
    λ p e.
        let e1 = s.0 (p 0) (p 1) (p 2) (e 0 (lit< tt)) (e 1 (lit< tt)) (e 2 (lit< tt)) in
        let e2 = o.0 (p 2) (e 2 (lit< tt) ∙ even-comm (p 1) (p 2) ∙ ap (even_of (p 2)) (sym e1)) in
        let e0 = o'.0 (p 0) (e 0 (lit< tt) ∙ ap (even_of (p 0)) (sym e1)) in
        let e3 = t.0 (p 3) (e 3 (lit< tt) ∙ (λ i. odd_of (sym e1 i) (sym e2 i) (p 3))) in
        each (λ k. get_or (list p0 p1 p2 p3) k (pos 0) ≡ p k) e0 e1 e2 e3,
    λ m h.
        let h1 = s.1 m (h 0 (lit< tt)) (h 1 (lit< tt)) (h 2 (lit< tt)) in
        let h2 = o.1 m (h 2 (lit< tt)) h1 in
        each (λ k. nat_abs (get_or (list p0 p1 p2 p3) k (pos 0)) ≤ 49 * m)
        (omega (arith, o'.1 m (h 0 (lit< tt)) h1)) (omega arith) (omega arith)
        (t.1 m (h 3 (lit< tt)) h1 h2),
  )

-- four numbers from the last to the first
abbrev pub turned : List ℤ → List ℤ
turned r = list (get_or r 3 (pos 0)) (get_or r 2 (pos 0)) (get_or r 1 (pos 0)) (get_or r 0 (pos 0))

-- the parents of the mirrored row, mirrored, are those around the far half
pub mirrored : {a b c d : ℤ} (r : List ℤ) → ParentsOf 0 d c b a r → ParentsOf 1 a b c d (turned r)
unfolding children_of
mirrored {a} {b} {c} {d} r f = (
  λ p e.
      let back = f.0 (λ k. p (3 - k))
      (each (λ k. get_or (list d c b a) k (pos 0) ≡ get_or (children_of 0 (p 3) (p 2) (p 1) (p 0)) k (pos 0))
      (e 3 (lit< tt) ∙ even-comm (p 2) (p 3)) (e 2 (lit< tt) ∙ odd-mirror (p 1) (p 2) (p 3))
      (e 1 (lit< tt) ∙ even-comm (p 1) (p 2)) (e 0 (lit< tt) ∙ odd-mirror (p 0) (p 1) (p 2))) in
      each (λ k. get_or (turned r) k (pos 0) ≡ p k)
      (back 3 (lit< tt)) (back 2 (lit< tt)) (back 1 (lit< tt)) (back 0 (lit< tt)),
  λ m h.
      let back = f.1 m (each (λ k. nat_abs (get_or (list d c b a) k (pos 0)) ≤ m)
      (h 3 (lit< tt)) (h 2 (lit< tt)) (h 1 (lit< tt)) (h 0 (lit< tt))) in
      each (λ k. nat_abs (get_or (turned r) k (pos 0)) ≤ 49 * m)
      (back 3 (lit< tt)) (back 2 (lit< tt)) (back 1 (lit< tt)) (back 0 (lit< tt)),
)

-- of a row by its four numbers
pub of_four : (half : ℕ) (row r : List ℤ) {a b c d : ℤ} → a ≡ get_or row 0 (pos 0) → b ≡ get_or row 1 (pos 0)
    → c ≡ get_or row 2 (pos 0) → d ≡ get_or row 3 (pos 0) → ParentsOf half a b c d r → FourWithin half row r
of_four half row r {a} {b} {c} {d} ea eb ec ed f =
    let same = each (λ k. get_or (list a b c d) k (pos 0) ≡ get_or row k (pos 0)) ea eb ec ed in (
      λ p e. f.0 p (λ k h. same k h ∙ e k h),
      λ m w. f.1 m (λ k h. rw (same k h) (w k h)),
    )

-- four rows' parents as columns
abbrev Column : List ℤ → List ℤ → List ℤ → List ℤ → ℕ → List ℤ → Type 0
Column a b c d i x =
    (get_or x 0 (pos 0) ≡ get_or a i (pos 0)) × (get_or x 1 (pos 0) ≡ get_or b i (pos 0))
    × (get_or x 2 (pos 0) ≡ get_or c i (pos 0)) × (get_or x 3 (pos 0) ≡ get_or d i (pos 0))

pub columns-back : (half : ℕ) (p : List (List ℤ)) (a b c d r₀ r₁ r₂ r₃ : List ℤ)
    → FourWithin half (get_or p 0 []) a → FourWithin half (get_or p 1 []) b
    → FourWithin half (get_or p 2 []) c → FourWithin half (get_or p 3 []) d
    → Column a b c d 0 r₀ → Column a b c d 1 r₁ → Column a b c d 2 r₂ → Column a b c d 3 r₃
    → RowsBack half p (r₀ ∷ r₁ ∷ r₂ ∷ r₃ ∷ [])
columns-back half p a b c d r₀ r₁ r₂ r₃ fa fb fc fd k₀ k₁ k₂ k₃ = (
  λ f e i l hi hl. each (λ l. entry r i l ≡ f i l)
      ((at i hi).0 ∙ fa.0 (λ i. f i 0) (λ k h. e 0 k (lit< tt) h) i hi)
      ((at i hi).1 ∙ fb.0 (λ i. f i 1) (λ k h. e 1 k (lit< tt) h) i hi)
      ((at i hi).2 ∙ fc.0 (λ i. f i 2) (λ k h. e 2 k (lit< tt) h) i hi)
      ((at i hi).3 ∙ fd.0 (λ i. f i 3) (λ k h. e 3 k (lit< tt) h) i hi)
      l hl,
  λ m w i l hi hl. each (λ l. nat_abs (entry r i l) ≤ 49 * m)
      (rw (at i hi).0 (fa.1 m (λ k h. w 0 k (lit< tt) h) i hi))
      (rw (at i hi).1 (fb.1 m (λ k h. w 1 k (lit< tt) h) i hi))
      (rw (at i hi).2 (fc.1 m (λ k h. w 2 k (lit< tt) h) i hi))
      (rw (at i hi).3 (fd.1 m (λ k h. w 3 k (lit< tt) h) i hi))
      l hl,
)
  where
    r : List (List ℤ)
    r = r₀ ∷ r₁ ∷ r₂ ∷ r₃ ∷ []

    at : (i : ℕ) → i < 4 → Column a b c d i (get_or r i [])
    at = each (λ i. Column a b c d i (get_or r i [])) k₀ k₁ k₂ k₃

-- both directions of a step
pub both-back : (g h : ℕ) (p q r : List (List ℤ)) → g ≤ 1 → h ≤ 1 → Bounded 8388608000 p → RowsBack g p q
    → RowsBack h q r → Back g h p r
both-back g h p q r hg hh small u v = (
  λ f e.
      let whole = patch_of f in
      let mid = along_v h whole in
      let first = u.0 (entry mid)
      (λ l k hl hk. e k l hk hl ∙ sym (subdivides-of f g h hg hh k l hk hl) ∙ column-entry mid g k l hk hl) in
      λ i j hi hj. v.0 (λ j i. f i j)
      (λ i j hi hj. first i j hi hj ∙ row-entry whole h i j hi hj
      ∙ (λ t. get_or (children_of h (patch-entry f i 0 hi (lit< tt) t) (patch-entry f i 1 hi (lit< tt) t)
      (patch-entry f i 2 hi (lit< tt) t) (patch-entry f i 3 hi (lit< tt) t)) j (pos 0)))
      j i hj hi,
  v.1 411041792000 (u.1 8388608000 small),
)
  where
    subdivides-of : (f : ℕ → ℕ → ℤ) (g h : ℕ) → g ≤ 1 → h ≤ 1 → (k l : ℕ) → k < 4 → l < 4
        → entry (along_u g (along_v h (patch_of f))) k l ≡ subdivided g h f k l
    subdivides-of f g h hg hh k l hk hl =
        subdivides (patch_of f) g h hg hh k l hk hl ∙ subdivided-cong g h (entry (patch_of f)) f hg hh
        (λ i j hi hj. patch-entry f i j hi hj) k l hk hl
