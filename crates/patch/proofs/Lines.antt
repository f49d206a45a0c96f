-- Lines of four numbers in a patch, each replaced by its children in place, one after the other.
use mathlib.Core.Path.{◌≡◌, refl, sym, ap, ◌∙◌, transport}
use mathlib.Core.Bool.{Bool, true, false, cond}
use mathlib.Core.List.{List, [], ◌∷◌}
use Prim.Native.Nat.{ℕ, zero, suc, ◌<◌}
use native.Mathlib.Omega.{arith}
use lib.Dec.{lit<}
use lib.IntN.{ℤ, ◌+ℤ◌}
use mir.Syntax.{w64}
use mir.Val.{SFits, to_z, of_z}
use mir.ValLaws.{to_z-of_z}
use Rattle.patch.specs.Patches.{entry, Bounded}
use Rattle.patch.specs.Steps.{midway, Small, even_of, odd_of, children_of, patch_of, FourByFour, placed, with_place}
use Rattle.patch.specs.Steps.{Parents, with_line, with_children, place, along_v, along_u}
use Rattle.patch.proofs.Four.{each-of-each, four}

-- a number that a call gave, as it is passed on
pub given : {a r : ℤ} → SFits w64 r → r ≡ a → to_z w64 (of_z w64 r) ≡ a
given {r = r} f e = to_z-of_z w64 r f ∙ e

-- an odd child, of pairs that are known
pub odd_is : (a b c : ℤ) {xy y yz r : ℤ} → ((x z : ℤ) → xy ≡ x +ℤ y → yz ≡ y +ℤ z → r ≡ odd_of x y z)
    → yz ≡ b +ℤ c → y ≡ b → xy ≡ a +ℤ b → r ≡ odd_of a b c
odd_is a b c e p q s =
    e a c (s ∙ ap (λ t. a +ℤ t) (sym q)) (p ∙ ap (λ t. t +ℤ c) (sym q)) ∙ ap (λ t. odd_of a t c) q

-- the children in each half
module _ (a b c d : ℤ) {x y z t : ℤ} where
  pub children-0 : x ≡ even_of a b → y ≡ odd_of a b c → z ≡ even_of b c → t ≡ odd_of b c d
      → x ∷ y ∷ z ∷ t ∷ [] ≡ children_of 0 a b c d
  unfolding children_of
  children-0 p q r s = four p q r s

  pub children-1 : x ≡ odd_of a b c → y ≡ even_of b c → z ≡ odd_of b c d → t ≡ even_of c d
      → x ∷ y ∷ z ∷ t ∷ [] ≡ children_of 1 a b c d
  unfolding children_of
  children-1 p q r s = four p q r s

-- four children put at the places of their parents
pub line : (g : ℕ) (p : List (List ℤ)) (i j k l : ℕ) {x y z t : ℤ} {p₁ p₂ p₃ p₄ : List (List ℤ)}
    → p₁ ≡ with_place p i x → p₂ ≡ with_place p₁ j y → p₃ ≡ with_place p₂ k z → p₄ ≡ with_place p₃ l t
    → x ∷ y ∷ z ∷ t ∷ [] ≡ children_of g (placed p i) (placed p j) (placed p k) (placed p l)
    → p₄ ≡ with_children g p i j k l
unfolding with_children
line g p i j k l e₁ e₂ e₃ e₄ c = rw (e₄, e₃, e₂, e₁) (ap (with_line p i j k l) c)

-- ---- the lines of a direction, one after the other

-- the patch with the first n lines done
abbrev pub lines_done : Bool → ℕ → List (List ℤ) → ℕ → List (List ℤ)
lines_done v h p zero = p
lines_done v h p (suc n) =
    with_children h (lines_done v h p n) (place v n 0) (place v n 1) (place v n 2) (place v n 3)

-- what holds of the sixteen numbers holds of the patch
of-entries : (P : List (List ℤ) → Type 0) (p : List (List ℤ)) → FourByFour p → P (patch_of (entry p)) → P p
of-entries P p s h = transport (λ i. P (sym s i)) h

-- a line's places are in the patch
inside : (v : Bool) (m n : ℕ) → m < 4 → n < 4 → place v m n < 16
inside true m n hm hn = omega arith
inside false m n hm hn = omega arith

-- the numbers of a line that is left are as they were
untouched : (v : Bool) (h : ℕ) (f : ℕ → ℕ → ℤ) (m n : ℕ) → m < 4 → n < 4
    → placed (lines_done v h (patch_of f) m) (place v m n) ≡ cond v (f m n) (f n m)
unfolding with_children
untouched true h f =
    each-of-each (λ m n. placed (lines_done true h (patch_of f) m) (place true m n) ≡ f m n)
    refl refl refl refl refl refl refl refl refl refl refl refl refl refl refl refl
untouched false h f =
    each-of-each (λ m n. placed (lines_done false h (patch_of f) m) (place false m n) ≡ f n m)
    refl refl refl refl refl refl refl refl refl refl refl refl refl refl refl refl

small : (v : Bool) (p : List (List ℤ)) → Bounded midway p → (m n : ℕ) → m < 4 → n < 4
    → Small (cond v (entry p m n) (entry p n m))
small true p b m n hm hn = b m n hm hn
small false p b m n hm hn = b n m hn hm

-- so children can be made of them
module _ (v : Bool) (h : ℕ) (p : List (List ℤ)) (s : FourByFour p) (b : Bounded midway p) (m : ℕ) (hm : m < 4) where
  left : (n : ℕ) → n < 4 → Small (placed (lines_done v h p m) (place v m n))
  left n hn =
      of-entries (λ q. Small (placed (lines_done v h q m) (place v m n))) p s
      (rw (untouched v h (entry p) m n hm hn) (small v p b m n hm hn))

  pub parents : {q : List (List ℤ)} {i j k l : ℕ} → q ≡ lines_done v h p m
      → i ≡ place v m 0 → j ≡ place v m 1 → k ≡ place v m 2 → l ≡ place v m 3 → Parents q i j k l
  parents e ei ej ek el =
      let at : (n : ℕ) → n < 4 → (place v m n < 16) × Small (placed (lines_done v h p m) (place v m n)) =
      λ n hn. (inside v m n hm hn, left n hn) in
      let x = at 0 (lit< tt) in
      let y = at 1 (lit< tt) in
      let z = at 2 (lit< tt) in
      let t = at 3 (lit< tt) in
      rw (e, ei, ej, ek, el) (x.0, y.0, z.0, t.0, (x.1, y.1, z.1, t.1))

-- with all four done
all-done : (v : Bool) (h : ℕ) (f : ℕ → ℕ → ℤ)
    → lines_done v h (patch_of f) 4 ≡ cond v (along_v h (patch_of f)) (along_u h (patch_of f))
unfolding with_children along_v along_u
all-done true h f = refl
all-done false h f = refl

pub done : (v : Bool) (h : ℕ) (p : List (List ℤ)) → FourByFour p
    → lines_done v h p 4 ≡ cond v (along_v h p) (along_u h p)
done v h p s =
    of-entries (λ q. lines_done v h q 4 ≡ cond v (along_v h q) (along_u h q)) p s (all-done v h (entry p))

-- the rows of a step are four of four again
pub along-v-four : (h : ℕ) (p : List (List ℤ)) → FourByFour (along_v h p)
unfolding along_v
along-v-four h p = refl
