-- Two steps, one along each direction, are document 01's subdivision step; each makes an entry at most 8 times larger.
use mathlib.Core.Path.{◌≡◌, refl, ◌∙◌}
use mathlib.Core.List.{List}
use Prim.Native.Nat.{ℕ, zero, suc, ◌+◌, ◌*◌, ◌/◌, ◌≤◌, ◌<◌}
use native.Mathlib.Nat.{le_refl, le_trans}
use native.Mathlib.Omega.{arith}
use lib.IntN.{ℤ, pos, nat_abs, ◌+ℤ◌, ◌*ℤ◌, +ℤ_idl, +ℤ_idr, zero-*ℤ}
use lib.Dec.{lit<}
use lib.ListN.{get_or}
use mir.Syntax.{w64}
use mir.Val.{SFits, to_z, of_z}
use mir.ValLaws.{to_z-of_z}
use Rattle.finite.specs.Range.{sum}
use Rattle.finite.proofs.Int.{*ℤ-add, one-*ℤ}
use Rattle.finite.proofs.Order.{abs-add, abs-mul}
use Rattle.finite.proofs.Weighted.{nested}
use Rattle.surface.specs.Patch.{stencil}
use Rattle.patch.specs.Patches.{entry, Bounded, Subdivided}
use Rattle.patch.specs.Steps.{Small, even_of, odd_of, children_of, patch_of, along_v, along_u}
use Rattle.patch.proofs.Size.{kept}
use Rattle.patch.proofs.Four.{each}

-- child c of the function f, from its three possible parents
abbrev child : ℕ → (ℕ → ℤ) → ℤ
child c f = sum 3 (λ i. pos (stencil c i) *ℤ f (c / 2 + i))

pub even-child : (x y z : ℤ) → even_of x y ≡ pos 0 +ℤ pos 4 *ℤ x +ℤ pos 4 *ℤ y +ℤ pos 0 *ℤ z
even-child x y z = rw (+ℤ_idl, zero-*ℤ z, +ℤ_idr) (*ℤ-add (pos 4) x y)

pub odd-child : (x y z : ℤ) → odd_of x y z ≡ pos 0 +ℤ pos 1 *ℤ x +ℤ pos 6 *ℤ y +ℤ pos 1 *ℤ z
odd-child x y z = rw (+ℤ_idl, one-*ℤ x, one-*ℤ z)

-- the code's four are those of the stencil
children-are : (g : ℕ) (f : ℕ → ℤ) → g ≤ 1 → (k : ℕ) → k < 4
    → get_or (children_of g (f 0) (f 1) (f 2) (f 3)) k (pos 0) ≡ child (g + k) f
unfolding children_of sum
children-are zero f h =
    each (λ k. get_or (children_of 0 (f 0) (f 1) (f 2) (f 3)) k (pos 0) ≡ child (0 + k) f)
    (even-child (f 0) (f 1) (f 2)) (odd-child (f 0) (f 1) (f 2))
    (even-child (f 1) (f 2) (f 3)) (odd-child (f 1) (f 2) (f 3))
children-are (suc zero) f h =
    each (λ k. get_or (children_of 1 (f 0) (f 1) (f 2) (f 3)) k (pos 0) ≡ child (1 + k) f)
    (odd-child (f 0) (f 1) (f 2)) (even-child (f 1) (f 2) (f 3))
    (odd-child (f 1) (f 2) (f 3)) (even-child (f 2) (f 3) (f 4))
children-are (suc (suc g)) f h = absurd (omega arith)

-- a number that was written is small still
pub small : (z : ℤ) → Small z → Small (to_z w64 (of_z w64 z))
small z h = rw (kept z h (lit< tt)) h

-- what the calls give, of the numbers that were passed
pub even-value : (x y : ℤ) {r : ℤ} → SFits w64 r → Small x → Small y
    → r ≡ even_of (to_z w64 (of_z w64 x)) (to_z w64 (of_z w64 y)) → to_z w64 (of_z w64 r) ≡ even_of x y
even-value x y {r} f hx hy e = to_z-of_z w64 r f ∙ e ∙ rw (kept x hx (lit< tt), kept y hy (lit< tt))

pub odd-value : (x y z : ℤ) {r : ℤ} → SFits w64 r → Small x → Small y → Small z
    → r ≡ odd_of (to_z w64 (of_z w64 x)) (to_z w64 (of_z w64 y)) (to_z w64 (of_z w64 z)) → to_z w64 (of_z w64 r) ≡ odd_of x y z
odd-value x y z {r} f hx hy hz e =
    to_z-of_z w64 r f ∙ e ∙ rw (kept x hx (lit< tt), kept y hy (lit< tt), kept z hz (lit< tt))

-- ---- the meaning of two steps

pub patch-entry : (f : ℕ → ℕ → ℤ) (k l : ℕ) → k < 4 → l < 4 → entry (patch_of f) k l ≡ f k l
patch-entry f k l hk hl =
    each (λ k. entry (patch_of f) k l ≡ f k l)
    (each (λ l. entry (patch_of f) 0 l ≡ f 0 l) refl refl refl refl l hl)
    (each (λ l. entry (patch_of f) 1 l ≡ f 1 l) refl refl refl refl l hl)
    (each (λ l. entry (patch_of f) 2 l ≡ f 2 l) refl refl refl refl l hl)
    (each (λ l. entry (patch_of f) 3 l ≡ f 3 l) refl refl refl refl l hl)
    k hk

pub row-entry : (p : List (List ℤ)) (h k l : ℕ) → k < 4 → l < 4
    → entry (along_v h p) k l
    ≡ get_or (children_of h (entry p k 0) (entry p k 1) (entry p k 2) (entry p k 3)) l (pos 0)
unfolding along_v
row-entry p h =
    patch-entry (λ k l. get_or (children_of h (entry p k 0) (entry p k 1) (entry p k 2) (entry p k 3)) l (pos 0))

pub column-entry : (p : List (List ℤ)) (g k l : ℕ) → k < 4 → l < 4
    → entry (along_u g p) k l
    ≡ get_or (children_of g (entry p 0 l) (entry p 1 l) (entry p 2 l) (entry p 3 l)) k (pos 0)
unfolding along_u
column-entry p g =
    patch-entry (λ k l. get_or (children_of g (entry p 0 l) (entry p 1 l) (entry p 2 l) (entry p 3 l)) k (pos 0))

-- a step along v, then one along u
pub subdivides : (p : List (List ℤ)) (g h : ℕ) → g ≤ 1 → h ≤ 1 → Subdivided g h p (along_u g (along_v h p))
subdivides p g h hg hh k l hk hl =
    let e : (i : ℕ) → i < 4 → entry (along_v h p) i l ≡ child (h + l) (entry p i) =
    λ i hi. row-entry p h i l hi hl ∙ children-are h (entry p i) hh l hl in
    column-entry (along_v h p) g k l hk hl
    ∙ (λ i. get_or (children_of g (e 0 (lit< tt) i) (e 1 (lit< tt) i) (e 2 (lit< tt) i) (e 3 (lit< tt) i)) k (pos 0))
    ∙ children-are g (λ i. child (h + l) (entry p i)) hg k hk
    ∙ nested 3 3 (λ i. pos (stencil (g + k) i)) (λ j. pos (stencil (h + l) j))
    (λ i j. entry p ((g + k) / 2 + i) ((h + l) / 2 + j))

-- ---- bounds

module _ {m : ℕ} where
  pub even-size : (x y : ℤ) → nat_abs x ≤ m → nat_abs y ≤ m → nat_abs (even_of x y) ≤ 8 * m
  even-size x y hx hy =
      let s = abs-mul (pos 4) (x +ℤ y) (le_refl 4) (abs-add x y hx hy) in
      omega arith

  pub odd-size : (x y z : ℤ) → nat_abs x ≤ m → nat_abs y ≤ m → nat_abs z ≤ m → nat_abs (odd_of x y z) ≤ 8 * m
  odd-size x y z hx hy hz =
      let s = abs-add (x +ℤ pos 6 *ℤ y) z (abs-add x (pos 6 *ℤ y) hx (abs-mul (pos 6) y (le_refl 6) hy)) hz in
      omega arith

children-size : (m g : ℕ) (a b c d : ℤ) → nat_abs a ≤ m → nat_abs b ≤ m → nat_abs c ≤ m → nat_abs d ≤ m → g ≤ 1
    → (k : ℕ) → k < 4 → nat_abs (get_or (children_of g a b c d) k (pos 0)) ≤ 8 * m
unfolding children_of
children-size m zero a b c d ha hb hc hd h =
    each (λ k. nat_abs (get_or (children_of 0 a b c d) k (pos 0)) ≤ 8 * m)
    (even-size a b ha hb) (odd-size a b c ha hb hc) (even-size b c hb hc) (odd-size b c d hb hc hd)
children-size m (suc zero) a b c d ha hb hc hd h =
    each (λ k. nat_abs (get_or (children_of 1 a b c d) k (pos 0)) ≤ 8 * m)
    (odd-size a b c ha hb hc) (even-size b c hb hc) (odd-size b c d hb hc hd) (even-size c d hc hd)
children-size m (suc (suc g)) a b c d ha hb hc hd h = absurd (omega arith)

pub bounded-le : {m n : ℕ} (p : List (List ℤ)) → m ≤ n → Bounded m p → Bounded n p
bounded-le p h b k l hk hl = le_trans (b k l hk hl) h

pub along-v-bounded : (m : ℕ) (p : List (List ℤ)) (h : ℕ) → h ≤ 1 → Bounded m p → Bounded (8 * m) (along_v h p)
along-v-bounded m p h hh b k l hk hl =
    rw (row-entry p h k l hk hl)
    (children-size m h (entry p k 0) (entry p k 1) (entry p k 2) (entry p k 3)
    (b k 0 hk (lit< tt)) (b k 1 hk (lit< tt)) (b k 2 hk (lit< tt)) (b k 3 hk (lit< tt)) hh l hl)
