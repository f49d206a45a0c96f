-- Region trees taken apart and put together: the two halves of a side, the form of a leaf and of a split.
use mathlib.Core.Bool.{Bool, true, false, ◌&&◌, ◌||◌, cond, false≢true, and-eq-true_iff, and-false}
use mathlib.Core.Path.{◌≡◌, refl, sym, ap, ◌∙◌}
use Prim.Native.Nat.{ℕ, zero, suc, ◌+◌, ◌-◌, ◌^◌, ◌≤◌, ◌<◌}
use native.Mathlib.Omega.{arith}
use lib.Dec.{leb, ltb, eqb}
use borrow.Author.Tests.{ltb-true, ltb-false, leb-true, eqb-true, eqb-false, not-true, lt-ltb, le-ltb, le-leb, lt-leb}
use Rattle.surface.specs.Sheet.{quarters}
use Rattle.surface.specs.Quadtree.{Quadtree, leaf, split, equal_leaves, well_formed, quadrant, within}

-- A coordinate taken to a half of a side of two h: the low half keeps it, the high half has it h further.
abbrev pub half : Bool → ℕ → ℕ → ℕ
half true h x = x
half false h x = x + h

-- A place in a half, seen from the whole.
pub half-add : (a : Bool) (h x q : ℕ) → half a h x + q ≡ x + half a h q
half-add true h x q = refl
half-add false h x q = omega arith

pub half_lt : (a : Bool) (k q : ℕ) → q < 2 ^ k → half a (2 ^ k) q < 2 ^ suc k
half_lt true k q l = omega arith
half_lt false k q l = omega arith

pub half-test : (a : Bool) (h q : ℕ) → q < h → ltb (half a h q) h ≡ a
half-test true h q l = lt-ltb q h l
half-test false h q l = le-ltb (q + h) h (omega arith)

pub half-within : (a : Bool) (h q : ℕ) → q < h → within h (half a h q) ≡ q
half-within true h q l = rw (lt-ltb q h l)
half-within false h q l = let e : h ≤ q + h = omega arith in rw (le-ltb (q + h) h e) (omega arith)

-- A place of the whole, seen from the half that holds it.
pub within-add : (h x q : ℕ) → half (ltb q h) h x + within h q ≡ x + q
within-add h x q = go (ltb q h) refl
  where
    go : (t : Bool) → ltb q h ≡ t → half t h x + cond t q (q - h) ≡ x + q
    go true e = refl
    go false e = omega (arith, ltb-false q h e)

pub within-lt : (k q : ℕ) → q < 2 ^ suc k → within (2 ^ k) q < 2 ^ k
within-lt k q l = go (ltb q (2 ^ k)) refl
  where
    go : (t : Bool) → ltb q (2 ^ k) ≡ t → cond t q (q - 2 ^ k) < 2 ^ k
    go true e = ltb-true q (2 ^ k) e
    go false e = omega (arith, ltb-false q (2 ^ k) e)

-- A leaf's form: a level 0 to 3, and level 0 where its square is not wholly on the sheet.
pub record LeafForm (W H k x y l : ℕ) : Type 0 where
  pub level : l ≤ 3
  pub past_u : quarters W < x + 2 ^ k → l ≡ 0
  pub past_v : quarters H < y + 2 ^ k → l ≡ 0

and_left : (a b : Bool) → (a && b) ≡ true → a ≡ true
and_left a b e = ((and-eq-true_iff a b).0 e).0

and_right : (a b : Bool) → (a && b) ≡ true → b ≡ true
and_right a b e = ((and-eq-true_iff a b).0 e).1

ruleset ands = (and_left, and_right)

or_left : (t c : Bool) → (t || c) ≡ true → c ≡ false → t ≡ true
or_left true c e n = refl
or_left false c e n = absurd (false≢true (sym n ∙ e))

pub leaf-form : (W H k x y l : ℕ) → well_formed W H k x y (leaf l) ≡ true → LeafForm W H k x y l
unfolding well_formed
leaf-form W H k x y l e =
    record {
      level = leb-true l 3 parts.0;
      past_u = λ out. none (rw (lt-leb (x + 2 ^ k) (quarters W) out));
      past_v = λ out. none (rw (lt-leb (y + 2 ^ k) (quarters H) out) (and-false (leb (x + 2 ^ k) (quarters W))));
    }
  where
    inside : Bool
    inside = leb (x + 2 ^ k) (quarters W) && leb (y + 2 ^ k) (quarters H)

    parts : (leb l 3 ≡ true) × ((eqb l 0 || inside) ≡ true)
    parts = (and-eq-true_iff (leb l 3) (eqb l 0 || inside)).0 e

    none : inside ≡ false → l ≡ 0
    none n = eqb-true l 0 (or_left (eqb l 0) inside parts.1 n)

pub form-leaf : (W H k x y l : ℕ) → LeafForm W H k x y l → well_formed W H k x y (leaf l) ≡ true
unfolding well_formed
form-leaf W H k x y l f = rw (le-leb l 3 f.level) (go (eqb l 0) refl)
  where
    inside : (e n : ℕ) → (n < e → l ≡ 0) → eqb l 0 ≡ false → leb e n ≡ true
    inside e n past t = let no_way : ¬ (n < e) = λ out. eqb-false l 0 t (past out) in le-leb e n (omega arith)

    go : (t : Bool) → eqb l 0 ≡ t → (t || (leb (x + 2 ^ k) (quarters W) && leb (y + 2 ^ k) (quarters H))) ≡ true
    go true t = refl
    go false t = rw (inside (x + 2 ^ k) (quarters W) f.past_u t) (inside (y + 2 ^ k) (quarters H) f.past_v t)

-- A split's form: that of each child, low half or not in each direction, and not all of them equal leaves.
pub record SplitForm (W H k x y : ℕ) (sw se nw ne : Quadtree) : Type 0 where
  pub child : (a b : Bool)
      → well_formed W H k (half a (2 ^ k) x) (half b (2 ^ k) y) (quadrant a b sw se nw ne) ≡ true
  pub unequal : equal_leaves sw se nw ne ≡ false

pub split-form : (W H k x y : ℕ) (sw se nw ne : Quadtree) → well_formed W H (suc k) x y (split sw se nw ne) ≡ true
    → SplitForm W H k x y sw se nw ne
unfolding well_formed
split-form W H k x y sw se nw ne e =
    record { child = child; unequal = not-true (equal_leaves sw se nw ne) (search ands) }
  where
    child : (a b : Bool) → well_formed W H k (half a (2 ^ k) x) (half b (2 ^ k) y) (quadrant a b sw se nw ne) ≡ true
    child true true = search ands
    child false true = search ands
    child true false = search ands
    child false false = search ands

pub form-split : (W H k x y : ℕ) (sw se nw ne : Quadtree) → SplitForm W H k x y sw se nw ne
    → well_formed W H (suc k) x y (split sw se nw ne) ≡ true
unfolding well_formed
form-split W H k x y sw se nw ne f =
    rw (f.child true true, f.child false true, f.child true false, f.child false false, f.unequal)

-- Induction over well-formed trees, for a property of the tree of the square of side 2^k at (x, y).
module _ (W H : ℕ) (P : (k x y : ℕ) → Quadtree → Type 0) where
  abbrev pub AtLeaves : Type 0
  AtLeaves = (k x y l : ℕ) → LeafForm W H k x y l → P k x y (leaf l)

  abbrev pub AtSplits : Type 0
  AtSplits = (k x y : ℕ) (sw se nw ne : Quadtree) → equal_leaves sw se nw ne ≡ false
      → ((a b : Bool) → P k (half a (2 ^ k) x) (half b (2 ^ k) y) (quadrant a b sw se nw ne))
      → P (suc k) x y (split sw se nw ne)

  pub form-induction : AtLeaves → AtSplits → (k x y : ℕ) (t : Quadtree) → well_formed W H k x y t ≡ true → P k x y t
  unfolding well_formed
  form-induction at_leaf at_split zero x y (leaf l) e = at_leaf zero x y l (leaf-form W H zero x y l e)
  form-induction at_leaf at_split zero x y (split sw se nw ne) e = absurd (false≢true e)
  form-induction at_leaf at_split (suc k) x y (leaf l) e = at_leaf (suc k) x y l (leaf-form W H (suc k) x y l e)
  form-induction at_leaf at_split (suc k) x y (split sw se nw ne) e =
      let f = split-form W H k x y sw se nw ne e in
      at_split k x y sw se nw ne f.unequal λ a b.
      form-induction at_leaf at_split k (half a (2 ^ k) x) (half b (2 ^ k) y) (quadrant a b sw se nw ne) (f.child a b)

-- Four equal leaves: their level.
pub record Equal (sw se nw ne : Quadtree) : Type 0 where
  pub level : ℕ
  pub leaves : (a b : Bool) → quadrant a b sw se nw ne ≡ leaf level

pub equal-leaves : (sw se nw ne : Quadtree) → equal_leaves sw se nw ne ≡ true → Equal sw se nw ne
equal-leaves (leaf a) (leaf b) (leaf c) (leaf d) e = record { level = a; leaves = leaves }
  where
    leaves : (s t : Bool) → quadrant s t (leaf a) (leaf b) (leaf c) (leaf d) ≡ leaf a
    leaves true true = refl
    leaves false true = ap leaf (sym (eqb-true a b (search ands)))
    leaves true false = ap leaf (sym (eqb-true a c (search ands)))
    leaves false false = ap leaf (sym (eqb-true a d (search ands)))
equal-leaves (leaf a) (leaf b) (leaf c) (split d e f g) h = absurd (false≢true h)
equal-leaves (leaf a) (leaf b) (split c d e f) g h = absurd (false≢true h)
equal-leaves (leaf a) (split b c d e) f g h = absurd (false≢true h)
equal-leaves (split a b c d) e f g h = absurd (false≢true h)
