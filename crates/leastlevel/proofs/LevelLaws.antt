-- The least and the greatest level of the leaves visited are those of the quarter squares in the box.
use mathlib.Core.Path.{◌≡◌, ◌∙◌}
use mathlib.Core.Bool.{Bool, true, false, cond}
use Prim.Native.Nat.{ℕ, suc, ◌+◌, ◌-◌, ◌^◌, ◌≤◌, ◌<◌, min, max}
use native.Mathlib.Nat.{le_refl, le_antisymm, le-min, min-le_left, min-le_right, zero-max, one-le-pow, zero-add}
use native.Mathlib.Omega.{arith}
use lib.Dec.{ltb}
use Rattle.finite.proofs.Minima.{least-le-top}
use Rattle.finite.proofs.Tests.{both, and_intro, lts-true, lts-intro, between, between-true, between-intro, pick}
use Rattle.surface.specs.Sheet.{Box, quarters}
use Rattle.surface.specs.Quadtree.{Quadtree, leaf, well_formed, quadrant, within, level_at, meets}
use Rattle.surface.specs.Support.{least_where, greatest_where, in_box}
use Rattle.surface.proofs.Least.{least_where-le, le-least_where}
use Rattle.surface.proofs.Greatest.{le-greatest_where, greatest_where-le}
use Rattle.surface.proofs.TreeForm.{half, within-add, within-lt, half-add, half_lt, AtLeaves, AtSplits, form-induction}
use Rattle.surface.proofs.TreeLevels.{level_at-leaf, level_at-child}
use Rattle.boxes.specs.Boxes.{InSheet, overlap}
use Rattle.boxes.proofs.BoxLaws.{box_shares}
use Rattle.leastlevel.specs.Visits.{taken}

-- ---- along one direction: the places lo to hi - 1, and the n places of a square from x on

-- a square that meets the span has a place in it: the first that is not below the span
span-place : (lo hi x n : ℕ) → lo < hi → 0 < n → overlap lo hi x n ≡ true
    → (lo - x < n) × (between lo hi (x + (lo - x)) ≡ true)
span-place lo hi x n l z e =
    let p : (x < hi) × (lo < x + n) = lts-true x hi lo (x + n) e in
    (omega arith, between-intro lo hi (x + (lo - x)) (omega arith) (omega arith))

-- ---- squares and the box

module _ (b : Box) where
  -- P holds of each quarter square of the square of side 2^k at (x, y) that is in the box.
  abbrev InBox : (k x y : ℕ) → (ℕ → ℕ → Type 0) → Type 0
  InBox k x y P = (q r : ℕ) → q < 2 ^ k → r < 2 ^ k → in_box b (x + q) (y + r) ≡ true → P q r

  box-meets : (k x y : ℕ) → InBox k x y (λ q r. meets b k x y ≡ true)
  box-meets k x y q r lq lr e =
      box_shares b x y (2 ^ k) (x + q) (y + r) (omega arith) (omega arith) (omega arith) (omega arith) e

  meets-box : (k x y : ℕ) (P : ℕ → ℕ → Type 0) → b.u0 < b.u1 → b.v0 < b.v1 → meets b k x y ≡ true
      → InBox k x y P → P (b.u0 - x) (b.v0 - y)
  meets-box k x y P wide high e all =
      let es = both (overlap b.u0 b.u1 x (2 ^ k)) (overlap b.v0 b.v1 y (2 ^ k)) e in
      let u = span-place b.u0 b.u1 x (2 ^ k) wide (one-le-pow k 2 (omega arith)) es.0 in
      let v = span-place b.v0 b.v1 y (2 ^ k) high (one-le-pow k 2 (omega arith)) es.1 in
      all (b.u0 - x) (b.v0 - y) u.0 v.0
      (and_intro (between b.u0 b.u1 (x + (b.u0 - x))) (between b.v0 b.v1 (y + (b.v0 - y))) u.1 v.1)

-- ---- the levels of the leaves visited, taken together

abbrev of_four : (ℕ → ℕ → ℕ) → (Bool → Bool → ℕ) → ℕ
of_four op f = op (op (f true true) (f false true)) (op (f true false) (f false false))

-- A bound that two numbers taken together keep exactly when both keep it, and that the number for none keeps.
record Bound (op : ℕ → ℕ → ℕ) (none : ℕ) (P : ℕ → Type 0) : Type 0 where
  apart : (m n : ℕ) → P (op m n) → P m × P n
  joined : (m n : ℕ) → P m → P n → P (op m n)
  idle : P none

no_less : (m : ℕ) → m ≤ 3 → Bound min 3 (λ n. m ≤ n)
no_less m h = record { apart = λ a c p. (omega arith, omega arith); joined = λ a c p q. omega arith; idle = h }

no_more : (m : ℕ) → Bound max 0 (λ n. n ≤ m)
no_more m = record { apart = λ a c p. (omega arith, omega arith); joined = λ a c p q. omega arith; idle = omega arith }

module _ {op : ℕ → ℕ → ℕ} {none : ℕ} {P : ℕ → Type 0} (bound : Bound op none P) where
  one_of : (f : Bool → Bool → ℕ) → P (of_four op f) → (a c : Bool) → P (f a c)
  one_of f p true true = (bound.apart _ _ (bound.apart _ _ p).0).0
  one_of f p false true = (bound.apart _ _ (bound.apart _ _ p).0).1
  one_of f p true false = (bound.apart _ _ (bound.apart _ _ p).1).0
  one_of f p false false = (bound.apart _ _ (bound.apart _ _ p).1).1

  all_of : (f : Bool → Bool → ℕ) → ((a c : Bool) → P (f a c)) → P (of_four op f)
  all_of f p =
      bound.joined _ _ (bound.joined _ _ (p true true) (p false true))
      (bound.joined _ _ (p true false) (p false false))

  module _ (W H : ℕ) (b : Box) where
    -- those of each child
    abbrev in_child : (k x y : ℕ) → (sw se nw ne : Quadtree) → Bool → Bool → ℕ
    in_child k x y sw se nw ne a c =
        taken op none b k (half a (2 ^ k) x) (half c (2 ^ k) y) (quadrant a c sw se nw ne)

    -- A bound of the levels taken together is one of the level of each quarter square in the box.
    bound-each : (k x y : ℕ) (t : Quadtree) → well_formed W H k x y t ≡ true → P (taken op none b k x y t)
        → InBox b k x y (λ q r. P (level_at k t q r))
    unfolding taken level_at
    bound-each = form-induction W H Each at_leaf at_split
      where
        Each : (k x y : ℕ) → Quadtree → Type 0
        Each k x y t = P (taken op none b k x y t) → InBox b k x y (λ q r. P (level_at k t q r))

        at_leaf : AtLeaves W H Each
        at_leaf k x y l f p q r lq lr e = rw (level_at-leaf k l q r) (rw (box-meets b k x y q r lq lr e) at p)

        at_split : AtSplits W H Each
        at_split k x y sw se nw ne unequal part p q r lq lr e =
            let a = ltb q (2 ^ k) in
            let c = ltb r (2 ^ k) in
            part a c (one_of (in_child k x y sw se nw ne) (rw (box-meets b (suc k) x y q r lq lr e) at p) a c) (within (2 ^ k) q) (within (2 ^ k) r)
            (within-lt k q lq) (within-lt k r lr) (rw (within-add (2 ^ k) x q, within-add (2 ^ k) y r) e)

    -- A bound of each of these levels is one of all: a leaf that meets the box has a quarter square in it.
    bound_all : b.u0 < b.u1 → b.v0 < b.v1 → (k x y : ℕ) (t : Quadtree) → well_formed W H k x y t ≡ true
        → InBox b k x y (λ q r. P (level_at k t q r)) → P (taken op none b k x y t)
    unfolding taken
    bound_all wide high = form-induction W H All at_leaf at_split
      where
        All : (k x y : ℕ) → Quadtree → Type 0
        All k x y t = InBox b k x y (λ q r. P (level_at k t q r)) → P (taken op none b k x y t)

        at_leaf : AtLeaves W H All
        at_leaf k x y l f all =
            pick (meets b k x y) (λ c. P (cond c l none))
            (λ e. rw (level_at-leaf k l) at
            (meets-box b k x y (λ q r. P (level_at k (leaf l) q r)) wide high e all))
            (λ _. bound.idle)

        at_split : AtSplits W H All
        at_split k x y sw se nw ne unequal part all =
            pick (meets b (suc k) x y) (λ m. P (cond m (of_four op (in_child k x y sw se nw ne)) none))
            (λ _. all_of (in_child k x y sw se nw ne) λ a c.
            part a c λ q r lq lr e.
            rw (level_at-child k sw se nw ne a c q r lq lr) at
            (all (half a (2 ^ k) q) (half c (2 ^ k) r) (half_lt a k q lq) (half_lt c k r lr)
            (rw (← half-add a (2 ^ k) x q, ← half-add c (2 ^ k) y r) e)))
            (λ _. bound.idle)

-- ---- a box in the sheet

module _ (W H : ℕ) (b : Box) (w : W ≤ 8) (h : H ≤ 8) (s : InSheet W H b) where
  pub root-meets : meets b 5 0 0 ≡ true
  root-meets =
      and_intro (overlap b.u0 b.u1 0 32) (overlap b.v0 b.v1 0 32)
      (lts-intro 0 b.u1 b.u0 32 (omega arith) (omega arith))
      (lts-intro 0 b.v1 b.v0 32 (omega arith) (omega arith))

  -- what holds of each quarter square of the sheet in the box, and of each of the root's square
  abbrev OnSheet : (ℕ → ℕ → Type 0) → Type 0
  OnSheet P = (q r : ℕ) → q < quarters W → r < quarters H → in_box b q r ≡ true → P q r

  to-sheet : {P : ℕ → ℕ → Type 0} → InBox b 5 0 0 P → OnSheet P
  to-sheet all q r lq lr i = all q r (omega arith) (omega arith) (rw (zero-add q, zero-add r) i)

  from-sheet : {P : ℕ → ℕ → Type 0} → OnSheet P → InBox b 5 0 0 P
  from-sheet all q r lq lr i =
      let es = both (between b.u0 b.u1 (0 + q)) (between b.v0 b.v1 (0 + r)) i in
      let u = between-true b.u0 b.u1 (0 + q) es.0 in
      let v = between-true b.v0 b.v1 (0 + r) es.1 in
      all q r (omega arith) (omega arith) (rw (zero-add q, zero-add r) at i)

  module _ (t : Quadtree) (e : well_formed W H 5 0 0 t ≡ true) where
    abbrev lev : ℕ → ℕ → ℕ
    lev = level_at 5 t

    pub taken-least : min 3 (taken min 3 b 5 0 0 t) ≡ least_where W H lev (in_box b)
    taken-least =
        let m = min 3 (taken min 3 b 5 0 0 t) in
        let n = least_where W H lev (in_box b) in
        let low : m ≤ 3 = min-le_left 3 (taken min 3 b 5 0 0 t) in
        let top : n ≤ 3 = least-le-top 3 (quarters W) _ in
        le_antisymm
        (le-least_where W H m lev (in_box b) low
        (to-sheet (bound-each (no_less m low) W H b 5 0 0 t e (min-le_right 3 (taken min 3 b 5 0 0 t)))))
        (le-min top
        (bound_all (no_less n top) W H b s.0 s.1 5 0 0 t e (from-sheet (least_where-le W H lev (in_box b)))))

    pub taken-greatest : max 0 (taken max 0 b 5 0 0 t) ≡ greatest_where W H lev (in_box b)
    taken-greatest =
        let m = taken max 0 b 5 0 0 t in
        let n = greatest_where W H lev (in_box b) in
        zero-max m
        ∙ le_antisymm
        (bound_all (no_more n) W H b s.0 s.1 5 0 0 t e (from-sheet (le-greatest_where W H lev (in_box b))))
        (greatest_where-le W H lev (in_box b) m (to-sheet (bound-each (no_more m) W H b 5 0 0 t e (le_refl m))))
