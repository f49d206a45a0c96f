-- Region trees and their levels: each function of levels has one tree, and a well-formed tree is that of its levels.
use mathlib.Core.Bool.{Bool, true, false, cond}
use mathlib.Core.Logic.{◌⊎◌, inl, inr}
use mathlib.Core.Path.{◌≡◌, refl, sym, ap, ap₂, ◌∙◌, fun_ext}
use Prim.Native.Nat.{ℕ, zero, suc, ◌+◌, ◌-◌, ◌^◌, ◌≤◌, ◌<◌}
use native.Mathlib.Nat.{add-zero, add-sub_cancel_left}
use native.Mathlib.Omega.{arith}
use lib.Dec.{ltb}
use borrow.Author.Tests.{eq-eqb}
use Rattle.surface.specs.Sheet.{quarters}
use Rattle.surface.specs.Quadtree.{Quadtree, leaf, split, equal_leaves, well_formed}
use Rattle.surface.specs.Quadtree.{quadrant, within, level_at, join, region_tree}
use Rattle.surface.proofs.TreeForm.{half, half-add, half_lt, half-test, half-within, within-add, within-lt}
use Rattle.surface.proofs.TreeForm.{leaf-form, form-leaf, form-split, AtLeaves, AtSplits, form-induction}
use Rattle.surface.proofs.TreeForm.{Equal, equal-leaves}

-- P holds at each place of the square of side 2^k at (x, y).
abbrev pub Over : (k x y : ℕ) → (ℕ → ℕ → Type 0) → Type 0
Over k x y P = (q r : ℕ) → q < 2 ^ k → r < 2 ^ k → P (x + q) (y + r)

-- What holds over a square holds over each of its quarters.
pub over-part : (k x y : ℕ) (P : ℕ → ℕ → Type 0) → Over (suc k) x y P → (a b : Bool)
    → Over k (half a (2 ^ k) x) (half b (2 ^ k) y) P
over-part k x y P all a b q r lq lr =
    rw (half-add a (2 ^ k) x q, half-add b (2 ^ k) y r)
    (all (half a (2 ^ k) q) (half b (2 ^ k) r) (half_lt a k q lq) (half_lt b k r lr))

-- The tree t of the square of side 2^k at (x, y) has the levels lev.
abbrev pub Levels : (k x y : ℕ) → Quadtree → (ℕ → ℕ → ℕ) → Type 0
Levels k x y t lev = (q r : ℕ) → q < 2 ^ k → r < 2 ^ k → lev (x + q) (y + r) ≡ level_at k t q r

pub level_at-leaf : (k l q r : ℕ) → level_at k (leaf l) q r ≡ l
unfolding level_at
level_at-leaf zero l q r = refl
level_at-leaf (suc k) l q r = refl

module _ (k : ℕ) (sw se nw ne : Quadtree) where
  -- The level at a place of four joined trees is that in the tree that holds the place.
  pub level_at-join : (q r : ℕ)
      → level_at (suc k) (join sw se nw ne) q r
      ≡ level_at k (quadrant (ltb q (2 ^ k)) (ltb r (2 ^ k)) sw se nw ne) (within (2 ^ k) q) (within (2 ^ k) r)
  unfolding level_at
  level_at-join q r = go (equal_leaves sw se nw ne) refl
    where
      held : Quadtree
      held = quadrant (ltb q (2 ^ k)) (ltb r (2 ^ k)) sw se nw ne

      merged : Equal sw se nw ne → level_at (suc k) sw q r ≡ level_at k held (within (2 ^ k) q) (within (2 ^ k) r)
      merged eq = rw (eq.leaves (ltb q (2 ^ k)) (ltb r (2 ^ k)), eq.leaves true true, level_at-leaf k)

      go : (t : Bool) → equal_leaves sw se nw ne ≡ t
          → level_at (suc k) (cond t sw (split sw se nw ne)) q r
          ≡ level_at k held (within (2 ^ k) q) (within (2 ^ k) r)
      go true e = merged (equal-leaves sw se nw ne e)
      go false e = refl

  -- The same, from a place of a child.
  pub level_at-child : (a b : Bool) (q r : ℕ) → q < 2 ^ k → r < 2 ^ k
      → level_at (suc k) (split sw se nw ne) (half a (2 ^ k) q) (half b (2 ^ k) r)
      ≡ level_at k (quadrant a b sw se nw ne) q r
  unfolding level_at
  level_at-child a b q r lq lr =
      rw (half-within a (2 ^ k) q lq, half-within b (2 ^ k) r lr, half-test a (2 ^ k) q lq, half-test b (2 ^ k) r lr)

  pub levels-child : (x y : ℕ) (lev : ℕ → ℕ → ℕ) → Levels (suc k) x y (split sw se nw ne) lev → (a b : Bool)
      → Levels k (half a (2 ^ k) x) (half b (2 ^ k) y) (quadrant a b sw se nw ne) lev
  levels-child x y lev same a b q r lq lr =
      ap₂ lev (half-add a (2 ^ k) x q) (half-add b (2 ^ k) y r)
      ∙ same (half a (2 ^ k) q) (half b (2 ^ k) r) (half_lt a k q lq) (half_lt b k r lr)
      ∙ level_at-child a b q r lq lr

-- Four trees, given by low half or not in each direction, as one.
abbrev joined : (Bool → Bool → Quadtree) → Quadtree
joined c = join (c true true) (c false true) (c true false) (c false false)

joined-eq : (c d : Bool → Bool → Quadtree) → ((a b : Bool) → c a b ≡ d a b) → joined c ≡ joined d
joined-eq c d same = ap joined (fun_ext λ a. fun_ext λ b. same a b)

quadrant-of : (c : Bool → Bool → Quadtree) (a b : Bool)
    → quadrant a b (c true true) (c false true) (c true false) (c false false) ≡ c a b
quadrant-of c true true = refl
quadrant-of c false true = refl
quadrant-of c true false = refl
quadrant-of c false false = refl

-- The four trees of which a region's tree is joined.
abbrev parts : (k x y : ℕ) → (ℕ → ℕ → ℕ) → Bool → Bool → Quadtree
parts k x y lev a b = region_tree k (half a (2 ^ k) x) (half b (2 ^ k) y) lev

-- The tree of given levels has these levels.
pub level_at-region_tree : (k x y : ℕ) (lev : ℕ → ℕ → ℕ) (q r : ℕ) → q < 2 ^ k → r < 2 ^ k
    → level_at k (region_tree k x y lev) q r ≡ lev (x + q) (y + r)
unfolding region_tree
level_at-region_tree zero x y lev q r lq lr = level_at-leaf zero (lev x y) q r ∙ ap₂ lev (omega arith) (omega arith)
level_at-region_tree (suc k) x y lev q r lq lr =
    let a = ltb q (2 ^ k) in
    let b = ltb r (2 ^ k) in
    let q' = within (2 ^ k) q in
    let r' = within (2 ^ k) r in
    level_at-join k _ _ _ _ q r
    ∙ ap (λ t. level_at k t q' r') (quadrant-of (parts k x y lev) a b)
    ∙ level_at-region_tree k (half a (2 ^ k) x) (half b (2 ^ k) y) lev q' r' (within-lt k q lq) (within-lt k r lr)
    ∙ ap₂ lev (within-add (2 ^ k) x q) (within-add (2 ^ k) y r)

-- Equal levels over the square have one tree.
pub region_tree-ext : (k x y : ℕ) (f g : ℕ → ℕ → ℕ)
    → ((q r : ℕ) → q < 2 ^ k → r < 2 ^ k → f (x + q) (y + r) ≡ g (x + q) (y + r))
    → region_tree k x y f ≡ region_tree k x y g
unfolding region_tree
region_tree-ext zero x y f g same = ap leaf (rw (add-zero x, add-zero y) at (same 0 0 (omega arith) (omega arith)))
region_tree-ext (suc k) x y f g same =
    joined-eq (parts k x y f) (parts k x y g) λ a b.
    region_tree-ext k (half a (2 ^ k) x) (half b (2 ^ k) y) f g (over-part k x y (λ q r. f q r ≡ g q r) same a b)

-- The tree of one level is a leaf.
region_tree-one : (k x y l : ℕ) → region_tree k x y (λ _ _. l) ≡ leaf l
unfolding region_tree
region_tree-one zero x y l = refl
region_tree-one (suc k) x y l =
    joined-eq (parts k x y (λ _ _. l)) (λ a b. leaf l)
    (λ a b. region_tree-one k (half a (2 ^ k) x) (half b (2 ^ k) y) l)
    ∙ rw (eq-eqb l l refl)

-- A well-formed tree is the one tree of its levels.
pub region_tree-levels : (W H k x y : ℕ) (t : Quadtree) (lev : ℕ → ℕ → ℕ) → well_formed W H k x y t ≡ true
    → ((q r : ℕ) → q < 2 ^ k → r < 2 ^ k → lev (x + q) (y + r) ≡ level_at k t q r) → region_tree k x y lev ≡ t
unfolding region_tree
region_tree-levels W H k x y t lev = form-induction W H Only at_leaf at_split k x y t
  where
    Only : (k x y : ℕ) → Quadtree → Type 0
    Only k x y t = Levels k x y t lev → region_tree k x y lev ≡ t

    at_leaf : AtLeaves W H Only
    at_leaf k x y l f same =
        region_tree-ext k x y lev (λ _ _. l) (λ q r lq lr. same q r lq lr ∙ level_at-leaf k l q r)
        ∙ region_tree-one k x y l

    at_split : AtSplits W H Only
    at_split k x y sw se nw ne unequal part same =
        joined-eq (parts k x y lev) (λ a b. quadrant a b sw se nw ne)
        (λ a b. part a b (levels-child k sw se nw ne x y lev same a b))
        ∙ rw unequal

-- So two well-formed trees of the same levels are one.
pub one-tree : (W H k x y : ℕ) (s t : Quadtree) → well_formed W H k x y s ≡ true → well_formed W H k x y t ≡ true
    → ((q r : ℕ) → q < 2 ^ k → r < 2 ^ k → level_at k s q r ≡ level_at k t q r) → s ≡ t
one-tree W H k x y s t es et same =
    sym (region_tree-levels W H k x y s lev es (λ q r lq lr. own q r))
    ∙ region_tree-levels W H k x y t lev et (λ q r lq lr. own q r ∙ same q r lq lr)
  where
    lev : ℕ → ℕ → ℕ
    lev q r = level_at k s (q - x) (r - y)

    own : (q r : ℕ) → lev (x + q) (y + r) ≡ level_at k s q r
    own q r = rw (add-sub_cancel_left x q, add-sub_cancel_left y r)

-- Four well-formed trees joined are well-formed: equal leaves take their form from the one farthest out.
join-form : (W H k x y : ℕ) (sw se nw ne : Quadtree)
    → ((a b : Bool) → well_formed W H k (half a (2 ^ k) x) (half b (2 ^ k) y) (quadrant a b sw se nw ne) ≡ true)
    → well_formed W H (suc k) x y (join sw se nw ne) ≡ true
join-form W H k x y sw se nw ne child = go (equal_leaves sw se nw ne) refl
  where
    go : (t : Bool) → equal_leaves sw se nw ne ≡ t → well_formed W H (suc k) x y (cond t sw (split sw se nw ne)) ≡ true
    go true e =
        let eq = equal-leaves sw se nw ne e in
        let leaf-ne = rw (eq.leaves false false) at (child false false) in
        let far = leaf-form W H k (x + 2 ^ k) (y + 2 ^ k) eq.level leaf-ne in
        rw (eq.leaves true true)
        (form-leaf W H (suc k) x y eq.level (record {
          level = far.level;
          past_u = λ out. far.past_u (omega arith);
          past_v = λ out. far.past_v (omega arith);
        }))
    go false e = form-split W H k x y sw se nw ne (record { child = child; unequal = e })

-- The tree of levels 0 to 3 that are 0 beyond the sheet is well-formed.
pub region_tree-well_formed : (W H k x y : ℕ) (lev : ℕ → ℕ → ℕ) → ((q r : ℕ) → lev q r ≤ 3)
    → ((q r : ℕ) → quarters W ≤ q → lev q r ≡ 0) → ((q r : ℕ) → quarters H ≤ r → lev q r ≡ 0)
    → well_formed W H k x y (region_tree k x y lev) ≡ true
unfolding region_tree
region_tree-well_formed W H zero x y lev low past_u past_v =
    form-leaf W H zero x y (lev x y) (record {
      level = low x y;
      past_u = λ out. past_u x y (omega arith);
      past_v = λ out. past_v x y (omega arith);
    })
region_tree-well_formed W H (suc k) x y lev low past_u past_v =
    let c = parts k x y lev in
    join-form W H k x y (c true true) (c false true) (c true false) (c false false) λ a b.
    rw (quadrant-of c a b) (region_tree-well_formed W H k (half a (2 ^ k) x) (half b (2 ^ k) y) lev low past_u past_v)

-- What the form says of the level l at the place (q, r) of a square.
record LevelForm (W H k x y q r l : ℕ) : Type 0 where
  level : l ≤ 3
  past_u : q < 2 ^ k → quarters W ≤ x + q → l ≡ 0
  past_v : r < 2 ^ k → quarters H ≤ y + r → l ≡ 0

level-form : (W H k x y : ℕ) (t : Quadtree) → well_formed W H k x y t ≡ true
    → (q r : ℕ) → LevelForm W H k x y q r (level_at k t q r)
unfolding level_at
level-form W H = form-induction W H Formed at_leaf at_split
  where
    Formed : (k x y : ℕ) → Quadtree → Type 0
    Formed k x y t = (q r : ℕ) → LevelForm W H k x y q r (level_at k t q r)

    at_leaf : AtLeaves W H Formed
    at_leaf k x y l f q r =
        rw (level_at-leaf k l q r) (record {
          level = f.level;
          past_u = λ lq out. f.past_u (omega arith);
          past_v = λ lr out. f.past_v (omega arith);
        })

    at_split : AtSplits W H Formed
    at_split k x y sw se nw ne unequal part q r =
        let f = part (ltb q (2 ^ k)) (ltb r (2 ^ k)) (within (2 ^ k) q) (within (2 ^ k) r) in
        record {
          level = f.level;
          past_u = λ lq out. f.past_u (within-lt k q lq) (omega (arith, within-add (2 ^ k) x q));
          past_v = λ lr out. f.past_v (within-lt k r lr) (omega (arith, within-add (2 ^ k) y r));
        }

-- "Each quarter square has a level 0 to 3", and "squares beyond the sheet have level 0".
pub level_at-le : (W H k x y : ℕ) (t : Quadtree) (q r : ℕ) → well_formed W H k x y t ≡ true → level_at k t q r ≤ 3
level_at-le W H k x y t q r e = (level-form W H k x y t e q r).level

pub level_at-beyond : (W H k x y : ℕ) (t : Quadtree) (q r : ℕ) → well_formed W H k x y t ≡ true → q < 2 ^ k → r < 2 ^ k
    → ((quarters W ≤ x + q) ⊎ (quarters H ≤ y + r)) → level_at k t q r ≡ 0
level_at-beyond W H k x y t q r e lq lr (inl out) = (level-form W H k x y t e q r).past_u lq out
level_at-beyond W H k x y t q r e lq lr (inr out) = (level-form W H k x y t e q r).past_v lr out
