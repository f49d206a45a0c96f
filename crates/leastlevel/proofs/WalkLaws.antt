-- The walk of a subtree: where its children stand, and what it finds of a leaf, of a split and of the whole tree.
use mathlib.Core.Path.{◌≡◌, refl, ap, ◌∙◌}
use mathlib.Core.Bool.{true, false, cond}
use mathlib.Core.List.{List}
use Prim.Native.Nat.{ℕ, zero, suc, ◌+◌, ◌/◌, ◌^◌, ◌≤◌, ◌<◌, min, max}
use native.Mathlib.Nat.{one-le-pow, zero-add}
use native.Mathlib.Omega.{arith}
use lib.ListN.{length, get_or}
use borrow.Author.Tests.{le-leb, lt-leb}
use Rattle.surface.specs.Sheet.{Box}
use Rattle.surface.specs.Quadtree.{Quadtree, leaf, split, bytes, meets, visits}
use Rattle.quadtree.specs.Subtree.{Subtree, Readable}
use Rattle.surface.specs.Table.{tree_of, formed, regions_of, levels}
use Rattle.boxes.specs.Boxes.{InSheet, shares_area}
use Rattle.leastlevel.specs.declared.Levels.{Levels}
use Rattle.leastlevel.specs.Visits.{EndsAt, Visited, taken, WalkOf, WalkedOver, LevelsOf}
use Rattle.quadtree.proofs.SubtreeLaws.{subtree-inside, subtree-leaf, Split, subtree-split, tree-subtree}
use Rattle.leastlevel.proofs.LevelLaws.{root-meets, taken-least, taken-greatest}

pub readable-inside : {side : ℕ} {t : List ℕ} {at : ℕ} → Readable side t at → at < length t
readable-inside {side} {t} {at} f = (subtree-inside f.height t at f.tree f.stands).0

-- ---- a node

-- A split's byte changes no level, so that the walks of its children may go on from what was found.
pub visited-ready : (b at : ℕ) (f g : Levels) → 3 < b → f.least ≤ 3 → f.visited ≤ at → Visited b f g
    → (g.least ≤ 3) × (g.visited ≤ at + 1)
visited-ready b at f g above low few v = (rw (v.lowest, lt-leb b 3 above) low, omega (arith, v.counted))

-- ---- a tree away from the box

-- a tree whose square does not meet the box has no leaf visited
taken-away : (op : ℕ → ℕ → ℕ) (none : ℕ) (b : Box) (k x y : ℕ) (q : Quadtree) → meets b k x y ≡ false
    → taken op none b k x y q ≡ none
unfolding taken
taken-away op none b k x y (leaf l) e = rw e
taken-away op none b zero x y (split sw se nw ne) e = refl
taken-away op none b (suc k) x y (split sw se nw ne) e = rw e

pub walk-away : (b : Box) (t : List ℕ) (x y side at end : ℕ) (f : Levels) → Readable side t at → f.least ≤ 3
    → f.visited ≤ at → shares_area x y side b ≡ false → EndsAt t at end
    → WalkedOver x y side b t at end f f
walk-away b t x y side at end f r low few away ends =
    let e = ends r.height r.tree r.stands in
    record {
      low = low;
      few = omega arith;
      inside = omega (arith, (subtree-inside r.height t at r.tree r.stands).1);
      walks = λ k q p s.
          let unmet : meets b k x y ≡ false = rw p at away in
          record {
            ends = ends k q s;
            lowest = rw (taken-away min 3 b k x y q unmet) (omega arith);
            highest = rw (taken-away max 0 b k x y q unmet) (omega arith);
            counted = rw unmet (omega arith);
          };
    }

-- ---- a leaf

module _ (b : Box) (t : List ℕ) (x y side at : ℕ) (f g : Levels) (i : at < length t) (leafy : get_or t at 0 ≤ 3)
    (low : f.least ≤ 3) (few : f.visited ≤ at) (met : shares_area x y side b ≡ true) (v : Visited (get_or t at 0) f g)
  where
    leaf-walk : (k : ℕ) → side ≡ 2 ^ k → WalkOf k x y b (leaf (get_or t at 0)) at (at + 1) f g
    unfolding bytes taken visits
    leaf-walk k e =
        let m : meets b k x y ≡ true = rw e at met in
        record {
          ends = refl;
          lowest = rw m (v.lowest ∙ rw (le-leb (get_or t at 0) 3 leafy));
          highest = rw m (v.highest ∙ rw (le-leb (get_or t at 0) 3 leafy));
          counted = rw m v.counted;
        }

    pub walk-leaf : WalkedOver x y side b t at (at + 1) f g
    walk-leaf =
        record {
          low = rw (v.lowest, le-leb (get_or t at 0) 3 leafy) (omega arith);
          few = omega (arith, v.counted);
          inside = omega arith;
          walks = λ k q e p. rw (subtree-leaf k t at q p leafy) (leaf-walk k e);
        }

-- ---- a split

-- Four levels taken in one after the other are those of a split that meets the box.
taken-split : (op : ℕ → ℕ → ℕ) (none : ℕ) → ((m n o : ℕ) → op (op m n) o ≡ op m (op n o))
    → (b : Box) (j x y : ℕ) (sw se nw ne : Quadtree) → meets b (suc j) x y ≡ true
    → (m m1 m2 m3 m4 : ℕ) → m1 ≡ op m (taken op none b j x y sw) → m2 ≡ op m1 (taken op none b j (x + 2 ^ j) y se)
    → m3 ≡ op m2 (taken op none b j x (y + 2 ^ j) nw) → m4 ≡ op m3 (taken op none b j (x + 2 ^ j) (y + 2 ^ j) ne)
    → m4 ≡ op m (taken op none b (suc j) x y (split sw se nw ne))
unfolding taken
taken-split op none assoc b j x y sw se nw ne met m m1 m2 m3 m4 e1 e2 e3 e4 =
    let l1 = taken op none b j x y sw in
    let l2 = taken op none b j (x + 2 ^ j) y se in
    let l3 = taken op none b j x (y + 2 ^ j) nw in
    let l4 = taken op none b j (x + 2 ^ j) (y + 2 ^ j) ne in
    rw (e4, e3, e2, e1, met)
    (ap (λ n. op (op n l3) l4) (assoc m l1 l2) ∙ assoc (op m (op l1 l2)) l3 l4 ∙ assoc m (op l1 l2) (op l3 l4))

-- From what its byte and the walks of its children, of half the side, found one after the other.
module _ (b : Box) (k j x y side h byte : ℕ) (q sw se nw ne : Quadtree)
    (tall : k ≡ suc j) (whole : q ≡ split sw se nw ne) (full : side ≡ 2 ^ k) (half : h ≡ 2 ^ j) (above : 3 < byte)
    (met : shares_area x y side b ≡ true) {p1 p2 p3 p4 p5 : ℕ} {f g g1 g2 g3 g4 : Levels} (v : Visited byte f g)
    (w1 : WalkOf j x y b sw p1 p2 g g1) (w2 : WalkOf j (x + h) y b se p2 p3 g1 g2)
    (w3 : WalkOf j x (y + h) b nw p3 p4 g2 g3) (w4 : WalkOf j (x + h) (y + h) b ne p4 p5 g3 g4) where
  root-met : meets b (suc j) x y ≡ true
  root-met = rw (full, tall) at met

  lowest-split : g4.least ≡ min (f.least) (taken min 3 b k x y q)
  lowest-split =
      rw (tall, whole)
      (taken-split min 3 (λ m n o. omega arith) b j x y sw se nw ne root-met (f.least) (g1.least) (g2.least)
      (g3.least) (g4.least) (w1.lowest ∙ rw (v.lowest, lt-leb byte 3 above)) (w2.lowest ∙ rw half)
      (w3.lowest ∙ rw half) (w4.lowest ∙ rw half))

  highest-split : g4.greatest ≡ max (f.greatest) (taken max 0 b k x y q)
  highest-split =
      rw (tall, whole)
      (taken-split max 0 (λ m n o. omega arith) b j x y sw se nw ne root-met (f.greatest) (g1.greatest)
      (g2.greatest) (g3.greatest) (g4.greatest) (w1.highest ∙ rw (v.highest, lt-leb byte 3 above))
      (w2.highest ∙ rw half) (w3.highest ∙ rw half) (w4.highest ∙ rw half))

  counted-split : g4.visited ≡ f.visited + cond (meets b k x y) (visits b k x y q) 0
  unfolding visits
  counted-split =
      rw (w4.counted, w3.counted, w2.counted, w1.counted, v.counted, half, tall, whole, root-met) (omega arith)

  split-walk : (at : ℕ) → p5 ≡ at + length (bytes q) → WalkOf k x y b q at p5 f g4
  split-walk at e =
      record { ends = e; lowest = lowest-split; highest = highest-split; counted = counted-split }

module _ {side : ℕ} {t : List ℕ} {at : ℕ} (f : Readable side t at) (above : 3 < get_or t at 0) where
  parts : Split f.height t at f.tree
  parts = subtree-split f.height t at f.tree f.stands above

  full-side : side ≡ 2 ^ suc parts.j
  full-side = f.power ∙ ap (λ k. 2 ^ k) parts.height

  half-side : side / 2 ≡ 2 ^ parts.j
  half-side = omega (arith, full-side)

  pub half-less : side / 2 < side
  half-less = omega (arith, full-side, one-le-pow parts.j 2 (omega arith))

  readable : {p : ℕ} {q : Quadtree} → Subtree parts.j t p q → Readable (side / 2) t p
  readable {p} {q} s = record { height = parts.j; tree = q; power = half-side; stands = s }

  pub readable-first : Readable (side / 2) t (at + 1)
  readable-first = readable parts.first

  -- Each child stands where the walk of the one before it ended.
  module _ {b : Box} {x y p1 : ℕ} {g0 g1 : Levels} (w1 : WalkedOver x y (side / 2) b t (at + 1) p1 g0 g1) where
    walk_1 : WalkOf parts.j x y b parts.sw (at + 1) p1 g0 g1
    walk_1 = w1.walks parts.j parts.sw half-side parts.first

    second : Subtree parts.j t p1 parts.se
    second = rw walk_1.ends parts.second

    pub readable-second : Readable (side / 2) t p1
    readable-second = readable second

    module _ {p2 : ℕ} {g2 : Levels} (w2 : WalkedOver (x + side / 2) y (side / 2) b t p1 p2 g1 g2) where
      walk_2 : WalkOf parts.j (x + side / 2) y b parts.se p1 p2 g1 g2
      walk_2 = w2.walks parts.j parts.se half-side second

      third : Subtree parts.j t p2 parts.nw
      third = rw (walk_2.ends, walk_1.ends) parts.third

      pub readable-third : Readable (side / 2) t p2
      readable-third = readable third

      module _ {p3 : ℕ} {g3 : Levels} (w3 : WalkedOver x (y + side / 2) (side / 2) b t p2 p3 g2 g3) where
        walk_3 : WalkOf parts.j x (y + side / 2) b parts.nw p2 p3 g2 g3
        walk_3 = w3.walks parts.j parts.nw half-side third

        fourth : Subtree parts.j t p3 parts.ne
        fourth = rw (walk_3.ends, walk_2.ends, walk_1.ends) parts.fourth

        pub readable-fourth : Readable (side / 2) t p3
        readable-fourth = readable fourth

        walk-parts : {p4 : ℕ} {g g4 : Levels}
            → WalkedOver (x + side / 2) (y + side / 2) (side / 2) b t p3 p4 g3 g4
            → shares_area x y side b ≡ true → Visited (get_or t at 0) g g0
            → WalkOf f.height x y b f.tree at p4 g g4
        walk-parts {p4} w4 met v =
            let Walk-4 = w4.walks parts.j parts.ne half-side fourth in
            let e : p4 ≡ at + length (bytes f.tree) =
            omega (arith, Walk-4.ends, walk_3.ends, walk_2.ends, walk_1.ends, parts.end) in
            split-walk b f.height parts.j x y side (side / 2) (get_or t at 0)
            f.tree parts.sw parts.se parts.nw parts.ne
            parts.height parts.whole f.power half-side above met v walk_1 walk_2 walk_3 Walk-4 at e

pub walk_split : {side : ℕ} {t : List ℕ} {at : ℕ} {b : Box} {x y p1 p2 p3 p4 : ℕ} {g g0 g1 g2 g3 g4 : Levels}
    → 3 < get_or t at 0 → shares_area x y side b ≡ true → Visited (get_or t at 0) g g0
    → WalkedOver x y (side / 2) b t (at + 1) p1 g0 g1 → WalkedOver (x + side / 2) y (side / 2) b t p1 p2 g1 g2
    → WalkedOver x (y + side / 2) (side / 2) b t p2 p3 g2 g3
    → WalkedOver (x + side / 2) (y + side / 2) (side / 2) b t p3 p4 g3 g4
    → WalkedOver x y side b t at p4 g g4
walk_split above met v w1 w2 w3 w4 =
    record {
      low = w4.low;
      few = w4.few;
      inside = w4.inside;
      walks = λ k q e s. walk-parts (record { height = k; tree = q; power = e; stands = s }) above w1 w2 w3 w4 met v;
    }

-- ---- the whole tree

-- What was found before the first node.
abbrev pub nothing : Levels
nothing = record { least = 3; greatest = 0; visited = 0 }

-- A tree that is one leaf, visited.
pub visited-root : (l : ℕ) → l ≤ 3 → Visited l nothing (record { least = l; greatest = l; visited = 1 })
visited-root l h =
    record {
      lowest = rw (le-leb l 3 h) (omega arith);
      highest = rw (le-leb l 3 h) (omega arith);
      counted = refl;
    }

-- A walk of the whole tree finds the least and the greatest level under a box in the sheet, and visits its nodes.
pub walk-whole : (W H : ℕ) (b : Box) (t : List ℕ) (next : ℕ) (g : Levels) → W ≤ 8 → H ≤ 8
    → formed W H (tree_of t) ≡ true → InSheet W H b → WalkedOver 0 0 32 b t 0 next nothing g
    → LevelsOf W H t b (g.least) (g.greatest) (g.visited)
unfolding levels
walk-whole W H b t next g w h e i o =
    let q = regions_of (tree_of t) in
    let s = tree-subtree W H t e in
    let f = o.walks 5 q refl s.1 in
    record {
      lowest = f.lowest ∙ taken-least W H b w h i q s.2;
      highest = f.highest ∙ taken-greatest W H b w h i q s.2;
      counted =
          f.counted ∙ zero-add _
          ∙ ap (λ c. cond c (visits b 5 0 0 q) 0) (root-meets W H b w h i);
    }
