-- Laws of bytes that stand in a list: one after the other, behind a head, four trees that are joined, and the square
-- of a side from those of its half, with the room that its children have.
use mathlib.Core.Path.{◌≡◌, refl, sym, ap, ap₂, ◌∙◌}
use mathlib.Core.Bool.{true, false}
use mathlib.Core.List.{List, [], ◌∷◌, ◌++◌, append_assoc}
use Prim.Native.Nat.{ℕ, zero, suc, ◌+◌, ◌-◌, ◌*◌, ◌/◌, ◌^◌, ◌≤◌, ◌<◌}
use native.Mathlib.Nat.{one-le-pow, mul-le-mul, mul_assoc, mul_left_comm, not-suc-le-zero, zero-add}
use native.Mathlib.Decide.{dec_lt}
use native.Mathlib.Omega.{arith}
use lib.ListN.{length, get_or, set, take, length-append, length-set, get_or-append}
use lib.Seq.{get_or-append-add, get_or-set_same, get_or-set_other, ext_get_or, get_or-take, length-take-le}
use Rattle.surface.specs.Quadtree.{Quadtree, leaf, bytes, join, region_tree}
use Rattle.surface.proofs.TreeForm.{equal-leaves}
use Rattle.quadtree.specs.Subtree.{row}
use Rattle.quadtree.specs.End.{equal_bytes}
use Rattle.quadtree.proofs.EqualLeaves.{equal-bytes}
use Rattle.quadtree.proofs.WalkLaws.{side-some}
use Rattle.regions.specs.Regions.{Stands, LeafAt, Joined, Writable, BuiltFrom, bytes_of}
use Rattle.regions.proofs.RegionLaws.{region-leaf}

-- ---- bytes that stand from a position on

stands-kept : {bs : List ℕ} {at next : ℕ} {out new : List ℕ} → Stands bs at next out
    → ((p : ℕ) → p < next → get_or new p 0 ≡ get_or out p 0) → Stands bs at next new
stands-kept {at} s same = record { ends = s.ends; here = λ i l. same (at + i) (omega arith) ∙ s.here i l }

stands-append : {ls bs : List ℕ} {at mid next : ℕ} {out : List ℕ} → Stands ls at mid out → Stands bs mid next out
    → Stands (ls ++ bs) at next out
stands-append {ls} {bs} {at} {mid} {next} {out} s t =
    record { ends = omega (arith, length-append ls bs); here = λ i l. go i l (dec_lt i (length ls)) }
  where
    go : (i : ℕ) → i < length (ls ++ bs) → Dec (i < length ls) → get_or out (at + i) 0 ≡ get_or (ls ++ bs) i 0
    go i l (yes h) = s.here i h ∙ sym (get_or-append ls bs 0 i h)
    go i l (no h) =
        let j = i - length ls in
        let later : length ls + j ≡ i = omega arith in
        ap (λ p. get_or out p 0) (omega arith)
        ∙ t.here j (omega (arith, length-append ls bs))
        ∙ sym (get_or-append-add ls bs j 0)
        ∙ ap (λ p. get_or (ls ++ bs) p 0) later

-- a byte that is written before others
stands-head : {bs : List ℕ} {at next : ℕ} {out : List ℕ} (v : ℕ) → at < length out → Stands bs (at + 1) next out
    → Stands (v ∷ bs) at next (set out at v)
stands-head {bs} {at} {next} {out} v fits s = record { ends = omega arith; here = here }
  where
    here : (i : ℕ) → i < length (v ∷ bs) → get_or (set out at v) (at + i) 0 ≡ get_or (v ∷ bs) i 0
    here zero l = ap (λ p. get_or (set out at v) p 0) (omega arith) ∙ get_or-set_same out at v 0 fits
    here (suc i) l =
        get_or-set_other out at (at + suc i) v 0 (λ e. omega arith)
        ∙ ap (λ p. get_or out p 0) (omega arith)
        ∙ s.here i (omega arith)

pub leaf-at : (at v : ℕ) (out : List ℕ) → length out ≡ 1365 → at < 1365 → LeafAt v at (at + 1) out (set out at v)
unfolding bytes
leaf-at at v out size fits =
    record {
      size = length-set out at v ∙ size;
      tree = stands-head {out = out} v (omega arith) (record { ends = omega arith; here = λ i. none i });
      before-it = λ p l. get_or-set_other out at p v 0 (λ e. omega arith);
    }
  where
    none : (i : ℕ) → i < 0 → get_or out (at + 1 + i) 0 ≡ get_or [] i 0
    none i l = absurd (not-suc-le-zero l)

-- ---- four trees as one

-- equal leaves are one leaf of their level; any other trees are the children of a split
pub joined-leaves : {at end next : ℕ} {out new : List ℕ} → at + 5 ≤ end → equal_bytes out (at + 1) end ≡ true
    → LeafAt (get_or out (at + 1) 0) at next out new → Joined at end next out new
unfolding bytes
joined-leaves {at} {end} {next} {out} {new} low same l =
    record {
      size = l.size;
      forth = omega (arith, l.tree.ends);
      room = omega (arith, l.tree.ends);
      tree = tree;
      before-it = l.before-it;
    }
  where
    level : (sw : Quadtree) (bs : List ℕ) (v : ℕ) → sw ≡ leaf v → Stands (bytes sw ++ bs) (at + 1) end out
        → get_or out (at + 1) 0 ≡ v
    level sw bs v e s = ap (λ p. get_or out p 0) (omega arith) ∙ (rw e at s).here 0 (omega arith)

    tree : (sw se nw ne : Quadtree) → Stands (row sw se nw ne) (at + 1) end out
        → Stands (bytes (join sw se nw ne)) at next new
    tree sw se nw ne s =
        let e = equal-bytes sw se nw ne out (at + 1) end s.ends s.here ∙ same in
        let q = equal-leaves sw se nw ne e in
        rw (e, q.leaves true true, ← level sw (bytes se ++ (bytes nw ++ bytes ne)) q.level (q.leaves true true) s)
        l.tree

pub joined-split : (at end : ℕ) (out : List ℕ) → length out ≡ 1365 → at + 5 ≤ end → end ≤ 1365
    → equal_bytes out (at + 1) end ≡ false → Joined at end end out (set out at 4)
unfolding bytes
joined-split at end out size low high other =
    record {
      size = length-set out at 4 ∙ size;
      forth = omega arith;
      room = omega arith;
      tree = λ sw se nw ne s.
          rw (equal-bytes sw se nw ne out (at + 1) end s.ends s.here ∙ other) (stands-head 4 (omega arith) s);
      before-it = λ p l. get_or-set_other out at p 4 0 (λ e. omega arith);
    }

-- ---- the square of a side from those of its half

-- the half of a side above 1, with its power and the areas
pub record Halved (side : ℕ) : Type 0 where
  pub j : ℕ
  pub half : side / 2 ≡ 2 ^ j
  pub twice : side ≡ 2 * (side / 2)
  pub some : 1 ≤ side / 2
  pub place : 1 ≤ side / 2 * (side / 2)
  pub area : side * side ≡ 4 * (side / 2 * (side / 2))

pub halved : (side k : ℕ) → side ≡ 2 ^ k → (side ≡ 1 → ⊥) → Halved side
halved side zero e n = absurd (n e)
halved side (suc j) e n =
    let power = one-le-pow j 2 (omega arith) in
    let half : side / 2 ≡ 2 ^ j = omega arith in
    let twice : side ≡ 2 * (side / 2) = omega arith in
    let positive : 1 ≤ side / 2 = omega arith in
    record {
      j = j;
      half = half;
      twice = twice;
      some = positive;
      place = mul-le-mul positive positive;
      area = square (side / 2) side twice;
    }
  where
    square : (h s : ℕ) → s ≡ 2 * h → s * s ≡ 4 * (h * h)
    square h s e = rw e (omega (arith, mul_assoc 2 h (2 * h), mul_left_comm h 2 h))

-- a square that may be written has bytes, and its children may be written one after the other
module _ {x y side at : ℕ} {out : List ℕ} (w : Writable x y side at out) where
  pub some : (1 ≤ side) × (1 ≤ side * side) × (at < 1365)
  some =
      let positive = side-some w.square in
      let area = mul-le-mul positive positive in
      (positive, area, omega (arith, w.room))

  module _ (more : side ≡ 1 → ⊥) where
    pub parts : Halved side
    parts = halved side w.square.height w.square.power more

    pub less : {n : ℕ} → side ≡ n → side / 2 < n
    less e = omega (arith, parts.twice, parts.some)

    part : {u v p : ℕ} {m : List ℕ} → (u + side / 2 ≤ 32) × (v + side / 2 ≤ 32)
        → 3 * p + 4 * (side / 2 * (side / 2)) ≤ 4096 → length m ≡ 1365 → Writable u v (side / 2) p m
    part f room size =
        record {
          square = record { height = parts.j; power = parts.half; in_u = f.0; in_v = f.1 };
          room = room;
          size = size;
        }

    pub first : {u v : ℕ} → (u + side / 2 ≤ 32) × (v + side / 2 ≤ 32) → Writable u v (side / 2) (at + 1) out
    first f = part f (omega (arith, w.room, parts.area, parts.place)) w.size

    module _ {lev₁ : ℕ → ℕ → ℕ} {x₁ y₁ p₁ : ℕ} {m₁ : List ℕ}
        (d₁ : BuiltFrom x₁ y₁ (side / 2) lev₁ (at + 1) p₁ out m₁) where
      pub second : {u v : ℕ} → (u + side / 2 ≤ 32) × (v + side / 2 ≤ 32) → Writable u v (side / 2) p₁ m₁
      second f = part f (omega (arith, w.room, parts.area, parts.place, d₁.room)) d₁.size

      module _ {lev₂ : ℕ → ℕ → ℕ} {x₂ y₂ p₂ : ℕ} {m₂ : List ℕ} (d₂ : BuiltFrom x₂ y₂ (side / 2) lev₂ p₁ p₂ m₁ m₂) where
        pub third : {u v : ℕ} → (u + side / 2 ≤ 32) × (v + side / 2 ≤ 32) → Writable u v (side / 2) p₂ m₂
        third f = part f (omega (arith, w.room, parts.area, parts.place, d₁.room, d₂.room)) d₂.size

        module _ {lev₃ : ℕ → ℕ → ℕ} {x₃ y₃ p₃ : ℕ} {m₃ : List ℕ}
            (d₃ : BuiltFrom x₃ y₃ (side / 2) lev₃ p₂ p₃ m₂ m₃) where
          pub fourth : {u v : ℕ} → (u + side / 2 ≤ 32) × (v + side / 2 ≤ 32) → Writable u v (side / 2) p₃ m₃
          fourth f =
              part f (omega (arith, w.room, parts.area, parts.place, d₁.room, d₂.room, d₃.room)) d₃.size

          pub written : {lev₄ : ℕ → ℕ → ℕ} {x₄ y₄ p₄ : ℕ} {m₄ : List ℕ}
              → BuiltFrom x₄ y₄ (side / 2) lev₄ p₃ p₄ m₃ m₄ → (at + 5 ≤ p₄) × (p₄ ≤ 1365) × (length m₄ ≡ 1365)
          written d₄ = (
            omega (arith, d₁.forth, d₂.forth, d₃.forth, d₄.forth),
            omega (arith, w.room, parts.area, d₁.room, d₂.room, d₃.room, d₄.room),
            d₄.size,
          )

-- a tree written behind others leaves them, and stands after them
onward : {ls : List ℕ} {at mid next x y side : ℕ} {lev : ℕ → ℕ → ℕ} {m new : List ℕ} (k : ℕ) → side ≡ 2 ^ k
    → Stands ls at mid m
    → BuiltFrom x y side lev mid next m new → Stands (ls ++ bytes_of k x y lev) at next new
onward k e s d = stands-append (stands-kept s d.before-it) (d.tree k e)

-- a square of one level is one leaf
pub built-leaf : {x y side at next v : ℕ} {lev : ℕ → ℕ → ℕ} {out new : List ℕ} → 1 ≤ side * side → v ≤ 3
    → LeafAt v at next out new → ((q r : ℕ) → x ≤ q → q < x + side → y ≤ r → r < y + side → lev q r ≡ v)
    → BuiltFrom x y side lev at next out new
unfolding bytes
built-leaf {x} {y} {side} {at} {next} {v} {lev} {out} {new} some low l same =
    record {
      size = l.size;
      forth = omega (arith, l.tree.ends);
      room = omega (arith, l.tree.ends);
      tree = λ k e.
          rw (region-leaf k x y v lev low (λ q r a b c d. same q r a (omega arith) c (omega arith))) l.tree;
      before-it = l.before-it;
    }

pub built-one : {x y side at next v : ℕ} {lev : ℕ → ℕ → ℕ} {out new : List ℕ} → side ≡ 1 → v ≤ 3 → v ≡ lev x y
    → LeafAt v at next out new → BuiltFrom x y side lev at next out new
built-one {lev = lev} one low same l =
    built-leaf (rw one (omega arith)) low l (λ q r a b c d. sym (same ∙ ap₂ lev (omega arith) (omega arith)))

region-join : (k x y h : ℕ) (lev : ℕ → ℕ → ℕ) → h ≡ 2 ^ k
    → region_tree (suc k) x y lev
    ≡ join (region_tree k x y lev) (region_tree k (x + h) y lev) (region_tree k x (y + h) lev)
    (region_tree k (x + h) (y + h) lev)
unfolding region_tree
region-join k x y h lev e = rw e

pub built-four : {x y side at : ℕ} {lev : ℕ → ℕ → ℕ} {p₁ p₂ p₃ p₄ next : ℕ} {out m₁ m₂ m₃ m₄ new : List ℕ}
    → Halved side
    → BuiltFrom x y (side / 2) lev (at + 1) p₁ out m₁
    → BuiltFrom (x + side / 2) y (side / 2) lev p₁ p₂ m₁ m₂
    → BuiltFrom x (y + side / 2) (side / 2) lev p₂ p₃ m₂ m₃
    → BuiltFrom (x + side / 2) (y + side / 2) (side / 2) lev p₃ p₄ m₃ m₄
    → Joined at p₄ next m₄ new
    → BuiltFrom x y side lev at next out new
built-four {x} {y} {side} {at} {lev} {next = next} {new = new} s d₁ d₂ d₃ d₄ jn =
    record {
      size = jn.size;
      forth = jn.forth;
      room = omega arith;
      tree = tree;
      before-it = λ p l.
          jn.before-it p l
          ∙ d₄.before-it p (omega arith)
          ∙ d₃.before-it p (omega arith)
          ∙ d₂.before-it p (omega arith)
          ∙ d₁.before-it p (omega arith);
    }
  where
    tree : (k : ℕ) → side ≡ 2 ^ k → Stands (bytes_of k x y lev) at next new
    tree zero e = absurd (omega (arith, s.twice))
    tree (suc k) e =
        let half : side / 2 ≡ 2 ^ k = omega arith in
        rw (region-join k x y (side / 2) lev half)
        (jn.tree
        (region_tree k x y lev)
        (region_tree k (x + side / 2) y lev)
        (region_tree k x (y + side / 2) lev)
        (region_tree k (x + side / 2) (y + side / 2) lev)
        (simp append_assoc at (onward k half (onward k half (onward k half (d₁.tree k half) d₂) d₃) d₄)))

-- ---- the whole tree

pub built-all : (lev : ℕ → ℕ → ℕ) {n : ℕ} {old out : List ℕ} → BuiltFrom 0 0 32 lev 0 n old out
    → (n ≤ 1365) × (take n out ≡ bytes_of 5 0 0 lev)
built-all lev {n} {old} {out} d =
    let t = d.tree 5 refl in
    let long : n ≡ length (bytes_of 5 0 0 lev) = t.ends ∙ zero-add (length (bytes_of 5 0 0 lev)) in
    let fits : n ≤ 1365 = omega (arith, d.room) in
    let size : length (take n out) ≡ n = length-take-le n out (omega (arith, d.size)) in (
      fits,
      ext_get_or 0 (take n out) (bytes_of 5 0 0 lev) (size ∙ long)
          (λ i l. get_or-take n out i 0 (omega arith)
          ∙ ap (λ p. get_or out p 0) (sym (zero-add i))
          ∙ t.here i (omega arith)),
    )
