-- Region trees as bytes: writing and reading undo one another, and how long a tree is.
use mathlib.Core.Bool.{Bool, true, false}
use mathlib.Core.List.{List, [], ◌∷◌, ◌++◌, append_assoc}
use mathlib.Core.Path.{◌≡◌, refl, sym, ap, ◌∙◌}
use Prim.Native.Nat.{ℕ, zero, suc, ◌+◌, ◌*◌, ◌^◌, ◌≤◌}
use native.Mathlib.Nat.{one-le-pow}
use native.Mathlib.Omega.{arith}
use lib.Dec.{leb, eqb}
use lib.ListN.{length, length-append}
use borrow.Author.Tests.{eqb-true, le-leb}
use Rattle.surface.specs.Quadtree.{Quadtree, leaf, split, bytes, Parsed, none, found, and_then}
use Rattle.surface.specs.Quadtree.{parse_node, parse, well_formed}
use Rattle.surface.proofs.TreeForm.{AtLeaves, AtSplits, form-induction}

node-leaf : (child : List ℕ → Parsed) (l : ℕ) (s : List ℕ) → leb l 3 ≡ true
    → parse_node child (l ∷ s) ≡ found (leaf l) s
node-leaf child l s e = rw (e, parse_node)

leaf-read : (k l : ℕ) (s : List ℕ) → l ≤ 3 → parse k (l ∷ s) ≡ found (leaf l) s
unfolding parse
leaf-read zero l s h = node-leaf (λ _. none) l s (le-leb l 3 h)
leaf-read (suc k) l s h = node-leaf (parse k) l s (le-leb l 3 h)

split-bytes : (sw se nw ne : Quadtree) (rest : List ℕ)
    → bytes (split sw se nw ne) ++ rest ≡ 4 ∷ (bytes sw ++ (bytes se ++ (bytes nw ++ (bytes ne ++ rest))))
unfolding bytes
split-bytes sw se nw ne rest = simp append_assoc

-- A written tree is read back, whatever stands after it.
pub parse-bytes : (W H k x y : ℕ) (t : Quadtree) (rest : List ℕ) → well_formed W H k x y t ≡ true
    → parse k (bytes t ++ rest) ≡ found t rest
unfolding parse bytes
parse-bytes W H k x y t rest e = form-induction W H Read at_leaf at_split k x y t e rest
  where
    Read : (k x y : ℕ) → Quadtree → Type 0
    Read k x y t = (rest : List ℕ) → parse k (bytes t ++ rest) ≡ found t rest

    at_leaf : AtLeaves W H Read
    at_leaf k x y l f rest = leaf-read k l rest f.level

    at_split : AtSplits W H Read
    at_split k x y sw se nw ne unequal part rest =
        ap (parse (suc k)) (split-bytes sw se nw ne rest)
        ∙ rw (part true true _, part false true _, part true false _, part false false rest)

-- A reader takes exactly the bytes of the tree that it finds.
abbrev Reads : (List ℕ → Parsed) → Type 0
Reads child = (s : List ℕ) (t : Quadtree) (rest : List ℕ) → child s ≡ found t rest → s ≡ bytes t ++ rest

module _ (child : List ℕ → Parsed) (reads : Reads child) (t : Quadtree) (rest : List ℕ) where
  -- One child is read off s, which stands at the end of the list c s; the reading f goes on behind it.
  next : (f : Quadtree → List ℕ → Parsed) (c : List ℕ → List ℕ)
      → ((u : Quadtree) (s : List ℕ) → f u s ≡ found t rest → c (bytes u ++ s) ≡ bytes t ++ rest)
      → (s : List ℕ) → and_then (child s) f ≡ found t rest → c s ≡ bytes t ++ rest
  next f c more s = go (child s) refl
    where
      go : (p : Parsed) → child s ≡ p → and_then p f ≡ found t rest → c s ≡ bytes t ++ rest
      go none e n = cc
      go (found u s') e m = ap c (reads s u s' e) ∙ more u s' m

  node-read : (b : ℕ) (s : List ℕ) → parse_node child (b ∷ s) ≡ found t rest
      → ◌≡◌ {A = List ℕ} (b ∷ s) (bytes t ++ rest)
  unfolding bytes
  node-read b s e = go (leb b 3) (eqb b 4) refl refl
    where
      go : (u v : Bool) → leb b 3 ≡ u → eqb b 4 ≡ v → ◌≡◌ {A = List ℕ} (b ∷ s) (bytes t ++ rest)
      go true v p q = cc (node-leaf child b s p)
      go false true p q =
          ap (λ (i : ℕ). i ∷ s) (eqb-true b 4 q)
          ∙ next _ (λ s₀. 4 ∷ s₀)
          (λ sw. next _ (λ s₁. 4 ∷ (bytes sw ++ s₁))
          (λ se. next _ (λ s₂. 4 ∷ (bytes sw ++ (bytes se ++ s₂)))
          (λ nw. next _ (λ s₃. 4 ∷ (bytes sw ++ (bytes se ++ (bytes nw ++ s₃))))
          (λ ne s₄ m. sym (split-bytes sw se nw ne s₄) ∙ (cc)))))
          s (rw (p, q, parse_node) at e)
      go false false p q = let n : none ≡ found t rest = rw (p, q, parse_node) at e in cc

node-reads : (child : List ℕ → Parsed) → Reads child → Reads (parse_node child)
node-reads child reads [] t rest e = cc
node-reads child reads (b ∷ s) t rest e = node-read child reads t rest b s e

-- What is read is the tree's bytes, and what is left stands behind them.
pub bytes-parse : (k : ℕ) (s : List ℕ) (t : Quadtree) (rest : List ℕ) → parse k s ≡ found t rest → s ≡ bytes t ++ rest
unfolding parse
bytes-parse zero = node-reads (λ _. none) (λ s t rest e. cc)
bytes-parse (suc k) = node-reads (parse k) (bytes-parse k)

-- A tree of k halvings has at most 1 + 4 + ... + 4^k nodes, of a byte each.
pub bytes-length : (W H k x y : ℕ) (t : Quadtree) → well_formed W H k x y t ≡ true
    → (1 ≤ length (bytes t)) × (3 * length (bytes t) + 1 ≤ 4 ^ suc k)
unfolding bytes
bytes-length W H = form-induction W H Sized at_leaf at_split
  where
    Sized : (k x y : ℕ) → Quadtree → Type 0
    Sized k x y t = (1 ≤ length (bytes t)) × (3 * length (bytes t) + 1 ≤ 4 ^ suc k)

    at_leaf : AtLeaves W H Sized
    at_leaf k x y l f = omega (arith, one-le-pow k 4 (omega arith))

    at_split : AtSplits W H Sized
    at_split k x y sw se nw ne unequal part =
        simp length-append (omega (arith, part true true, part false true, part true false, part false false))

-- The root's square has a side of 32 quarters.
pub tree-length : (W H x y : ℕ) (t : Quadtree) → well_formed W H 5 x y t ≡ true
    → (1 ≤ length (bytes t)) × (length (bytes t) ≤ 1365)
tree-length W H x y t e = omega (arith, bytes-length W H 5 x y t e)
