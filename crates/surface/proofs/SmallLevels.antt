-- A tree that is read has levels 0 to 3 alone.
use mathlib.Core.Bool.{Bool, true, false}
use mathlib.Core.List.{List, [], ◌∷◌}
use mathlib.Core.Path.{◌≡◌, refl}
use Prim.Native.Nat.{ℕ, zero, suc, ◌^◌, ◌≤◌}
use native.Mathlib.Omega.{arith}
use lib.Dec.{leb, ltb, eqb}
use borrow.Author.Tests.{leb-true}
use Rattle.surface.specs.Quadtree.{Quadtree, leaf, split, Parsed, none, found, and_then, parse_node, parse}
use Rattle.surface.specs.Quadtree.{quadrant, within, level_at}
use Rattle.surface.specs.Table.{tree_of, regions_of, levels}
use Rattle.surface.proofs.TreeLevels.{level_at-leaf}

abbrev Small : Quadtree → Type 0
Small t = (k q r : ℕ) → level_at k t q r ≤ 3

leaf-small : (l : ℕ) → l ≤ 3 → Small (leaf l)
leaf-small l low k q r = rw (level_at-leaf k l q r) low

split-small : (sw se nw ne : Quadtree) → Small sw → Small se → Small nw → Small ne → Small (split sw se nw ne)
unfolding level_at
split-small sw se nw ne a b c d zero q r = omega arith
split-small sw se nw ne a b c d (suc k) q r = go (ltb q (2 ^ k)) (ltb r (2 ^ k))
  where
    go : (west south : Bool) → level_at k (quadrant west south sw se nw ne) (within (2 ^ k) q) (within (2 ^ k) r) ≤ 3
    go true true = a k _ _
    go false true = b k _ _
    go true false = c k _ _
    go false false = d k _ _

abbrev Reads : (List ℕ → Parsed) → Type 0
Reads child = (s : List ℕ) (t : Quadtree) (rest : List ℕ) → child s ≡ found t rest → Small t

module _ (child : List ℕ → Parsed) (reads : Reads child) (t : Quadtree) (rest : List ℕ) where
  -- a child that is read off the front has small levels; the reading f goes on behind it
  next : (f : Quadtree → List ℕ → Parsed)
      → ((u : Quadtree) (s : List ℕ) → Small u → f u s ≡ found t rest → Small t)
      → (s : List ℕ) → and_then (child s) f ≡ found t rest → Small t
  next f more s = go (child s) refl
    where
      go : (p : Parsed) → child s ≡ p → and_then p f ≡ found t rest → Small t
      go none e n = let z : ◌≡◌ {A = ℕ} 0 1 = cc in absurd (omega arith)
      go (found u s') e m = more u s' (reads s u s' e) m

  node-small : (b : ℕ) (s : List ℕ) → parse_node child (b ∷ s) ≡ found t rest → Small t
  node-small b s e = go (leb b 3) (eqb b 4) refl refl
    where
      go : (u v : Bool) → leb b 3 ≡ u → eqb b 4 ≡ v → Small t
      go true v p q =
          let found-leaf : found (leaf b) s ≡ found t rest = rw (p, parse_node) at e in
          let same : t ≡ leaf b = cc in
          rw same (leaf-small b (leb-true b 3 p))
      go false true p q =
          next _
          (λ sw s₁ a. next _
          (λ se s₂ b. next _
          (λ nw s₃ c. next _
          (λ ne s₄ d m.
          let same : t ≡ split sw se nw ne = cc in
          rw same (split-small sw se nw ne a b c d)) s₃) s₂) s₁)
          s (rw (p, q, parse_node) at e)
      go false false p q =
          let n : none ≡ found t rest = rw (p, q, parse_node) at e in
          let z : ◌≡◌ {A = ℕ} 0 1 = cc in
          absurd (omega arith)

node-reads : (child : List ℕ → Parsed) → Reads child → Reads (parse_node child)
node-reads child reads [] t rest e = let z : ◌≡◌ {A = ℕ} 0 1 = cc in absurd (omega arith)
node-reads child reads (b ∷ s) t rest e = node-small child reads t rest b s e

parse-small : (k : ℕ) → Reads (parse k)
unfolding parse
parse-small zero = node-reads (λ _. none) (λ s t rest e. let z : ◌≡◌ {A = ℕ} 0 1 = cc in absurd (omega arith))
parse-small (suc k) = node-reads (parse k) (parse-small k)

pub levels-small : (t : List ℕ) (q r : ℕ) → levels t q r ≤ 3
unfolding levels
levels-small t q r = go (tree_of t) refl
  where
    go : (p : Parsed) → tree_of t ≡ p → level_at 5 (regions_of p) q r ≤ 3
    go none e = leaf-small 0 (omega arith) 5 q r
    go (found u rest) e = parse-small 5 t u rest e 5 q r
