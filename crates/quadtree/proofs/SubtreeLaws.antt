-- Subtrees by their positions in the written tree: where they end, what their first byte says, and that they are
-- unique.
use mathlib.Core.Bool.{Bool, true, false, false≢true}
use mathlib.Core.List.{List, [], ◌∷◌}
use mathlib.Core.Path.{◌≡◌, refl, sym, ap, ◌∙◌}
use Prim.Native.Nat.{ℕ, zero, suc, ◌+◌, ◌≤◌, ◌<◌}
use native.Mathlib.Numerals.{add-one}
use native.Mathlib.Omega.{arith}
use lib.Dec.{leb, eqb}
use lib.ListN.{length, drop, get_or, length-append, length-drop, get_or-append}
use lib.Seq.{drop-cons, drop-drop, drop-append_seam, get_or-drop}
use borrow.Author.Tests.{eqb-true, eqb-false, le-leb, lt-leb, ne_eqb}
use Rattle.surface.specs.Quadtree.{Quadtree, leaf, split, bytes, Parsed, none, found, and_then}
use Rattle.surface.specs.Quadtree.{parse_node, parse, well_formed}
use Rattle.surface.specs.Table.{tree_of, formed, regions_of}
use Rattle.surface.proofs.TreeBytes.{bytes-parse}
use Rattle.quadtree.specs.Subtree.{Subtree, Readable}

-- A tree has a byte for its root at least.
pub bytes-some : (q : Quadtree) → 1 ≤ length (bytes q)
unfolding bytes
bytes-some (leaf l) = omega arith
bytes-some (split sw se nw ne) = omega arith

-- What is left after a tree that is read from a position on starts behind the tree's bytes.
pub parse-stands : (k : ℕ) (t : List ℕ) (at : ℕ) (q : Quadtree) (rest : List ℕ) → parse k (drop at t) ≡ found q rest
    → Subtree k t at q
parse-stands k t at q rest e =
    e
    ∙ ap (found q)
    (sym (drop-append_seam (bytes q) rest)
    ∙ ap (drop (length (bytes q))) (sym (bytes-parse k (drop at t) q rest e))
    ∙ drop-drop (length (bytes q)) at t)

-- A subtree starts and ends within the written tree.
pub subtree-inside : (k : ℕ) (t : List ℕ) (at : ℕ) (q : Quadtree) → Subtree k t at q
    → (at < length t) × (at + length (bytes q) ≤ length t)
subtree-inside k t at q s =
    let whole = ap length (bytes-parse k (drop at t) q (drop (at + length (bytes q)) t) s) in
    omega (arith, simp (length-drop, length-append) at whole, bytes-some q)

found-tree : (p q : Quadtree) (r s : List ℕ) → found p r ≡ found q s → p ≡ q
found-tree p q r s e = cc

-- There is one subtree at a position.
pub subtree-unique : (k : ℕ) (t : List ℕ) (at : ℕ) (p q : Quadtree) → Subtree k t at p → Subtree k t at q → p ≡ q
subtree-unique k t at p q u v = found-tree p q _ _ (sym u ∙ v)

-- A subtree's bytes.
pub subtree-bytes : (k : ℕ) (t : List ℕ) (at : ℕ) (q : Quadtree) → Subtree k t at q → (i : ℕ) → i < length (bytes q)
    → get_or t (at + i) 0 ≡ get_or (bytes q) i 0
subtree-bytes k t at q s i inside =
    let rest = drop (at + length (bytes q)) t in
    sym (get_or-drop at t i 0)
    ∙ ap (λ l. get_or l i 0) (bytes-parse k (drop at t) q rest s)
    ∙ get_or-append (bytes q) rest 0 i inside

-- The byte at a position and those after it.
pub from : (t : List ℕ) (at : ℕ) → at < length t → drop at t ≡ get_or t at 0 ∷ drop (at + 1) t
from t at inside = rw add-one (drop-cons t at 0 inside)

pub read_none : (k : ℕ) → parse k [] ≡ none
unfolding parse
read_none zero = refl
read_none (suc k) = refl

read-leaf : (k b : ℕ) (s : List ℕ) → leb b 3 ≡ true → parse k (b ∷ s) ≡ found (leaf b) s
unfolding parse
read-leaf zero b s low = rw (low, parse_node)
read-leaf (suc k) b s low = rw (low, parse_node)

-- Bytes 0 to 3 are a leaf.
pub leaf-subtree : (k : ℕ) (t : List ℕ) (at : ℕ) → at < length t → get_or t at 0 ≤ 3
    → Subtree k t at (leaf (get_or t at 0))
leaf-subtree k t at inside low =
    parse-stands k t at (leaf (get_or t at 0)) (drop (at + 1) t)
    (ap (parse k) (from t at inside) ∙ read-leaf k (get_or t at 0) (drop (at + 1) t) (le-leb (get_or t at 0) 3 low))

pub subtree-leaf : (k : ℕ) (t : List ℕ) (at : ℕ) (q : Quadtree) → Subtree k t at q → get_or t at 0 ≤ 3
    → q ≡ leaf (get_or t at 0)
subtree-leaf k t at q s low =
    subtree-unique k t at q (leaf (get_or t at 0)) s (leaf-subtree k t at (subtree-inside k t at q s).0 low)

-- A split with its children, each of which starts where the one before it ends.
pub record Split (k : ℕ) (t : List ℕ) (at : ℕ) (q : Quadtree) : Type 0 where
  pub j : ℕ
  pub sw : Quadtree
  pub se : Quadtree
  pub nw : Quadtree
  pub ne : Quadtree
  pub height : k ≡ suc j
  pub whole : q ≡ split sw se nw ne
  pub first : Subtree j t (at + 1) sw
  pub second : Subtree j t (at + 1 + length (bytes sw)) se
  pub third : Subtree j t (at + 1 + length (bytes sw) + length (bytes se)) nw
  pub fourth : Subtree j t (at + 1 + length (bytes sw) + length (bytes se) + length (bytes nw)) ne
  pub end : at + length (bytes q)
      ≡ at + 1 + length (bytes sw) + length (bytes se) + length (bytes nw) + length (bytes ne)

-- The children of a split, read one after another.
unfoldable pub children : ℕ → List ℕ → Parsed
children k s =
    and_then (parse k s) λ sw s1.
    and_then (parse k s1) λ se s2.
    and_then (parse k s2) λ nw s3.
    and_then (parse k s3) λ ne s4.
    found (split sw se nw ne) s4

pub read-split : (k : ℕ) (s : List ℕ) → parse (suc k) (4 ∷ s) ≡ children k s
unfolding parse children
read-split k s = refl

-- No other byte starts a tree, and none above 3 starts that of a single quarter.
pub read-wrong : (k b : ℕ) (s : List ℕ) → 3 < b → (b ≡ 4 → k ≡ 0) → parse k (b ∷ s) ≡ none
unfolding parse
read-wrong zero b s high wrong = rw (lt-leb b 3 high, parse_node) (go (eqb b 4))
  where
    go : (u : Bool) → elim u [ true ↦ none | false ↦ none ] ≡ none
    go true = refl
    go false = refl
read-wrong (suc k) b s high wrong =
    rw (lt-leb b 3 high, ne_eqb b 4 (λ e. let z = wrong e in omega arith), parse_node)

pub split-length : (sw se nw ne : Quadtree) (at : ℕ)
    → at + length (bytes (split sw se nw ne))
    ≡ at + 1 + length (bytes sw) + length (bytes se) + length (bytes nw) + length (bytes ne)
unfolding bytes
split-length sw se nw ne at = simp length-append (omega arith)

-- Byte 4 is a split, if its four children follow.
pub split-subtree : (k : ℕ) (t : List ℕ) (at : ℕ) (sw se nw ne : Quadtree) → at < length t → get_or t at 0 ≡ 4
    → Subtree k t (at + 1) sw → Subtree k t (at + 1 + length (bytes sw)) se
    → Subtree k t (at + 1 + length (bytes sw) + length (bytes se)) nw
    → Subtree k t (at + 1 + length (bytes sw) + length (bytes se) + length (bytes nw)) ne
    → Subtree (suc k) t at (split sw se nw ne)
unfolding children
split-subtree k t at sw se nw ne inside four a b c d =
    parse-stands (suc k) t at (split sw se nw ne)
    (drop (at + 1 + length (bytes sw) + length (bytes se) + length (bytes nw) + length (bytes ne)) t)
    (ap (parse (suc k)) (from t at inside ∙ ap (λ i. i ∷ drop (at + 1) t) four)
    ∙ read-split k (drop (at + 1) t)
    ∙ rw (a, b, c, d))

never : {A : Type 0} (q : Quadtree) (rest : List ℕ) → none ≡ found q rest → A
never q rest e = let z : ◌≡◌ {A = ℕ} 0 1 = cc in absurd (omega arith)

-- One child read from a position on, where more was read behind it: where it stands, and how the reading went on.
record Next (k : ℕ) (t : List ℕ) (at : ℕ) (f : Quadtree → List ℕ → Parsed) (q : Quadtree) (rest : List ℕ)
    : Type 0 where
  tree : Quadtree
  stands : Subtree k t at tree
  goes : f tree (drop (at + length (bytes tree)) t) ≡ found q rest

next : (k : ℕ) (t : List ℕ) (at : ℕ) (f : Quadtree → List ℕ → Parsed) (q : Quadtree) (rest : List ℕ)
    → and_then (parse k (drop at t)) f ≡ found q rest → Next k t at f q rest
next k t at f q rest e = go (parse k (drop at t)) refl
  where
    go : (p : Parsed) → parse k (drop at t) ≡ p → Next k t at f q rest
    go none n = never q rest (rw n at e)
    go (found u after) n =
        let s = parse-stands k t at u after n in
        record { tree = u; stands = s; goes = rw s at e }

split-children : (k : ℕ) (t : List ℕ) (at : ℕ) (q : Quadtree) (rest : List ℕ)
    → children k (drop (at + 1) t) ≡ found q rest → Split (suc k) t at q
unfolding children
split-children k t at q rest e =
    let sw = next k t (at + 1) _ q rest e in
    let se = next k t _ _ q rest sw.goes in
    let nw = next k t _ _ q rest se.goes in
    let ne = next k t _ _ q rest nw.goes in
    let whole = sym (found-tree (split sw.tree se.tree nw.tree ne.tree) q _ rest ne.goes) in
    record {
      j = k;
      sw = sw.tree;
      se = se.tree;
      nw = nw.tree;
      ne = ne.tree;
      height = refl;
      whole = whole;
      first = sw.stands;
      second = se.stands;
      third = nw.stands;
      fourth = ne.stands;
      end = ap (λ p. at + length (bytes p)) whole ∙ split-length sw.tree se.tree nw.tree ne.tree at;
    }

-- A tree whose first byte is no leaf's is a split.
pub subtree-split : (k : ℕ) (t : List ℕ) (at : ℕ) (q : Quadtree) → Subtree k t at q → 3 < get_or t at 0 → Split k t at q
subtree-split k t at q s above = go k (eqb (get_or t at 0) 4) refl (sym (ap (parse k) (from t at inside)) ∙ s)
  where
    inside : at < length t
    inside = (subtree-inside k t at q s).0

    after : List ℕ
    after = drop (at + 1) t

    go : (k : ℕ) (u : Bool) → eqb (get_or t at 0) 4 ≡ u
        → parse k (get_or t at 0 ∷ after) ≡ found q (drop (at + length (bytes q)) t) → Split k t at q
    go (suc j) true four e =
        split-children j t at q _ (sym (read-split j after) ∙ rw (eqb-true (get_or t at 0) 4 four) at e)
    go zero u four e = never q _ (sym (read-wrong zero (get_or t at 0) after above (λ _. refl)) ∙ e)
    go (suc j) false other e =
        never q _ (sym (read-wrong (suc j) (get_or t at 0) after above
        (λ four. absurd (eqb-false (get_or t at 0) 4 other four))) ∙ e)

-- A tree of the form stands in its slice from the start on.
pub tree-subtree : (W H : ℕ) (t : List ℕ) → formed W H (tree_of t) ≡ true
    → (Readable 32 t 0) × (Subtree 5 t 0 (regions_of (tree_of t))) × (well_formed W H 5 0 0 (regions_of (tree_of t)) ≡ true)
tree-subtree W H t e = go (tree_of t) refl
  where
    go : (p : Parsed) → tree_of t ≡ p
        → (Readable 32 t 0) × (Subtree 5 t 0 (regions_of (tree_of t)))
        × (well_formed W H 5 0 0 (regions_of (tree_of t)) ≡ true)
    go none n = absurd (false≢true (rw n at e))
    go (found q []) n =
        let s = parse-stands 5 t 0 q [] n in
        rw n (record { height = 5; tree = q; power = refl; stands = s }, sym n ∙ s, rw n at e)
    go (found q (b ∷ more)) n = absurd (false≢true (rw n at e))
