-- Where a tree of the form ends: past the slice, at a leaf, at a split by the ends of its children, and as a whole.
use mathlib.Core.Bool.{Bool, true, false, not, cond}
use mathlib.Core.List.{List, [], ◌∷◌}
use mathlib.Core.Path.{◌≡◌, refl, sym, ap, ◌∙◌}
use Prim.Native.Nat.{ℕ, suc, ◌+◌, ◌-◌, ◌^◌, ◌≤◌, ◌<◌}
use native.Mathlib.Decide.{dec_lt}
use native.Mathlib.Omega.{arith}
use lib.Dec.{eqb}
use lib.ListN.{length, drop, get_or, length-drop, drop_of_length-le}
use borrow.Author.Tests.{eq-eqb, ne_eqb, lt-leb}
use Rattle.surface.specs.Quadtree.{Quadtree, leaf, split, bytes, Parsed, none, found, and_then, parse, well_formed}
use Rattle.surface.specs.Table.{tree_of, formed}
use Rattle.quadtree.specs.Subtree.{Subtree}
use Rattle.quadtree.specs.End.{nowhere, end_of, end_of_parsed, equal_bytes}
use Rattle.quadtree.proofs.SubtreeLaws.{parse-stands, subtree-inside, subtree-bytes, leaf-subtree, from}
use Rattle.quadtree.proofs.SubtreeLaws.{read_none, read-wrong, read-split, children, split-subtree}
use Rattle.quadtree.proofs.SubtreeLaws.{split-length}
use Rattle.quadtree.proofs.EqualLeaves.{equal-bytes}

module _ (W H k x y : ℕ) (t : List ℕ) (at : ℕ) where
  pub past_end : length t ≤ at → end_of W H k x y t at ≡ nowhere
  unfolding end_of
  past_end past = rw (drop_of_length-le t past, read_none k)

  -- The end is that of the tree that stands there.
  pub tree-end : (q : Quadtree) → Subtree k t at q
      → end_of W H k x y t at ≡ cond (well_formed W H k x y q) (at + length (bytes q)) nowhere
  unfolding end_of
  tree-end q s = rw s

  -- A byte but that of a split, or a single quarter: by the form of the leaf.
  pub leaf-end : at < length t → (get_or t at 0 ≡ 4 → k ≡ 0)
      → end_of W H k x y t at ≡ cond (well_formed W H k x y (leaf (get_or t at 0))) (at + 1) nowhere
  unfolding end_of bytes well_formed
  leaf-end inside single = go (dec_lt 3 (get_or t at 0))
    where
      go : Dec (3 < get_or t at 0)
          → end_of W H k x y t at ≡ cond (well_formed W H k x y (leaf (get_or t at 0))) (at + 1) nowhere
      go (yes high) = rw (from t at inside, read-wrong k (get_or t at 0) (drop (at + 1) t) high single, lt-leb _ _ high)
      go (no low) = tree-end (leaf (get_or t at 0)) (leaf-subtree k t at inside (omega arith))

-- ---- a split

module _ (W H j x y : ℕ) (t : List ℕ) (at : ℕ) (few : length t < nowhere) where
  abbrev end-of : Parsed → ℕ
  end-of = end_of_parsed W H (suc j) x y at

  -- Where the end is nowhere whatever is read, it is nowhere.
  formless : (r : Parsed) (f : Quadtree → List ℕ → Parsed) → ((q : Quadtree) (s : List ℕ) → end-of (f q s) ≡ nowhere)
      → end-of (and_then r f) ≡ nowhere
  formless none f all = refl
  formless (found q s) f all = all q s

  -- One child is read, and f behind it: the end is g of the child's end.
  child-end : (u v p : ℕ) (f : Quadtree → List ℕ → Parsed) (g : ℕ → ℕ) → g nowhere ≡ nowhere
      → ((q : Quadtree) → Subtree j t p q → well_formed W H j u v q ≡ true
      → end-of (f q (drop (p + length (bytes q)) t)) ≡ g (p + length (bytes q)))
      → ((q : Quadtree) (s : List ℕ) → well_formed W H j u v q ≡ false → end-of (f q s) ≡ nowhere)
      → end-of (and_then (parse j (drop p t)) f) ≡ g (end_of W H j u v t p)
  unfolding end_of
  child-end u v p f g none-on form wrong = go (parse j (drop p t)) refl
    where
      by_form : (q : Quadtree) (b : Bool) → Subtree j t p q → well_formed W H j u v q ≡ b
          → end-of (f q (drop (p + length (bytes q)) t)) ≡ g (cond b (p + length (bytes q)) nowhere)
      by_form q true s e = form q s e
      by_form q false s e = wrong q _ e ∙ sym none-on

      go : (r : Parsed) → parse j (drop p t) ≡ r → end-of (and_then r f) ≡ g (end_of_parsed W H j u v p r)
      go none e = sym none-on
      go (found q s) e =
          let stands = parse-stands j t p q s e in
          let rest : s ≡ drop (p + length (bytes q)) t = cc in
          rw rest (by_form q (well_formed W H j u v q) stands refl)

  -- Four children of the form that stand there: they are the split, unless they are equal leaves.
  whole-end : (sw se nw ne : Quadtree) → Subtree (suc j) t at (split sw se nw ne)
      → well_formed W H j x y sw ≡ true → well_formed W H j (x + 2 ^ j) y se ≡ true
      → well_formed W H j x (y + 2 ^ j) nw ≡ true → well_formed W H j (x + 2 ^ j) (y + 2 ^ j) ne ≡ true
      → let p = at + 1 + length (bytes sw) + length (bytes se) + length (bytes nw) + length (bytes ne) in
      end-of (found (split sw se nw ne) []) ≡ cond (equal_bytes t (at + 1) p) nowhere p
  unfolding well_formed bytes
  whole-end sw se nw ne stands f1 f2 f3 f4 =
      let p = at + 1 + length (bytes sw) + length (bytes se) + length (bytes nw) + length (bytes ne) in
      let e = split-length sw se nw ne at in
      let same = equal-bytes sw se nw ne t (at + 1) p (omega (arith, e)) λ i l.
      ap (λ n. get_or t n 0) (omega arith)
      ∙ subtree-bytes (suc j) t at (split sw se nw ne) stands (suc i) (omega arith) in
      rw (f1, f2, f3, f4, same, e) (go (equal_bytes t (at + 1) p) p)
    where
      go : (b : Bool) (p : ℕ) → cond (not b) p nowhere ≡ cond b nowhere p
      go true p = refl
      go false p = refl

  -- The end of a split, from the ends of its children.
  pub split-end : at < length t → get_or t at 0 ≡ 4
      → let h = 2 ^ j in
      let p = end_of W H j (x + h) (y + h) t
      (end_of W H j x (y + h) t (end_of W H j (x + h) y t (end_of W H j x y t (at + 1)))) in
      end_of W H (suc j) x y t at ≡ cond (equal_bytes t (at + 1) p) nowhere p
  unfolding end_of children well_formed
  split-end inside four =
      let h = 2 ^ j in
      let last : ℕ → ℕ = λ p. cond (equal_bytes t (at + 1) p) nowhere p in
      let from-ne : ℕ → ℕ = λ p. last (end_of W H j (x + h) (y + h) t p) in
      let from-nw : ℕ → ℕ = λ p. from-ne (end_of W H j x (y + h) t p) in
      let last_on : last nowhere ≡ nowhere = same (equal_bytes t (at + 1) nowhere) in
      let ne-on : from-ne nowhere ≡ nowhere = ap last (past (x + h) (y + h)) ∙ last_on in
      let nw-on : from-nw nowhere ≡ nowhere = ap from-ne (past x (y + h)) ∙ ne-on in
      ap end-of (ap (parse (suc j)) (from t at inside ∙ ap (λ b. b ∷ drop (at + 1) t) four)
      ∙ read-split j (drop (at + 1) t))
      ∙ child-end x y (at + 1) _ (λ p. from-nw (end_of W H j (x + h) y t p)) (ap from-nw (past (x + h) y) ∙ nw-on)
      (λ sw s1 f1. child-end (x + h) y _ _ from-nw nw-on
      (λ se s2 f2. child-end x (y + h) _ _ from-ne ne-on
      (λ nw s3 f3. child-end (x + h) (y + h) _ _ last last_on
      (λ ne s4 f4. whole-end sw se nw ne (split-subtree j t at sw se nw ne inside four s1 s2 s3 s4) f1 f2 f3 f4)
      (λ ne s f4. rw (f1, f2, f3, f4)))
      (λ nw s f3. formless (parse j s) _ λ ne r. rw (f1, f2, f3)))
      (λ se s f2. formless (parse j s) _ λ nw r. formless (parse j r) _ λ ne r. rw (f1, f2)))
      (λ sw s f1. formless (parse j s) _ λ se r. formless (parse j r) _ λ nw r. formless (parse j r) _ λ ne r. rw f1)
    where
      past : (u v : ℕ) → end_of W H j u v t nowhere ≡ nowhere
      past u v = past_end W H j u v t nowhere (omega arith)

      same : (b : Bool) → cond b nowhere nowhere ≡ nowhere
      same true = refl
      same false = refl

-- ---- the whole tree

-- The tree of a slice is of the form if one of the root's square ends with the slice.
pub form-end : (W H : ℕ) (t : List ℕ) → length t < nowhere
    → eqb (end_of W H 5 0 0 t 0) (length t) ≡ formed W H (tree_of t)
unfolding end_of
form-end W H t few = go (parse 5 t) refl
  where
    -- the tree's end, and how much is left behind it
    left : (q : Quadtree) (rest : List ℕ) → parse 5 t ≡ found q rest
        → (0 + length (bytes q) ≤ length t) × (length t - (0 + length (bytes q)) ≡ length rest)
    left q rest e =
        let s = parse-stands 5 t 0 q rest e in
        let r : drop (0 + length (bytes q)) t ≡ rest = cc in
        ((subtree-inside 5 t 0 q s).1, sym (length-drop (0 + length (bytes q)) t) ∙ ap length r)

    by_form : (q : Quadtree) (rest : List ℕ) (b : Bool) → parse 5 t ≡ found q rest → well_formed W H 5 0 0 q ≡ b
        → eqb (cond b (0 + length (bytes q)) nowhere) (length t) ≡ formed W H (found q rest)
    by_form q [] true e f = eq-eqb (0 + length (bytes q)) (length t) (omega (arith, left q [] e)) ∙ sym f
    by_form q [] false e f = ne_eqb nowhere (length t) (λ same. omega arith) ∙ sym f
    by_form q (b ∷ s) true e f = ne_eqb (0 + length (bytes q)) (length t) (λ same. omega (arith, left q (b ∷ s) e))
    by_form q (b ∷ s) false e f = ne_eqb nowhere (length t) (λ same. omega arith)

    go : (r : Parsed) → parse 5 t ≡ r → eqb (end_of_parsed W H 5 0 0 0 r) (length t) ≡ formed W H r
    go none e = ne_eqb nowhere (length t) (λ same. omega arith)
    go (found q rest) e = by_form q rest (well_formed W H 5 0 0 q) e refl
