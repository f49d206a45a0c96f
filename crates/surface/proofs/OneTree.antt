-- One set of regions has one tree, as bytes: there is one, and there is no other.
use mathlib.Core.Path.{◌≡◌, refl, sym, ap, ◌∙◌, subst}
use mathlib.Core.Logic.{◌⊎◌, inl, inr}
use mathlib.Core.Bool.{true, ◌&&◌, cond}
use mathlib.Core.List.{List, [], append-nil}
use Prim.Native.Nat.{ℕ, ◌+◌, ◌≤◌, ◌<◌}
use native.Mathlib.Nat.{zero-add}
use native.Mathlib.Decide.{dec_lt}
use native.Mathlib.Omega.{arith}
use lib.Dec.{ltb, lit≤}
use Rattle.finite.proofs.Tests.{pick, lts-true, lts-intro}
use Rattle.surface.specs.Sheet.{quarters}
use Rattle.surface.specs.Quadtree.{Quadtree, found, bytes, parse, well_formed, level_at, region_tree}
use Rattle.surface.specs.Table.{levels}
use Rattle.surface.specs.Demands.{SameRegions, OneTreeFor}
use Rattle.surface.proofs.TreeBytes.{parse-bytes, bytes-parse, tree-length}
use Rattle.surface.proofs.TreeLevels.{level_at-region_tree, region_tree-ext, region_tree-well_formed}
use Rattle.surface.proofs.TreeLevels.{level_at-beyond, one-tree}
use Rattle.surface.proofs.TableLaws.{Formed, formed-tree, tree-formed, levels-of}

-- a slice of the form is its tree's bytes
pub slice-bytes : (W H : ℕ) (t : List ℕ) (f : Formed W H t) → t ≡ bytes f.tree
slice-bytes W H t f = bytes-parse 5 t f.tree [] f.whole ∙ append-nil (bytes f.tree)

pub same-tree : (W H : ℕ) → W ≤ 8 → H ≤ 8 → (s t : List ℕ) → Formed W H s → Formed W H t → SameRegions W H s t → s ≡ t
same-tree W H hW hH s t f g e =
    slice-bytes W H s f
    ∙ ap bytes (one-tree W H 5 0 0 f.tree g.tree f.shape g.shape
    (λ q r hq hr. go q r hq hr (dec_lt q (quarters W)) (dec_lt r (quarters H))))
    ∙ sym (slice-bytes W H t g)
  where
    Same : ℕ → ℕ → Type 0
    Same q r = level_at 5 f.tree q r ≡ level_at 5 g.tree q r

    -- beyond the sheet both levels are 0
    beyond : (q r : ℕ) → q < 32 → r < 32 → (quarters W ≤ 0 + q) ⊎ (quarters H ≤ 0 + r) → Same q r
    beyond q r hq hr h =
        level_at-beyond W H 5 0 0 f.tree q r f.shape hq hr h ∙ sym
        (level_at-beyond W H 5 0 0 g.tree q r g.shape hq hr h)

    go : (q r : ℕ) → q < 32 → r < 32 → Dec (q < quarters W) → Dec (r < quarters H) → Same q r
    go q r hq hr (yes a) (yes b) = sym (levels-of W H s f q r) ∙ e q r a b ∙ levels-of W H t g q r
    go q r hq hr (yes a) (no b) = beyond q r hq hr (inr (omega arith))
    go q r hq hr (no a) b = beyond q r hq hr (inl (omega arith))

-- Levels 0 to 3 that are 0 beyond the sheet.
module _ (W H : ℕ) (hW : W ≤ 8) (hH : H ≤ 8) (lev : ℕ → ℕ → ℕ) (low : (q r : ℕ) → lev q r ≤ 3)
    (beyond : (q r : ℕ) → q < 32 → r < 32 → (quarters W ≤ q) ⊎ (quarters H ≤ r) → lev q r ≡ 0) where
  -- the same on the square of the tree; past it there is nothing
  clipped : ℕ → ℕ → ℕ
  clipped q r = cond (ltb q 32 && ltb r 32) (lev q r) 0

  clipped-inside : (q r : ℕ) → q < 32 → r < 32 → clipped q r ≡ lev q r
  unfolding clipped
  clipped-inside q r hq hr = rw (lts-intro q 32 r 32 hq hr)

  clipped-cases : (P : ℕ → Type 0) (q r : ℕ) → (q < 32 → r < 32 → P (lev q r)) → P 0 → P (clipped q r)
  unfolding clipped
  clipped-cases P q r h z =
      pick (ltb q 32 && ltb r 32) (λ b. P (cond b (lev q r) 0))
      (λ e. let i = lts-true q 32 r 32 e in h i.0 i.1) (λ _. z)

  abbrev regions : Quadtree
  regions = region_tree 5 0 0 lev

  -- their tree is of the form
  pub region-formed : Formed W H (bytes regions)
  region-formed =
      let shape : well_formed W H 5 0 0 regions ≡ true =
      subst (λ q. well_formed W H 5 0 0 q ≡ true)
      (region_tree-ext 5 0 0 clipped lev (λ q r hq hr. clipped-inside (0 + q) (0 + r) (omega arith) (omega arith)))
      (region_tree-well_formed W H 5 0 0 clipped
      (λ q r. clipped-cases (λ l. l ≤ 3) q r (λ _ _. low q r) (lit≤ tt))
      (λ q r h. clipped-cases (λ l. l ≡ 0) q r (λ hq hr. beyond q r hq hr (inl h)) refl)
      (λ q r h. clipped-cases (λ l. l ≡ 0) q r (λ hq hr. beyond q r hq hr (inr h)) refl)) in
      record {
        tree = regions;
        whole = subst (λ l. parse 5 l ≡ found regions []) (append-nil (bytes regions))
            (parse-bytes W H 5 0 0 regions [] shape);
        shape = shape;
      }

  -- and has these levels, on the sheet and beyond it
  pub region-levels : (q r : ℕ) → q < 32 → r < 32 → levels (bytes regions) q r ≡ lev q r
  unfolding region-formed
  region-levels q r hq hr =
      levels-of W H (bytes regions) region-formed q r
      ∙ level_at-region_tree 5 0 0 lev q r (omega arith) (omega arith)
      ∙ rw (zero-add q, zero-add r)

-- Whichever levels 0 to 3 the squares of the sheet have: beyond it they are taken as 0.
pub one-tree-for : (W H : ℕ) → W ≤ 8 → H ≤ 8 → (lev : ℕ → ℕ → ℕ)
    → ((q r : ℕ) → q < quarters W → r < quarters H → lev q r ≤ 3) → OneTreeFor W H lev
one-tree-for W H hW hH lev low =
    record {
      tree = bytes regions;
      exists = (tree-formed W H (bytes regions) form, given);
      only = λ t h. same-tree W H hW hH t (bytes regions) (formed-tree W H t h.0) form
          (λ q r hq hr. h.1 q r hq hr ∙ sym (given q r hq hr));
      size = unfold region-formed in tree-length W H 0 0 regions form.shape;
    }
  where
    cut : ℕ → ℕ → ℕ
    cut q r = cond (ltb q (quarters W) && ltb r (quarters H)) (lev q r) 0

    -- what holds of a level of the sheet, and of 0
    cut-cases : (P : ℕ → Type 0) (q r : ℕ) → (q < quarters W → r < quarters H → P (lev q r)) → P 0 → P (cut q r)
    cut-cases P q r h z =
        pick (ltb q (quarters W) && ltb r (quarters H)) (λ b. P (cond b (lev q r) 0))
        (λ e. let i = lts-true q (quarters W) r (quarters H) e in h i.0 i.1) (λ _. z)

    cut_low : (q r : ℕ) → cut q r ≤ 3
    cut_low q r = cut-cases (λ l. l ≤ 3) q r (low q r) (lit≤ tt)

    cut-beyond : (q r : ℕ) → q < 32 → r < 32 → (quarters W ≤ q) ⊎ (quarters H ≤ r) → cut q r ≡ 0
    cut-beyond q r _ _ (inl h) = cut-cases (λ l. l ≡ 0) q r (λ hq hr. absurd (omega arith)) refl
    cut-beyond q r _ _ (inr h) = cut-cases (λ l. l ≡ 0) q r (λ hq hr. absurd (omega arith)) refl

    regions : Quadtree
    regions = region_tree 5 0 0 cut

    form : Formed W H (bytes regions)
    form = region-formed W H hW hH cut cut_low cut-beyond

    given : (q r : ℕ) → q < quarters W → r < quarters H → levels (bytes regions) q r ≡ lev q r
    given q r hq hr =
        region-levels W H hW hH cut cut_low cut-beyond q r (omega arith) (omega arith)
        ∙ rw (lts-intro q (quarters W) r (quarters H) hq hr)
