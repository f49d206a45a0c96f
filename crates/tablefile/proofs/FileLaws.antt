-- What the acceptance of a file says, fact by fact.
use mathlib.Core.Path.{◌≡◌, sym, ap, ap₂, ◌∙◌, subst}
use mathlib.Core.Bool.{true}
use mathlib.Core.List.{List, [], ◌∷◌, ◌++◌}
use Prim.Native.Nat.{ℕ, zero, suc, ◌+◌, ◌*◌, ◌≤◌, ◌<◌}
use native.Mathlib.Nat.{zero-add, add-zero}
use native.Mathlib.Omega.{arith}
use lib.IntN.{ℤ, nat_abs}
use lib.Dec.{ltb, eqb}
use borrow.Author.Tests.{ltb-false}
use lib.ListN.{length, get_or, drop}
use lib.Seq.{get_or-drop, drop-drop}
use Rattle.finite.specs.Range.{grid}
use Rattle.finite.proofs.Tests.{both, below_more}
use Rattle.surface.specs.Sheet.{good_side, functions}
use Rattle.surface.specs.Support.{active_count}
use Rattle.surface.specs.Table.{tree_of, formed, levels, coefficients, slice_from, slice_of, limit}
use Rattle.surface.specs.Fields.{contains, holds, length_at, all_within}
use Rattle.surface.specs.Note.{note_field}
use Rattle.surface.specs.TableFile.{sides_in, good_sides, sides_field, tree_field, counts_field, loaded, level_loaded}
use Rattle.surface.specs.TableFile.{level_field, level_fields, Loaded, end_cause, file_contents}
use Rattle.surface.proofs.TableLaws.{formed-tree, slice-more, slice-length, slice-coefficient, Sound}
use Rattle.surface.proofs.Causes.{cause-off}
use Rattle.fields.proofs.FieldLaws.{body_of, rest_of, Stands, held, unless-accepted, part-accepted, checked-accepted}
use Rattle.tablefile.specs.Counts.{after_tree, has_counts}
use Rattle.tablefile.proofs.ActiveLaws.{loaded-passive, loaded-within}
use Rattle.tablefile.proofs.CountsField.{past_counts, CountsStand, counts-accepted}
use Rattle.tablefile.proofs.NoteField.{Noted, note-accepted}

-- ---- the fields of the levels

-- The bytes of s after its first n fields.
unfoldable pub after : ℕ → List ℕ → List ℕ
after zero s = s
after (suc n) s = rest_of (after n s)

-- The coefficients of the fields of the levels, the first at the front of s.
abbrev pub coefficients_in : ℕ → ℕ → (ℕ → ℕ → ℕ) → List ℕ → ℕ → ℕ → ℕ → ℤ
coefficients_in W H lev s L = loaded W H lev L (body_of (after L s))

-- The field of level L stands in its turn, its numbers within their limit.
pub record LevelStands (W H : ℕ) (lev : ℕ → ℕ → ℕ) (s : List ℕ) (L : ℕ) : Type 0 where
  pub field : Stands (16 + L) (5 * active_count W H lev L) (5 * active_count W H lev L) (after L s)
  pub within : all_within (limit L) (active_count W H lev L) (body_of (after L s)) ≡ true

-- What acceptance of the levels below n says.
record LevelsStand (W H : ℕ) (lev : ℕ → ℕ → ℕ) (s : List ℕ) (n : ℕ) (cs : List ℤ) (rest : List ℕ) : Type 0 where
  level : (L : ℕ) → L < n → LevelStands W H lev s L
  slice : cs ≡ slice_from W H (coefficients_in W H lev s) 0 n
  end : rest ≡ after n s

levels-accepted : (W H : ℕ) (lev : ℕ → ℕ → ℕ) (s : List ℕ) (n : ℕ) (cs : List ℤ) (rest : List ℕ)
    → level_fields W H lev n s ≡ holds cs rest → LevelsStand W H lev s n cs rest
unfolding level_fields level_field slice_from after
levels-accepted W H lev s zero cs rest e =
    let h = held [] cs s rest e in
    record { level = λ L l. absurd (omega arith); slice = sym h.0; end = sym h.1 }
levels-accepted W H lev s (suc n) cs rest e =
    let k = active_count W H lev n in
    let f = coefficients_in W H lev s in
    let p = part-accepted (level_fields W H lev n s) _ _ e in
    let q = part-accepted (level_field W H lev n p.1) _ _ p.3 in
    let ih = levels-accepted W H lev s n p.0 p.1 p.2 in
    let c = checked-accepted (16 + n) (5 * k) (5 * k) 3 (all_within (limit n) k) (level_loaded W H lev n) (after n s)
    q.0 q.1 (subst (λ r. level_field W H lev n r ≡ holds q.0 q.1) ih.end q.2) in
    let h = held (p.0 ++ q.0) cs q.1 rest q.3 in
    record {
      level = λ L l.
          below_more (LevelStands W H lev s) n ih.level (record { field = c.0; within = c.1 }) L (omega arith);
      slice =
          sym h.0
          ∙ ap₂ ◌++◌ ih.slice (sym c.2 ∙ ap (λ M. grid (functions W M) (functions H M) (f M)) (sym (zero-add n)))
          ∙ sym (slice-more W H f n 0);
      end = sym h.1 ∙ sym c.3;
    }

-- ---- the whole file

-- The bytes after the fields of the sheet, the tree and the counts.
abbrev pub levels_in : List ℕ → List ℕ
levels_in s = past_counts (rest_of (rest_of s))

-- Each field in its turn, and what was loaded from it.
pub record Accepted (s : List ℕ) (f : Loaded) : Type 0 where
  pub sides : Stands 1 2 2 s
  pub side_w : get_or (body_of s) 0 0 ≡ f.W
  pub side_h : get_or (body_of s) 1 0 ≡ f.H
  pub good_w : good_side f.W ≡ true
  pub good_h : good_side f.H ≡ true
  pub tree : Stands 2 1 1365 (rest_of s)
  pub tree_bytes : body_of (rest_of s) ≡ f.tree
  pub form : formed f.W f.H (tree_of f.tree) ≡ true
  pub counts : eqb (get_or (rest_of (rest_of s)) 0 0) 3 ≡ true
      → CountsStand (active_count f.W f.H (levels f.tree)) (rest_of (rest_of s))
  pub level : (L : ℕ) → L < 4 → LevelStands f.W f.H (levels f.tree) (levels_in s) L
  pub note : Noted (after 4 (levels_in s)) f.note
  pub slice : f.numbers ≡ slice_of f.W f.H (coefficients_in f.W f.H (levels f.tree) (levels_in s))

empty : (s : List ℕ) → end_cause s ≡ 0 → s ≡ []
empty s e = go s (ltb-false 0 (length s) (cause-off 14 (ltb 0 (length s)) e))
  where
    go : (s : List ℕ) → length s ≤ 0 → s ≡ []
    go [] h = cc
    go (b ∷ s) h = absurd (omega arith)

pub accepted : (s : List ℕ) (f : Loaded) → file_contents s ≡ contains f → Accepted s f
unfolding file_contents sides_field tree_field
accepted s f e =
    let p1 = part-accepted (sides_field s) _ f e in
    let W = p1.0.W in
    let H = p1.0.H in
    let c1 = checked-accepted 1 2 2 0 (λ b. good_sides (sides_in b)) sides_in s p1.0 p1.1 p1.2 in
    let good = both (good_side W) (good_side H) (sym (ap good_sides c1.2) ∙ c1.1) in
    let p2 = part-accepted (tree_field W H p1.1) _ f p1.3 in
    let t = p2.0 in
    let c2 = checked-accepted 2 1 1365 1 (λ t. formed W H (tree_of t)) (λ t. t) (rest_of s) t p2.1
    (subst (λ r. tree_field W H r ≡ holds t p2.1) (sym c1.3) p2.2) in
    let active = active_count W H (levels t) in
    let p3 = part-accepted (counts_field active p2.1) _ f p2.3 in
    let c3 = counts-accepted active (rest_of (rest_of s)) p3.0 p3.1
    (subst (λ r. counts_field active r ≡ holds p3.0 p3.1) (sym c2.3) p3.2) in
    let p4 = part-accepted (level_fields W H (levels t) 4 p3.1) _ f p3.3 in
    let l = levels-accepted W H (levels t) (levels_in s) 4 p4.0 p4.1
    (subst (λ r. level_fields W H (levels t) 4 r ≡ holds p4.0 p4.1) (sym c3.0) p4.2) in
    let p5 = part-accepted (note_field p4.1) _ f p4.3 in
    let u = unless-accepted (end_cause p5.1) _ f p5.3 in
    let same : ◌≡◌ {A = Loaded} (record { W = W; H = H; tree = t; numbers = p4.0; note = p5.0 }) f =
    let e = u.1 in cc in
    subst (Accepted s) same
    (record {
      sides = c1.0;
      side_w = ap (λ x. x.W) c1.2;
      side_h = ap (λ x. x.H) c1.2;
      good_w = good.0;
      good_h = good.1;
      tree = c2.0;
      tree_bytes = c2.2;
      form = sym (ap (λ t. formed W H (tree_of t)) c2.2) ∙ c2.1;
      counts = c3.1;
      level = l.level;
      note =
          subst (λ s. Noted s p5.0) l.end
          (note-accepted p4.1 p5.0 p5.1 p5.2 (empty p5.1 u.0));
      slice = l.slice;
    })

-- what stands after the fields of the sheet and of the tree, by its position
module _ (s : List ℕ) (f : Loaded) (r : Accepted s f) where
  pub sides-end : rest_of s ≡ drop 5 s
  sides-end =
      let five : 3 + length_at s ≡ 5 = omega (arith, r.sides.long, r.sides.short) in
      ap (λ n. drop n s) five

  pub tree-end : rest_of (rest_of s) ≡ drop (after_tree s) s
  tree-end =
      let n = length_at (drop 5 s) in
      let at : 5 + (3 + n) ≡ 8 + n = omega arith in
      ap rest_of sides-end ∙ drop-drop (3 + n) 5 s ∙ ap (λ n. drop n s) at

  pub has-counts : has_counts s ≡ eqb (get_or (rest_of (rest_of s)) 0 0) 3
  has-counts =
      ap (λ n. eqb n 3)
      (ap (λ n. get_or s n 0) (sym (add-zero (after_tree s)))
      ∙ sym (get_or-drop (after_tree s) s 0 0)
      ∙ ap (λ l. get_or l 0 0) (sym tree-end))

-- a coefficient of what was loaded is the one in its level's field
pub loaded-coefficient : (s : List ℕ) (f : Loaded) → Accepted s f → (L a b : ℕ) → L < 4 → a < functions f.W L
    → b < functions f.H L
    → coefficients f.W f.H f.numbers L a b
    ≡ coefficients_in f.W f.H (levels f.tree) (levels_in s) L a b
loaded-coefficient s f r L a b hL ha hb =
    ap (λ cs. coefficients f.W f.H cs L a b) r.slice
    ∙ slice-coefficient f.W f.H (coefficients_in f.W f.H (levels f.tree) (levels_in s)) L a b hL ha hb

-- what was loaded is a sound table
pub accepted-sound : (s : List ℕ) (f : Loaded) → Accepted s f → Sound f.W f.H f.tree f.numbers
accepted-sound s f r =
    record {
      side-W = r.good_w;
      side-H = r.good_h;
      tree = formed-tree f.W f.H f.tree r.form;
      size =
          ap length r.slice
          ∙ slice-length f.W f.H (coefficients_in f.W f.H (levels f.tree) (levels_in s));
      limits = λ L a b hL ha hb e.
          subst (λ z. nat_abs z ≤ limit L) (sym (loaded-coefficient s f r L a b hL ha hb))
          (loaded-within f.W f.H (levels f.tree) L (limit L) (body_of (after L (levels_in s)))
          (r.level L hL).within a b ha hb e);
      passive = λ L a b hL ha hb e.
          loaded-coefficient s f r L a b hL ha hb
          ∙ loaded-passive f.W f.H (levels f.tree) L (body_of (after L (levels_in s))) a b e;
    }
