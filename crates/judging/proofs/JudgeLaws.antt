-- What the judged parts say of the file, one law for each way out of the judging functions.
use Rattle.std.specs.Prelude.{Result, Ok, Err}
use mathlib.Core.Path.{◌≡◌, refl, sym, ap, ap₂, ◌∙◌, subst, fun_ext}
use mathlib.Core.Bool.{Bool, true, not, cond}
use mathlib.Core.List.{List, [], ◌++◌}
use Prim.Native.Nat.{ℕ, zero, suc, ◌+◌, ◌-◌, ◌*◌, ◌≤◌, ◌<◌}
use native.Mathlib.Nat.{zero-add, suc-add}
use native.Mathlib.Numerals.{add-one}
use native.Mathlib.Omega.{arith}
use lib.Dec.{eqb}
use lib.IntN.{ℤ, pos}
use lib.ListN.{drop}
use lib.Seq.{get_or-drop, get_or-take}
use Rattle.finite.specs.Range.{count, total, grid}
use Rattle.finite.proofs.Tests.{both}
use Rattle.surface.specs.Sheet.{good_side, functions}
use Rattle.surface.specs.Support.{active, active_in_row, active_count, active_before}
use Rattle.surface.specs.Table.{cause, levels, limit}
use Rattle.surface.specs.Fields.{declined, unless, holds, in_part, field, checked, number_at, all_within}
use Rattle.surface.specs.TableFile.{sides_in, good_sides, sides_field, tree_field, counts_field, level_loaded}
use Rattle.surface.specs.TableFile.{level_field}
use Rattle.surface.specs.TableFile.{level_fields, file_contents}
use Rattle.surface.proofs.TableLaws.{good-side}
use Rattle.tablefile.proofs.CountsField.{counts-field-cong}
use Rattle.answers.specs.declared.Refusal.{Refusal}
use Rattle.answers.specs.Refusals.{number}
use Rattle.fields.specs.Positions.{body_at, part_at, ends}
use Rattle.fields.proofs.PositionLaws.{checked-faulty, checked-told}
use Rattle.rows.specs.Rows.{levels_of, level_rows}
use Rattle.rows.proofs.RowLaws.{rows-nested, rows-least, rows-count}
use Rattle.judging.specs.Judged.{sheet_w, sheet_h, sides_of, tree_in, SidesStand, tree_judged, last_judged}
use Rattle.judging.specs.Judged.{head_judged, ends_at}

-- ---- the sides

module _ (file : List ℕ) where
  pub sides-faulty : (e : Refusal) → declined (number e) ≡ field 1 2 2 file → sides_field file ≡ declined (number e)
  unfolding sides_field
  sides-faulty e q = checked-faulty 1 2 2 1 (λ b. good_sides (sides_in b)) sides_in file 0 (Err e) q e refl

  module _ (end : ℕ) (e : part_at (Ok end) file (body_at file 0) ≡ field 1 2 2 file)
      (k : ends (Ok end) file 0 2 2) where
    sides-end : end ≡ 5
    sides-end = omega (arith, k.0, k.1)

    sides-here : sides_in (body_at file 0 end) ≡ sides_of file
    sides-here =
        ap (λ n. sides_in (body_at file 0 n)) sides-end
        ∙ ap₂ (λ W H. record { W = W; H = H })
        (get_or-take 2 (drop 3 file) 0 0 (omega arith) ∙ get_or-drop 3 file 0 0)
        (get_or-take 2 (drop 3 file) 1 0 (omega arith) ∙ get_or-drop 3 file 1 0)

    -- by the test of both
    pub sides-told : (t : Bool) → t ≡ good_sides (sides_of file)
        → sides_field file ≡ unless (cause 1 (not t)) (holds (sides_of file) (drop 5 file))
    unfolding sides_field
    sides-told t u =
        checked-told 1 2 2 1 (λ b. good_sides (sides_in b)) sides_in file 0 (Ok end) e end refl t
        (u ∙ ap good_sides (sym sides-here))
        ∙ ap₂ (λ s n. unless (cause 1 (not t)) (holds s (drop n file))) sides-here sides-end

    pub sides-stand : true ≡ good_sides (sides_of file) → SidesStand file (sheet_w file) (sheet_h file)
    sides-stand u =
        let g = both (good_side (sheet_w file)) (good_side (sheet_h file)) (sym u) in
        record {
          here = (refl, refl);
          side-W = good-side (sheet_w file) g.0;
          side-H = good-side (sheet_h file) g.1;
          size = omega (arith, k.0, k.2);
          field = sides-told true u;
        }

-- ---- the levels by the rows of a tree

module _ (t rows : List ℕ) (e : rows ≡ level_rows t) (W H : ℕ) (hW : W ≤ 8) (hH : H ≤ 8) where
  -- the active functions by the rows are those by the tree
  same-active : (L : ℕ)
      → ◌≡◌ {A = ℕ → ℕ → Bool} (λ a b. active W H (levels_of rows) L a b) (λ a b. active W H (levels t) L a b)
  same-active L = fun_ext λ a. fun_ext λ b. ap (λ v. eqb v L) (rows-least W H t rows L a b hW hH e)

  same-level : (L : ℕ) (s : List ℕ) → level_field W H (levels_of rows) L s ≡ level_field W H (levels t) L s
  unfolding level_field active_count active_before active_in_row
  same-level L s =
      ap (λ p.
      let n = total (functions H L) (λ b. count (functions W L) (λ a. p a b)) in
      checked (field (16 + L) (5 * n) (5 * n) s) 4 (all_within (limit L) n) λ body.
      grid (functions W L) (functions H L) λ a b.
      cond (p a b)
      (number_at body (total b (λ r. count (functions W L) (λ c. p c r)) + count a (λ c. p c b))) (pos 0))
      (same-active L)

  same-counts : (s : List ℕ)
      → counts_field (active_count W H (levels_of rows)) s ≡ counts_field (active_count W H (levels t)) s
  same-counts =
      counts-field-cong (active_count W H (levels_of rows)) (active_count W H (levels t))
      (λ L h. rows-count W H t rows L hW hH e)

  same-levels : (n : ℕ) (s : List ℕ) → level_fields W H (levels_of rows) n s ≡ level_fields W H (levels t) n s
  unfolding level_fields
  same-levels zero s = cc
  same-levels (suc L) s =
      ap₂ (λ j f. in_part j λ before rest. in_part (f rest) λ numbers rest2. holds (before ++ numbers) rest2)
      (same-levels L s) (fun_ext (same-level L))

-- ---- both fields

pub head-faulty : (file : List ℕ) (c : ℕ) → sides_field file ≡ declined c → file_contents file ≡ declined c
unfolding file_contents
head-faulty file c e = rw e

module _ (file rows : List ℕ) where
  pub head-told : (W H : ℕ) → SidesStand file W H → (r : Result ℕ Refusal) → tree_judged r file W H rows
      → head_judged r file rows
  unfolding file_contents
  head-told W H s (Err e) k =
      let here : tree_field (sheet_w file) (sheet_h file) (drop 5 file) ≡ declined (number e) =
      ap₂ (λ W H. tree_field W H (drop 5 file)) (sym s.here.0) (sym s.here.1) ∙ k in
      rw (s.field, here)
  head-told W H s (Ok end) k =
      let w = sheet_w file in
      let h = sheet_h file in
      let t = tree_in file end in
      let small-W : w ≤ 8 = subst (λ W. W ≤ 8) s.here.0 s.side-W.1 in
      let small-H : h ≤ 8 = subst (λ H. H ≤ 8) s.here.1 s.side-H.1 in
      let here : tree_field w h (drop 5 file) ≡ holds t (drop end file) =
      ap₂ (λ W H. tree_field W H (drop 5 file)) (sym s.here.0) (sym s.here.1) ∙ k.3 in
      record {
        small-W = small-W;
        small-H = small-H;
        low = k.0;
        size = k.1;
        nested = rw k.2 (rows-nested (levels t));
        contents =
            rw (s.field, here)
            (ap₂ (λ j f. in_part j λ counts rest. in_part (f rest) (last_judged w h t))
            (sym (same-counts t rows k.2 w h small-W small-H (drop end file)))
            (fun_ext λ rest. sym (same-levels t rows k.2 w h small-W small-H 4 rest)));
      }

-- ---- a level

module _ (W H : ℕ) (lev : ℕ → ℕ → ℕ) (L : ℕ) (file : List ℕ) (at : ℕ) (r : Result ℕ Refusal) (n : ℕ)
    (s : n ≡ active_count W H lev L)
    (e : part_at r file (body_at file at) ≡ field (16 + L) (5 * n) (5 * n) (drop at file)) where
  -- the field with its contents, by the count that was found
  by_count : checked (field (16 + L) (5 * n) (5 * n) (drop at file)) 4 (all_within (limit L) n) (level_loaded W H lev L)
      ≡ level_field W H lev L (drop at file)
  unfolding level_field
  by_count = rw s

  pub level-faulty : (c : Refusal) → r ≡ Err c → level_field W H lev L (drop at file) ≡ declined (number c)
  level-faulty c q =
      sym by_count
      ∙ checked-faulty (16 + L) (5 * n) (5 * n) 4 (all_within (limit L) n) (level_loaded W H lev L) file at r e c q

  -- by the test of its numbers
  pub level-told : (end : ℕ) → r ≡ Ok end → (t : Bool) → t ≡ all_within (limit L) n (body_at file at end)
      → level_field W H lev L (drop at file)
      ≡ unless (cause 4 (not t)) (holds (level_loaded W H lev L (body_at file at end)) (drop end file))
  level-told end q t u =
      sym by_count
      ∙ checked-told (16 + L) (5 * n) (5 * n) 4 (all_within (limit L) n) (level_loaded W H lev L) file at r e end q t u

-- ---- level after level

module _ (W H : ℕ) (lev : ℕ → ℕ → ℕ) (s : List ℕ) where
  pub levels-none : level_fields W H lev 0 s ≡ holds [] s
  unfolding level_fields
  levels-none = cc

  pub levels-next : (L : ℕ) (before numbers : List ℤ) (mid rest : List ℕ) → level_fields W H lev L s ≡ holds before mid
      → level_field W H lev L mid ≡ holds numbers rest → level_fields W H lev (L + 1) s ≡ holds (before ++ numbers) rest
  unfolding level_fields
  levels-next L before numbers mid rest e h = rw (add-one L, e, h)

  declined-on : (c k L : ℕ) → level_fields W H lev L s ≡ declined c → level_fields W H lev (k + L) s ≡ declined c
  unfolding level_fields
  declined-on c zero L e = rw (zero-add L) e
  declined-on c (suc k) L e = rw (suc-add k L, declined-on c k L e)

  declined-next : (L c : ℕ) (before : List ℤ) (mid : List ℕ) → level_fields W H lev L s ≡ holds before mid
      → level_field W H lev L mid ≡ declined c → level_fields W H lev (suc L) s ≡ declined c
  unfolding level_fields
  declined-next L c before mid e f = rw (e, f)

  -- the level at a position, judged after those below it: all four are declined with it, or one more stands
  module _ (file : List ℕ) (at L : ℕ) (k : ends_at file at (level_fields W H lev L s)) where
    pub levels-faulty : (c : ℕ) → level_field W H lev L (drop at file) ≡ declined c → L < 4
        → level_fields W H lev 4 s ≡ declined c
    levels-faulty c q h =
        let all : 3 - L + suc L ≡ 4 = omega arith in
        subst (λ n. level_fields W H lev n s ≡ declined c) all
        (declined-on c (3 - L) (suc L) (declined-next L c k.1.0 (drop at file) k.1.1 q))

    pub levels-good : (end : ℕ) → ends_at file end (level_field W H lev L (drop at file))
        → ends_at file end (level_fields W H lev (L + 1) s)
    levels-good end b = (b.0, (_, levels-next L k.1.0 b.1.0 (drop at file) (drop end file) k.1.1 b.1.1))
