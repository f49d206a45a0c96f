-- The fields of the levels by their positions, and the coefficients loaded from them.
use mathlib.Core.Path.{◌≡◌, refl, sym, ap, ap₂, ◌∙◌}
use mathlib.Core.List.{List, [], ◌++◌, append_assoc, append-nil}
use Prim.Native.Nat.{ℕ, zero, suc, ◌+◌, ◌-◌, ◌*◌, ◌≤◌, ◌<◌}
use native.Mathlib.Numerals.{add-one}
use native.Mathlib.Decide.{dec_lt}
use native.Mathlib.Omega.{arith}
use lib.IntN.{ℤ}
use lib.ListN.{length, take, drop}
use lib.Seq.{take_at, drop_at, drop-drop, drop-length}
use Rattle.surface.specs.Support.{active_count}
use Rattle.surface.specs.Table.{start, places, slots, limit}
use Rattle.surface.specs.Fields.{holds, length_at, all_within}
use Rattle.surface.specs.TableFile.{level_loaded, level_field, level_fields}
use Rattle.surface.proofs.TableLaws.{start-step}
use Rattle.fields.specs.Positions.{body_at}
use Rattle.fields.proofs.FieldLaws.{held, part-accepted, checked-accepted, body-length}
use Rattle.fields.proofs.PositionLaws.{stands-inside, stands-body, stands-rest}

-- ---- where they stand

-- where the levels below n stand, the one after those below L does
pub level-due : (W H : ℕ) (lev : ℕ → ℕ → ℕ) (s : List ℕ) (n L : ℕ) (found before : List ℤ) (rest mid : List ℕ) → L < n
    → level_fields W H lev n s ≡ holds found rest → level_fields W H lev L s ≡ holds before mid
    → (numbers : List ℤ) × (after : List ℕ) × (level_field W H lev L mid ≡ holds numbers after)
unfolding level_fields
level-due W H lev s zero L found before rest mid h e f = absurd (omega arith)
level-due W H lev s (suc n) L found before rest mid h e f =
    let p = part-accepted (level_fields W H lev n s) _ _ e in
    let q = part-accepted (level_field W H lev n p.1) _ _ p.3 in
    go p.0 p.1 q.0 q.1 p.2 q.2
    (λ l. level-due W H lev s n L p.0 before p.1 mid l p.2 f) (dec_lt L n)
  where
    go : (b : List ℤ) (r : List ℕ) (x : List ℤ) (y : List ℕ) → level_fields W H lev n s ≡ holds b r
        → level_field W H lev n r ≡ holds x y
        → (L < n → (numbers : List ℤ) × (after : List ℕ) × (level_field W H lev L mid ≡ holds numbers after))
        → Dec (L < n) → (numbers : List ℤ) × (after : List ℕ) × (level_field W H lev L mid ≡ holds numbers after)
    go b r x y d i ih (yes l) = ih l
    go b r x y d i ih (no l) =
        let last : L ≡ n = omega arith in
        let same = held before b mid r (sym f ∙ ap (λ L. level_fields W H lev L s) last ∙ d) in
        (x, y, ap₂ (level_field W H lev) last same.1 ∙ i)

-- the field of a level at a position, whose head has the length k
pub record LevelThere (W H : ℕ) (lev : ℕ → ℕ → ℕ) (L : ℕ) (file : List ℕ) (at k : ℕ) : Type 0 where
  pub inside : at + 3 + k ≤ length file
  pub size : length (body_at file at (at + 3 + k)) ≡ 5 * active_count W H lev L
  pub field : level_field W H lev L (drop at file)
      ≡ holds (level_loaded W H lev L (body_at file at (at + 3 + k))) (drop (at + 3 + k) file)

pub level-there : (W H : ℕ) (lev : ℕ → ℕ → ℕ) (L : ℕ) (file : List ℕ) (at : ℕ) (numbers : List ℤ) (after : List ℕ)
    (k : ℕ) → level_field W H lev L (drop at file) ≡ holds numbers after → k ≡ length_at (drop at file)
    → LevelThere W H lev L file at k
unfolding level_field
level-there W H lev L file at numbers after k e l =
    let n = active_count W H lev L in
    let s = drop at file in
    let c = checked-accepted (16 + L) (5 * n) (5 * n) 3 (all_within (limit L) n) (level_loaded W H lev L) s numbers after
    e in
    let stands = c.0 in
    let same = stands-body (16 + L) (5 * n) (5 * n) file at stands k l in
    record {
      inside = stands-inside (16 + L) (5 * n) (5 * n) file at stands k l;
      size = ap length same ∙ body-length s stands.whole ∙ omega arith;
      field =
          e
          ∙ ap₂ holds (sym c.2 ∙ ap (level_loaded W H lev L) (sym same))
          (sym c.3 ∙ sym (stands-rest (16 + L) (5 * n) (5 * n) file at stands k l));
    }

-- ---- the levels loaded

module _ (W H : ℕ) (old : List ℤ) where
  pub below_none : old ≡ [] ++ drop (start W H 0) old
  unfolding start
  below_none = refl

  -- the levels below L are written, and one level more at its part
  pub below_next : (L first size : ℕ) (numbers before new part : List ℤ) → first ≡ start W H L → size ≡ places W H L
      → length before ≡ start W H L → numbers ≡ before ++ drop (start W H L) old → new ≡ part
      → take first numbers ++ (new ++ drop (first + size - first) (drop first numbers))
      ≡ (before ++ part) ++ drop (start W H (L + 1)) old
  below_next L first size numbers before new part begins sized l is e =
      let at : length before ≡ first = l ∙ sym begins in
      let here : numbers ≡ before ++ drop first old = is ∙ ap (λ i. before ++ drop i old) (sym begins) in
      let behind : first + (first + size - first) ≡ start W H (L + 1) =
      omega (arith, ap (λ L. start W H L) (add-one L), start-step W H L) in
      ap₂ (λ x y. x ++ (new ++ drop (first + size - first) y))
      (ap (take first) here ∙ take_at before (drop first old) first at)
      (ap (drop first) here ∙ drop_at before (drop first old) first at)
      ∙ ap₂ (λ x y. before ++ (x ++ y)) e
      (drop-drop (first + size - first) first old ∙ ap (λ i. drop i old) behind)
      ∙ sym (append_assoc before part (drop (start W H (L + 1)) old))

  pub below_all : (L : ℕ) (numbers before : List ℤ) → L ≡ 4 → length old ≡ slots W H
      → numbers ≡ before ++ drop (start W H L) old → numbers ≡ before
  below_all L numbers before e size is =
      is
      ∙ ap (λ l. before ++ l) (ap (λ L. drop (start W H L) old) e ∙ ap (λ i. drop i old) (sym size) ∙ drop-length old)
      ∙ append-nil before
