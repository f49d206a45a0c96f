-- The refusals of both converters of the full-grid dialect: each has one of the call's numbers.
use mathlib.Core.Path.{◌≡◌, refl, sym, ◌∙◌, subst}
use mathlib.Core.Bool.{true, not}
use mathlib.Core.List.{List, [], ◌∷◌}
use Prim.Native.Nat.{ℕ, ◌*◌, ◌≤◌}
use native.Mathlib.Omega.{arith}
use lib.IntN.{ℤ}
use lib.Dec.{ltb, eqb}
use lib.ListN.{length}
use borrow.Author.Tests.{ltb-false, eqb-true}
use Rattle.surface.specs.Table.{cause, ◌or_else◌, tree_of, formed, places, slots, limit, table_cause, Acceptable}
use Rattle.surface.specs.Calls.{put, length_cause}
use Rattle.surface.specs.Fields.{Judged, declined, contains, all_within}
use Rattle.surface.specs.TableFile.{Sides, sides_in, good_sides, sides_field, end_cause}
use Rattle.surface.specs.Saving.{file_out_cause}
use Rattle.surface.specs.Grid.{ReadsAs, grid_file, grid_of, write_grid_cause, write_grid_outcome, Grid, numbers_in}
use Rattle.surface.specs.Grid.{grid_field, grid_contents, Converted, no_table, the_table, ConvertsTo, conversion_cause}
use Rattle.surface.specs.Grid.{converted_numbers, read_grid_cause, read_grid_outcome, OverTree}
use Rattle.surface.specs.Demands.{among, WritesSliceOrNothing}
use Rattle.surface.proofs.TableLaws.{sound}
use Rattle.surface.proofs.Around.{sheet-has}
use Rattle.surface.proofs.Demands.{reading-given}
use Rattle.surface.proofs.Causes.{or_else-none, cause-none, cause-off}
use Rattle.surface.proofs.JudgedLaws.{Told, bad, good, Heads, told-unless, told_in, told-checked}
use Rattle.surface.proofs.RefusalLaws.{OneOf, one-or, one-cause, one_table, put-length, slice-or-nothing}

-- ---- towards the grid

-- an output that 18 does not apply to holds the grid of an acceptable table
pub grid-fits : (W H : ℕ) (t : List ℕ) (cs : List ℤ) (out : List ℕ) → write_grid_cause W H t cs out ≡ 0
    → Acceptable W H t cs × (length (grid_file W H (grid_of W H t cs)) ≤ length out)
unfolding write_grid_cause
grid-fits W H t cs out e =
    let file = grid_file W H (grid_of W H t cs) in
    let c = or_else-none (table_cause W H t cs) (file_out_cause file out) e in
    (c.0, ltb-false (length out) (length file) (cause-off 17 (ltb (length out) (length file)) c.1))

pub write-grid-refusals : (W H : ℕ) (t : List ℕ) (cs : List ℤ) (out : List ℕ)
    → WritesSliceOrNothing (1 ∷ 2 ∷ 3 ∷ 4 ∷ 5 ∷ 18 ∷ []) (write_grid_outcome W H t cs out) out
unfolding write_grid_outcome write_grid_cause
write-grid-refusals W H t cs out =
    let js : List ℕ = 1 ∷ 2 ∷ 3 ∷ 4 ∷ 5 ∷ 18 ∷ [] in
    let file = grid_file W H (grid_of W H t cs) in
    slice-or-nothing js (write_grid_cause W H t cs out) (length file) out (put file out)
    (one-or (table_cause W H t cs) (file_out_cause file out) js (one_table js refl refl refl refl refl W H t cs)
    (one-cause 18 (ltb (length out) (length file)) js refl))
    (λ e. put-length file out (grid-fits W H t cs out e).1)

-- ---- from a grid

-- by any numbers that those of its fields are among
module _ (js : List ℕ) (heads : Heads js) (h1 : OneOf 1 js) (h4 : OneOf 4 js) (h15 : OneOf 15 js) where
  told-grid : (s : List ℕ) → Told js Grid (λ g. Unit) (grid_contents s)
  unfolding grid_contents sides_field grid_field
  told-grid s =
      told_in js (λ g. Unit) (λ p. Unit) (sides_field s) _
      (told-checked js heads (λ p. Unit) 1 2 2 1 (λ b. good_sides (sides_in b)) sides_in s h1 λ b rest. tt)
      λ p u.
      let n = places p.content.W p.content.H 3 in
      told_in js (λ g. Unit) (λ p. Unit) (grid_field p.content.W p.content.H p.rest) _
      (told-checked js heads (λ p. Unit) 19 (5 * n) (5 * n) 4 (all_within (limit 3) n) (numbers_in n) p.rest h4
      λ b rest. tt)
      λ q v. told-unless js (λ g. Unit) (end_cause q.rest) _ (one-cause 15 (ltb 0 (length q.rest)) js h15)
      (good tt)

-- a grid that is declined has a number of its own, neither 2 nor 16 nor 21
pub grid-declined : (s : List ℕ) (n : ℕ) → grid_contents s ≡ declined n
    → among n (1 ∷ 4 ∷ 12 ∷ 13 ∷ 14 ∷ 15 ∷ []) ≡ true
grid-declined s n e =
    go (grid_contents s) (told-grid js (record { cut = refl; tag = refl; size = refl }) refl refl refl s) e
  where
    js : List ℕ
    js = 1 ∷ 4 ∷ 12 ∷ 13 ∷ 14 ∷ 15 ∷ []

    go : (j : Judged Grid) → Told js Grid (λ g. Unit) j → j ≡ declined n → among n js ≡ true
    go (declined m) (bad h) e = let same : m ≡ n = cc in subst (λ k. among k js ≡ true) same h
    go (contains g) t e = absurd (let z : ◌≡◌ {A = ℕ} 0 1 = cc in omega arith)

abbrev js-grid : List ℕ
js-grid = 1 ∷ 2 ∷ 4 ∷ 12 ∷ 13 ∷ 14 ∷ 15 ∷ 16 ∷ 21 ∷ []

-- a table that reads as a grid fills its slice
reads-size : (W H : ℕ) (t : List ℕ) (cs grid : List ℤ) → ReadsAs W H t cs grid → length cs ≡ slots W H
reads-size W H t cs grid reads =
    (sound W H t cs
    ((reading-given W H t cs 0 0 _).0 (reads 0 0 (sheet-has W H 0 0 (omega arith) (omega arith)))).0).size

-- no table has 21, and a table has no cause
cause-of-two : (c : Converted) → OneOf (conversion_cause c) js-grid
cause-of-two no_table = refl
cause-of-two (the_table cs) = refl

one-read : (W H : ℕ) (t : List ℕ) (c : Converted) (out : List ℤ) → OneOf (read_grid_cause W H t c out) js-grid
one-read W H t c out =
    let c2 = cause 2 (not (formed W H (tree_of t))) in
    let c16 = length_cause (slots W H) out in
    one-or c2 (conversion_cause c or_else c16) js-grid (one-cause 2 (not (formed W H (tree_of t))) js-grid refl)
    (one-or (conversion_cause c) c16 js-grid (cause-of-two c)
    (one-cause 16 (not (eqb (length out) (slots W H))) js-grid refl))

-- where there is no cause there is a table, and the slice is as long as its coefficients
filled : (W H : ℕ) (t : List ℕ) (grid : List ℤ) (c : Converted) (out : List ℤ) → ConvertsTo W H t grid c
    → read_grid_cause W H t c out ≡ 0 → length (converted_numbers c) ≡ length out
filled W H t grid no_table out right e =
    absurd (omega (arith, (or_else-none (cause 2 (not (formed W H (tree_of t)))) 21 e).1))
filled W H t grid (the_table cs) out right e =
    let c16 = length_cause (slots W H) out in
    let last = (or_else-none (cause 2 (not (formed W H (tree_of t)))) c16 e).1 in
    reads-size W H t cs grid right
    ∙ sym (eqb-true (length out) (slots W H) (cause-none 15 (eqb (length out) (slots W H)) last))

pub read-grid-refusals : (file t : List ℕ) (out : List ℤ) (c : Converted) → OverTree (grid_contents file) t c
    → WritesSliceOrNothing js-grid (read_grid_outcome (grid_contents file) t c out) out
read-grid-refusals file t out c right =
    go (grid_contents file) (told-grid js-grid (record { cut = refl; tag = refl; size = refl }) refl refl refl file)
    right
  where
    go : (j : Judged Grid) → Told js-grid Grid (λ g. Unit) j → OverTree j t c
        → WritesSliceOrNothing js-grid (read_grid_outcome j t c out) out
    go (declined n) (bad h) right =
        record {
          number = λ m e. let same : n ≡ m = cc in subst (λ k. among k js-grid ≡ true) same h;
          refusal = λ m e. refl;
          lengths = refl;
        }
    go (contains g) (good h) right =
        let sides : Sides = record { W = g.W; H = g.H } in
        slice-or-nothing js-grid (read_grid_cause g.W g.H t c out) sides out (converted_numbers c)
        (one-read g.W g.H t c out) (λ e. filled g.W g.H t g.numbers c out right e)
