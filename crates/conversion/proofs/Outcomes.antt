-- What the outcomes of both converters say of the table, the grid and the slice, of any answers that meet them.
use mathlib.Core.Path.{◌≡◌, refl, sym, ap, ap₂, ◌∙◌, subst}
use mathlib.Core.Bool.{Bool, true, false, not, true≢false}
use mathlib.Core.List.{List}
use Prim.Native.Nat.{ℕ, ◌≤◌}
use native.Mathlib.Omega.{arith}
use lib.IntN.{ℤ}
use lib.Dec.{eqb}
use lib.ListN.{length, take, drop}
use lib.Seq.{take_at, drop_at}
use borrow.Author.Tests.{le-ltb, eq-eqb, ne_eqb}
use Rattle.surface.specs.Table.{cause, ◌or_else◌, tree_of, formed, slots, table_cause, Acceptable}
use Rattle.surface.specs.Calls.{Answer, refused, gives, answer, afterwards, put, done, SliceMeets, length_cause}
use Rattle.surface.specs.Fields.{Judged, declined, contains}
use Rattle.surface.specs.TableFile.{Sides}
use Rattle.surface.specs.Saving.{file_out_cause}
use Rattle.surface.specs.Grid.{ReadsAs, grid_file, grid_of, write_grid_cause, write_grid_outcome, Grid, grid_contents}
use Rattle.surface.specs.Grid.{Converted, no_table, the_table, ConvertsTo, conversion_cause, converted_numbers}
use Rattle.surface.specs.Grid.{read_grid_cause, read_grid_outcome, OverTree, ReadGrid}
use Rattle.surface.proofs.Causes.{none-or_else, none-cause}
use Rattle.surface.proofs.RefusalLaws.{answer-gives, answer-refused}
use Rattle.surface.proofs.TableLaws.{tree-formed, sound}
use Rattle.surface.proofs.GridRefusals.{grid-fits, grid-declined}
use Rattle.uniqueness.proofs.Grids.{reads-acceptable}
use Rattle.conversion.specs.Grids.{grid_length}
use Rattle.conversion.specs.OfCalls.{sides_of}
use Rattle.conversion.proofs.Files.{grid-length}
use Rattle.conversion.proofs.Trees.{one-conversion}

-- ---- towards the grid

module _ (W H : ℕ) (t : List ℕ) (cs : List ℤ) (out : List ℕ) where
  abbrev file : List ℕ
  file = grid_file W H (grid_of W H t cs)

  file-length : length file ≡ grid_length W H
  file-length = (grid-length W H t cs).0

  -- what was put, at the front and behind it
  front : take (grid_length W H) (put file out) ≡ file
  front = take_at file (drop (length file) out) (grid_length W H) file-length

  behind : drop (grid_length W H) (put file out) ≡ drop (grid_length W H) out
  behind =
      drop_at file (drop (length file) out) (grid_length W H) file-length ∙ ap (λ n. drop n out) file-length

  -- a table whose grid was written is acceptable, and its grid stands at the front of the output
  pub record Written (n : ℕ) (after : List ℕ) : Type 0 where
    pub good : Acceptable W H t cs
    pub size : n ≡ grid_length W H
    pub bytes : take n after ≡ file

  pub written-to : (n : ℕ) (after : List ℕ) → SliceMeets (write_grid_outcome W H t cs out) (gives n) after
      → Written n after
  unfolding write_grid_outcome
  written-to n after p =
      let g = answer-gives (write_grid_cause W H t cs out) (length file) n (sym p.0) in
      record {
        good = (grid-fits W H t cs out g.0).0;
        size = sym g.1 ∙ file-length;
        bytes = ap₂ take (sym g.1 ∙ file-length) (p.1 ∙ ap (λ c. afterwards c out (put file out)) g.0) ∙ front;
      }

  -- the grid of an acceptable table is written to an output that holds it
  pub writing-done : Acceptable W H t cs → grid_length W H ≤ length out
      → (told : Answer ℕ) (after : List ℕ) → SliceMeets (write_grid_outcome W H t cs out) told after
      → (told ≡ gives (grid_length W H))
      × (take (grid_length W H) after ≡ file)
      × (drop (grid_length W H) after ≡ drop (grid_length W H) out)
  unfolding write_grid_outcome write_grid_cause
  writing-done good room told after p =
      let clear = none-or_else (table_cause W H t cs) (file_out_cause file out) good
      (ap (cause 18) (le-ltb (length out) (length file) (omega (arith, file-length)))) in
      let o = ap (λ c. done c (length file) (put file out) out) clear in
      let left = p.1 ∙ ap (λ o. o.after) o in (
        p.0 ∙ ap (λ o. o.result) o ∙ ap gives file-length,
        ap (take (grid_length W H)) left ∙ front,
        ap (drop (grid_length W H)) left ∙ behind,
      )

-- ---- from a grid

-- which table there is, and the outcome by it, for a grid that is judged good
known : (file t : List ℕ) (out : List ℤ) (g : Grid) → grid_contents file ≡ contains g
    → (told : Answer Sides) (after : List ℤ) → ReadGrid file t out (λ o. SliceMeets o told after)
    → (c : Converted) × ConvertsTo g.W g.H t g.numbers c
    × SliceMeets (read_grid_outcome (contains g) t c out) told after
known file t out g e told after r = (
  r.converted,
  subst (λ j. OverTree j t r.converted) e r.right,
  subst (λ j. SliceMeets (read_grid_outcome j t r.converted out) told after) e r.outcome,
)

-- a tree over which a table has readings is of the form
reads-formed : (W H : ℕ) (t : List ℕ) (cs grid : List ℤ) → ReadsAs W H t cs grid → formed W H (tree_of t) ≡ true
reads-formed W H t cs grid reads =
    tree-formed W H t (sound W H t cs (reads-acceptable W H t cs grid reads)).tree

-- the cause where there is a table: that of the slice's length
table-cause : (W H : ℕ) (t : List ℕ) (cs grid out : List ℤ) → ReadsAs W H t cs grid
    → read_grid_cause W H t (the_table cs) out ≡ length_cause (slots W H) out
table-cause W H t cs grid out reads =
    ap (λ c. c or_else length_cause (slots W H) out)
    (none-cause 2 (formed W H (tree_of t)) (reads-formed W H t cs grid reads))

-- where a table has a grid's readings it is given, or 16 is
pub table-given : (file t : List ℕ) (g : Grid) → grid_contents file ≡ contains g
    → (cs : List ℤ) → ReadsAs g.W g.H t cs g.numbers
    → (out : List ℤ) (told : Answer Sides) (after : List ℤ) → ReadGrid file t out (λ o. SliceMeets o told after)
    → (length out ≡ slots g.W g.H → (told ≡ gives (sides_of g)) × (after ≡ cs))
    × (¬ (length out ≡ slots g.W g.H) → (told ≡ refused 16) × (after ≡ out))
table-given file t g e cs reads out told after r =
    let (c, right, meets) = known file t out g e told after r in
    let W = g.W in
    let H = g.H in
    let same = one-conversion W H t g.numbers c (the_table cs) right reads in
    let here = subst (λ c. SliceMeets (read_grid_outcome (contains g) t c out) told after) same meets in
    let by : (k : ℕ) → length_cause (slots W H) out ≡ k
    → (told ≡ answer k (sides_of g)) × (after ≡ afterwards k out cs) =
    λ k z. let cause = table-cause W H t cs g.numbers out reads ∙ z in (
      here.0 ∙ ap (λ k. answer k (sides_of g)) cause,
      here.1 ∙ ap (λ k. afterwards k out cs) cause,
    ) in (
      λ size. by 0 (none-cause 16 (eqb (length out) (slots W H)) (eq-eqb (length out) (slots W H) size)),
      λ other. by 16 (ap (λ b. cause 16 (not b)) (ne_eqb (length out) (slots W H) other)),
    )

-- a slice that was left holds the table with the grid's readings
pub record Received (file t : List ℕ) (sides : Sides) (after : List ℤ) : Type 0 where
  pub grid : Grid
  pub held : grid_contents file ≡ contains grid
  pub same : sides ≡ sides_of grid
  pub reads : ReadsAs grid.W grid.H t after grid.numbers

-- no cause leaves a table
no-cause : (W H : ℕ) (t : List ℕ) (grid : List ℤ) (c : Converted) (out : List ℤ) → ConvertsTo W H t grid c
    → read_grid_cause W H t c out ≡ 0 → ReadsAs W H t (converted_numbers c) grid
no-cause W H t grid (the_table cs) out right e = right
no-cause W H t grid no_table out right e = absurd (go (formed W H (tree_of t)) e)
  where
    go : (b : Bool) → cause 2 (not b) or_else 21 ≡ 0 → ⊥
    go true e = omega arith
    go false e = omega arith

pub received : (file t : List ℕ) (out : List ℤ) (sides : Sides) (after : List ℤ)
    → ReadGrid file t out (λ o. SliceMeets o (gives sides) after) → Received file t sides after
received file t out sides after r = go (grid_contents file) refl r.right r.outcome
  where
    c : Converted
    c = r.converted

    go : (j : Judged Grid) → grid_contents file ≡ j → OverTree j t c
        → SliceMeets (read_grid_outcome j t c out) (gives sides) after → Received file t sides after
    go (declined n) e right p = absurd (let z : ◌≡◌ {A = ℕ} 0 1 = cc in omega arith)
    go (contains g) e right p =
        let k = read_grid_cause g.W g.H t c out in
        let a = answer-gives k (sides_of g) sides (sym p.0) in
        let left : after ≡ converted_numbers c = p.1 ∙ ap (λ k. afterwards k out (converted_numbers c)) a.0 in
        record {
          grid = g;
          held = e;
          same = sym a.1;
          reads =
              subst (λ cs. ReadsAs g.W g.H t cs g.numbers) (sym left)
              (no-cause g.W g.H t g.numbers c out right a.0);
        }

-- there is one table or none over a tree for what was judged, declined or not
one-over : (j : Judged Grid) (t : List ℕ) (c d : Converted) → OverTree j t c → OverTree j t d → c ≡ d
one-over (declined n) t c d p q = p ∙ sym q
one-over (contains g) t c d p q = one-conversion g.W g.H t g.numbers c d p q

-- so what is told and what is left are one
pub one-outcome : (file t : List ℕ) (out : List ℤ) (told told' : Answer Sides) (after after' : List ℤ)
    → ReadGrid file t out (λ o. SliceMeets o told after) → ReadGrid file t out (λ o. SliceMeets o told' after')
    → (told ≡ told') × (after ≡ after')
one-outcome file t out told told' after after' r s =
    let j = grid_contents file in
    let one = one-over j t r.converted s.converted r.right s.right in
    let same = ap (λ c. read_grid_outcome j t c out) one in (
      r.outcome.0 ∙ ap (λ o. o.result) same ∙ sym s.outcome.0,
      r.outcome.1 ∙ ap (λ o. o.after) same ∙ sym s.outcome.1,
    )

-- ---- 21

-- it is the cause of a tree of the form over which there is no table, and of nothing else
cause-21 : (b : Bool) (c : Converted) (l : Bool) → cause 2 (not b) or_else conversion_cause c or_else cause 16 l ≡ 21
    → (b ≡ true) × (c ≡ no_table)
cause-21 true no_table l e = (refl, refl)
cause-21 true (the_table cs) true e = absurd (omega arith)
cause-21 true (the_table cs) false e = absurd (omega arith)
cause-21 false c l e = absurd (omega arith)

pub record NoneThere (file t : List ℕ) (out after : List ℤ) : Type 0 where
  pub grid : Grid
  pub held : grid_contents file ≡ contains grid
  pub form : formed grid.W grid.H (tree_of t) ≡ true
  pub none : (cs : List ℤ) → ¬ ReadsAs grid.W grid.H t cs grid.numbers
  pub left : after ≡ out

pub none-there : (file t : List ℕ) (out after : List ℤ)
    → ReadGrid file t out (λ o. SliceMeets o (refused 21) after) → NoneThere file t out after
none-there file t out after r = go (grid_contents file) refl r.right r.outcome
  where
    c : Converted
    c = r.converted

    go : (j : Judged Grid) → grid_contents file ≡ j → OverTree j t c
        → SliceMeets (read_grid_outcome j t c out) (refused 21) after → NoneThere file t out after
    go (declined n) e right p =
        let same : ◌≡◌ {A = ℕ} 21 n = let q = p.0 in cc in
        absurd (true≢false (sym (grid-declined file 21 (e ∙ ap declined (sym same)))))
    go (contains g) e right p =
        let W = g.W in
        let H = g.H in
        let a = answer-refused (read_grid_cause W H t c out) (sides_of g) 21 (sym p.0) in
        let z = cause-21 (formed W H (tree_of t)) c (not (eqb (length out) (slots W H))) a.0 in
        record {
          grid = g;
          held = e;
          form = z.0;
          none = subst (λ c. ConvertsTo W H t g.numbers c) z.1 right;
          left = p.1 ∙ ap (λ k. afterwards k out (converted_numbers c)) a.0;
        }

-- where no table has the readings, 21 is given
pub none-given : (file t : List ℕ) (g : Grid) → grid_contents file ≡ contains g → formed g.W g.H (tree_of t) ≡ true
    → ((cs : List ℤ) → ¬ ReadsAs g.W g.H t cs g.numbers)
    → (out : List ℤ) (told : Answer Sides) (after : List ℤ) → ReadGrid file t out (λ o. SliceMeets o told after)
    → told ≡ refused 21
none-given file t g e form none out told after r =
    let (c, right, meets) = known file t out g e told after r in
    let W = g.W in
    let H = g.H in
    let same = one-conversion W H t g.numbers c no_table right none in
    meets.0
    ∙ ap (λ c. answer (read_grid_cause W H t c out) (sides_of g)) same
    ∙ ap (λ k. answer (k or_else 21 or_else length_cause (slots W H) out) (sides_of g))
    (none-cause 2 (formed W H (tree_of t)) form)
