-- From the promises of the calls to what both converters keep.
use mathlib.Core.Path.{◌≡◌, sym, ap, ◌∙◌, subst}
use mathlib.Core.List.{List}
use Prim.Native.Nat.{ℕ}
use native.Mathlib.Omega.{arith}
use lib.IntN.{ℤ}
use lib.ListN.{length, take}
use Rattle.surface.specs.Calls.{Answer, refused, gives, SliceMeets, exact_outcome}
use Rattle.surface.specs.Fields.{contains}
use Rattle.surface.specs.TableFile.{Sides}
use Rattle.surface.specs.Grid.{ReadsAs, grid_file, grid_of, write_grid_outcome, Grid, grid_contents, ReadGrid}
use Rattle.surface.specs.Demands.{Contents}
use Rattle.surface.proofs.TableLaws.{sound, sides}
use Rattle.answers.proofs.CodeLaws.{told}
use Rattle.uniqueness.proofs.Grids.{reads-acceptable}
use Rattle.conversion.specs.OfCalls.{Wrote, Read, Asked, table, grid_bytes, TellsAs, ToldAs, Converts}
use Rattle.conversion.specs.OfCalls.{WrittenReads, ReadReads, NoneReads, SomeReads, GivenThere, OneOutcome}
use Rattle.conversion.specs.OfCalls.{OwnTreeBack, FinerTreeBack, WholeSheetBack, GridBack, Conversion}
use Rattle.conversion.specs.OfCalls.{ConversionOfCalls}
use Rattle.conversion.proofs.Grids.{grid-reads, one-grid-each}
use Rattle.conversion.proofs.Files.{grid-length, grid-loads, judged-good, one-file-each}
use Rattle.conversion.proofs.Trees.{own-tree, whole-sheet, finer-tree}
use Rattle.conversion.proofs.Outcomes.{written-to, writing-done, table-given, received, one-outcome}
use Rattle.conversion.proofs.Outcomes.{none-there, none-given}

-- of calls whose answers meet the outcomes
module _ (Wrote : ℕ → ℕ → Contents → List ℕ → Answer ℕ → List ℕ → Type 0)
    (Read : List ℕ → List ℕ → List ℤ → Answer Sides → List ℤ → Type 0)
    (Asked : ℕ → ℕ → Contents → ℕ → ℕ → Answer ℤ → Type 0)
    (wrote : (W H : ℕ) (c : Contents) (out : List ℕ) (told : Answer ℕ) (after : List ℕ)
    → Wrote W H c out told after → SliceMeets (write_grid_outcome W H c.tree c.numbers out) told after)
    (read : (file t : List ℕ) (out : List ℤ) (told : Answer Sides) (after : List ℤ)
    → Read file t out told after → ReadGrid file t out (λ o. SliceMeets o told after))
    (asked : (W H : ℕ) (c : Contents) (u v : ℕ) (told : Answer ℤ)
    → Asked W H c u v told → told ≡ exact_outcome W H c.tree c.numbers u v) where
  -- a table that reads as a grid tells its readings, and one that told them reads so
  tells : (W H : ℕ) (c : Contents) (grid : List ℤ) → ReadsAs W H c.tree c.numbers grid
      → TellsAs Wrote Read Asked W H c grid
  tells W H c grid reads u v on told a = asked W H c u v told a ∙ reads u v on

  told-reads : (W H : ℕ) (t : List ℕ) (cs grid : List ℤ) → ToldAs Wrote Read Asked W H (table t cs) grid
      → ReadsAs W H t cs grid
  told-reads W H t cs grid a u v on = sym (asked W H (table t cs) u v _ (a u v on))

  -- the grid that was written, as it is judged
  loads : (W H : ℕ) (c : Contents) (out : List ℕ) (n : ℕ) (written : List ℕ) → Wrote W H c out (gives n) written
      → grid_contents (take n written)
      ≡ contains (record { W = W; H = H; numbers = grid_of W H c.tree c.numbers })
  loads W H c out n written w =
      let s = written-to W H c.tree c.numbers out n written (wrote W H c out (gives n) written w) in
      ap grid_contents s.bytes ∙ (grid-loads W H c.tree c.numbers s.good).0

  converts : Converts Wrote Read Asked
  converts W H c out acc =
      let (_, hW, _, hH) = sides (sound W H c.tree c.numbers acc) in (
        (grid-length W H c.tree c.numbers).1 hW hH,
        λ room told after w.
            writing-done W H c.tree c.numbers out acc (omega (arith, room)) told after
            (wrote W H c out told after w),
      )

  written-reads : WrittenReads Wrote Read Asked
  written-reads W H c out n after w =
      let s = written-to W H c.tree c.numbers out n after (wrote W H c out (gives n) after w) in
      let grid = grid_of W H c.tree c.numbers in (
        s.size,
        grid,
        loads W H c out n after w,
        tells W H c grid (grid-reads W H c.tree c.numbers s.good),
      )

  read-reads : ReadReads Wrote Read Asked
  read-reads file t out sides after r =
      let s = received file t out sides after (read file t out (gives sides) after r) in
      let g = s.grid in (
        g,
        s.held,
        s.same,
        reads-acceptable g.W g.H t after g.numbers s.reads,
        tells g.W g.H (table t after) g.numbers s.reads,
      )

  none-reads : NoneReads Wrote Read Asked
  none-reads file t out after r =
      let s = none-there file t out after (read file t out (refused 21) after r) in
      let g = s.grid in
      (g, s.held, s.form, λ cs a. s.none cs (told-reads g.W g.H t cs g.numbers a), s.left)

  some-reads : SomeReads Wrote Read Asked
  some-reads file t g e cs a out told after r =
      table-given file t g e cs (told-reads g.W g.H t cs g.numbers a) out told after
      (read file t out told after r)

  given-there : GivenThere Wrote Read Asked
  given-there file t g e form out told after r =
      let m = read file t out told after r in (
        λ z. let s = none-there file t out after
            (subst (λ a. ReadGrid file t out (λ o. SliceMeets o a after)) z m) in
            let same : s.grid ≡ g = let q = sym s.held ∙ e in cc in
            subst (λ g. (cs : List ℤ) → ¬ ReadsAs g.W g.H t cs g.numbers) same s.none,
        λ none. none-given file t g e form none out told after m,
      )

  one-outcome-each : OneOutcome Wrote Read Asked
  one-outcome-each file t out told told' after after' r s =
      one-outcome file t out told told' after after' (read file t out told after r) (read file t out told' after' s)

  own-tree-back : OwnTreeBack Wrote Read Asked
  own-tree-back W H c out n written w numbers_out size told after r =
      let s = written-to W H c.tree c.numbers out n written (wrote W H c out (gives n) written w) in
      let grid : Grid = record { W = W; H = H; numbers = grid_of W H c.tree c.numbers } in
      (table-given (take n written) c.tree grid (loads W H c out n written w) c.numbers
      (own-tree W H c.tree c.numbers s.good) numbers_out told after
      (read (take n written) c.tree numbers_out told after r)).0 (omega (arith, size))

  finer-tree-back : FinerTreeBack Wrote Read Asked
  finer-tree-back W H c out n written w t good rise numbers_out told after r =
      let s = written-to W H c.tree c.numbers out n written (wrote W H c out (gives n) written w) in
      let grid : Grid = record { W = W; H = H; numbers = grid_of W H c.tree c.numbers } in
      let e = loads W H c out n written w in
      let fine = finer-tree W H c.tree c.numbers s.good t good
      (λ q r hq hr. omega (arith, rise q r hq hr)) in
      let m = read (take n written) t numbers_out told after r in (
        λ z. let none = none-there (take n written) t numbers_out after
            (subst (λ a. ReadGrid (take n written) t numbers_out (λ o. SliceMeets o a after)) z m) in
            let same : none.grid ≡ grid = let q = sym none.held ∙ e in cc in
            subst (λ g. (cs : List ℤ) → ¬ ReadsAs g.W g.H t cs g.numbers) same none.none _ fine,
        λ size. (table-given (take n written) t grid e _ fine numbers_out told after m).0 size,
      )

  whole-sheet-back : WholeSheetBack Wrote Read Asked
  whole-sheet-back file t g e good fine out size told after r =
      (table-given file t g e _ (whole-sheet file g e t good (λ q r hq hr. omega (arith, fine q r hq hr))) out told after
      (read file t out told after r)).0 (omega (arith, size))

  grid-back : GridBack Wrote Read Asked
  grid-back file t out sides after bs r bytes_out room told written w =
      let s = received file t out sides after (read file t out (gives sides) after r) in
      let g = s.grid in
      let W = g.W in
      let H = g.H in
      let ok = judged-good file g s.held in
      let acc = reads-acceptable W H t after g.numbers s.reads in
      let same : grid_bytes W H (table t after) ≡ file =
      ap (grid_file W H) (sym (one-grid-each W H t after g.numbers s.reads ok.size))
      ∙ sym (one-file-each file bs g s.held) in
      let size = sym (grid-length W H t after).0 ∙ ap length same in
      let here = subst (λ x. Wrote x.W x.H (table t after) bytes_out told written) s.same w in
      let d = writing-done W H t after bytes_out acc (omega arith) told written
      (wrote W H (table t after) bytes_out told written here) in
      (d.0 ∙ ap gives size, ap (λ n. take n written) (sym size) ∙ d.1 ∙ same)

  pub conversion : Conversion Wrote Read Asked
  conversion =
      record {
        converts = converts;
        written_reads = written-reads;
        read_reads = read-reads;
        none_reads = none-reads;
        some_reads = some-reads;
        given_there = given-there;
        one_outcome = one-outcome-each;
        own_tree_back = own-tree-back;
        finer_tree_back = finer-tree-back;
        whole_sheet_back = whole-sheet-back;
        grid_back = grid-back;
      }

-- ---- the calls

pub conversion-of-calls : ConversionOfCalls
conversion-of-calls =
    conversion Wrote Read Asked
    (λ W H c out told after (r, p, e). (sym e ∙ p.0, p.1))
    (λ file t out told after (r, p, e). record {
      converted = p.converted;
      right = p.right;
      outcome = (sym e ∙ p.outcome.0, p.outcome.1);
    })
    (λ W H c u v told (r, p, e). sym e ∙ p)
