-- The outcome of reading a file: refused by what its fields say, refused by a last cause, or read.
use Rattle.std.specs.Prelude.{Option, Result, Ok, Err}
use mathlib.Core.Path.{◌≡◌, refl, sym, ap, ap₂, ◌∙◌, subst}
use mathlib.Core.Bool.{true}
use mathlib.Core.List.{List}
use Prim.Native.Nat.{ℕ, zero, suc, ◌+◌, ◌-◌, ◌≤◌, ◌<◌}
use native.Mathlib.Nat.{le_refl}
use native.Mathlib.Decide.{dec_lt}
use native.Mathlib.Omega.{arith}
use borrow.Author.Tests.{ltb-false, eqb-true, lt-ltb, le-ltb}
use lib.Dec.{ltb, eqb}
use lib.IntN.{ℤ}
use lib.ListN.{length, drop, length-take, length-drop}
use Rattle.surface.specs.Table.{cause, ◌or_else◌, slots}
use Rattle.surface.specs.Calls.{refused, gives, put, written, TableMeets, length_cause}
use Rattle.surface.specs.Fields.{declined, holds}
use Rattle.surface.specs.Note.{part_of}
use Rattle.surface.specs.TableFile.{level_fields, file_contents, FileResult, file_outcome_of, file_outcome}
use Rattle.surface.specs.BenchLoading.{note_of, note_part, bench_outcome}
use Rattle.surface.proofs.Causes.{or_else-none, cause-none, cause-off}
use Rattle.answers.specs.declared.Bench.{Bench}
use Rattle.answers.specs.declared.Note.{Note}
use Rattle.answers.specs.declared.Refusal.{Refusal}
use Rattle.answers.specs.Refusals.{number}
use Rattle.answers.specs.Answers.{bench_answer, note_told}
use Rattle.answers.proofs.AnswerLaws.{table-refused, table_done}
use Rattle.demands.specs.FilePromises.{BenchPromise}
use Rattle.fields.proofs.PositionLaws.{body-size}
use Rattle.rows.specs.Rows.{levels_of}
use Rattle.judging.specs.Judged.{tree_in, last_judged, Head, note_at, EndJudged, part_from, lastly}

pub tree-length : (file : List ℕ) (end : ℕ) → end ≤ length file → length (tree_in file end) ≡ end - 8
tree-length file end h = simp (length-take, length-drop) (omega arith)

pub read-declined : (file tree : List ℕ) (numbers : List ℤ) (n : ℕ) → file_contents file ≡ declined n
    → TableMeets (file_outcome file tree numbers) (refused n) tree numbers
unfolding file_outcome
read-declined file tree numbers n e = rw e (refl, refl, refl)

pub levels-declined : (file : List ℕ) (end from W H : ℕ) (rows : List ℕ) (c : ℕ) → Head file end from W H rows
    → level_fields W H (levels_of rows) 4 (drop from file) ≡ declined c → file_contents file ≡ declined c
levels-declined file end from W H rows c h e = rw e at h.contents

-- a call that is refused tells of no note
bench-refused : (file tree : List ℕ) (numbers : List ℤ) (e : Refusal)
    → TableMeets (file_outcome file tree numbers) (refused (number e)) tree numbers
    → BenchPromise file tree numbers (Err e) tree numbers
unfolding bench_outcome
bench-refused file tree numbers e m = (m, ap (λ a. note_part a file (note_of (file_contents file))) m.0)

pub bench-declined : (file tree : List ℕ) (numbers : List ℤ) (e : Refusal) → file_contents file ≡ declined (number e)
    → BenchPromise file tree numbers (Err e) tree numbers
bench-declined file tree numbers e q = bench-refused file tree numbers e (read-declined file tree numbers (number e) q)

-- the controller's loader answers as the bench loader does
pub bench-reads : (file tree_out : List ℕ) (numbers_out : List ℤ) (r : Result Bench Refusal) (tree : List ℕ)
    (numbers : List ℤ) → BenchPromise file tree_out numbers_out r tree numbers
    → TableMeets (file_outcome file tree_out numbers_out) (bench_answer r) tree numbers
unfolding bench_outcome
bench-reads file tree_out numbers_out r tree numbers p = p.0

-- the part that is told is the note's
part-told : (file : List ℕ) (at : ℕ) → (at < length file → at + 3 ≤ length file)
    → part_from at (length file) ≡ part_of file (note_at file at (length file))
part-told file at h = go (dec_lt at (length file))
  where
    go : Dec (at < length file) → part_from at (length file) ≡ part_of file (note_at file at (length file))
    go (yes l) =
        let size = body-size file at (length file) (le_refl (length file)) in
        rw (lt-ltb at (length file) l)
        (ap₂ (λ o n. record { stands = true; offset = o; size = n }) (omega (arith, size, h l)) (sym size))
    go (no l) = rw (le-ltb at (length file) (omega arith))

-- ---- the outputs

module _ (file : List ℕ) (end from last W H : ℕ) (rows : List ℕ) (found : List ℤ) (k : ℕ)
    (h : Head file end from W H rows)
    (e : level_fields W H (levels_of rows) 4 (drop from file) ≡ holds found (drop last file))
    (j : EndJudged k file last) (tree : List ℕ) (numbers : List ℤ) where
  abbrev due : ℕ
  due = lastly k W H (end - 8) tree numbers

  abbrev given : FileResult
  given = record { tree_length = end - 8; W = W; H = H }

  contents : file_contents file ≡ last_judged W H (tree_in file end) found (drop last file)
  contents = rw e at h.contents

  outcome : file_outcome file tree numbers ≡ written due given (tree_in file end) found tree numbers
  unfolding file_outcome
  outcome =
      ap (λ x. file_outcome_of x tree numbers) contents
      ∙ by k j
      ∙ ap
      (λ n. written (lastly k W H n tree numbers) (record { tree_length = n; W = W; H = H }) (tree_in file end) found tree
      numbers)
      (tree-length file end h.size)
    where
      by : (k : ℕ) → EndJudged k file last
          → file_outcome_of (last_judged W H (tree_in file end) found (drop last file)) tree numbers
          ≡ written (lastly k W H (length (tree_in file end)) tree numbers)
          (record { tree_length = length (tree_in file end); W = W; H = H }) (tree_in file end) found tree numbers
      by zero j = rw j.1
      by (suc c) j = rw (j W H (tree_in file end) found)

  pub fill-refused : (e : Refusal) → number e ≡ due → BenchPromise file tree numbers (Err e) tree numbers
  fill-refused e q =
      bench-refused file tree numbers e (rw outcome (table-refused e q given (tree_in file end) found tree numbers))

  -- where no cause applies, nothing but a note follows the levels
  pub ended : due ≡ 0 → EndJudged 0 file last
  ended q =
      let late = length_cause (slots W H) numbers or_else cause 17 (ltb (length tree) (end - 8)) in
      subst (λ k. EndJudged k file last) (or_else-none k late q).0 j

  note-found : due ≡ 0 → part_from last (length file) ≡ part_of file (note_of (file_contents file))
  note-found z =
      let q = ended z in
      let same : note_of (last_judged W H (tree_in file end) found (drop last file)) ≡ note_at file last (length file) =
      rw q.1 in
      part-told file last q.0 ∙ ap (part_of file) (sym (ap note_of contents ∙ same))

  pub bench-done : (told : Option Note) {t : List ℕ} {after : List ℤ} → note_told told ≡ part_from last (length file)
      → 0 ≡ due → t ≡ put (tree_in file end) tree → after ≡ found
      → BenchPromise file tree numbers
      (Ok (record { loaded = record { length = end - 8; w = W; h = H }; note = told })) t after
  unfolding bench_outcome
  bench-done told {t} {after} n q p f =
      let m : TableMeets (file_outcome file tree numbers) (gives given) t after =
      rw outcome (table_done q refl f (tree_in file end) tree t numbers p) in
      (m, n ∙ note-found (sym q) ∙ ap (λ a. note_part a file (note_of (file_contents file))) m.0)

  -- where no cause applies, the outputs have their lengths
  pub outputs-fit : due ≡ 0 → (length numbers ≡ slots W H) × (end - 8 ≤ length tree)
  outputs-fit q =
      let first = length_cause (slots W H) numbers in
      let second = cause 17 (ltb (length tree) (end - 8)) in
      let u = or_else-none first second (or_else-none k (first or_else second) q).1 in (
        eqb-true (length numbers) (slots W H) (cause-none 15 (eqb (length numbers) (slots W H)) u.0),
        ltb-false (length tree) (end - 8) (cause-off 16 (ltb (length tree) (end - 8)) u.1),
      )
