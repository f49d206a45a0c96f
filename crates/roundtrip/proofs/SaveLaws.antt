-- What the outcomes of saving and of loading say of the file that was written or read, of any answers.
use mathlib.Core.Path.{◌≡◌, refl, sym, ap, ◌∙◌}
use mathlib.Core.Bool.{Bool, true}
use mathlib.Core.List.{List}
use Prim.Native.Nat.{ℕ, ◌≤◌}
use native.Mathlib.Omega.{arith}
use borrow.Author.Tests.{le-ltb, eq-eqb}
use lib.IntN.{ℤ}
use lib.ListN.{length, take, drop}
use lib.Seq.{take-append_seam}
use Rattle.surface.specs.Table.{cause, ◌or_else◌, slots, table_cause, Acceptable}
use Rattle.surface.specs.Calls.{Answer, gives, afterwards, put, written, TableMeets, done, SliceMeets, length_cause}
use Rattle.surface.specs.Calls.{tree_out_cause, outputs_cause}
use Rattle.surface.specs.Fields.{declined, contains}
use Rattle.surface.specs.TableFile.{Loaded, File, file_contents, FileResult, file_outcome_of, file_outcome}
use Rattle.surface.specs.TableFile.{file_with, file_of}
use Rattle.surface.specs.Note.{Note, note_fits, NotePart, part_of}
use Rattle.surface.specs.BenchLoading.{note_of, note_part, Benched, bench_outcome}
use Rattle.surface.specs.Saving.{note_cause, file_out_cause, save_cause, save_outcome}
use Rattle.surface.proofs.Causes.{or_else-none, none-or_else, none-cause}
use Rattle.surface.proofs.RefusalLaws.{answer-gives}
use Rattle.surface.proofs.FileRefusals.{file-fits}
use Rattle.tablefile.proofs.Saved.{saved-loads}

-- the front of what is put is what was put
pub put-take : (file out : List ℕ) → take (length file) (put file out) ≡ file
put-take file out = take-append_seam file (drop (length file) out)

-- ---- saving

module _ (W H : ℕ) (t : List ℕ) (cs : List ℤ) (note : Note) (out : List ℕ) where
  abbrev file : List ℕ
  file = file_of note W H t cs

  -- a table that was saved is acceptable and its note fits, and its file stands at the front of the output
  pub record SavedTo (n : ℕ) (after : List ℕ) : Type 0 where
    pub good : Acceptable W H t cs
    pub fits : note_fits note ≡ true
    pub size : n ≡ length file
    pub bytes : take n after ≡ file

  pub saved-to : (n : ℕ) (after : List ℕ) → SliceMeets (save_outcome W H t cs note out) (gives n) after → SavedTo n after
  unfolding save_outcome save_cause
  saved-to n after p =
      let g = answer-gives (save_cause W H t cs note out) (length file) n (sym p.0) in
      record {
        good = (or_else-none (table_cause W H t cs) (note_cause note or_else file_out_cause file out) g.0).0;
        fits = (file-fits W H t cs note out g.0).1;
        size = sym g.1;
        bytes = ap (λ k. take k after) (sym g.1)
            ∙ ap (take (length file)) (p.1 ∙ ap (λ c. afterwards c out (put file out)) g.0)
            ∙ put-take file out;
      }

  -- an acceptable table is saved, with a note that fits, to an output that holds its file
  pub saving-done : Acceptable W H t cs → note_fits note ≡ true → length file ≤ length out
      → (a : Answer ℕ) (after : List ℕ) → SliceMeets (save_outcome W H t cs note out) a after
      → (a ≡ gives (length file)) × (take (length file) after ≡ file)
  unfolding save_outcome save_cause
  saving-done good fits room a after p =
      let late = none-or_else (note_cause note) (file_out_cause file out) (none-cause 14 (note_fits note) fits)
      (ap (cause 18) (le-ltb (length out) (length file) room)) in
      let clear = none-or_else (table_cause W H t cs) (note_cause note or_else file_out_cause file out) good late in
      let o = ap (λ c. done c (length file) (put file out) out) clear in (
        p.0 ∙ ap (λ o. o.result) o,
        ap (take (length file)) (p.1 ∙ ap (λ o. o.after) o) ∙ put-take file out,
      )

-- ---- loading

-- 16 and 17 do not apply to outputs that hold the table
outputs-none : (W H : ℕ) (tree tree_out : List ℕ) (numbers_out : List ℤ) → length tree ≤ length tree_out
    → length numbers_out ≡ slots W H → outputs_cause W H tree tree_out numbers_out ≡ 0
outputs-none W H tree tree_out numbers_out room size =
    none-or_else (length_cause (slots W H) numbers_out) (tree_out_cause tree tree_out)
    (rw (eq-eqb (length numbers_out) (slots W H) size))
    (ap (cause 17) (le-ltb (length tree_out) (length tree) room))

-- the file of an acceptable table, with the counts or without them and with a note or none, is loaded to outputs that
-- hold the table
pub loading-done : (counts : Bool) (note : Note) (W H : ℕ) (t : List ℕ) (cs : List ℤ) → Acceptable W H t cs
    → note_fits note ≡ true → (tree_out : List ℕ) (numbers_out : List ℤ) → length t ≤ length tree_out
    → length numbers_out ≡ slots W H
    → (a : Answer FileResult) (tree : List ℕ) (numbers : List ℤ)
    → TableMeets (file_outcome (file_with counts note W H t cs) tree_out numbers_out) a tree numbers
    → (a ≡ gives (record { tree_length = length t; W = W; H = H })) × (tree ≡ put t tree_out) × (numbers ≡ cs)
unfolding file_outcome
loading-done counts note W H t cs good fits tree_out numbers_out room size a tree numbers p =
    let o = ap (λ f. file_outcome_of f tree_out numbers_out) (saved-loads counts note W H t cs good fits).0
    ∙ ap (λ c. written c (record { tree_length = length t; W = W; H = H }) t cs tree_out numbers_out)
    (outputs-none W H t tree_out numbers_out room size) in (
      p.0 ∙ ap (λ o. o.result) o,
      p.1 ∙ ap (λ o. o.tree) o,
      p.2 ∙ ap (λ o. o.numbers) o,
    )

-- what a file that was loaded holds, by what was returned and written
pub record LoadedFrom (file : List ℕ) (r : FileResult) (tree : List ℕ) (numbers : List ℤ) : Type 0 where
  pub found : Loaded
  pub held : file_contents file ≡ contains found
  pub side_w : r.W ≡ found.W
  pub side_h : r.H ≡ found.H
  pub tree_length : r.tree_length ≡ length found.tree
  pub same_tree : take r.tree_length tree ≡ found.tree
  pub same_numbers : numbers ≡ found.numbers

pub loaded-from : (file tree_out : List ℕ) (numbers_out : List ℤ) (r : FileResult) (tree : List ℕ) (numbers : List ℤ)
    → TableMeets (file_outcome file tree_out numbers_out) (gives r) tree numbers → LoadedFrom file r tree numbers
unfolding file_outcome
loaded-from file tree_out numbers_out r tree numbers p = go (file_contents file) refl p
  where
    go : (g : File) → file_contents file ≡ g → TableMeets (file_outcome_of g tree_out numbers_out) (gives r) tree numbers
        → LoadedFrom file r tree numbers
    go (declined n) e p = absurd (let z : ◌≡◌ {A = ℕ} 0 1 = cc in omega arith)
    go (contains f) e p =
        let c = outputs_cause f.W f.H f.tree tree_out numbers_out in
        let g = answer-gives c (record { tree_length = length f.tree; W = f.W; H = f.H }) r (sym p.0) in
        let long = ap (λ r. r.tree_length) (sym g.1) in
        record {
          found = f;
          held = e;
          side_w = ap (λ r. r.W) (sym g.1);
          side_h = ap (λ r. r.H) (sym g.1);
          tree_length = long;
          same_tree = ap (λ k. take k tree) long
              ∙ ap (take (length f.tree)) (p.1 ∙ ap (λ c. afterwards c tree_out (put f.tree tree_out)) g.0)
              ∙ put-take f.tree tree_out;
          same_numbers = p.2 ∙ ap (λ c. afterwards c numbers_out f.numbers) g.0;
        }

-- ---- the bench loader

-- an answer, the part that is told of and both outputs are those of the bench loader's outcome
abbrev pub BenchMeets : Benched → Answer FileResult → NotePart → List ℕ → List ℤ → Type 0
BenchMeets o a p tree numbers = TableMeets o.loaded a tree numbers × (p ≡ o.note)

module _ (file tree_out : List ℕ) (numbers_out : List ℤ) (a : Answer FileResult) (p : NotePart) (tree : List ℕ)
    (numbers : List ℤ) (m : BenchMeets (bench_outcome file tree_out numbers_out) a p tree numbers) where
  -- it reads as the controller's loader does
  pub bench-reads : TableMeets (file_outcome file tree_out numbers_out) a tree numbers
  unfolding bench_outcome
  bench-reads = m.0

  -- and tells of the file's note
  pub bench-tells : (f : FileResult) → a ≡ gives f → p ≡ part_of file (note_of (file_contents file))
  unfolding bench_outcome
  bench-tells f e = m.1 ∙ ap (λ a. note_part a file (note_of (file_contents file))) (sym m.0.0 ∙ e)
