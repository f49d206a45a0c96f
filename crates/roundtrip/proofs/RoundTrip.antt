-- From the promises of the calls to the round trips.
use Rattle.std.specs.Prelude.{Result}
use mathlib.Core.Path.{◌≡◌, refl, sym, ap, ap₂, ◌∙◌, subst}
use mathlib.Core.Bool.{Bool, true}
use mathlib.Core.List.{List, ◌++◌}
use Prim.Native.Nat.{ℕ, ◌+◌, ◌-◌, ◌≤◌}
use native.Mathlib.Omega.{arith}
use lib.IntN.{ℤ}
use lib.ListN.{length, take, drop, length-take, length-drop}
use Rattle.surface.specs.Support.{active_count}
use Rattle.surface.specs.Table.{levels, Acceptable}
use Rattle.surface.specs.Calls.{Answer, gives, TableMeets, SliceMeets}
use Rattle.surface.specs.Fields.{Bytes}
use Rattle.surface.specs.Note.{Note, none, noted, note_bytes, note_fits, NotePart, part_of, note_in}
use Rattle.surface.specs.TableFile.{file_contents, FileResult, file_outcome, file_with}
use Rattle.surface.specs.BenchLoading.{note_of, bench_outcome}
use Rattle.surface.specs.Saving.{save_outcome}
use Rattle.surface.specs.Demands.{Contents}
use Rattle.answers.specs.declared.Refusal.{Refusal}
use Rattle.answers.specs.Answers.{file_answer, bench_answer, bench_note, value_answer}
use Rattle.demands.specs.FilePromises.{WritePromise}
use Rattle.tablefile.specs.Counts.{has_counts, with_counts, Tells}
use Rattle.tablefile.specs.Notes.{Bare, up_to}
use Rattle.tablefile.proofs.CountsTold.{counts-there, file-counts-tell}
use Rattle.tablefile.proofs.NoteAfter.{note-passed-over}
use Rattle.tablefile.proofs.NoteTold.{part-is-note, note-is-part, saved-without}
use Rattle.tablefile.proofs.Saved.{saved-loads, loaded-is, saved-of-loaded, longest-file}
use Rattle.tablefile.proofs.Theorems.{accepted-is-acceptable}
use Rattle.roundtrip.specs.RoundTrip.{HoldTable, Restored, saved_file, file_note, noteless, completed}
use Rattle.roundtrip.specs.RoundTrip.{LoadingRestores, BenchRestores, LoadedNote, SavingKeeps, SavingDrops}
use Rattle.roundtrip.specs.RoundTrip.{FilesOfTable, PassesOver, SavedCountsTell, LoadedCountsTell, RoundTrip}
use Rattle.roundtrip.proofs.SaveLaws.{put-take, saved-to, saving-done, loading-done, LoadedFrom}
use Rattle.roundtrip.proofs.SaveLaws.{loaded-from, BenchMeets, bench-reads, bench-tells}

-- ---- of any answers

-- a file of the table, with the counts or without them and with a note or none, restores it
pub answer-loads : (counts : Bool) (note : Note) (W H : ℕ) (c : Contents) → Acceptable W H c.tree c.numbers
    → note_fits note ≡ true → (file tree_out : List ℕ) (numbers_out : List ℤ) → HoldTable W H c tree_out numbers_out
    → (a : Answer FileResult) (tree : List ℕ) (numbers : List ℤ)
    → TableMeets (file_outcome file tree_out numbers_out) a tree numbers
    → file ≡ file_with counts note W H c.tree c.numbers
    → (f : FileResult) × (a ≡ gives f) × Restored W H c f tree numbers
answer-loads counts note W H c good fits file tree_out numbers_out room a tree numbers q e =
    let t = c.tree in
    let d = loading-done counts note W H t c.numbers good fits tree_out numbers_out room.tree room.numbers a tree
    numbers (subst (λ file. TableMeets (file_outcome file tree_out numbers_out) a tree numbers) e q) in (
      record { tree_length = length t; W = W; H = H },
      d.0,
      record {
        side_w = refl;
        side_h = refl;
        tree_length = refl;
        same_tree = ap (take (length t)) d.1 ∙ put-take t tree_out;
        same_numbers = d.2;
      },
    )

-- ---- saving, then loading

module _ (W H : ℕ) (c : Contents) (note : Note) (out : List ℕ) (n : ℕ) (after : List ℕ)
    (p : SliceMeets (save_outcome W H c.tree c.numbers note out) (gives n) after) where
  pub answer-restores : (tree_out : List ℕ) (numbers_out : List ℤ) → HoldTable W H c tree_out numbers_out
      → (a : Answer FileResult) (tree : List ℕ) (numbers : List ℤ)
      → TableMeets (file_outcome (take n after) tree_out numbers_out) a tree numbers
      → (f : FileResult) × (a ≡ gives f) × Restored W H c f tree numbers
  answer-restores tree_out numbers_out room a tree numbers q =
      let s = saved-to W H c.tree c.numbers note out n after p in
      answer-loads true note W H c s.good s.fits (take n after) tree_out numbers_out room a tree numbers q
      s.bytes

  -- the note of what was saved is the one that was lent
  note-saved : file_note (take n after) ≡ note
  note-saved =
      let s = saved-to W H c.tree c.numbers note out n after p in
      ap note_of
      (ap file_contents s.bytes ∙ (saved-loads true note W H c.tree c.numbers s.good s.fits).0)

  pub answer-noted : (f : FileResult) (tree_out : List ℕ) (numbers_out : List ℤ) (a : Answer FileResult) (part : NotePart)
      (tree : List ℕ) (numbers : List ℤ)
      → BenchMeets (bench_outcome (take n after) tree_out numbers_out) a part tree numbers → a ≡ gives f
      → (part ≡ part_of (take n after) note) × (note_in (take n after) part ≡ note)
  answer-noted f tree_out numbers_out a part tree numbers m e =
      let s = saved-to W H c.tree c.numbers note out n after p in
      let here = bench-tells (take n after) tree_out numbers_out a part tree numbers m f e
      ∙ ap (part_of (take n after)) note-saved in (
        here,
        ap (note_in (take n after)) here
            ∙ subst (λ file. note_in file (part_of file note) ≡ note) (sym s.bytes)
            (part-is-note true note W H c.tree c.numbers),
      )

  -- the counts in what was saved
  pub answer-counts : (has_counts (take n after) ≡ true) × Tells W H c.tree (take n after)
  answer-counts =
      let s = saved-to W H c.tree c.numbers note out n after p in
      let has = counts-there true note W H c.tree c.numbers s.good s.fits in
      let held = (saved-loads true note W H c.tree c.numbers s.good s.fits).0 in
      subst (λ file. (has_counts file ≡ true) × Tells W H c.tree file) (sym s.bytes)
      (has, file-counts-tell (saved_file note W H c) _ held has)

-- ---- loading, then saving

-- the bytes of a note
abbrev note_length : Note → ℕ
note_length none = 0
note_length (noted b) = length b

-- what is saved of a loaded table, with a note that fits, is the file of what was found
saved-again : (file : List ℕ) (f : FileResult) (tree : List ℕ) (numbers : List ℤ)
    → (l : LoadedFrom file f tree numbers) → (note : Note) → note_fits note ≡ true → (new : List ℕ)
    → saved_file note l.found.W l.found.H (record { tree = l.found.tree; numbers = l.found.numbers }) ≡ new
    → (out : List ℕ) → length new ≤ length out → (a : Answer ℕ) (after : List ℕ)
    → SliceMeets (save_outcome f.W f.H (take f.tree_length tree) numbers note out) a after
    → ((a ≡ gives (length new)) × (take (length new) after ≡ new)) × (new ≡ file → has_counts file ≡ true)
saved-again file f tree numbers l note fits new same out room a after q =
    let g = l.found in
    let good = accepted-is-acceptable file g l.held in
    let outcome =
    ap₂ (λ W H. save_outcome W H (take f.tree_length tree) numbers note out) l.side_w l.side_h
    ∙ ap₂ (λ t cs. save_outcome g.W g.H t cs note out) l.same_tree l.same_numbers in (
      subst (λ file. (a ≡ gives (length file)) × (take (length file) after ≡ file)) same
          (saving-done g.W g.H g.tree g.numbers note out good fits
          (subst (λ file. length file ≤ length out) (sym same) room) a after
          (subst (λ o. SliceMeets o a after) outcome q)),
      λ e. subst (λ s. has_counts s ≡ true) (same ∙ e)
          (counts-there true note g.W g.H g.tree g.numbers good fits),
    )

-- a file with the counts of what was found, by what was returned
completed-by : (file s : List ℕ) (f : FileResult) (tree : List ℕ) (numbers : List ℤ)
    (l : LoadedFrom file f tree numbers)
    → with_counts (active_count l.found.W l.found.H (levels l.found.tree)) s ≡ completed f tree s
completed-by file s f tree numbers l =
    ap₂ (λ W H. with_counts (active_count W H (levels l.found.tree)) s) (sym l.side_w) (sym l.side_h)
    ∙ ap (λ t. with_counts (active_count f.W f.H (levels t)) s) (sym l.same_tree)

module _ (file tree_out : List ℕ) (numbers_out : List ℤ) (bytes : Bytes file) (f : FileResult) (tree : List ℕ)
    (numbers : List ℤ) (p : TableMeets (file_outcome file tree_out numbers_out) (gives f) tree numbers) where
  -- the part that is told of is the note
  pub answer-part : (part : NotePart) → part ≡ part_of file (file_note file) → note_in file part ≡ file_note file
  answer-part part told =
      let l = loaded-from file tree_out numbers_out f tree numbers p in
      let note = ap note_of l.held in
      ap (note_in file) (told ∙ ap (part_of file) note) ∙ note-is-part file bytes l.found l.held ∙ sym note

  -- and lies in the file
  pub answer-inside : (part : NotePart) → part ≡ part_of file (file_note file) → part.offset + part.size ≤ length file
  answer-inside part told =
      subst (λ part. part.offset + part.size ≤ length file) (sym told) (go (file_note file) (answer-part _ refl))
    where
      go : (note : Note) → note_in file (part_of file note) ≡ note
          → (part_of file note).offset + (part_of file note).size ≤ length file
      go none e = omega arith
      go (noted b) e =
          let rest = drop (length file - length b) file in
          omega (
            arith,
            ap note_length e,
            length-take (length b) rest,
            length-drop (length file - length b) file,
          )

  pub answer_keeps : (part : NotePart) → part ≡ part_of file (file_note file)
      → (out : List ℕ) → length (completed f tree file) ≤ length out → (a : Answer ℕ) (after : List ℕ)
      → SliceMeets (save_outcome f.W f.H (take f.tree_length tree) numbers (note_in file part) out) a after
      → ((a ≡ gives (length (completed f tree file)))
      × (take (length (completed f tree file)) after ≡ completed f tree file))
      × (completed f tree file ≡ file → has_counts file ≡ true)
  answer_keeps part told out room a after q =
      let l = loaded-from file tree_out numbers_out f tree numbers p in
      let g = l.found in
      let note = answer-part part told ∙ ap note_of l.held in
      saved-again file f tree numbers l g.note (loaded-is file bytes g l.held).1 (completed f tree file)
      (saved-of-loaded file bytes g l.held ∙ completed-by file file f tree numbers l) out room a after
      (subst (λ n. SliceMeets (save_outcome f.W f.H (take f.tree_length tree) numbers n out) a after) note q)

  pub answer-drops : (out : List ℕ) → length (completed f tree (noteless file)) ≤ length out
      → (a : Answer ℕ) (after : List ℕ)
      → SliceMeets (save_outcome f.W f.H (take f.tree_length tree) numbers none out) a after
      → ((a ≡ gives (length (completed f tree (noteless file))))
      × (take (length (completed f tree (noteless file))) after ≡ completed f tree (noteless file)))
      × (completed f tree (noteless file) ≡ file → (has_counts file ≡ true) × (file_note file ≡ none))
  answer-drops out room a after q =
      let l = loaded-from file tree_out numbers_out f tree numbers p in
      let g = l.found in
      let same = saved-without file bytes g l.held
      ∙ ap (λ j. with_counts (active_count g.W g.H (levels g.tree)) (up_to (note_of j) file)) (sym l.held)
      ∙ completed-by file (noteless file) f tree numbers l in
      let k = saved-again file f tree numbers l none refl (completed f tree (noteless file)) same out room a after q in
      let loads = (saved-loads true none g.W g.H g.tree g.numbers
      (accepted-is-acceptable file g l.held) refl).0 in
      (k.0, λ e. (k.1 e, ap (λ s. note_of (file_contents s)) (sym (same ∙ e)) ∙ ap note_of loads))

  -- ---- files of one table

  -- a file that restores a table is the table's, with the counts or without them and with a note or none
  pub answer-file : (W H : ℕ) (c : Contents) → Restored W H c f tree numbers
      → (counts : Bool) × (note : Note) × (note_fits note ≡ true)
      × (file ≡ file_with counts note W H c.tree c.numbers)
  answer-file W H c r =
      let l = loaded-from file tree_out numbers_out f tree numbers p in
      let g = l.found in
      let counts = has_counts file in
      let is = loaded-is file bytes g l.held in (
        counts,
        g.note,
        is.1,
        is.0
            ∙ ap₂ (λ W H. file_with counts g.note W H g.tree g.numbers) (sym l.side_w ∙ r.side_w)
            (sym l.side_h ∙ r.side_h)
            ∙ ap₂ (file_with counts g.note W H) (sym l.same_tree ∙ r.same_tree)
            (sym l.same_numbers ∙ r.same_numbers),
      )

-- the counts in what was loaded
pub answer-told : (file tree_out : List ℕ) (numbers_out : List ℤ) (f : FileResult) (tree : List ℕ) (numbers : List ℤ)
    → TableMeets (file_outcome file tree_out numbers_out) (gives f) tree numbers → has_counts file ≡ true
    → Tells f.W f.H (take f.tree_length tree) file
answer-told file tree_out numbers_out f tree numbers p has L h =
    let l = loaded-from file tree_out numbers_out f tree numbers p in
    let g = l.found in
    file-counts-tell file g l.held has L h
    ∙ ap₂ (λ W H. active_count W H (levels g.tree) L) (sym l.side_w) (sym l.side_h)
    ∙ ap (λ t. active_count f.W f.H (levels t) L) (sym l.same_tree)

-- two files that differ only in the note give one outcome
pub answer-passes : (file : List ℕ) → Bare file → (note₁ note₂ : Note) → note_fits note₁ ≡ true → note_fits note₂ ≡ true
    → (tree_out : List ℕ) (numbers_out : List ℤ)
    → file_outcome (file ++ note_bytes note₁) tree_out numbers_out
    ≡ file_outcome (file ++ note_bytes note₂) tree_out numbers_out
answer-passes file b note₁ note₂ fits₁ fits₂ tree_out numbers_out =
    note-passed-over file note₁ b fits₁ tree_out numbers_out
    ∙ sym (note-passed-over file note₂ b fits₂ tree_out numbers_out)

-- ---- of the calls

-- an answer that is known
known : (W H : ℕ) (c : Contents) (note : Note) (out : List ℕ) (r : Result ℕ Refusal) (after : List ℕ) (n : ℕ)
    → value_answer r ≡ gives n → WritePromise W H c note out r after
    → SliceMeets (save_outcome W H c.tree c.numbers note out) (gives n) after
known W H c note out r after n e p = (sym e ∙ p.0, p.1)

read : (file tree_out : List ℕ) (numbers_out : List ℤ) (a : Answer FileResult) (tree : List ℕ) (numbers : List ℤ)
    (f : FileResult) → a ≡ gives f → TableMeets (file_outcome file tree_out numbers_out) a tree numbers
    → TableMeets (file_outcome file tree_out numbers_out) (gives f) tree numbers
read file tree_out numbers_out a tree numbers f e p = (sym e ∙ p.0, p.1, p.2)

restores : LoadingRestores
restores W H c note out r after p n e tree_out numbers_out room s tree numbers q =
    answer-restores W H c note out n after (known W H c note out r after n e p) tree_out numbers_out room (file_answer s)
    tree numbers q

bench-restores : BenchRestores
bench-restores W H c note out r after p n e tree_out numbers_out room s tree numbers q =
    let k = known W H c note out r after n e p in
    let a = bench_answer s in
    let part = bench_note s in
    let g = answer-restores W H c note out n after k tree_out numbers_out room a tree numbers
    (bench-reads (take n after) tree_out numbers_out a part tree numbers q) in
    let t = answer-noted W H c note out n after k g.0 tree_out numbers_out a part tree numbers q g.1 in
    (g, t.0, t.1)

loaded-note : LoadedNote
loaded-note file tree_out numbers_out bytes s tree numbers p f e =
    let a = bench_answer s in
    let part = bench_note s in
    let m = read file tree_out numbers_out a tree numbers f e
    (bench-reads file tree_out numbers_out a part tree numbers p) in
    let told = bench-tells file tree_out numbers_out a part tree numbers p f e in (
      answer-inside file tree_out numbers_out bytes f tree numbers m part told,
      told,
      answer-part file tree_out numbers_out bytes f tree numbers m part told,
    )

keeps : SavingKeeps
keeps file tree_out numbers_out bytes s tree numbers p f e out room r after q =
    let a = bench_answer s in
    let part = bench_note s in
    answer_keeps file tree_out numbers_out bytes f tree numbers
    (read file tree_out numbers_out a tree numbers f e (bench-reads file tree_out numbers_out a part tree numbers p)) part
    (bench-tells file tree_out numbers_out a part tree numbers p f e) out room (value_answer r) after q

drops : SavingDrops
drops file tree_out numbers_out bytes s tree numbers p f e out room r after q =
    answer-drops file tree_out numbers_out bytes f tree numbers
    (read file tree_out numbers_out (file_answer s) tree numbers f e p) out room (value_answer r) after q

files : FilesOfTable
files W H c file tree_out numbers_out bytes s tree numbers p = (
  λ f e r. answer-file file tree_out numbers_out bytes f tree numbers
      (read file tree_out numbers_out (file_answer s) tree numbers f e p) W H c r,
  λ good room counts note fits.
      answer-loads counts note W H c good fits file tree_out numbers_out room (file_answer s) tree numbers p,
)

passes-over : PassesOver
passes-over file b note₁ note₂ fits₁ fits₂ tree_out numbers_out s₁ tree₁ numbers₁ p₁ s₂ tree₂ numbers₂ p₂ =
    let o = answer-passes file b note₁ note₂ fits₁ fits₂ tree_out numbers_out in (
      p₁.0 ∙ ap (λ o. o.result) o ∙ sym p₂.0,
      p₁.1 ∙ ap (λ o. o.tree) o ∙ sym p₂.1,
      p₁.2 ∙ ap (λ o. o.numbers) o ∙ sym p₂.2,
    )

saved-counts : SavedCountsTell
saved-counts W H c note out r after p n e =
    answer-counts W H c note out n after (known W H c note out r after n e p)

loaded-counts : LoadedCountsTell
loaded-counts file tree_out numbers_out s tree numbers p f e =
    answer-told file tree_out numbers_out f tree numbers
    (read file tree_out numbers_out (file_answer s) tree numbers f e p)

-- "Each acceptable table has one file; loading it restores the same tree and coefficients"; "saving what was loaded
-- reproduces the bytes only of files that had it"; "Saving after the bench loader keeps it; after the controller's
-- loader the note is gone."
pub round_trip : RoundTrip
round_trip =
    record {
      saves = λ W H c note out good fits. (
        longest-file note W H c.tree c.numbers good fits,
        λ room r after p. saving-done W H c.tree c.numbers note out good fits room (value_answer r) after p,
      );
      restores = restores;
      bench_restores = bench-restores;
      loaded_note = loaded-note;
      keeps = keeps;
      drops = drops;
      files = files;
      passes_over = passes-over;
      saved_counts = saved-counts;
      loaded_counts = loaded-counts;
    }
