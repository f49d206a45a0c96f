-- From the promises of the linked calls to the round trips: a code of 0 and what stands beside it tell the answer.
use mathlib.Core.Path.{◌≡◌, refl, sym, ap, ap₂, ◌∙◌, subst}
use mathlib.Core.Bool.{Bool, true, false, cond, true≢false}
use mathlib.Core.List.{List}
use Prim.Native.Nat.{ℕ}
use lib.IntN.{ℤ}
use lib.Dec.{ltb}
use lib.ListN.{length, take}
use Rattle.surface.specs.Calls.{Answer, refused, gives, answer, TableMeets, SliceMeets}
use Rattle.surface.specs.Note.{Note, none, NotePart, note_in}
use Rattle.surface.specs.TableFile.{FileResult, file_outcome, file_of}
use Rattle.surface.specs.BenchLoading.{bench_outcome}
use Rattle.surface.specs.Saving.{save_cause, save_outcome}
use Rattle.surface.specs.Demands.{Contents}
use Rattle.surface.proofs.RefusalLaws.{answer-gives}
use Rattle.surface.proofs.FileRefusals.{file-refusals}
use Rattle.answers.specs.Codes.{FileTold, NoteAfter}
use Rattle.answers.proofs.CodeLaws.{told}
use Rattle.tablefile.proofs.Saved.{longest-file}
use Rattle.demands.specs.FilePromises.{KilnReadPromise, KilnBenchPromise, KilnWritePromise}
use Rattle.roundtrip.specs.RoundTrip.{Restored, read_table, saved_file, noteless, completed}
use Rattle.roundtrip.specs.LinkedRoundTrip.{standing, noted_part, LinkedSaves, LinkedLoadingRestores}
use Rattle.roundtrip.specs.LinkedRoundTrip.{LinkedBenchRestores, LinkedLoadedNote, LinkedRewrites}
use Rattle.roundtrip.specs.LinkedRoundTrip.{LinkedSavingKeeps, LinkedSavingDrops, LinkedFilesOfTable}
use Rattle.roundtrip.specs.LinkedRoundTrip.{LinkedPassesOver}
use Rattle.roundtrip.specs.LinkedRoundTrip.{LinkedSavedCountsTell, LinkedLoadedCountsTell, LinkedRoundTrip}
use Rattle.roundtrip.proofs.SaveLaws.{saving-done, BenchMeets, bench-reads, bench-tells}
use Rattle.roundtrip.proofs.RoundTrip.{answer-loads, answer-restores, answer-noted, answer-part}
use Rattle.roundtrip.proofs.RoundTrip.{answer-inside, answer_keeps, answer-drops}
use Rattle.roundtrip.proofs.RoundTrip.{answer-file, answer-passes, answer-counts, answer-told}

-- ---- saving

-- the code and the length, as an answer
saved-answer : (W H : ℕ) (c : Contents) (note : Note) (out : List ℕ) (code n₀ n : ℕ) (after : List ℕ)
    → KilnWritePromise W H c note out code n₀ n after
    → SliceMeets (save_outcome W H c.tree c.numbers note out) (answer code n) after
unfolding save_outcome
saved-answer W H c note out code n₀ n after p =
    let file = file_of note W H c.tree c.numbers in
    (told (save_cause W H c.tree c.numbers note out) (length file) n₀ n code p.0, p.1)

saved-known : (W H : ℕ) (c : Contents) (note : Note) (out : List ℕ) (code n₀ n : ℕ) (after : List ℕ)
    → KilnWritePromise W H c note out code n₀ n after → code ≡ 0
    → SliceMeets (save_outcome W H c.tree c.numbers note out) (gives n) after
saved-known W H c note out code n₀ n after p z =
    let s = saved-answer W H c note out code n₀ n after p in
    (ap (λ k. answer k n) (sym z) ∙ s.0, s.1)

-- ---- loading

-- where the code is 0, the outcome gives what stands at the three parameters
read-given : (o : Answer FileResult) → ((n : ℕ) → o ≡ refused n → n ≡ 0 → ⊥)
    → (code tree_length₀ tree_length w₀ w h₀ h : ℕ) → FileTold o code tree_length₀ tree_length w₀ w h₀ h → code ≡ 0
    → gives (standing tree_length w h) ≡ o
read-given (refused n) nonzero code tree_length₀ tree_length w₀ w h₀ h t z = absurd (nonzero n refl (sym t.0 ∙ z))
read-given (gives a) nonzero code tree_length₀ tree_length w₀ w h₀ h t z =
    ap (λ n. gives (standing n w h)) t.1 ∙ ap₂ (λ w h. gives (standing a.tree_length w h)) t.2 t.3

-- no refusal number of file reading is 0
nonzero : (file tree_out : List ℕ) (numbers_out : List ℤ) (n : ℕ)
    → (file_outcome file tree_out numbers_out).result ≡ refused n → n ≡ 0 → ⊥
nonzero file tree_out numbers_out n e z =
    true≢false (sym ((file-refusals file tree_out numbers_out).number 0 (e ∙ ap refused z)))

read_known : (file tree_out : List ℕ) (numbers_out : List ℤ) (code tree_length₀ tree_length w₀ w h₀ h : ℕ) (tree : List ℕ)
    (numbers : List ℤ)
    → KilnReadPromise file tree_out numbers_out code tree_length₀ tree_length w₀ w h₀ h tree numbers → code ≡ 0
    → TableMeets (file_outcome file tree_out numbers_out) (gives (standing tree_length w h)) tree numbers
read_known file tree_out numbers_out code tree_length₀ tree_length w₀ w h₀ h tree numbers p z = (
  read-given (file_outcome file tree_out numbers_out).result (nonzero file tree_out numbers_out) code tree_length₀
      tree_length w₀ w h₀ h p.0 z,
  p.1,
  p.2,
)

-- the bench loader's: the numbers at its further parameters, as the part that it tells of
bench-known : (file tree_out : List ℕ) (numbers_out : List ℤ)
    (code tree_length₀ tree_length w₀ w h₀ h noted₀ noted offset₀ offset size₀ size : ℕ) (tree : List ℕ)
    (numbers : List ℤ)
    → KilnBenchPromise file tree_out numbers_out code tree_length₀ tree_length w₀ w h₀ h noted₀ noted offset₀ offset size₀
    size tree numbers
    → code ≡ 0
    → BenchMeets (bench_outcome file tree_out numbers_out) (gives (standing tree_length w h)) (noted_part noted offset size)
    tree numbers
unfolding bench_outcome
bench-known file tree_out numbers_out code tree_length₀ tree_length w₀ w h₀ h noted₀ noted offset₀ offset size₀ size tree
    numbers p z =
    let o = bench_outcome file tree_out numbers_out in
    let m = read_known file tree_out numbers_out code tree_length₀ tree_length w₀ w h₀ h tree numbers p.0 z in
    (m, note-known o.loaded.result (standing tree_length w h) m.0 o.note p.1)
  where
    bit : (b : Bool) → ltb 0 (cond b 1 0) ≡ b
    bit true = refl
    bit false = refl

    note-known : (a : Answer FileResult) (f : FileResult) → gives f ≡ a → (part : NotePart)
        → NoteAfter a part noted₀ noted offset₀ offset size₀ size → noted_part noted offset size ≡ part
    note-known a f e part n =
        let t = subst (λ a. NoteAfter a part noted₀ noted offset₀ offset size₀ size) (sym e) n in
        ap (λ k. noted_part k offset size) t.0
        ∙ ap (λ b. record { stands = b; offset = offset; size = size }) (bit part.stands)
        ∙ ap₂ (λ o s. record { stands = part.stands; offset = o; size = s }) t.1 t.2

-- ---- the round trips

saves : LinkedSaves
saves W H c note out good fits = (
  longest-file note W H c.tree c.numbers good fits,
  λ room code n₀ n after p.
      let g = saving-done W H c.tree c.numbers note out good fits room (answer code n) after
      (saved-answer W H c note out code n₀ n after p) in
      let a = answer-gives code n (length (saved_file note W H c)) g.0 in
      (a.0, a.1, ap (λ k. take k after) a.1 ∙ g.1),
)

-- a table that the outcome restores, as it stands at the parameters
restored : (W H : ℕ) (c : Contents) (o : Answer FileResult) (code tree_length₀ tree_length w₀ w h₀ h : ℕ) (tree : List ℕ)
    (numbers : List ℤ)
    → FileTold o code tree_length₀ tree_length w₀ w h₀ h
    → (f : FileResult) × (o ≡ gives f) × Restored W H c f tree numbers
    → (code ≡ 0) × Restored W H c (standing tree_length w h) tree numbers
restored W H c o code tree_length₀ tree_length w₀ w h₀ h tree numbers q g =
    let t = subst (λ o. FileTold o code tree_length₀ tree_length w₀ w h₀ h) g.1 q in
    let f : FileResult = g.0 in
    let same : f ≡ standing tree_length w h =
    ap (λ n. standing n f.W f.H) (sym t.1) ∙ ap₂ (standing tree_length) (sym t.2) (sym t.3) in
    (t.0, subst (λ f. Restored W H c f tree numbers) same g.2)

restores : LinkedLoadingRestores
restores W H c note out code n₀ n after p z tree_out numbers_out room code₂ tree_length₀ tree_length w₀ w h₀ h tree numbers
    q =
    let o = file_outcome (take n after) tree_out numbers_out in
    restored W H c o.result code₂ tree_length₀ tree_length w₀ w h₀ h tree numbers q.0
    (answer-restores W H c note out n after (saved-known W H c note out code n₀ n after p z) tree_out numbers_out room
    o.result tree numbers (refl, q.1, q.2))

bench-restores : LinkedBenchRestores
unfolding bench_outcome
bench-restores W H c note out code n₀ n after p z tree_out numbers_out room code₂ tree_length₀ tree_length w₀ w h₀ h noted₀
    noted offset₀ offset size₀ size tree numbers q =
    let g = restores W H c note out code n₀ n after p z tree_out numbers_out room code₂ tree_length₀ tree_length w₀ w h₀ h
    tree numbers q.0 in
    let f = standing tree_length w h in
    let t = answer-noted W H c note out n after (saved-known W H c note out code n₀ n after p z) f tree_out numbers_out
    (gives f) (noted_part noted offset size) tree numbers
    (bench-known (take n after) tree_out numbers_out code₂ tree_length₀ tree_length w₀ w h₀ h noted₀ noted offset₀ offset
    size₀ size tree numbers q g.0) refl in
    (g, t.0, t.1)

loaded-note : LinkedLoadedNote
loaded-note file tree_out numbers_out bytes code tree_length₀ tree_length w₀ w h₀ h noted₀ noted offset₀ offset size₀ size
    tree numbers p z =
    let f = standing tree_length w h in
    let part = noted_part noted offset size in
    let b = bench-known file tree_out numbers_out code tree_length₀ tree_length w₀ w h₀ h noted₀ noted offset₀ offset size₀
    size tree numbers p z in
    let m = bench-reads file tree_out numbers_out (gives f) part tree numbers b in
    let told = bench-tells file tree_out numbers_out (gives f) part tree numbers b f refl in (
      answer-inside file tree_out numbers_out bytes f tree numbers m part told,
      told,
      answer-part file tree_out numbers_out bytes f tree numbers m part told,
    )

-- what is saved, as its length stands at the parameter
rewrites : (file : List ℕ) (code n : ℕ) (after : List ℕ)
    → (answer code n ≡ gives (length file)) × (take (length file) after ≡ file) → LinkedRewrites file code n after
rewrites file code n after g =
    let a = answer-gives code n (length file) g.0 in
    (a.0, a.1, ap (λ k. take k after) a.1 ∙ g.1)

keeps : LinkedSavingKeeps
keeps file tree_out numbers_out bytes code tree_length₀ tree_length w₀ w h₀ h noted₀ noted offset₀ offset size₀ size tree
    numbers p z out room code₂ n₀ n after q =
    let f = standing tree_length w h in
    let part = noted_part noted offset size in
    let m = bench-known file tree_out numbers_out code tree_length₀ tree_length w₀ w h₀ h noted₀ noted offset₀ offset size₀
    size tree numbers p z in
    let k = answer_keeps file tree_out numbers_out bytes f tree numbers
    (bench-reads file tree_out numbers_out (gives f) part tree numbers m) part
    (bench-tells file tree_out numbers_out (gives f) part tree numbers m f refl) out room (answer code₂ n) after
    (saved-answer w h (read_table f tree numbers) (note_in file part) out code₂ n₀ n after q) in
    (rewrites (completed f tree file) code₂ n after k.0, k.1)

drops : LinkedSavingDrops
drops file tree_out numbers_out bytes code tree_length₀ tree_length w₀ w h₀ h tree numbers p z out room code₂ n₀ n after q =
    let f = standing tree_length w h in
    let k = answer-drops file tree_out numbers_out bytes f tree numbers
    (read_known file tree_out numbers_out code tree_length₀ tree_length w₀ w h₀ h tree numbers p z) out room
    (answer code₂ n) after (saved-answer w h (read_table f tree numbers) none out code₂ n₀ n after q) in
    (rewrites (completed f tree (noteless file)) code₂ n after k.0, k.1)

files : LinkedFilesOfTable
files W H c file tree_out numbers_out bytes code tree_length₀ tree_length w₀ w h₀ h tree numbers p =
    let o = file_outcome file tree_out numbers_out in (
      λ z r. answer-file file tree_out numbers_out bytes (standing tree_length w h) tree numbers
          (read_known file tree_out numbers_out code tree_length₀ tree_length w₀ w h₀ h tree numbers p z) W H c r,
      λ good room counts note fits e.
          restored W H c o.result code tree_length₀ tree_length w₀ w h₀ h tree numbers p.0
          (answer-loads counts note W H c good fits file tree_out numbers_out room o.result tree numbers
          (refl, p.1, p.2) e),
    )

passes-over : LinkedPassesOver
passes-over file b note₁ note₂ fits₁ fits₂ tree_out numbers_out tree_length₀ w₀ h₀ code₁ tree_length₁ w₁ h₁ tree₁ numbers₁
    p₁ code₂ tree_length₂ w₂ h₂ tree₂ numbers₂ p₂ =
    let o = answer-passes file b note₁ note₂ fits₁ fits₂ tree_out numbers_out in
    let t = subst (λ o. FileTold o.result code₁ tree_length₀ tree_length₁ w₀ w₁ h₀ h₁) o p₁.0 in (
      t.0 ∙ sym p₂.0.0,
      ap (λ n. standing n w₁ h₁) (t.1 ∙ sym p₂.0.1)
          ∙ ap₂ (standing tree_length₂) (t.2 ∙ sym p₂.0.2) (t.3 ∙ sym p₂.0.3),
      p₁.1 ∙ ap (λ o. o.tree) o ∙ sym p₂.1,
      p₁.2 ∙ ap (λ o. o.numbers) o ∙ sym p₂.2,
    )

saved-counts : LinkedSavedCountsTell
saved-counts W H c note out code n₀ n after p z =
    answer-counts W H c note out n after (saved-known W H c note out code n₀ n after p z)

loaded-counts : LinkedLoadedCountsTell
loaded-counts file tree_out numbers_out code tree_length₀ tree_length w₀ w h₀ h tree numbers p z =
    answer-told file tree_out numbers_out (standing tree_length w h) tree numbers
    (read_known file tree_out numbers_out code tree_length₀ tree_length w₀ w h₀ h tree numbers p z)

pub linked-round-trip : LinkedRoundTrip
linked-round-trip =
    record {
      saves = saves;
      restores = restores;
      bench_restores = bench-restores;
      loaded_note = loaded-note;
      keeps = keeps;
      drops = drops;
      files = files;
      passes_over = passes-over;
      saved_counts = saved-counts;
      loaded_counts = loaded-counts;
    }
