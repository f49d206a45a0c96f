-- The theorems about table files: an accepted file loads an acceptable table, no other file loads the same with the
-- same note unless one of the two lacks the counts, and input longer than any file is judged by its front.
use mathlib.Core.Path.{◌≡◌, refl, sym, ap, ◌∙◌, subst}
use mathlib.Core.Bool.{Bool, true, false, cond}
use mathlib.Core.List.{List}
use Prim.Native.Nat.{ℕ, suc, ◌+◌, ◌*◌, ◌≤◌, ◌<◌}
use native.Mathlib.Omega.{arith}
use lib.Dec.{eqb}
use lib.ListN.{length, get_or, take, drop, length-drop}
use lib.Seq.{take-append_seam, take_all}
use Rattle.surface.specs.Sheet.{functions}
use Rattle.surface.specs.Support.{active_count}
use Rattle.surface.specs.Table.{◌or_else◌, levels, slots, Acceptable}
use Rattle.surface.specs.Calls.{gives, length_cause, tree_out_cause}
use Rattle.surface.specs.Fields.{declined, contains, length_at}
use Rattle.surface.specs.Note.{Note, none, noted}
use Rattle.surface.specs.TableFile.{Loaded, File, file_contents, file_outcome_of, file_outcome, file_with}
use Rattle.surface.specs.BenchLoading.{note_of, note_part, Benched, bench_outcome}
use Rattle.surface.proofs.TableLaws.{acceptable, sides}
use Rattle.surface.proofs.RefusalLaws.{answer-gives}
use Rattle.tablefile.specs.Files.{AcceptedIsAcceptable, LoadsAcceptable, OneFileEach, LongInput}
use Rattle.fields.proofs.FieldLaws.{rest_of, Stands}
use Rattle.tablefile.proofs.ActiveLaws.{active-square}
use Rattle.tablefile.proofs.CountsField.{past_counts, CountsStand}
use Rattle.tablefile.proofs.NoteField.{Noted}
use Rattle.tablefile.proofs.FileLaws.{after, levels_in, Accepted, accepted, accepted-sound}
use Rattle.tablefile.proofs.LongLaws.{cut-contents}
use Rattle.tablefile.proofs.Saved.{loaded-is}

-- ---- acceptable

-- What an accepted file loads is an acceptable table.
pub accepted-is-acceptable : AcceptedIsAcceptable
accepted-is-acceptable s f e =
    acceptable f.W f.H f.tree f.numbers (accepted-sound s f (accepted s f e))

-- So is what the call leaves in the outputs.
pub loads-acceptable : LoadsAcceptable
unfolding file_outcome
loads-acceptable file tree_out numbers_out r e = go (file_contents file) (accepted-is-acceptable file) e
  where
    go : (g : File) → ((f : Loaded) → g ≡ contains f → Acceptable f.W f.H f.tree f.numbers)
        → (file_outcome_of g tree_out numbers_out).result ≡ gives r
        → Acceptable r.W r.H (take r.tree_length (file_outcome_of g tree_out numbers_out).tree)
        (file_outcome_of g tree_out numbers_out).numbers
    go (declined n) h e = absurd (let z : ◌≡◌ {A = ℕ} 0 1 = cc in omega arith)
    go (contains f) h e =
        let c = length_cause (slots f.W f.H) numbers_out or_else tree_out_cause f.tree tree_out in
        let g = answer-gives c (record { tree_length = length f.tree; W = f.W; H = f.H }) r e in
        rw (g.0, ← g.1)
        (subst (λ t. Acceptable f.W f.H t f.numbers)
        (sym (take-append_seam f.tree (drop (length f.tree) tree_out)))
        (h f refl))

-- ---- one file

-- Two accepted files that load the same table and note, both with the counts or both without, are the same bytes.
pub one-file-each : OneFileEach
one-file-each s t bs bt e f es et =
    (loaded-is s bs f es).0
    ∙ ap (λ counts. file_with counts f.note f.W f.H f.tree f.numbers) e
    ∙ sym (loaded-is t bt f et).0

-- ---- long input

-- no longer file is accepted
field-size : (tag low high : ℕ) (s : List ℕ) → Stands tag low high s → length s ≤ 3 + high + length (rest_of s)
field-size tag low high s h = omega (arith, h.whole, h.short, length-drop (3 + length_at s) s)

counts-size : (n : ℕ → ℕ) (s : List ℕ) → (eqb (get_or s 0 0) 3 ≡ true → CountsStand n s)
    → length s ≤ 11 + length (past_counts s)
counts-size n s h = go (eqb (get_or s 0 0) 3) h
  where
    go : (t : Bool) → (t ≡ true → CountsStand n s) → length s ≤ 11 + length (cond t (rest_of s) s)
    go true h = field-size 3 8 8 s (h refl).field
    go false h = omega arith

note-size : (s : List ℕ) (note : Note) → Noted s note → length s ≤ 67
note-size s none e = omega (arith, ap length e)
note-size s (noted b) (stands, body, end) = omega (arith, field-size 32 0 64 s stands, ap length end)

accepted-size : (s : List ℕ) (f : Loaded) → Accepted s f → length s ≤ 32443
unfolding after
accepted-size s f r =
    let n = active_count f.W f.H (levels f.tree) in
    let w = sides (accepted-sound s f r) in
    let from = levels_in s in
    let level : (L k : ℕ) → L < 4 → functions f.W L ≤ k → functions f.H L ≤ k
    → length (after L from) ≤ 3 + 5 * (k * k) + length (after (suc L) from) =
    λ L k h wide high.
    omega (
      arith,
      field-size (16 + L) (5 * n L) (5 * n L) (after L from) (r.level L h).field,
      active-square f.W f.H (levels f.tree) L k wide high,
    ) in
    omega (
      arith,
      field-size 1 2 2 s r.sides,
      field-size 2 1 1365 (rest_of s) r.tree,
      counts-size n (rest_of (rest_of s)) r.counts,
      level 0 11 (omega arith) (omega arith) (omega arith),
      level 1 19 (omega arith) (omega arith) (omega arith),
      level 2 35 (omega arith) (omega arith) (omega arith),
      level 3 67 (omega arith) (omega arith) (omega arith),
      note-size (after 4 from) f.note r.note,
    )

-- Input longer than any file is judged by its first 32,444 bytes.
pub long-input : LongInput
unfolding file_outcome bench_outcome
long-input s n h tree_out numbers_out =
    (ap (λ f. file_outcome_of f tree_out numbers_out) (cut-contents s n h), go (file_contents s) refl)
  where
    told : File → List ℕ → Benched
    told j file =
        let o = file_outcome_of j tree_out numbers_out in
        record { loaded = o; note = note_part o.result file (note_of j) }

    go : (j : File) → file_contents s ≡ j
        → bench_outcome (take n s) tree_out numbers_out ≡ bench_outcome s tree_out numbers_out
    go (declined m) e = ap (λ j. told j (take n s)) (cut-contents s n h ∙ e) ∙ sym (ap (λ j. told j s) e)
    go (contains f) e =
        ap (λ s. bench_outcome s tree_out numbers_out)
        (take_all n s (omega (arith, accepted-size s f (accepted s f e))))
