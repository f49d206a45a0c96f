-- `write_checked` refuses with 14 or 18 and writes nothing, or writes the file.
use mathlib.Core.Path.{◌≡◌, sym, ap, ◌∙◌}
use mathlib.Core.Bool.{true, not}
use mathlib.Core.List.{List, ◌++◌}
use Prim.Native.Nat.{ℕ, ◌+◌}
use native.Mathlib.Omega.{arith}
use lib.ListN.{length, length-append}
use borrow.Author.Tests.{not-false, lt-ltb, le-ltb}
use Rattle.surface.specs.Table.{coefficients, cause, ◌or_else◌}
use Rattle.surface.specs.Note.{Note, note_bytes, note_fits}
use Rattle.surface.specs.Saving.{file_out_cause}
use Rattle.rows.specs.Rows.{levels_of}
use Rattle.fields.proofs.PutLaws.{put_both, put_front}
use Rattle.answers.specs.declared.Refusal as Causes
use Rattle.answers.proofs.AnswerLaws.{slice-refused, slice-done}
use Rattle.saving.specs.Saved.{file_under, note_lent}
use Rattle.saving.proofs.FileLaws.{file-size}
use Rattle.saving.proofs.write_checked.Goals.{After-active_counts-counts, After-note_length, Start}
use Rattle.saving.proofs.write_checked.Goals as goal

-- the file up to the note, and the note
abbrev table : Start → List ℕ
table s =
    let a = s.args in
    file_under a.w a.h a.tree.now (levels_of a.rows.now) (coefficients a.w a.h a.numbers.now)

abbrev note : Start → Note
note s = note_lent s.args.note

-- the start of a step after the counts
abbrev begun : After-active_counts-counts → Start
begun n = n.before.before.before.before.before.before

-- the note is not too long
fits : (n : After-active_counts-counts) → note_fits (note (begun n)) ≡ true
fits n =
    not-false (note_fits (note (begun n))) (sym n.is_long.ensures ∙ n.if-is_long.false)

-- the lengths that were found are together that of the file
together : (l : After-note_length)
    → let s = l.before.before.before.before.before.before.before.before in
    l.file_length.result + l.note_length.result ≡ length (table s ++ note_bytes (note s))
together l =
    let s = l.before.before.before.before.before.before.before.before in
    let a = s.args in
    omega (
      arith,
      l.file_length.ensures,
      file-size a.w a.h a.tree.now (levels_of a.rows.now) (coefficients a.w a.h a.numbers.now)
          l.active_counts-counts.result l.active_counts-counts.ensures,
      l.note_length.ensures.0,
      length-append (table s) (note_bytes (note s)),
    )

-- past 14
past-note : (n : After-active_counts-counts) (k : ℕ) → cause 14 (not (note_fits (note (begun n)))) or_else k ≡ k
past-note n k = ap (λ t. cause 14 (not t) or_else k) (fits n)

pub returns-then-out-length : goal.returns-then-out-length
returns-then-out-length c =
    let counted = (goal.at.returns-then-out-length c).After-active_counts-counts in
    let found_lengths = (goal.at.returns-then-out-length c).After-note_length in
    let s = begun counted in
    let file = table s ++ note_bytes (note s) in
    let out = s.args.out.now in
    let short = lt-ltb (length out) (length file) (omega (arith, c.if-out-length.true, together found_lengths)) in
    slice-refused Causes.TheVariants.FileOutputShort
    (sym (past-note counted (file_out_cause file out) ∙ ap (cause 18) short)) _ _ _

pub put_file-end-requires : goal.put_file-end-requires
put_file-end-requires c =
    let counted = (goal.at.put_file-end-requires c).After-active_counts-counts in
    let found_lengths = (goal.at.put_file-end-requires c).After-note_length in
    let s = begun counted in (
      s.requires,
      c.active_counts-counts.ensures,
      omega (arith, c.if-out-length.false, together found_lengths, length-append (table s) (note_bytes (note s))),
    )

pub put_note-requires : goal.put_note-requires
put_note-requires c = let s = begun (goal.at.put_note-requires c).After-active_counts-counts in
    omega (
      arith,
      c.put_file-end.ensures.0,
      c.put_file-end.auto.out,
      c.if-out-length.false,
      together (goal.at.put_note-requires c).After-note_length,
      length-append (table s) (note_bytes (note s)),
    )

pub returns : goal.returns
returns c =
    let counted = (goal.at.returns c).After-active_counts-counts in
    let found_lengths = (goal.at.returns c).After-note_length in
    let s = begun counted in
    let out = s.args.out.now in
    let file = table s ++ note_bytes (note s) in
    let enough = le-ltb (length out) (length file) (omega (arith, c.if-out-length.false, together found_lengths)) in
    slice-done (sym (past-note counted (file_out_cause file out) ∙ ap (cause 18) enough)) (together found_lengths)
    (put_front file out c.put_note.result c.put_note.new.out
    (put_both (table s) (note_bytes (note s)) 0 out c.put_file-end.result c.put_file-end.new.out
    c.put_note.result c.put_note.new.out c.put_file-end.ensures c.put_note.ensures)) out
