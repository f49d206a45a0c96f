-- Each way out of `note_judge` says what the field of the note holds.
use mathlib.Core.Path.{sym, ◌∙◌}
use native.Mathlib.Omega.{arith}
use Rattle.judging.proofs.CountsLaws.{tag-there, no-tag}
use Rattle.judging.proofs.NoteLaws.{note-lacking, note-there}
use Rattle.judging.proofs.note_judge.Goals as goal

-- the end of the file, or another byte
pub returns-then-at-file : goal.returns-then-at-file
returns-then-at-file c = let a = c.args in
    let file = a.file.now in
    note-lacking file a.at c.requires (no-tag file a.at 31 (omega (arith, c.if-at-file.true)))

pub returns-then-file-at-ne-NOTE_TAG : goal.returns-then-file-at-ne-NOTE_TAG
returns-then-file-at-ne-NOTE_TAG c = let a = c.args in
    let file = a.file.now in
    note-lacking file a.at c.requires (λ e. c.if-file-at-ne-NOTE_TAG.true (sym (tag-there file a.at) ∙ e))

pub returns : goal.returns
returns c = let a = c.args in
    let file = a.file.now in
    note-there file a.at (tag-there file a.at ∙ c.if-file-at-ne-NOTE_TAG.false) c.field_at.result
    c.field_at.ensures.0 c.field_at.ensures.1
