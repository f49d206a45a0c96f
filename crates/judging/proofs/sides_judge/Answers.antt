-- Each way out of `sides_judge` says what the field of the sides holds.
use Rattle.std.proofs.lemmas.Result.{err_from_is_err_and}
use mathlib.Core.Path.{sym, ◌∙◌}
use mathlib.Core.Bool.{false}
use Rattle.judging.proofs.JudgeLaws.{sides-faulty, sides-told, sides-stand}
use Rattle.judging.proofs.sides_judge.Goals as goal

pub returns-in_err-field_at : goal.returns-in_err-field_at
returns-in_err-field_at c =
    let p = err_from_is_err_and c.from_residual.result c.from_residual.ensures.1 in
    rw (p.1, p.2) (sides-faulty c.args.file.now _ c.in_err-field_at.ensures.0)

pub returns-then-not-good_sides : goal.returns-then-not-good_sides
returns-then-not-good_sides c = let k = c.in_ok-field_at in
    sides-told c.args.file.now k.field-0 k.ensures.0 k.ensures.1 false
    (sym c.if-not-good_sides.true ∙ c.good_sides.ensures)

pub returns : goal.returns
returns c = let k = c.in_ok-field_at in
    sides-stand c.args.file.now k.field-0 k.ensures.0 k.ensures.1 (sym c.if-not-good_sides.false ∙ c.good_sides.ensures)
