use Rattle.finite.specs.Range.{joined}
use Rattle.surface.specs.TableFile.{row_bytes}
use Rattle.rows.specs.Rows.{levels_of}
use Rattle.fields.specs.Put.{Put}
use Rattle.saving.specs.Saved.{in_part}
use Rattle.saving.proofs.levels.put_body.Given as goal

abbrev pub invariant-loop-b : goal.invariant-loop-b
invariant-loop-b l =
    Put (joined l.b (λ b. row_bytes l.w l.h (levels_of l.rows) (in_part l.w l.part) l.level b)) l.at l.initial.out
    l.to l.out
