-- `is_active` is the test `active` under the levels of the rows.
use mathlib.Core.Path.{refl, ap, ◌∙◌}
use Rattle.surface.specs.Sheet.{functions}
use Rattle.activity.specs.Marks.{marked}
use Rattle.activity.proofs.ActiveLaws.{index-fits}
use Rattle.activity.proofs.WindowLaws.{row-size, eighths-le, eighths-some}
use Rattle.edit.proofs.is_active.Goals as goal

pub is_marked-requires : goal.is_marked-requires
is_marked-requires c = let a = c.args in
    let side = c.eighths-e.ensures in
    let n = functions a.w a.level in (
      index-fits n a.a c.eighths-e.result
          (row-size a.w a.level n c.eighths-e.result c.requires.0 c.requires.2 refl side)
          (rw side (eighths-some a.level)) c.requires.3,
      rw side (eighths-le a.level),
    )

pub returns : goal.returns
returns c = let row = c.active_row-marks in
    let a = c.args in
    c.is_marked.ensures
    ∙ ap (λ c. marked c row.result a.a) c.eighths-e.ensures
    ∙ row.ensures a.a c.requires.3
