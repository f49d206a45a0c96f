-- `of_row` meets its contract: a row of zeros has no fault, and any other's are found by its active functions.
use mathlib.Core.Path.{ap, ◌∙◌}
use native.Mathlib.Omega.{arith}
use mir.Syntax.{w64}
use mir.ValLaws.{to_z-of_z}
use Rattle.surface.specs.Support.{active}
use Rattle.rows.specs.Rows.{levels_of}
use Rattle.activity.specs.Marks.{marked}
use Rattle.activity.proofs.WindowLaws.{row-size, eighths-le, eighths-some}
use Rattle.faults.proofs.RowFaultLaws.{zero_row, same-marks}
use Rattle.faults.proofs.of_row.Goals as goal

pub returns-then-only_zeros : goal.returns-then-only_zeros
returns-then-only_zeros c m e = zero_row m _ c.args.row.now c.default.ensures.0 c.default.ensures.1 (c.only_zeros.ensures c.if-only_zeros.true)

pub of_marked-requires : goal.of_marked-requires
of_marked-requires c = let a = c.args in
    let p = c.requires in (
      row-size a.w a.level _ c.eighths.result p.0 p.2 p.5 c.eighths.ensures,
      omega (arith, c.eighths.ensures, eighths-some a.level),
      omega (arith, c.eighths.ensures, eighths-le a.level),
      (p.6.0, to_z-of_z w64 a.limit c.ranges.limit ∙ p.6.1, p.6.2),
    )

pub returns : goal.returns
returns c m e = let side = c.eighths in
    let marks = c.active_row-marks in
    let a = c.args in
    same-marks m (marked side.result marks.result)
    (λ k. active a.w a.h (levels_of a.rows.now) a.level k a.b) a.row.now
    (λ k l. ap (λ e. marked e marks.result k) side.ensures ∙ marks.ensures k (omega (arith, c.requires.5)))
    (c.of_marked.ensures m (to_z-of_z w64 a.limit c.ranges.limit ∙ e))
