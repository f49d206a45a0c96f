-- The level of the quarter square that holds the point, by the regions that it lies in.
use mathlib.Core.Path.{sym, ap₂, ◌∙◌}
use Rattle.surface.proofs.Greatest.{stop-level}
use Rattle.rows.specs.Rows.{levels_of}
use Rattle.point.proofs.PatchLaws.{stop-small}
use Rattle.point.proofs.stop.level_of.Goals as goal

pub returns : goal.returns
returns c = let a = c.args in
    let lev = levels_of a.rows.now in
    let level =
    c.level_at.ensures
    ∙ ap₂ lev c.quarter_of-q.ensures.0 c.quarter_of-r.ensures.0
    ∙ sym (stop-level a.w a.h lev a.u a.v c.requires.0 c.requires.2) in
    (level, rw level (stop-small a.w a.h a.u a.v a.rows.now c.requires.0 c.requires.2))
