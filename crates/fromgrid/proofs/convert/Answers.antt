-- `convert`: the levels are found, and then agree.
use Rattle.rows.specs.Rows.{levels_of}
use Rattle.fromgrid.proofs.LevelLaws.{disagree}
use Rattle.fromgrid.proofs.convert.Goals as goal

pub returns-then-find_levels : goal.returns-then-find_levels
returns-then-find_levels c = let a = c.args in
    let o = c.requires.0 in
    let new = c.find_levels.new in
    let found = c.find_levels.ensures.0 c.if-find_levels.true in (
      λ t. (found, c.levels_agree.ensures.0 t),
      λ t. disagree a.w a.h o.side-W.0 o.side-H.0 (levels_of a.rows.now) a.body.now new.level0 new.level1 new.level2
          found (c.levels_agree.ensures.1 t),
    )
