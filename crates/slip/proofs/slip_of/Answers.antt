-- `slip_of` tells of the new regions and their tree.
use mathlib.Core.Path.{◌∙◌}
use lib.Dec.{lit<}
use Rattle.surface.specs.Table.{levels}
use Rattle.surface.specs.Enquiry.{slip_of}
use Rattle.surface.proofs.Least.{active_count-cong}
use Rattle.rows.specs.Rows.{levels_of}
use Rattle.slip.proofs.slip_of.Goals as goal

pub active_counts-counts-requires : goal.active_counts-counts-requires
active_counts-counts-requires c = let p = c.requires in (p.0, p.1, p.2)

pub under-under-requires : goal.under-under-requires
under-under-requires c = let p = c.requires in (p.0, p.1, p.3, p.5)

pub returns : goal.returns
unfolding slip_of
returns c t e = let a = c.args in
    let counted = c.active_counts-counts.ensures in
    let same = active_count-cong a.w a.h (levels_of a.new.now) (levels a.tree.now) c.requires.4 in
    rw (
      e,
      (counted 0 (lit< tt)).0 ∙ same 0,
      (counted 1 (lit< tt)).0 ∙ same 1,
      (counted 2 (lit< tt)).0 ∙ same 2,
      (counted 3 (lit< tt)).0 ∙ same 3,
      c.under-under.ensures.counted,
    )
