-- `row` meets its contract.
use Rattle.activity.proofs.WindowLaws.{window-asks, window-ends}
use Rattle.activity.proofs.near.row.Goals as goal

pub window_of-requires : goal.window_of-requires
window_of-requires c = window-asks c.args.h c.args.level c.args.b c.requires.1 c.requires.3 c.requires.4

pub region_words-requires : goal.region_words-requires
region_words-requires c = let p = c.requires in
    let ends = window-ends c.args.h c.args.level c.args.b p.1 p.3 p.4 c.window_of.ensures in
    (p.0, p.3, ends.0, ends.1, p.2, p.3, p.5)
