-- `region_row` meets its contract: the words of `region_words`, placed.
use Rattle.activity.proofs.WindowLaws.{window-asks, window-ends}
use Rattle.activity.proofs.region_row.Goals as goal

pub window_of-window-requires : goal.window_of-window-requires
window_of-window-requires c = window-asks c.args.h c.args.level c.args.b c.requires.1 c.requires.2 c.requires.3

pub region_words-requires : goal.region_words-requires
region_words-requires c = let p = c.requires in
    let ends = window-ends c.args.h c.args.level c.args.b p.1 p.2 p.3 c.window_of-window.ensures in
    (p.0, p.2, ends.0, ends.1, p.4, p.5, p.6)
