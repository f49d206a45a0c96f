-- `count_row` meets its contract.
use Rattle.activity.proofs.CountLaws.{front-count}
use Rattle.activity.proofs.count.count_row.Goals as goal

pub returns : goal.returns
returns c n e h first = let args = c.args in
    front-count e n args.marks args.first h first
