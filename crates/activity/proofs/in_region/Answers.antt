-- `in_region` meets its contract.
use Rattle.rows.specs.Rows.{levels_of}
use Rattle.activity.proofs.ActiveLaws.{all-inside, none-beyond}
use Rattle.activity.proofs.in_region.Goals as goal

pub returns-in-0 : goal.returns-in-0
returns-in-0 c H b _ _ = let a = c.args in
    rw c.in-0.is (all-inside a.w H a.level b (levels_of a.rows.now) c.requires.0 c.requires.1)

pub returns-in-4 : goal.returns-in-4
returns-in-4 c H b _ _ = let a = c.args in
    rw c.in-4.is (none-beyond a.w H a.level b (levels_of a.rows.now))
