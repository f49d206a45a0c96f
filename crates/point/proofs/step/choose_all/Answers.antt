-- Each row is what the call gives of its rows.
use mathlib.Core.List.{[]}
use lib.ListN.{get_or}
use Rattle.point.specs.Patches.{ChosenRow}
use Rattle.point.proofs.PointLaws.{at-four}
use Rattle.point.proofs.step.choose_all.Goals as goal

pub returns : goal.returns
returns c = λ k l hk hl.
    let a = c.args in
    at-four (λ k x. ChosenRow (get_or a.inside k []) (get_or a.own k []) (get_or a.coarse k []) x) []
    c.choose_row.ensures c.choose_row-2.ensures c.choose_row-3.ensures c.choose_row-4.ensures
    k hk l hl
