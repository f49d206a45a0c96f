-- `active_row` meets its contract.
use mathlib.Core.Path.{sym, subst}
use Prim.Native.Nat.{◌≤◌}
use native.Mathlib.Omega.{arith}
use Rattle.rows.specs.Rows.{levels_of}
use Rattle.activity.specs.Marks.{ActiveRow}
use Rattle.activity.proofs.WindowLaws.{window-asks, window-ends}
use Rattle.activity.proofs.ActiveLaws.{active-marks}
use Rattle.activity.proofs.active_row.Goals.{After-window_of-window}
use Rattle.activity.proofs.active_row.Goals as goal

pub window_of-window-requires : goal.window_of-window-requires
window_of-window-requires c = window-asks c.args.h c.args.level c.args.b c.requires.1 c.requires.2 c.requires.3

ends : (c : After-window_of-window)
    → (c.window_of-window.result.low ≤ c.window_of-window.result.high) × (c.window_of-window.result.high ≤ 32)
ends c =
    window-ends c.args.h c.args.level c.args.b c.requires.1 c.requires.2 c.requires.3 c.window_of-window.ensures

pub in_region-own-requires : goal.in_region-own-requires
in_region-own-requires c = let p = c.requires in (p.0, p.2, (ends c).0, (ends c).1, omega arith, p.4)

pub in_region-finer-requires : goal.in_region-finer-requires
in_region-finer-requires c = let p = c.requires in
    (p.0, p.2, (ends (goal.at.in_region-finer-requires c).After-window_of-window).0, (ends (goal.at.in_region-finer-requires c).After-window_of-window).1, omega arith, p.4)

pub returns : goal.returns
returns c = let finer = c.in_region-finer in
    let own = c.in_region-own in
    let a = c.args in
    let over = c.window_of-window.ensures in
    subst (ActiveRow a.w a.h a.level a.b (levels_of a.rows.now)) (sym c.place.ensures)
    (active-marks a.w a.h a.level a.b (levels_of a.rows.now) own.result finer.result _
    (own.ensures a.h a.b c.requires.1 over) (finer.ensures a.h a.b c.requires.1 over)
    c.without.ensures c.without-2.ensures)
