-- Before each turn the places below 2 k hold their carried values.
use mathlib.Core.Path.{◌≡◌, sym, ap, ◌∙◌}
use Prim.Native.Nat.{◌<◌, ◌+◌, ◌*◌, ◌/◌}
use native.Mathlib.Omega.{arith}
use lib.ListN.{length}
use Rattle.finite.specs.Range.{table_from}
use Rattle.activity.proofs.StepLaws.{marks-next}
use Rattle.passive.proofs.RowLaws.{mapped, turn-none, turn-set, turn-all}
use Rattle.carry.proofs.fill_row.Invariants.{rule}
use Rattle.carry.proofs.fill_row.Goals as goal

pub loop-k-preserved : goal.loop-k-preserved
loop-k-preserved c = let loop = c.loop-k in
    let g = c.args in
    let k = loop.k in
    let within : 2 * k + 1 < length g.row.now = omega arith in
    let two : 2 * k + 1 + 1 ≡ 2 * (k + 1) = omega arith in
    rw two at
    (turn-set (rule g.sums.now) g.e g.inside g.own.now g.row.now (2 * k + 1) within
    (turn-set (rule g.sums.now) _ _ _ _ (2 * k) (omega arith) loop.invariant c.next-m.ensures
    c.put.ensures)
    c.next-m-in-loop-k.ensures c.put-in-loop-k.ensures)

pub returns : goal.returns
returns c = let loop = c.loop-k in
    let g = c.args in
    let f = mapped (rule g.sums.now) g.e g.inside g.own.now in
    let last : length g.row.now / 2 ≡ loop.k = omega arith in
    turn-all (rule g.sums.now) g.e g.inside g.own.now g.row.now (2 * loop.k + 1) (omega arith)
    (turn-set (rule g.sums.now) _ _ _ _ (2 * loop.k) (omega arith) loop.invariant (marks-next g.e _)
    (rw last at c.put-2.ensures))
    ∙ ap (λ k. table_from 0 k f) (sym c.requires.2)

pub loop-k-init : goal.loop-k-init
loop-k-init c =
    turn-none (rule c.args.sums.now) _ _ _ _
