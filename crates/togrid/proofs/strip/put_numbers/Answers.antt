-- `put_numbers` meets its contract: before each turn the numbers below a are put.
use mathlib.Core.Path.{◌≡◌, ap}
use mathlib.Core.List.{List}
use Prim.Native.Nat.{ℕ}
use native.Mathlib.Omega.{arith}
use lib.Dec.{lit<}
use lib.IntN.{pos}
use lib.ListN.{length, get_or}
use mir.Syntax.{w64}
use mir.Val.{to_z, of_z}
use mir.ValLaws.{to_z-of_z}
use Rattle.finite.proofs.Signed.{abs-fits}
use Rattle.finite.proofs.Joined.{joined-through}
use Rattle.surface.specs.Fields.{number_bytes}
use Rattle.fields.proofs.PutLaws.{put-none, put_next}
use Rattle.togrid.proofs.strip.put_numbers.Goals.{In-loop-number, Start}
use Rattle.togrid.proofs.strip.put_numbers.Goals as goal

-- what each number adds
abbrev texts : Start → ℕ → List ℕ
texts s a = number_bytes (get_or s.args.row.now a (pos 0))

pub loop-number-init : goal.loop-number-init
loop-number-init c = put-none (texts (goal.at.loop-number-init c).Start) c.args.at c.args.out.now

-- a turn's number as it was read
same : (c : In-loop-number)
    → let z = get_or c.args.row.now c.loop-number.number-index (pos 0) in
    to_z w64 (of_z w64 z) ≡ z
same c =
    to_z-of_z w64 (get_or c.args.row.now c.loop-number.number-index (pos 0))
    (abs-fits (get_or c.args.row.now c.loop-number.number-index (pos 0)) {m = 549755813888}
    (omega (arith, c.requires.1 c.loop-number.number-index c.loop-number-test.true)) (lit< tt))

pub put-to-requires : goal.put-to-requires
put-to-requires c = let loop = c.loop-number in
    let taken = c.loop-number-test.true in (
      omega (
        arith,
        c.requires.0,
        loop.auto.out,
        loop.invariant.0,
        joined-through (texts (goal.at.put-to-requires c).Start) (length c.args.row.now) loop.number-index taken,
      ),
      rw (same (goal.at.put-to-requires c).In-loop-number) (c.requires.1 loop.number-index taken),
    )

pub loop-number-preserved : goal.loop-number-preserved
loop-number-preserved c =
    let start = (goal.at.loop-number-preserved c).Start in
    let step = (goal.at.loop-number-preserved c).In-loop-number in
    let loop = c.loop-number in
    let a = c.args in
    put_next loop.number-index (texts start) _ a.at a.out.now loop.to loop.out c.put-to.result
    c.put-to.new.out loop.invariant c.put-to.ensures (ap number_bytes (same step))
