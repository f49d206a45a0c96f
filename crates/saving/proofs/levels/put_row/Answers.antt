-- `put_row` meets its contract: before each turn the marked numbers below a are put.
use mathlib.Core.Path.{◌≡◌, ap, ap₂}
use mathlib.Core.List.{List}
use Prim.Native.Nat.{ℕ, ◌%◌}
use native.Mathlib.Omega.{arith}
use lib.IntN.{pos}
use lib.Dec.{leb, lit<}
use lib.ListN.{length, get_or}
use mir.Syntax.{w64}
use mir.Val.{to_z, of_z}
use mir.ValLaws.{to_z-of_z}
use Rattle.finite.proofs.Signed.{abs-fits}
use Rattle.finite.proofs.Joined.{joined-through}
use Rattle.activity.specs.Marks.{marked}
use Rattle.activity.proofs.StepLaws.{from-none, from_next, from-here}
use Rattle.fields.proofs.PutLaws.{put-none, put_next}
use Rattle.saving.specs.Saved.{bytes_if}
use Rattle.saving.proofs.levels.put_row.Goals.{In-loop-number, Start}
use Rattle.saving.proofs.levels.put_row.Goals as goal

-- what each place adds
abbrev texts : Start → ℕ → List ℕ
texts s a = bytes_if (marked s.args.e s.args.marks a) (get_or s.args.row.now a (pos 0))

pub loop-number-init : goal.loop-number-init
loop-number-init c =
    let start = (goal.at.loop-number-init c).Start in
    (from-none c.args.e c.args.marks, put-none (texts start) c.args.at c.args.out.now)

-- a turn's number as it was read
read : (c : In-loop-number)
    → let z = get_or c.args.row.now c.loop-number.number-index (pos 0) in
    to_z w64 (of_z w64 z) ≡ z
read c =
    let z = get_or c.args.row.now c.loop-number.number-index (pos 0) in
    to_z-of_z w64 z
    (abs-fits z {m = 549755813888} (omega (arith, c.requires.2 c.loop-number.number-index c.loop-number-test.true))
    (lit< tt))

-- what a turn adds is its place's
same : (c : In-loop-number)
    → let i = c.loop-number.number-index in
    let z = get_or c.args.row.now i (pos 0) in
    bytes_if (leb 1 (c.loop-number.m.even % 2)) (to_z w64 (of_z w64 z)) ≡ bytes_if (marked c.args.e c.args.marks i) z
same c =
    let loop = c.loop-number in
    ap₂ (λ x z. bytes_if (leb 1 x) z)
    (from-here c.args.e loop.number-index c.args.marks loop.m loop.invariant.0) (read c)

pub put_if-to-requires : goal.put_if-to-requires
put_if-to-requires c =
    let start = (goal.at.put_if-to-requires c).Start in
    let turn = (goal.at.put_if-to-requires c).In-loop-number in
    let loop = c.loop-number in
    let taken = c.loop-number-test.true in (
      omega (
        arith,
        c.requires.1,
        loop.auto.out,
        loop.invariant.1.0,
        joined-through (texts start) (length c.args.row.now) loop.number-index taken,
        ap length (same turn),
      ),
      rw (read turn) (c.requires.2 loop.number-index taken),
    )

pub loop-number-preserved : goal.loop-number-preserved
loop-number-preserved c =
    let start = (goal.at.loop-number-preserved c).Start in
    let turn = (goal.at.loop-number-preserved c).In-loop-number in
    let loop = c.loop-number in
    let a = c.args in (
      from_next a.e loop.number-index a.marks loop.m _ loop.invariant.0 c.next-m.ensures,
      put_next loop.number-index (texts start) _ a.at a.out.now loop.to loop.out c.put_if-to.result
          c.put_if-to.new.out loop.invariant.1 c.put_if-to.ensures (same turn),
    )
