-- Before each turn the row's cells before the next one are met.
use mathlib.Core.Path.{◌≡◌, sym}
use mathlib.Core.Bool.{true≢false}
use Prim.Native.Nat.{◌+◌, ◌≤◌}
use native.Mathlib.Omega.{arith}
use Rattle.std.proofs.Common.{None, rules}
use Rattle.surface.specs.Sheet.{functions}
use Rattle.rows.specs.Rows.{levels_of}
use Rattle.coarsening.proofs.BackLaws.{quarter-fits, side-fits}
use Rattle.coarsening.proofs.RowLaws.{Of, when, met-none, met-empty, met-left, met-taken, row-taken, row-none}
use Rattle.coarsening.proofs.back_row.Goals.{in-Some-waiting+then-x-done+else-not-back, in_default, in_default-via-in-None-1, in_default-via-in-Some-waiting+else-x-done}
use Rattle.coarsening.proofs.back_row.Goals.{After-loop-x, At-loop-x, In-Some}
use Rattle.coarsening.proofs.back_row.Goals as goal

pub loop-x-init : goal.loop-x-init
loop-x-init c = let a = c.args in
    met-none a.w a.h (levels_of a.rows.now) a.level _ c.requires.2 a.y a.coarse.now c.requires.4

pub find-requires : goal.find-requires
find-requires c = let a = c.args in (
  c.requires.2,
  side-fits a.w a.level c.loop-x.x c.requires.0 c.requires.2 (omega (arith, c.functions-columns.ensures, c.loop-x-test.true)),
  side-fits a.h a.level a.y c.requires.1 c.requires.2 c.requires.3,
)

pub loop-x-preserved-in_default : goal.loop-x-preserved-in_default
loop-x-preserved-in_default c = let a = c.args in
    met-empty a.w a.h (levels_of a.rows.now) a.level _ c.requires.2 a.y c.loop-x.waiting c.loop-x.done c.loop-x.x
    c.loop-x.coarse c.in_default.ensures c.loop-x.invariant

-- the square that was found
found : (c : In-Some) → let a = c.args in Of a.w a.h (levels_of a.rows.now) a.level a.y (c.loop-x.x + 1) c.in-Some.square
found c =
    let a = c.args in
    let (eq, er, low) = c.in-Some.ensures in
    record {
      column = quarter-fits a.w a.level c.in-Some.square.q c.requires.2
          (omega (arith, eq, c.functions-columns.ensures, c.loop-x-test.true));
      row = quarter-fits a.h a.level c.in-Some.square.r c.requires.2 (omega (arith, er, c.requires.3));
      before = omega (arith, eq);
      here = er;
      low = low;
    }

pub back-requires : goal.back-requires
back-requires c = let m = when c.in-Some-waiting.is c.loop-x.invariant in
    (c.requires.0, c.requires.1, c.requires.2, m.waits.column, m.waits.row, m.above.size, c.requires.5, c.requires.6)

pub returns-then-not-back : goal.returns-then-not-back
returns-then-not-back c = let m = when c.in-Some-waiting.is c.loop-x.invariant in (
  λ t. absurd (true≢false (sym t)),
  λ _ C coarser. c.back.ensures.1 c.if-not-back.true C
      (coarser c.in-Some-waiting.before.q c.in-Some-waiting.before.r m.waits.column m.waits.row m.waits.low),
)

pub cell_at-done-requires : goal.cell_at-done-requires
cell_at-done-requires c = let m = when c.in-Some-waiting.is c.loop-x.invariant in
    (omega (arith, c.requires.2), omega (arith, c.requires.0, m.waits.column))

pub loop-x-preserved : goal.loop-x-preserved
loop-x-preserved c = let a = c.args in
    let o = found (goal.at.loop-x-preserved c).In-Some in
    elim c.match-waiting.branch [
      | in-Some-waiting+then-x-done+else-not-back w ↦ rw (w.coarse-is, w.done-is)
          (met-taken a.w a.h (levels_of a.rows.now) a.level _ c.requires.2 a.y w.in-Some-waiting.before c.loop-x.done
          c.loop-x.x c.loop-x.coarse _ (w.back.ensures.0 w.if-not-back.false)
          (when w.in-Some-waiting.is c.loop-x.invariant) c.in-Some.square _ c.in-Some.ensures.0 o
          (omega (arith, w.cell_at-done.ensures)))
      | in_default w ↦ elim w.in_default.branch [
        | in_default-via-in-None-1 n ↦
            let none : c.loop-x.waiting ≡ None = search rules in
            rw (w.coarse-is, w.done-is)
            (met-left a.w a.h (levels_of a.rows.now) a.level _ c.requires.2 a.y None c.in-Some.square c.loop-x.done
            c.loop-x.x c.loop-x.coarse c.in-Some.ensures.0 o tt (when none c.loop-x.invariant))
        | in_default-via-in-Some-waiting+else-x-done n ↦ rw (w.coarse-is, w.done-is)
            (met-left a.w a.h (levels_of a.rows.now) a.level _ c.requires.2 a.y _ c.in-Some.square c.loop-x.done
            c.loop-x.x c.loop-x.coarse c.in-Some.ensures.0 o n.if-x-done.false
            (when n.in-Some-waiting.is c.loop-x.invariant))
      ]
    ]

-- all cells are met
whole : (c : After-loop-x) → functions c.args.w c.args.level ≤ c.loop-x.x + 3
whole c = omega (arith, c.functions-columns.ensures, c.loop-x-test.false)

pub back-requires-in-Some-waiting-2 : goal.back-requires-in-Some-waiting-2
back-requires-in-Some-waiting-2 c = let m = when c.in-Some-waiting-2.is c.loop-x.invariant in
    (c.requires.0, c.requires.1, c.requires.2, m.waits.column, m.waits.row, m.above.size, c.requires.5, c.requires.6)

pub returns-in-Some-waiting-2 : goal.returns-in-Some-waiting-2
returns-in-Some-waiting-2 c = let a = c.args in
    let last = c.in-Some-waiting-2.last in
    let m = when c.in-Some-waiting-2.is c.loop-x.invariant in (
      λ t. row-taken a.w a.h (levels_of a.rows.now) a.level _ c.requires.2 a.y last c.loop-x.done c.loop-x.x
          c.loop-x.coarse _ (c.back-in-Some-waiting-2.ensures.0 t) m (whole (goal.at.returns-in-Some-waiting-2 c).After-loop-x),
      λ t C coarser. c.back-in-Some-waiting-2.ensures.1 t C
          (coarser last.q last.r m.waits.column m.waits.row m.waits.low),
    )

pub returns-in-None : goal.returns-in-None
returns-in-None c = let a = c.args in (
  λ _. row-none a.w a.h (levels_of a.rows.now) a.level _ c.requires.2 a.y c.loop-x.done c.loop-x.x c.loop-x.coarse
      (whole (goal.at.returns-in-None c).After-loop-x) (when c.in-None.is c.loop-x.invariant),
  λ t. absurd (true≢false t),
)
