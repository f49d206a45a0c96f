-- Before each turn the rows of the level below b hold their carried values.
use mathlib.Core.Path.{◌≡◌, refl, sym, ap, ◌∙◌, subst}
use Prim.Native.Nat.{◌+◌, ◌%◌, ◌≤◌, ◌<◌}
use native.Mathlib.Numerals.{add-one}
use native.Mathlib.Omega.{arith}
use lib.ListN.{length}
use Rattle.surface.specs.Sheet.{functions}
use Rattle.surface.specs.Table.{start}
use Rattle.surface.proofs.TableLaws.{start-step}
use Rattle.activity.proofs.WindowLaws.{eighths-le}
use Rattle.coefficients.proofs.Parts.{part, part_length, row-end, row_next, rows_none}
use Rattle.carry.specs.Carried.{CarriedTo, AlongV}
use Rattle.passive.proofs.SliceLaws.{rows_end}
use Rattle.carry.proofs.ChildLaws.{zeros-small}
use Rattle.carry.proofs.CarryLaws.{parents-fit, columns-few, columns-odd, Holds, held, holds-within, row-carried}
use Rattle.carry.proofs.fill_level.Goals.{After-places, In-loop-b}
use Rattle.carry.proofs.fill_level.Goals as goal

-- where the level's part starts
begins : (c : After-places)
    → let a = c.args in
    c.start-low.result + c.places.result ≡ start a.w a.h (a.coarse + 1)
begins c =
    let a = c.args in
    rw (c.start-low.ensures.0, c.places.ensures.0, add-one a.coarse)
    (sym (start-step a.w a.h a.coarse))

pub loop-b-init : goal.loop-b-init
loop-b-init c = let a = c.args in (
  begins (goal.at.loop-b-init c).After-places ∙ rows_none _ c.functions-n.result,
  subst (λ k. CarriedTo k a.w a.h a.rows.now a.numbers.now a.out.now) (sym (begins (goal.at.loop-b-init c).After-places))
      c.requires.6,
  refl,
  zeros-small,
)

-- a turn's row is one of the level's, and inside the slices
row : (c : In-loop-b)
    → let a = c.args in
    c.loop-b.b < functions a.h (a.coarse + 1)
row c = subst (λ k. c.loop-b.b < k) c.functions-m.ensures.0 c.loop-b-test.true

inside : (c : In-loop-b)
    → c.loop-b.from + c.functions-n.result ≤ length c.args.numbers.now
inside c =
    let loop = c.loop-b in
    let a = c.args in
    rw c.requires.3
    (row-end a.w a.h (a.coarse + 1) loop.b c.functions-n.result loop.from
    c.functions-n.ensures.0 loop.invariant.0 (omega (arith, c.requires.2)) (row c))

same : (c : In-loop-b)
    → length c.loop-b.out ≡ length c.args.numbers.now
same c = c.loop-b.invariant.1.size ∙ sym c.requires.3

-- so is the coarser level's part
reach : (c : In-loop-b)
    → c.start-low.result + c.places.result ≤ length c.loop-b.out
reach c =
    omega (arith, inside c, same c, begins c.before.before.before.before.before.before, c.loop-b.invariant.0)

-- the coarser level has its carried values
coarser : (c : In-loop-b)
    → let a = c.args in
    Holds a.w a.h a.rows.now a.numbers.now a.coarse
    (part c.start-low.result c.places.result c.loop-b.out)
coarser c =
    let a = c.args in
    held a.w a.h a.rows.now a.numbers.now a.coarse _ c.start-low.result
    c.places.result c.loop-b.out (omega (arith, c.requires.2)) c.start-low.ensures.0
    c.places.ensures.0 (reach c) (omega (arith, c.loop-b.invariant.0)) c.loop-b.invariant.1

pub along_v-requires : goal.along_v-requires
along_v-requires c = let a = c.args in
    let h = coarser (goal.at.along_v-requires c).In-loop-b in (
      omega (arith, c.functions-columns.ensures.0, columns-few a.w a.coarse c.requires.0 c.requires.2),
      rw h.size
          (parents-fit a.w a.h a.coarse c.loop-b.b c.functions-columns.result
          c.functions-columns.ensures.0 (row (goal.at.along_v-requires c).In-loop-b)),
      holds-within a.w a.h a.rows.now a.numbers.now a.coarse _ c.requires.2 c.requires.5 h,
      c.loop-b.invariant.2,
      c.loop-b.invariant.3,
    )

pub fill_row-requires : goal.fill_row-requires
fill_row-requires c = let n = c.functions-n.result in
    let from = c.loop-b.from in
    let count = part_length from n c.loop-b.out (omega (arith, inside (goal.at.fill_row-requires c).In-loop-b, same (goal.at.fill_row-requires c).In-loop-b)) in (
      omega (arith, count, c.functions-n.ensures.1),
      ap (λ k. k % 2) (count ∙ c.functions-n.ensures.0) ∙ columns-odd c.args.w c.args.coarse,
      part_length from n c.args.numbers.now (inside (goal.at.fill_row-requires c).In-loop-b) ∙ sym count,
      omega (arith, c.eighths-e.ensures, eighths-le (c.args.coarse + 1)),
      c.along_v.ensures.small,
    )

pub loop-b-preserved : goal.loop-b-preserved
loop-b-preserved c = let loop = c.loop-b in
    let a = c.args in
    let sums : AlongV (functions a.w a.coarse) (functions a.w a.coarse) loop.b
    (part c.start-low.result c.places.result loop.out) c.along_v.new.sums =
    rw c.functions-columns.ensures.0 at c.along_v.ensures in (
      row_next loop.b c.functions-n.result (start a.w a.h (a.coarse + 1)) loop.invariant.0,
      row-carried a.w a.h a.rows.now a.numbers.now a.coarse loop.b c.eighths-e.result
          c.region_row-inside.result _ c.along_v.new.sums c.eighths-e.ensures (row (goal.at.loop-b-preserved c).In-loop-b)
          c.region_row-inside.ensures (coarser (goal.at.loop-b-preserved c).In-loop-b) sums c.functions-n.result loop.from loop.out
          c.fill_row.new.row c.requires.2 c.functions-n.ensures.0 loop.invariant.0 c.requires.3
          c.fill_row.ensures (c.out-1.given.1 ∙ loop.invariant.1.size) loop.invariant.1,
      sums.size,
      sums.small,
    )

pub returns : goal.returns
returns c = let loop = c.loop-b in
    let a = c.args in
    let next : a.coarse + 1 + 1 ≡ a.coarse + 2 = omega arith in
    subst (λ k. CarriedTo k a.w a.h a.rows.now a.numbers.now loop.out)
    (rows_end a.w a.h (a.coarse + 1) loop.b c.functions-n.ensures.0 c.functions-m.ensures.0
    (omega arith) c.loop-b-test.false loop.invariant.0 ∙ ap (start a.w a.h) next) loop.invariant.1

pub slice_bounds-along_v-end : goal.slice_bounds-along_v-end
slice_bounds-along_v-end c =
    reach (goal.at.slice_bounds-along_v-end c).In-loop-b

pub overflow_add-to : goal.overflow_add-to
overflow_add-to c =
    omega (arith, inside (goal.at.overflow_add-to c).In-loop-b)

pub offset_bounds-out-from : goal.offset_bounds-out-from
offset_bounds-out-from c =
    omega (arith, inside (goal.at.offset_bounds-out-from c).In-loop-b)

pub slice_bounds-fill_row-end : goal.slice_bounds-fill_row-end
slice_bounds-fill_row-end c =
    omega (arith, inside (goal.at.slice_bounds-fill_row-end c).In-loop-b, same (goal.at.slice_bounds-fill_row-end c).In-loop-b)
