-- `active_count` meets its contract: before each turn the active functions of the rows below b are counted.
use mathlib.Core.Path.{◌≡◌, ◌∙◌}
use Prim.Native.Nat.{◌≤◌}
use native.Mathlib.Omega.{arith}
use Rattle.finite.specs.Range.{count}
use Rattle.rows.specs.Rows.{levels_of}
use Rattle.activity.specs.Marks.{marked}
use Rattle.finite.proofs.Tests.{total-none, total-more, count-le}
use Rattle.activity.proofs.CountLaws.{row_count, count-whole}
use Rattle.activity.proofs.WindowLaws.{eighths-le, eighths-some, row-size}
use Rattle.activity.proofs.count.active_count.Goals.{After-count_row-found}
use Rattle.activity.proofs.count.active_count.Goals as goal

pub front-first-requires : goal.front-first-requires
front-first-requires c = let args = c.args in
    let pre = c.requires in
    let columns = c.functions-n in
    let side = c.eighths-e in (
      columns.ensures.1,
      omega (arith, side.ensures, eighths-some args.level),
      omega (arith, side.ensures, eighths-le args.level),
      row-size args.w args.level columns.result side.result pre.0 pre.2 columns.ensures.0
          side.ensures,
    )

pub loop-b-init : goal.loop-b-init
loop-b-init c = (omega arith, total-none _)

-- the count of a turn's row
row-found : (c : After-count_row-found) →
    c.count_row-found.result
    ≡ count c.functions-n.result (marked c.eighths-e.result c.active_row.result)
row-found c =
    let side = c.eighths-e in
    let level = c.args.level in
    c.count_row-found.ensures c.functions-n.result side.result
    (omega (arith, side.ensures, eighths-some level)) c.front-first.ensures

few : (c : After-count_row-found) → c.count_row-found.result ≤ 67
few c =
    let p = marked c.eighths-e.result c.active_row.result in
    omega (arith, row-found c, count-le c.functions-n.result p, c.functions-n.ensures.1)

pub loop-b-preserved : goal.loop-b-preserved
loop-b-preserved c = let marks = c.active_row in
    let loop = c.loop-b in
    let side = c.eighths-e in
    let args = c.args in (
      omega (arith, few c),
      total-more loop.b loop.found c.count_row-found.result _ loop.invariant.1
          (row-found c
          ∙ row_count args.w args.h args.level c.functions-n.result loop.b
          (levels_of args.rows.now) side.result marks.result c.functions-n.ensures.0 side.ensures
          marks.ensures),
    )

pub returns : goal.returns
returns c = let loop = c.loop-b in
    let args = c.args in
    let all : loop.b ≡ c.functions-m.result = omega arith in (
      count-whole args.w args.h args.level loop.b _ (levels_of args.rows.now)
          (all ∙ c.functions-m.ensures.0) loop.invariant.1,
      omega (arith, c.functions-m.ensures.1),
    )

pub overflow_add-found : goal.overflow_add-found
overflow_add-found c =
    omega (arith, few c, c.functions-m.ensures.1)
