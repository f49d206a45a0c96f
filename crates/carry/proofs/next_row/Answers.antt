-- `next_row` meets its contract: the sums along v, then the row.
use mathlib.Core.Path.{◌≡◌, sym, ap, ◌∙◌}
use Prim.Native.Nat.{◌+◌, ◌-◌, ◌*◌, ◌/◌, ◌%◌}
use native.Mathlib.Omega.{arith}
use Rattle.surface.specs.Sheet.{functions}
use Rattle.activity.proofs.WindowLaws.{functions-le, eighths-le}
use Rattle.carry.specs.Carried.{AlongV}
use Rattle.carry.proofs.CarryLaws.{columns-few, columns-odd, next_row}
use Rattle.carry.proofs.next_row.Goals as goal

pub along_v-requires : goal.along_v-requires
along_v-requires c = let a = c.args in
    let n = c.functions.ensures.0 in
    let few = columns-few a.w a.level c.requires.0 c.requires.2 in
    let rows : (a.b - 2 * a.first) / 2 + (a.b - 2 * a.first) % 2 + 2 ≡ a.b / 2 - a.first + a.b % 2 + 2 =
    omega (arith, c.requires.4) in (
      omega (arith, n, few),
      rw (rows, n) c.requires.5,
      c.requires.6,
      c.requires.9,
      c.requires.10,
    )

pub fill_row-requires : goal.fill_row-requires
fill_row-requires c = let a = c.args in
    let size = c.requires.7 in (
      omega (arith, size, functions-le a.w (a.level + 1) c.requires.0 (omega (arith, c.requires.2))),
      ap (λ k. k % 2) size ∙ columns-odd a.w a.level,
      c.requires.8 ∙ sym size,
      omega (arith, c.eighths.ensures, eighths-le (a.level + 1)),
      c.along_v.ensures.small,
    )

pub returns : goal.returns
returns c = let a = c.args in
    let sums : AlongV (functions a.w a.level) (functions a.w a.level) (a.b - 2 * a.first) a.coarse.now
    c.along_v.new.sums = rw c.functions.ensures.0 at c.along_v.ensures in (
      next_row a.w a.h a.level a.b a.first c.eighths.result a.rows.now
          c.region_row-inside.result a.coarse.now a.own.now c.along_v.new.sums _
          c.eighths.ensures c.requires.3 c.requires.4 c.region_row-inside.ensures sums c.requires.8
          c.fill_row.ensures,
      sums.size,
      sums.small,
    )
