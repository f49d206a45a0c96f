-- Before each turn the rows below b are loaded.
use mathlib.Core.Path.{◌≡◌, sym, ap, ◌∙◌, subst}
use Prim.Native.Nat.{◌+◌, ◌-◌, ◌*◌, ◌≤◌, ◌<◌}
use native.Mathlib.Omega.{arith}
use lib.IntN.{pos}
use lib.ListN.{length, replicate}
use Rattle.finite.specs.Range.{table_from}
use Rattle.surface.specs.Sheet.{functions}
use Rattle.surface.specs.Support.{active_count}
use Rattle.surface.specs.TableFile.{loaded}
use Rattle.coefficients.proofs.Parts.{row_fits, part_length}
use Rattle.rows.specs.Rows.{levels_of}
use Rattle.finite.proofs.Tests.{total-none}
use Rattle.finite.proofs.Written.{rows_none, rows_next, rows_all}
use Rattle.loading.proofs.LevelLaws.{rows-within, none-loaded}
use Rattle.loading.proofs.load.load_level.Goals.{In-loop-b}
use Rattle.loading.proofs.load.load_level.Goals as goal

pub returns-then-body-eq0 : goal.returns-then-body-eq0
returns-then-body-eq0 c = let a = c.args in
    let none : active_count a.w a.h (levels_of a.rows.now) a.level ≡ 0 =
    omega (arith, c.if-body-eq0.true, c.requires.5) in
    c.fill.ensures
    ∙ ap (λ n. replicate n (pos 0)) c.requires.4
    ∙ sym (none-loaded a.w a.h a.level (levels_of a.rows.now) a.body.now none)

pub loop-b-init : goal.loop-b-init
loop-b-init c = let a = c.args in
    let f = loaded a.w a.h (levels_of a.rows.now) a.level a.body.now in
    (total-none _, rows_none c.functions-n.result f a.part.now)

-- a turn's row is inside the part
inside : (c : In-loop-b)
    → c.loop-b.b * c.functions-n.result + c.functions-n.result
    ≤ length c.loop-b.part
inside c =
    let a = c.args in
    row_fits a.w a.h a.level c.loop-b.b c.functions-n.result c.functions-m.result
    c.loop-b.part c.functions-n.ensures.0 c.functions-m.ensures.0 c.loop-b-test.true
    (c.loop-b.auto.part ∙ c.requires.4)

pub slice_bounds-load_row-end : goal.slice_bounds-load_row-end
slice_bounds-load_row-end c = inside c

pub load_row-next-requires : goal.load_row-next-requires
load_row-next-requires c = let loop = c.loop-b in
    let a = c.args in
    let n = c.functions-n.result in
    let within : loop.b < functions a.h a.level =
    subst (λ k. loop.b < k) c.functions-m.ensures.0 c.loop-b-test.true in (
      c.requires.0,
      c.requires.1,
      c.requires.2,
      within,
      c.requires.3,
      part_length (loop.b * n) n loop.part (inside (goal.at.load_row-next-requires c).In-loop-b)
          ∙ c.functions-n.ensures.0,
      loop.invariant.0,
      omega (arith, rows-within a.w a.h a.level loop.b (levels_of a.rows.now) within, c.requires.5),
    )

pub loop-b-preserved : goal.loop-b-preserved
loop-b-preserved c = let loop = c.loop-b in
    let a = c.args in
    let n = c.functions-n.result in
    let f = loaded a.w a.h (levels_of a.rows.now) a.level a.body.now in
    let row = c.load_row-next.ensures in (
      row.1,
      rows_next n loop.b (loop.b * n + n - loop.b * n) f a.part.now loop.part _ loop.invariant.1
          (omega arith) (row.0 ∙ ap (λ n. table_from 0 n (λ i. f i loop.b)) (sym c.functions-n.ensures.0)),
    )

pub returns : goal.returns
returns c = let loop = c.loop-b in
    let a = c.args in
    rows_all loop.b (loaded a.w a.h (levels_of a.rows.now) a.level a.body.now) a.part.now
    loop.invariant.1 (omega arith) c.loop-b-test.false c.functions-n.ensures.0 c.functions-m.ensures.0
    c.requires.4
