-- Before each turn the places below a are loaded.
use mathlib.Core.Path.{◌≡◌, refl, sym, ap, ◌∙◌}
use mathlib.Core.Bool.{Bool}
use mathlib.Core.List.{List}
use Prim.Native.Nat.{ℕ, ◌+◌, ◌*◌, ◌≤◌}
use native.Mathlib.Omega.{arith}
use borrow.Author.Rules.{sfits_of}
use lib.IntN.{ℤ}
use lib.ListN.{length}
use mir.Syntax.{w64}
use mir.Val.{to_z}
use mir.ValLaws.{to_z-of_z}
use Rattle.finite.specs.Range.{count, table_from}
use Rattle.surface.specs.Support.{active, active_before}
use Rattle.surface.specs.Fields.{number_at}
use Rattle.surface.specs.TableFile.{loaded}
use Rattle.tablefile.proofs.CountLaws.{count-before}
use Rattle.rows.specs.Rows.{levels_of}
use Rattle.activity.specs.Marks.{marked}
use Rattle.activity.proofs.ActiveLaws.{index-fits}
use Rattle.finite.proofs.Tests.{count_none, count-one, count_same}
use Rattle.finite.proofs.Written.{written_none, written-more, written_all}
use Rattle.activity.proofs.WindowLaws.{row-size, eighths-le, eighths-some}
use Rattle.loading.proofs.LevelLaws.{before-next, place-number}
use Rattle.loading.proofs.load.load_row.Goals.{After-is_marked, Then-is_marked, else-is_marked, then-is_marked}
use Rattle.loading.proofs.load.load_row.Goals as goal

-- the active functions of the row, and their coefficients
abbrev on : ℕ → ℕ → List ℕ → ℕ → ℕ → ℕ → Bool
on W H rows L b a = active W H (levels_of rows) L a b

abbrev at_place : ℕ → ℕ → List ℕ → ℕ → List ℕ → ℕ → ℕ → ℤ
at_place W H rows L body b a = loaded W H (levels_of rows) L body a b

pub loop-a-init : goal.loop-a-init
loop-a-init c = let a = c.args in (
  omega (arith, count_none (on a.w a.h a.rows.now a.level a.b)),
  written_none (at_place a.w a.h a.rows.now a.level a.body.now a.b) a.row.now,
)

pub is_marked-requires : goal.is_marked-requires
is_marked-requires c = let side = c.eighths-e in
    let a = c.args in (
      index-fits (length a.row.now) c.loop-a.a side.result
          (row-size a.w a.level _ _ c.requires.0 c.requires.2 c.requires.5 side.ensures)
          (omega (arith, side.ensures, eighths-some a.level)) (omega arith),
      omega (arith, side.ensures, eighths-le a.level),
    )

-- the test of a turn's place
told : (c : After-is_marked)
    → let a = c.args in c.is_marked.result ≡ on a.w a.h a.rows.now a.level a.b c.loop-a.a
told c =
    c.is_marked.ensures
    ∙ ap (λ e. marked e c.active_row-marks.result c.loop-a.a) c.eighths-e.ensures
    ∙ c.active_row-marks.ensures c.loop-a.a
    (omega (arith, c.loop-a-test.true, c.requires.5))

-- the body has a number for an active place
left : (c : Then-is_marked)
    → 5 * c.loop-a.at + 5 ≤ length c.args.body.now
left c =
    let a = c.args in
    let f = on a.w a.h a.rows.now a.level a.b in
    let tested : c.is_marked.result ≡ f c.loop-a.a =
    c.is_marked.ensures
    ∙ ap (λ e. marked e c.active_row-marks.result c.loop-a.a) c.eighths-e.ensures
    ∙ c.active_row-marks.ensures c.loop-a.a
    (omega (arith, c.loop-a-test.true, c.requires.5)) in
    let more = count-before (length a.row.now) f c.loop-a.a c.loop-a-test.true (sym tested ∙ c.if-is_marked.true) in
    let all = before-next a.w a.h a.level a.b (levels_of a.rows.now) in
    omega (
      arith,
      c.loop-a.invariant.0,
      c.requires.6,
      c.requires.7,
      all,
      ap (λ n. count n f) c.requires.5,
      more,
    )

pub read-number-requires : goal.read-number-requires
read-number-requires c = left c

pub overflow_add-at : goal.overflow_add-at
overflow_add-at c = omega (arith, left (goal.at.overflow_add-at c).Then-is_marked)

pub loop-a-preserved : goal.loop-a-preserved
loop-a-preserved c = let loop = c.loop-a in
    let a = c.args in
    let f = on a.w a.h a.rows.now a.level a.b in
    let g = at_place a.w a.h a.rows.now a.level a.body.now a.b in
    let tested = told (goal.at.loop-a-preserved c).After-is_marked in
    let number : loop.at ≡ active_before a.w a.h (levels_of a.rows.now) a.level loop.a a.b =
    loop.invariant.0
    ∙ sym (place-number a.w a.h a.level a.b (levels_of a.rows.now) loop.a a.next c.requires.6) in
    let value : to_z w64 c.if-is_marked.place-bits ≡ g loop.a =
    elim c.if-is_marked.branch [
      | then-is_marked w ↦ w.place-is
          ∙ to_z-of_z w64 w.read-number.result (sfits_of w.read-number.type_inv)
          ∙ rw (sym tested ∙ w.if-is_marked.true) (w.read-number.ensures ∙ ap (number_at a.body.now) number)
      | else-is_marked w ↦ rw (sym tested ∙ w.if-is_marked.false) w.place-is
    ] in (
      elim c.if-is_marked.branch [
        | then-is_marked w ↦ w.at-is
            ∙ omega (arith, loop.invariant.0, count-one loop.a _ f refl (sym tested ∙ w.if-is_marked.true))
        | else-is_marked w ↦ w.at-is
            ∙ omega (arith, loop.invariant.0, count_same loop.a _ f refl (sym tested ∙ w.if-is_marked.false))
      ],
      rw loop.invariant.1
          (written-more loop.a g a.row.now (to_z w64 c.if-is_marked.place-bits) c.loop-a-test.true value),
    )

pub returns : goal.returns
returns c = let a = c.args in
    let f = on a.w a.h a.rows.now a.level a.b in
    let g = at_place a.w a.h a.rows.now a.level a.body.now a.b in
    let all : c.loop-a.a ≡ length a.row.now = omega arith in (
      c.loop-a.invariant.1
          ∙ written_all c.loop-a.a g a.row.now all
          ∙ ap (λ n. table_from 0 n g) (all ∙ c.requires.5),
      c.loop-a.invariant.0
          ∙ omega (
            arith,
            before-next a.w a.h a.level a.b (levels_of a.rows.now),
            ap (λ n. count n f) (all ∙ c.requires.5),
            c.requires.6,
          ),
    )
