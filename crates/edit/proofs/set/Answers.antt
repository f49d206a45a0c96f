-- `set` gives the outcome of document 01: a refusal with nothing written, or the one place set.
use Rattle.std.proofs.lemmas.Result.{err_from_is_err_and}
use mathlib.Core.Path.{◌≡◌, refl, ap, ◌∙◌}
use Prim.Native.Nat.{◌+◌, ◌*◌, ◌≤◌, ◌<◌}
use native.Mathlib.Omega.{arith}
use lib.ListN.{length}
use mir.Syntax.{w64}
use mir.ValLaws.{to_z-of_z}
use Rattle.surface.specs.Calls.{index_fits, index, set_cause, set_outcome}
use Rattle.answers.proofs.AnswerLaws.{slice-refused, slice-done}
use Rattle.activity.proofs.WindowLaws.{functions-le}
use Rattle.coefficients.proofs.Parts.{level-fits, part}
use Rattle.edit.proofs.SetLaws.{in-part, set-place, set_same, Settable, set-none}
use Rattle.edit.proofs.set.Goals.{After-places, In_ok-set_cause}
use Rattle.edit.proofs.set.Goals as goal

pub returns-in_err-set_cause : goal.returns-in_err-set_cause
unfolding set_outcome
returns-in_err-set_cause c = let a = c.args in
    let p = err_from_is_err_and c.from_residual.result c.from_residual.ensures.1 in
    let found = c.in_err-set_cause.ensures
    ∙ set_same a.w a.h a.tree.now a.numbers.now a.level (to_z-of_z w64 a.i c.ranges.i)
    (to_z-of_z w64 a.j c.ranges.j) (to_z-of_z w64 a.number c.ranges.number) in
    rw (p.1, p.2) (slice-refused c.in_err-set_cause.field-0.0 found tt _ _)

-- no cause applies
none : (c : In_ok-set_cause)
    → let a = c.args in
    0 ≡ set_cause a.w a.h a.tree.now a.numbers.now a.level a.i a.j a.number
none c = let a = c.args in
    c.in_ok-set_cause.ensures
    ∙ set_same a.w a.h a.tree.now a.numbers.now a.level (to_z-of_z w64 a.i c.ranges.i)
    (to_z-of_z w64 a.j c.ranges.j) (to_z-of_z w64 a.number c.ranges.number)

-- what follows for the arguments
fit : (c : In_ok-set_cause)
    → let a = c.args in
    Settable a.w a.h a.numbers.now a.level a.i a.j
fit c =
    let a = c.args in
    set-none a.w a.h a.tree.now a.numbers.now a.level a.i a.j a.number (none c)

pub functions-n-requires : goal.functions-n-requires
functions-n-requires c = ((fit c).side-W, (fit c).level)

pub index-a-requires : goal.index-a-requires
index-a-requires c = let a = c.args in (
  (fit (goal.at.index-a-requires c).In_ok-set_cause).side-W,
  (fit (goal.at.index-a-requires c).In_ok-set_cause).level,
  ap (index_fits a.w a.level) (to_z-of_z w64 a.i c.ranges.i) ∙ (fit (goal.at.index-a-requires c).In_ok-set_cause).first,
)

pub index-b-requires : goal.index-b-requires
index-b-requires c = let a = c.args in (
  (fit (goal.at.index-b-requires c).In_ok-set_cause).side-H,
  (fit (goal.at.index-b-requires c).In_ok-set_cause).level,
  ap (index_fits a.h a.level) (to_z-of_z w64 a.j c.ranges.j) ∙ (fit (goal.at.index-b-requires c).In_ok-set_cause).second,
)

pub start-first-requires : goal.start-first-requires
start-first-requires c = let l = (fit (goal.at.start-first-requires c).In_ok-set_cause).level in
    ((fit (goal.at.start-first-requires c).In_ok-set_cause).side-W, (fit (goal.at.start-first-requires c).In_ok-set_cause).side-H, omega arith)

pub places-requires : goal.places-requires
places-requires c = ((fit (goal.at.places-requires c).In_ok-set_cause).side-W, (fit (goal.at.places-requires c).In_ok-set_cause).side-H, (fit (goal.at.places-requires c).In_ok-set_cause).level)

-- the level's part is inside the slice
inside : (c : After-places) → Settable c.args.w c.args.h c.args.numbers.now c.args.level c.args.i c.args.j
    → c.start-first.result + c.places.result ≤ length c.args.numbers.now
inside c f =
    let a = c.args in
    rw f.size (level-fits a.w a.h a.level c.start-first.result c.places.result f.level c.start-first.ensures.0 c.places.ensures.0)

pub slice_bounds-set_in_part-end : goal.slice_bounds-set_in_part-end
slice_bounds-set_in_part-end c =
    inside c (fit (goal.at.slice_bounds-set_in_part-end c).In_ok-set_cause)

-- the function's place is inside the level's part
at_place : (c : After-places) → Settable c.args.w c.args.h c.args.numbers.now c.args.level c.args.i c.args.j
    → c.index-b.result * c.functions-n.result
    + c.index-a.result
    < length (part c.start-first.result c.places.result c.args.numbers.now)
at_place c f =
    let a = c.args in
    let row = c.functions-n in
    let first = c.index-a in
    let second = c.index-b in
    in-part a.w a.h a.level first.result second.result row.result c.start-first.result
    c.places.result a.numbers.now row.ensures.0 c.places.ensures.0 first.ensures.1
    second.ensures.1 (inside c f)

pub set_in_part-requires : goal.set_in_part-requires
set_in_part-requires c = let a = c.args in
    let f = functions-le a.w a.level (fit (goal.at.set_in_part-requires c).In_ok-set_cause).side-W (fit (goal.at.set_in_part-requires c).In_ok-set_cause).level in
    let g = functions-le a.h a.level (fit (goal.at.set_in_part-requires c).In_ok-set_cause).side-H (fit (goal.at.set_in_part-requires c).In_ok-set_cause).level in (
      c.functions-n.ensures.1,
      omega (arith, c.index-a.ensures.1),
      omega (arith, c.index-b.ensures.1),
      at_place (goal.at.set_in_part-requires c).After-places (fit (goal.at.set_in_part-requires c).In_ok-set_cause),
    )

pub returns : goal.returns
unfolding set_outcome
returns c = let a = c.args in
    let row = c.functions-n in
    let first = c.index-a in
    let second = c.index-b in
    let start = c.start-first in
    slice-done (none (goal.at.returns c).In_ok-set_cause) refl
    (set-place a.w a.h a.level first.result second.result row.result start.result
    c.places.result a.numbers.now c.set_in_part.new.part a.i a.j row.ensures.0
    start.ensures.0 (first.ensures.0 ∙ ap index (to_z-of_z w64 a.i c.ranges.i))
    (second.ensures.0 ∙ ap index (to_z-of_z w64 a.j c.ranges.j))
    (to_z-of_z w64 a.number c.ranges.number) (at_place (goal.at.returns c).After-places (fit (goal.at.returns c).In_ok-set_cause)) c.set_in_part.ensures)
    a.numbers.now
