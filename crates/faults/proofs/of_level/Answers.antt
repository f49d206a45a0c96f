-- Before each turn the flags say the faults of the rows below b.
use mathlib.Core.Path.{◌≡◌, refl, ap, ◌∙◌, subst}
use mathlib.Core.Bool.{not}
use Prim.Native.Nat.{◌+◌, ◌≤◌, ◌<◌}
use native.Mathlib.Omega.{arith}
use borrow.Author.Rules.{sfits_of}
use lib.IntN.{pos}
use lib.ListN.{length}
use mir.Syntax.{w64}
use mir.Val.{to_z, of_z}
use mir.ValLaws.{to_z-of_z}
use Rattle.rows.specs.Rows.{levels_of}
use Rattle.surface.specs.Sheet.{functions}
use Rattle.surface.specs.Table.{start, limit}
use Rattle.coefficients.proofs.Parts.{row-end, rows_none, row_next, part_length}
use Rattle.coefficients.proofs.Sizes.{limit-below}
use Rattle.faults.specs.Faults.{limits, zeros}
use Rattle.faults.proofs.FaultLaws.{none-lost, lost-more, rows-done, row-holds}
use Rattle.faults.proofs.of_level.Goals.{After-limit-bound, In-loop-b}
use Rattle.faults.proofs.of_level.Goals as goal

pub loop-b-init : goal.loop-b-init
loop-b-init c = let first = c.start-from.ensures.0 in
    (first ∙ rows_none _ c.functions-n.result, none-lost _ c.default-faults.ensures.0, none-lost _ c.default-faults.ensures.1)

-- a turn's row is one of the level's, and inside the slice
row : (c : In-loop-b)
    → let a = c.args in
    c.loop-b.b < functions a.h a.level
row c = subst (λ k. c.loop-b.b < k) c.functions-m.ensures.0 c.loop-b-test.true

inside : (c : In-loop-b)
    → c.loop-b.from + c.functions-n.result ≤ length c.args.numbers.now
inside c =
    let a = c.args in
    rw c.requires.3
    (row-end a.w a.h a.level c.loop-b.b c.functions-n.result c.loop-b.from
    c.functions-n.ensures.0 c.loop-b.invariant.0 (omega (arith, c.requires.2)) (row c))

-- the bound as a callee has it
bound : (c : After-limit-bound)
    → to_z w64 (of_z w64 c.limit-bound.result) ≡ pos (limit c.args.level)
bound c = to_z-of_z w64 c.limit-bound.result (sfits_of c.limit-bound.type_inv) ∙ c.limit-bound.ensures

pub of_row-found-requires : goal.of_row-found-requires
of_row-found-requires c = let n = c.functions-n.result in (
  c.requires.0,
  c.requires.1,
  c.requires.2,
  row (goal.at.of_row-found-requires c).In-loop-b,
  c.requires.4,
  part_length c.loop-b.from n c.args.numbers.now (inside (goal.at.of_row-found-requires c).In-loop-b) ∙ c.functions-n.ensures.0,
  (limit c.args.level, bound (goal.at.of_row-found-requires c).After-limit-bound, limit-below c.args.level c.requires.2),
)

pub loop-b-preserved : goal.loop-b-preserved
loop-b-preserved c = let loop = c.loop-b in
    let a = c.args in
    let n = c.functions-n.result in
    let faults = c.of_row-found.ensures (limit a.level) (bound (goal.at.loop-b-preserved c).After-limit-bound) in
    let holds = row-holds a.w a.h a.level loop.b n loop.from a.numbers.now (levels_of a.rows.now)
    c.functions-n.ensures.0 loop.invariant.0 (inside (goal.at.loop-b-preserved c).In-loop-b) in (
      row_next loop.b n (start a.w a.h a.level) loop.invariant.0,
      lost-more loop.b _ loop.invariant.1 (faults.limits ∙ ap not (holds limits)) refl,
      lost-more loop.b _ loop.invariant.2 (faults.zeros ∙ ap not (holds zeros)) refl,
    )

pub returns : goal.returns
returns c = let loop = c.loop-b in
    let a = c.args in
    let last : loop.b ≡ c.functions-m.result = omega (arith, c.loop-b-test.false) in
    let whole = rows-done a.w a.h (levels_of a.rows.now) a.numbers.now a.level loop.b
    (last ∙ c.functions-m.ensures.0) in
    record { limited = loop.invariant.1 ∙ whole limits; zeroed = loop.invariant.2 ∙ whole zeros }

pub slice_bounds-of_row-end : goal.slice_bounds-of_row-end
slice_bounds-of_row-end c =
    inside c
