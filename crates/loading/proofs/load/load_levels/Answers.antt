-- Before each turn the levels below are loaded, and the fields of the others stand from there on.
use mathlib.Core.Path.{◌≡◌, refl, sym, ap, ◌∙◌, subst}
use mathlib.Core.List.{[]}
use Prim.Native.Nat.{ℕ, ◌+◌, ◌≤◌}
use native.Mathlib.Omega.{arith}
use lib.ListN.{length, drop}
use Rattle.surface.specs.Fields.{holds, length_at}
use Rattle.surface.specs.TableFile.{level_fields}
use Rattle.surface.proofs.FileRefusals.{levels-size}
use Rattle.coefficients.proofs.Parts.{level-fits, part_length}
use Rattle.rows.specs.Rows.{levels_of}
use Rattle.judging.proofs.JudgeLaws.{levels-none, levels-next}
use Rattle.loading.proofs.FileLaws.{level-due, LevelThere, level-there, below_none, below_next, below_all}
use Rattle.loading.proofs.load.load_levels.Goals.{After-places, In-loop-level}
use Rattle.loading.proofs.load.load_levels.Goals as goal

pub loop-level-init : goal.loop-level-init
loop-level-init c = let a = c.args in
    ([], levels-none a.w a.h _ _, below_none a.w a.h a.numbers.now)

-- the field of a turn's level stands there
there : (c : In-loop-level)
    → let a = c.args in
    let loop = c.loop-level in
    (k : ℕ) → k ≡ length_at (drop loop.at a.file.now)
    → LevelThere a.w a.h (levels_of a.rows.now) loop.level a.file.now loop.at k
there c k e =
    let a = c.args in
    let lev = levels_of a.rows.now in
    let loop = c.loop-level in
    let due = level-due a.w a.h lev (drop a.from a.file.now) 4 loop.level c.requires.4.0
    loop.invariant.0 c.requires.4.1.0 (drop loop.at a.file.now) c.loop-level-test.true c.requires.4.1.1
    loop.invariant.1 in
    level-there a.w a.h lev loop.level a.file.now loop.at due.0 due.1 k due.2 e

-- its part is inside the slice
level-part : (c : After-places)
    → c.start-first.result + c.places.result ≤ length c.loop-level.numbers
level-part c =
    let a = c.args in
    rw (c.loop-level.auto.numbers ∙ c.requires.3)
    (level-fits a.w a.h c.loop-level.level c.start-first.result c.places.result
    (omega (arith, c.loop-level-test.true)) c.start-first.ensures.0 c.places.ensures.0)

pub overflow_add-body : goal.overflow_add-body
overflow_add-body c = omega (arith, (there c _ refl).inside)

pub length_at-requires : goal.length_at-requires
length_at-requires c = omega (arith, (there c _ refl).inside)

pub overflow_add-end : goal.overflow_add-end
overflow_add-end c =
    omega (arith, (there (goal.at.overflow_add-end c).In-loop-level c.length_at.result c.length_at.ensures.0).inside)

pub slice_bounds-load_level-end : goal.slice_bounds-load_level-end
slice_bounds-load_level-end c =
    (there (goal.at.slice_bounds-load_level-end c).In-loop-level c.length_at.result c.length_at.ensures.0).inside

pub slice_bounds-load_level-end-in-loop-level : goal.slice_bounds-load_level-end-in-loop-level
slice_bounds-load_level-end-in-loop-level c =
    level-part (goal.at.slice_bounds-load_level-end-in-loop-level c).After-places

pub load_level-requires : goal.load_level-requires
load_level-requires c = let p = c.requires in (
  p.0,
  p.1,
  omega (arith, c.loop-level-test.true),
  p.2,
  part_length c.start-first.result c.places.result c.loop-level.numbers
      (level-part (goal.at.load_level-requires c).After-places)
      ∙ c.places.ensures.0,
  (there (goal.at.load_level-requires c).In-loop-level c.length_at.result c.length_at.ensures.0).size,
)

pub loop-level-preserved : goal.loop-level-preserved
loop-level-preserved c = let loop = c.loop-level in
    let a = c.args in
    let lev = levels_of a.rows.now in
    let field = there (goal.at.loop-level-preserved c).In-loop-level c.length_at.result c.length_at.ensures.0 in
    let below = loop.invariant in (
      _,
      levels-next a.w a.h lev (drop a.from a.file.now) loop.level below.0 _ (drop loop.at a.file.now) _ below.1
          field.field,
      below_next a.w a.h a.numbers.now loop.level c.start-first.result c.places.result loop.numbers below.0 _ _
          c.start-first.ensures.0 c.places.ensures.0
          (levels-size a.w a.h lev loop.level _ below.0 _ below.1) below.2 c.load_level.ensures,
    )

pub returns : goal.returns
returns c = let loop = c.loop-level in
    let a = c.args in
    let rest = drop loop.at a.file.now in
    let all : loop.level ≡ 4 = omega arith in
    let below = loop.invariant in
    let whole = below_all a.w a.h a.numbers.now loop.level loop.numbers below.0 all c.requires.3
    below.2 in (
      rest,
      subst (λ n. level_fields a.w a.h (levels_of a.rows.now) n (drop a.from a.file.now)
          ≡ holds loop.numbers rest) all (below.1 ∙ ap (λ l. holds l rest) (sym whole)),
    )
