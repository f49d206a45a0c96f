-- `put_levels` meets its contract: before each turn the fields of the levels below it are put.
use mathlib.Core.Path.{◌≡◌, ap, ◌∙◌}
use mathlib.Core.List.{List}
use Prim.Native.Nat.{ℕ, ◌+◌, ◌≤◌}
use native.Mathlib.Omega.{arith}
use lib.ListN.{length}
use Rattle.finite.proofs.Joined.{joined-through}
use Rattle.surface.specs.Table.{coefficients}
use Rattle.rows.specs.Rows.{levels_of}
use Rattle.coefficients.proofs.Parts.{part, part_length, level-fits}
use Rattle.fields.proofs.PutLaws.{put-none, put_next}
use Rattle.saving.specs.Saved.{in_part, level_under}
use Rattle.saving.proofs.BodyLaws.{part-under, part-spelt}
use Rattle.saving.proofs.levels.put_levels.Goals.{After-places, Start}
use Rattle.saving.proofs.levels.put_levels.Goals as goal

-- what each level adds
abbrev texts : Start → ℕ → List ℕ
texts s =
    let a = s.args in
    level_under a.w a.h (levels_of a.rows.now) (coefficients a.w a.h a.numbers.now)

pub loop-level-init : goal.loop-level-init
loop-level-init c = put-none (texts (goal.at.loop-level-init c).Start) c.args.at c.args.out.now

-- a turn's level stands in the slice
inside : (c : After-places)
    → c.start-first.result + c.places.result ≤ length c.args.numbers.now
inside c =
    let a = c.args in
    rw c.requires.3
    (level-fits a.w a.h c.loop-level.level c.start-first.result c.places.result
    (omega (arith, c.loop-level-test.true)) c.start-first.ensures.0 c.places.ensures.0)

-- what a turn adds is its level's
same : (c : After-places)
    → let a = c.args in
    level_under a.w a.h (levels_of a.rows.now)
    (in_part a.w (part c.start-first.result c.places.result a.numbers.now)) c.loop-level.level
    ≡ level_under a.w a.h (levels_of a.rows.now) (coefficients a.w a.h a.numbers.now) c.loop-level.level
same c =
    let a = c.args in
    part-under a.w a.h c.loop-level.level c.start-first.result c.places.result (levels_of a.rows.now)
    a.numbers.now c.start-first.ensures.0 c.places.ensures.0

pub put_level-to-requires : goal.put_level-to-requires
put_level-to-requires c =
    let step = (goal.at.put_level-to-requires c).After-places in
    let start = (goal.at.put_level-to-requires c).Start in
    let loop = c.loop-level in
    let a = c.args in
    let p = c.requires in
    let taken = c.loop-level-test.true in (
      p.0,
      p.1,
      omega (arith, taken),
      p.2,
      part_length c.start-first.result c.places.result a.numbers.now (inside step)
          ∙ c.places.ensures.0,
      part-spelt a.w a.h loop.level c.start-first.result c.places.result (levels_of a.rows.now)
          a.numbers.now c.start-first.ensures.0 c.places.ensures.0 (p.4 loop.level taken),
      (p.5 loop.level taken).0,
      (p.5 loop.level taken).1,
      omega (
        arith,
        p.6,
        loop.auto.out,
        loop.invariant.0,
        joined-through (texts start) 4 loop.level taken,
        ap length (same step),
      ),
    )

pub loop-level-preserved : goal.loop-level-preserved
loop-level-preserved c = let loop = c.loop-level in
    let a = c.args in
    put_next loop.level (texts (goal.at.loop-level-preserved c).Start) _ a.at a.out.now loop.to loop.out
    c.put_level-to.result c.put_level-to.new.out loop.invariant c.put_level-to.ensures
    (same (goal.at.loop-level-preserved c).After-places)

pub slice_bounds-put_level-end : goal.slice_bounds-put_level-end
slice_bounds-put_level-end c = inside c
