-- Before each turn the lines of the corners up to u are put.
use mathlib.Core.Path.{◌≡◌, refl, ap, ◌∙◌, subst}
use Prim.Native.Nat.{◌+◌, ◌≤◌, ◌<◌}
use native.Mathlib.Omega.{arith}
use lib.ListN.{length}
use mir.Syntax.{w64}
use mir.Val.{to_z, of_z}
use mir.ValLaws.{to_z-of_z}
use borrow.Author.Rules.{sfits_of}
use Rattle.surface.proofs.TableLaws.{sound, sides}
use Rattle.finite.specs.Range.{joined}
use Rattle.text.specs.Text.{line}
use Rattle.corners.specs.Text.{corner_line}
use Rattle.fields.specs.Put.{Put}
use Rattle.fields.proofs.PutLaws.{put_next, put-none}
use Rattle.text.proofs.TextLaws.{line-short}
use Rattle.corners.proofs.row.Goals.{After-watts_at-watts, Start}
use Rattle.corners.proofs.row.Goals as goal

within : (c : Start) → let a = c.args in (0 < a.w) × (a.w ≤ 8) × (0 < a.h) × (a.h ≤ 8)
within c = sides (sound c.args.w c.args.h c.requires.1.0 c.args.numbers.now c.requires.1.2)

pub loop-u-init : goal.loop-u-init
loop-u-init c = let a = c.args in (
  refl,
  omega arith,
  λ t e h. put-none (corner_line a.w a.h t a.numbers.now a.v) a.start a.out.now,
)

pub watts_at-watts-requires : goal.watts_at-watts-requires
watts_at-watts-requires c = let p = c.requires in (omega (arith, c.loop-u-test.true), p.0, p.1)

-- the watts as the machine holds them, and the length of their line
as-held : (c : After-watts_at-watts)
    → to_z w64 (of_z w64 c.watts_at-watts.result) ≡ c.watts_at-watts.result
as-held c = to_z-of_z w64 c.watts_at-watts.result (sfits_of c.watts_at-watts.type_inv)

short : (c : After-watts_at-watts)
    → length (line c.loop-u.u c.args.v (to_z w64 (of_z w64 c.watts_at-watts.result))) ≤ 11
short c =
    let small = within c.before.before.before.before in
    rw (as-held c)
    (line-short c.loop-u.u c.args.v c.watts_at-watts.result (omega (arith, c.loop-u-test.true))
    (omega (arith, c.requires.0)) c.watts_at-watts.ensures.1)

pub line-at-requires : goal.line-at-requires
line-at-requires c = omega (
  arith,
  short (goal.at.line-at-requires c).After-watts_at-watts,
  within (goal.at.line-at-requires c).Start,
  c.loop-u-test.true,
  c.loop-u.invariant.0,
  c.loop-u.invariant.1,
  c.requires.2,
)

pub overflow_add-u-end : goal.overflow_add-u-end
overflow_add-u-end c = omega (arith, within (goal.at.overflow_add-u-end c).Start)

pub loop-u-preserved : goal.loop-u-preserved
loop-u-preserved c = let a = c.args in
    let z = c.watts_at-watts.result in
    let text = line c.loop-u.u a.v (to_z w64 (of_z w64 z)) in (
      c.line-at.auto.out ∙ c.loop-u.invariant.0,
      omega (arith, short (goal.at.loop-u-preserved c).After-watts_at-watts, c.line-at.ensures.0, c.loop-u.invariant.1),
      λ t e h.
          put_next c.loop-u.u (corner_line a.w a.h t a.numbers.now a.v) text a.start a.out.now
          c.loop-u.at c.loop-u.out c.line-at.result c.line-at.new.out (c.loop-u.invariant.2 t e h)
          c.line-at.ensures
          (ap (line c.loop-u.u a.v) (as-held (goal.at.loop-u-preserved c).After-watts_at-watts ∙ c.watts_at-watts.ensures.0 t e h)),
    )

pub shape_of-out : goal.shape_of-out
shape_of-out c = c.loop-u.invariant.0

pub returns : goal.returns
returns c = let a = c.args in
    let all : c.loop-u.u ≡ a.w + 1 = omega (arith, c.loop-u-test.false) in (
      λ t e h.
          subst
          (λ n. Put (joined n (corner_line a.w a.h t a.numbers.now a.v)) a.start a.out.now
          c.loop-u.at c.loop-u.out)
          all
          (c.loop-u.invariant.2 t e h),
      omega (arith, within (goal.at.returns c).Start, c.loop-u.invariant.1),
    )
