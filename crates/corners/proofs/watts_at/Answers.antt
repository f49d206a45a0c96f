-- `watts_at` rounds the reading at the corner.
use mathlib.Core.Path.{ap, ◌∙◌}
use Prim.Native.Nat.{◌≤◌, ◌<◌}
use native.Mathlib.Omega.{arith}
use Rattle.surface.proofs.TableLaws.{sound, sides}
use mir.Syntax.{w64}
use mir.ValLaws.{to_z-of_z}
use borrow.Author.Rules.{sfits_of}
use Rattle.surface.specs.Calls.{whole_watts}
use Rattle.corners.proofs.watts_at.Goals.{Start}
use Rattle.corners.proofs.watts_at.Goals as goal

within : (c : Start) → let a = c.args in (0 < a.w) × (a.w ≤ 8) × (0 < a.h) × (a.h ≤ 8)
within c = sides (sound c.args.w c.args.h c.requires.2.0 c.args.numbers.now c.requires.2.2)

pub overflow_mul-u : goal.overflow_mul-u
overflow_mul-u c = omega (arith, within c)

pub overflow_mul-v : goal.overflow_mul-v
overflow_mul-v c = omega (arith, within c)

pub returns : goal.returns
returns c = let n = c.reading_at.result in
    let watts = c.whole_watts.result in
    let same = to_z-of_z w64 watts (sfits_of c.whole_watts.type_inv) in (
      λ t painted accepted.
          same
          ∙ c.whole_watts.ensures.0
          ∙ ap whole_watts
          (to_z-of_z w64 n (sfits_of c.reading_at.type_inv) ∙ c.reading_at.ensures t painted accepted),
      rw same c.whole_watts.ensures.1,
    )
