-- `over` meets its contract: after i turns the first i records of the part are taken in.
use mathlib.Core.Path.{◌≡◌, refl, ap, ◌∙◌}
use Prim.Native.Nat.{◌+◌, ◌*◌, ◌^◌, ◌≤◌, ◌<◌}
use native.Mathlib.Nat.{lt_of_le_of_lt}
use native.Mathlib.Omega.{arith}
use borrow.Author.Rules.{sfits_of}
use lib.Dec.{lit<}
use lib.IntN.{pos, nat_abs, ◌+ℤ◌}
use lib.ListN.{length, get_or, drop}
use mir.Syntax.{w32, w64}
use mir.Val.{to_z}
use mir.ValLaws.{to_z-of_z}
use Rattle.surface.specs.Window.{folded, lesser, greater}
use Rattle.window.proofs.FoldLaws.{sum_is, sum-size, took, fold_more, fold_end}
use Rattle.window.proofs.over.Goals as goal

pub loop-x-init : goal.loop-x-init
loop-x-init c =
    let total = to_z-of_z w64 c.args.before.total (sfits_of c.struct_told-1.given.0.1) in
    (ap (λ z. folded ◌+ℤ◌ z c.args.part.now) total, refl, refl, rw total (omega arith))

pub loop-x-preserved : goal.loop-x-preserved
loop-x-preserved c =
    let loop = c.loop-x in
    let part = c.args.part.now in
    let i = loop.x-index in
    let total = to_z w64 loop.total-bits in
    let least = to_z w32 loop.least-bits in
    let greatest = to_z w32 loop.greatest-bits in
    let x = get_or part i (pos 0) in
    let fits = c.total-1.given in
    let inside = c.loop-x-test.true in
    let most : nat_abs c.args.before.total + i * 2147483648 + 2147483648 ≤ 2882 * 2147483648 =
    omega (arith, c.requires) in
    let room : nat_abs c.args.before.total + i * 2147483648 + 2147483648 < 2 ^ 63 = lt_of_le_of_lt most (lit< tt) in (
      ap (λ z. folded ◌+ℤ◌ z (drop (i + 1) part)) (sum_is x fits total loop.invariant.3 room)
          ∙ fold_more ◌+ℤ◌ total _ part i inside loop.invariant.0,
      ap (λ z. folded lesser z (drop (i + 1) part))
          (took lesser least x (sfits_of c.lesser-least.type_inv) c.lesser-least.ensures (sfits_of fits))
          ∙ fold_more lesser least _ part i inside loop.invariant.1,
      ap (λ z. folded greater z (drop (i + 1) part))
          (took greater greatest x (sfits_of c.greater-greatest.type_inv) c.greater-greatest.ensures (sfits_of fits))
          ∙ fold_more greater greatest _ part i inside loop.invariant.2,
      omega (arith, sum-size x fits total loop.invariant.3 room),
    )

pub returns : goal.returns
returns c =
    let loop = c.loop-x in
    let part = c.args.part.now in
    let fits = c.struct_told-1.given in
    let b = c.args.before in
    let all : loop.x-index ≡ length part = omega arith in (
      fold_end ◌+ℤ◌ (to_z w64 loop.total-bits) _ part loop.x-index all loop.invariant.0,
      fold_end lesser (to_z w32 loop.least-bits) _ part loop.x-index all loop.invariant.1
          ∙ ap (λ z. folded lesser z part) (to_z-of_z w32 b.least (sfits_of fits.1.0.1)),
      fold_end greater (to_z w32 loop.greatest-bits) _ part loop.x-index all loop.invariant.2
          ∙ ap (λ z. folded greater z part) (to_z-of_z w32 b.greatest (sfits_of fits.1.1.0.1)),
      rw all at loop.invariant.3,
    )
