-- Before each turn the numbers met so far are within the limit.
use mathlib.Core.Path.{◌≡◌, ap, ◌∙◌}
use mathlib.Core.Bool.{true≢false, false≢true}
use Prim.Native.Nat.{ℕ}
use mathlib.Core.List.{[]}
use native.Mathlib.Omega.{arith}
use lib.IntN.{ℤ, pos, nat_abs}
use lib.ListN.{get_or}
use mir.Syntax.{w64}
use mir.Val.{SFits, to_z, of_z}
use mir.ValLaws.{to_z-of_z}
use lib.Dec.{ltb}
use Rattle.std.proofs.Common.{rules}
use Rattle.patch.specs.Patches.{entry}
use Rattle.coarsening.proofs.SixteenLaws.{past-limit, in-limit, number-more, row-more}
use Rattle.coarsening.proofs.sixteen.within.Goals.{After-past}
use Rattle.coarsening.proofs.sixteen.within.Goals as goal

pub loop-row-init : goal.loop-row-init
loop-row-init c m e l h = absurd (omega arith)

pub loop-x-init : goal.loop-x-init
loop-x-init c m e = (c.loop-row.invariant m e, λ k h. absurd (omega arith))

-- the number that is tested, and what the test says of it
abbrev number : After-past → ℤ
number c = entry c.args.patch c.loop-row.row-index c.loop-x.x-index

said : (c : After-past) (m : ℕ) → to_z w64 (of_z w64 c.args.limit) ≡ pos m
    → c.past.result ≡ ltb m (nat_abs (number c))
said c m e =
    let fits : SFits w64 (number c) = search rules in
    c.past.ensures m e ∙ ap (λ z. ltb m (nat_abs z)) (to_z-of_z w64 (number c) fits)

pub returns-then-past : goal.returns-then-past
returns-then-past c m e =
    let limit = to_z-of_z w64 c.args.limit c.ranges.limit ∙ e in
    let d = (goal.at.returns-then-past c).After-past in
    let past = past-limit m (number d) (said d m limit) c.if-past.true in (
      λ t. absurd (false≢true t),
      λ _. (c.loop-row.row-index, c.loop-x.x-index, c.loop-row-test.true, c.loop-x-test.true, past),
    )

pub loop-x-preserved : goal.loop-x-preserved
loop-x-preserved c m e = let d = (goal.at.loop-x-preserved c).After-past in
    let i = c.loop-x.invariant m e in (
      i.0,
      number-more m (get_or c.args.patch c.loop-row.row-index []) c.loop-x.x-index i.1
          (in-limit m (number d) (said d m e) c.if-past.false),
    )

pub loop-row-preserved : goal.loop-row-preserved
loop-row-preserved c m e = let i = c.loop-x.invariant m e in
    let all : c.loop-x.x-index ≡ 4 = omega arith in
    row-more m c.args.patch c.loop-row.row-index i.0 (λ k h. i.1 k (omega (arith, all, h)))

pub returns : goal.returns
returns c m e =
    let limit = to_z-of_z w64 c.args.limit c.ranges.limit ∙ e in
    let all : c.loop-row.row-index ≡ 4 = omega arith in (
      λ _ l k hl hk. c.loop-row.invariant m limit l (omega (arith, all, hl)) k hk,
      λ t. absurd (true≢false t),
    )
