-- `of_row`: by the half.
use mathlib.Core.Path.{◌≡◌, sym, subst}
use Prim.Native.Nat.{ℕ, ◌<◌}
use native.Mathlib.Omega.{arith}
use lib.Dec.{lit<}
use lib.IntN.{pos}
use lib.ListN.{get_or}
use mir.Syntax.{w64}
use mir.Val.{SFits, to_z, of_z}
use mir.ValLaws.{to_z-of_z}
use Rattle.std.proofs.Common.{rules}
use Rattle.patch.proofs.Size.{kept}
use Rattle.patch.proofs.Four.{four}
use Rattle.parents.specs.Parents.{FourWithin}
use Rattle.parents.proofs.Algebra.{of_four, turned, mirrored}
use Rattle.parents.proofs.of_row.Goals.{Start}
use Rattle.parents.proofs.of_row.Goals as goal

-- the number that is passed is the row's
read : (s : Start) (k : ℕ) → k < 4 → to_z w64 (of_z w64 (get_or s.args.row k (pos 0))) ≡ get_or s.args.row k (pos 0)
read s k h = kept (get_or s.args.row k (pos 0)) (s.requires.1 k h) (lit< tt)

pub returns-then-half-eq0 : goal.returns-then-half-eq0
returns-then-half-eq0 c = let half : 0 ≡ c.args.half = omega (arith, c.if-half-eq0.true) in
    let s = (goal.at.returns-then-half-eq0 c).Start in
    subst (λ h. FourWithin h c.args.row c.near.result) half
    (of_four 0 c.args.row c.near.result (read s 0 (lit< tt)) (read s 1 (lit< tt)) (read s 2 (lit< tt))
    (read s 3 (lit< tt)) c.near.ensures)

pub returns : goal.returns
returns c = let half : 1 ≡ c.args.half = omega (arith, c.if-half-eq0.false, c.requires.0) in
    let s = (goal.at.returns c).Start in
    let back = c.near-2.result in
    let f0 : SFits w64 (get_or back 0 (pos 0)) = search rules in
    let f1 : SFits w64 (get_or back 1 (pos 0)) = search rules in
    let f2 : SFits w64 (get_or back 2 (pos 0)) = search rules in
    let f3 : SFits w64 (get_or back 3 (pos 0)) = search rules in
    let same = four (to_z-of_z w64 _ f3) (to_z-of_z w64 _ f2) (to_z-of_z w64 _ f1) (to_z-of_z w64 _ f0) in
    let far : FourWithin 1 c.args.row (turned back) =
    of_four 1 c.args.row (turned back) (read s 0 (lit< tt)) (read s 1 (lit< tt)) (read s 2 (lit< tt))
    (read s 3 (lit< tt)) (mirrored back c.near-2.ensures) in
    rw (sym half) (subst (FourWithin 1 c.args.row) (sym same) far)
