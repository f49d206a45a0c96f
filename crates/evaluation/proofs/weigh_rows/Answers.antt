-- Each row of the patch has the bound of all.
use mathlib.Core.Path.{◌≡◌, ◌∙◌}
use mathlib.Core.List.{[]}
use Prim.Native.Nat.{ℕ, ◌<◌}
use lib.Dec.{lit<}
use lib.IntN.{ℤ}
use lib.ListN.{get_or}
use mir.Syntax.{w64}
use mir.Val.{SFits, to_z, of_z}
use mir.ValLaws.{to_z-of_z}
use borrow.Author.Rules.{sfits_of}
use Rattle.evaluation.specs.Weights.{weighed, Fit}
use Rattle.patch.proofs.Four.{four}
use Rattle.evaluation.proofs.weigh_rows.Goals.{Start}
use Rattle.evaluation.proofs.weigh_rows.Goals as goal

-- what `weigh` asks at a row
row-weighs : (s : Start) (k : ℕ) → k < 4 → Fit s.args.w (get_or s.args.p k [])
row-weighs s k hk =
    let (t, m, w, b, ht, hm, h) = s.requires in
    (t, m, w, λ l. b k l hk, ht, hm, h)

-- and what it gives, as it is read back
row-value : (s : Start) (k : ℕ) {t : ℤ} → SFits w64 t → t ≡ weighed s.args.w (get_or s.args.p k [])
    → to_z w64 (of_z w64 t) ≡ weighed s.args.w (get_or s.args.p k [])
row-value s k {t} f h = to_z-of_z w64 t f ∙ h

pub weigh-requires : goal.weigh-requires
weigh-requires c = row-weighs (goal.at.weigh-requires c).Start 0 (lit< tt)

pub weigh-requires-2 : goal.weigh-requires-2
weigh-requires-2 c = row-weighs (goal.at.weigh-requires-2 c).Start 1 (lit< tt)

pub weigh-requires-3 : goal.weigh-requires-3
weigh-requires-3 c = row-weighs (goal.at.weigh-requires-3 c).Start 2 (lit< tt)

pub weigh-requires-4 : goal.weigh-requires-4
weigh-requires-4 c = row-weighs (goal.at.weigh-requires-4 c).Start 3 (lit< tt)

pub returns : goal.returns
returns c = four
    (row-value (goal.at.returns c).Start 0 (sfits_of c.weigh.type_inv) c.weigh.ensures)
    (row-value (goal.at.returns c).Start 1 (sfits_of c.weigh-2.type_inv) c.weigh-2.ensures)
    (row-value (goal.at.returns c).Start 2 (sfits_of c.weigh-3.type_inv) c.weigh-3.ensures)
    (row-value (goal.at.returns c).Start 3 (sfits_of c.weigh-4.type_inv) c.weigh-4.ensures)
