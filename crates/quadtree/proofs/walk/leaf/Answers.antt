-- `leaf` meets its contract: past the slice, a leaf that is not of the form, a single quarter, a greater square.
use mathlib.Core.Path.{◌≡◌, sym, ◌∙◌}
use mathlib.Core.Bool.{true}
use Prim.Native.Nat.{ℕ, ◌^◌, ◌≤◌}
use native.Mathlib.Omega.{arith}
use lib.ListN.{get_or}
use Rattle.surface.specs.Quadtree.{leaf, well_formed}
use Rattle.quadtree.proofs.WalkLaws.{form-low, judged-past, judged-bad, judged-leaf, short, side-some}
use Rattle.quadtree.proofs.walk.leaf.Goals.{Else-not-leaf_formed, Start}
use Rattle.quadtree.proofs.walk.leaf.Goals as goal

abbrev start : Else-not-leaf_formed → Start
start c = c.before.before.before.before.before.before

-- the leaf is of the form
formed : (c : Else-not-leaf_formed) (k : ℕ)
    → let a = (start c).args in
    a.side ≡ 2 ^ k → true ≡ well_formed a.w a.h k a.x a.y (leaf (get_or a.t.now a.at 0))
formed c k e = sym c.if-not-leaf_formed.false ∙ c.leaf_formed.ensures k e

low : (c : Else-not-leaf_formed) → get_or (start c).args.t.now (start c).args.at 0 ≤ 3
low c = let s = (start c).requires.0 in form-low _ _ _ _ _ _ (formed c s.height s.power)

pub returns-then-t-at : goal.returns-then-t-at
returns-then-t-at c = judged-past (short _ c.well_formed.0.1) c.requires.3 c.if-t-at.true

pub returns-then-not-leaf_formed : goal.returns-then-not-leaf_formed
returns-then-not-leaf_formed c = judged-bad (short _ c.well_formed.0.1) c.requires.3 c.if-t-at.false c.requires.4
    (λ k p. sym c.if-not-leaf_formed.true ∙ c.leaf_formed.ensures k p)

pub raise_square-requires : goal.raise_square-requires
raise_square-requires c = let e = (goal.at.raise_square-requires c).Else-not-leaf_formed in
    let p = (start e).requires in
    (side-some p.0, omega (arith, p.0.in_u, p.0.in_v), omega (arith, p.0.in_u, p.0.in_v), low e, p.3)

pub returns : goal.returns
returns c = let s = start (goal.at.returns c).Else-not-leaf_formed in
    judged-leaf (short _ s.well_formed.0.1) s.requires.3 c.if-t-at.false s.requires.4 (formed (goal.at.returns c).Else-not-leaf_formed)
    c.raise_square.ensures
