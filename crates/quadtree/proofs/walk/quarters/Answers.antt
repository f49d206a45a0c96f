-- `quarters` meets its contract: a split whose children are single quarters.
use mathlib.Core.Path.{◌≡◌, refl, sym, ◌∙◌}
use mathlib.Core.Bool.{Bool, true, false, cond}
use Prim.Native.Nat.{ℕ, ◌+◌, ◌≤◌}
use native.Mathlib.Omega.{arith}
use Rattle.quadtree.specs.End.{nowhere, equal_bytes}
use Rattle.quadtree.specs.Subtree.{Square}
use Rattle.quadtree.specs.Judged.{Judged}
use Rattle.quadtree.proofs.WalkLaws.{judged-split, short}
use Rattle.quadtree.proofs.walk.quarters.Goals.{After-leaf-p4, Start}
use Rattle.quadtree.proofs.walk.quarters.Goals as goal

abbrev start : After-leaf-p4 → Start
start c = c.before.before.before.before.before.before.before.before.before.before

split : (c : After-leaf-p4) (b : Bool)
    → let a = (start c).args in
    let p = c.leaf-p4.result in
    equal_bytes a.t.now (a.at + 1) p ≡ b
    → Judged a.w a.h a.x a.y 2 a.t.now a.at (cond b nowhere p) a.rows.now
    c.leaf-p4.new.rows
split c =
    let s = start c in
    judged-split (short _ s.well_formed.0.1) s.requires.5 s.requires.6 (omega arith)
    c.leaf-p1.ensures c.leaf-p2.ensures c.leaf-p3.ensures c.leaf-p4.ensures

single : (x y : ℕ) → x + 1 ≤ 32 → y + 1 ≤ 32 → Square x y 1
single x y u v = record { height = 0; power = refl; in_u = u; in_v = v }

pub returns-then-equal_leaves : goal.returns-then-equal_leaves
returns-then-equal_leaves c = split (goal.at.returns-then-equal_leaves c).After-leaf-p4 true (sym c.equal_leaves.ensures ∙ c.if-equal_leaves.true)

pub returns : goal.returns
returns c = split (goal.at.returns c).After-leaf-p4 false (sym c.equal_leaves.ensures ∙ c.if-equal_leaves.false)
