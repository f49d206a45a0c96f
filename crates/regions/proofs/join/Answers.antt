-- `join` meets its contract: four leaves of one level are merged, and any other trees are the children of a split.
use mathlib.Core.Path.{sym, ◌∙◌}
use native.Mathlib.Omega.{arith}
use Rattle.regions.proofs.BuildLaws.{joined-leaves, joined-split}
use Rattle.regions.proofs.join.Goals as goal

pub equal_leaves-requires : goal.equal_leaves-requires
equal_leaves-requires c = (omega arith, λ five. omega arith)

pub returns-then-equal_leaves : goal.returns-then-equal_leaves
returns-then-equal_leaves c = let p = c.requires in
    joined-leaves p.0 (sym c.equal_leaves.ensures ∙ c.if-equal_leaves.true)
    c.write_leaf.ensures

pub returns : goal.returns
returns c = let a = c.args in
    let p = c.requires in
    joined-split a.at a.end a.out.now p.2 p.0 p.1
    (sym c.equal_leaves.ensures ∙ c.if-equal_leaves.false)
