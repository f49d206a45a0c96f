-- A tree of one leaf has the leaf's level under each box; the walk of another tree finds the levels.
use native.Mathlib.Omega.{arith}
use lib.ListN.{get_or}
use Rattle.quadtree.specs.Subtree.{Readable}
use Rattle.boxes.specs.Boxes.{box_of}
use Rattle.leastlevel.specs.declared.Levels.{Levels}
use Rattle.quadtree.proofs.SubtreeLaws.{tree-subtree}
use Rattle.leastlevel.proofs.LevelLaws.{root-meets}
use Rattle.leastlevel.proofs.WalkLaws.{readable-inside, nothing, visited-root, walk-leaf, walk-whole}
use Rattle.leastlevel.proofs.under.Goals.{Start}
use Rattle.leastlevel.proofs.under.Goals as goal

readable : (s : Start) → Readable 32 s.args.t.now 0
readable s = (tree-subtree s.args.w s.args.h s.args.t.now s.requires.2).0

pub bounds-t-0 : goal.bounds-t-0
bounds-t-0 c = readable-inside (readable (goal.at.bounds-t-0 c).Start)

pub returns-then-root-le3 : goal.returns-then-root-le3
returns-then-root-le3 c = let a = c.args in
    let p = c.requires in
    let b = box_of a.b in
    let l = get_or a.t.now 0 0 in
    let found : Levels = record { least = l; greatest = l; visited = 1 } in
    walk-whole a.w a.h b a.t.now 1 found p.0 p.1 p.2 p.3
    (walk-leaf b a.t.now 0 0 32 0 nothing found (readable-inside (readable (goal.at.returns-then-root-le3 c).Start)) c.if-root-le3.true (omega arith)
    (omega arith) (root-meets a.w a.h b p.0 p.1 p.3) (visited-root l c.if-root-le3.true))

pub walk-requires : goal.walk-requires
walk-requires c = (omega arith, omega arith, readable (goal.at.walk-requires c).Start, omega arith, omega arith)

pub returns : goal.returns
returns c = let a = c.args in
    let p = c.requires in
    walk-whole a.w a.h (box_of a.b) a.t.now c.walk.result c.walk.new.found
    p.0 p.1 p.2 p.3 c.walk.ensures
