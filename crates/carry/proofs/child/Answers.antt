-- The child of two parents or of three.
use Prim.Native.Nat.{◌+◌, ◌<◌}
use native.Mathlib.Omega.{arith}
use borrow.Author.Rules.{sfits_of}
use lib.IntN.{pos}
use lib.ListN.{length, get_or}
use Rattle.patch.proofs.Subdivision.{even-value, odd-value}
use Rattle.carry.proofs.ChildLaws.{odd-rest, child-even, child-odd}
use Rattle.carry.proofs.child.Goals as goal

pub returns-then-c-eq0 : goal.returns-then-c-eq0
returns-then-c-eq0 c = let l = c.args.values.now in
    let at = c.args.at in
    let next = at + c.args.step in
    child-even l at c.args.step c.args.c c.requires.0 c.if-c-eq0.true
    (even-value (get_or l at (pos 0)) (get_or l next (pos 0)) (sfits_of c.even.type_inv) (c.requires.2 at (omega arith))
    (c.requires.2 next c.requires.0) c.even.ensures)

pub returns : goal.returns
returns c = let l = c.args.values.now in
    let at = c.args.at in
    let next = at + c.args.step in
    let last = next + c.args.step in
    let odd = c.if-c-eq0.false in
    let three : last < length l = c.requires.1 (odd-rest c.args.c odd) in
    child-odd l at c.args.step c.args.c three odd
    (odd-value (get_or l at (pos 0)) (get_or l next (pos 0)) (get_or l last (pos 0)) (sfits_of c.odd.type_inv)
    (c.requires.2 at (omega arith)) (c.requires.2 next c.requires.0) (c.requires.2 last three) c.odd.ensures)
