-- `leaf_formed` meets its contract: each way out is a law of the form of a leaf.
use borrow.Author.Tests.{lt-leb}
use mathlib.Core.Path.{◌∙◌}
use Prim.Native.Nat.{◌+◌, ◌*◌}
use Rattle.quadtree.proofs.WalkLaws.{form-zero, form-high, form-inside, form-outside}
use Rattle.quadtree.proofs.walk.leaf_formed.Goals as goal

pub returns-then-b-eq0 : goal.returns-then-b-eq0
returns-then-b-eq0 c k power = let a = c.args in
    form-zero a.w a.h k a.x a.y a.side a.b power c.if-b-eq0.true

pub returns-then-b-gt3 : goal.returns-then-b-gt3
returns-then-b-gt3 c k power = let a = c.args in
    form-high a.w a.h k a.x a.y a.side a.b power c.if-b-gt3.true

pub returns-then-x-side : goal.returns-then-x-side
returns-then-x-side c k power = let a = c.args in
    form-inside a.w a.h k a.x a.y a.side a.b power c.if-b-gt3.false
    c.if-b-eq0.false
    c.if-x-side.true

pub returns-else-x-side : goal.returns-else-x-side
returns-else-x-side c k power = let a = c.args in
    lt-leb (a.x + a.side) (4 * a.w) c.if-x-side.false
    ∙ form-outside a.w a.h k a.x a.y a.side a.b power c.if-b-gt3.false
    c.if-b-eq0.false
    c.if-x-side.false
