-- `equal_leaves` is the test that the bytes before the end are four equal leaves.
use mathlib.Core.Path.{◌∙◌}
use Prim.Native.Nat.{◌+◌}
use lib.ListN.{get_or}
use Rattle.std.proofs.Common.{rules, tests, nat_eq}
use Rattle.std.specs.List.{slice_range}
use Rattle.std.proofs.lemmas.Iterator.{YieldsList-from_slice}
use Rattle.std.proofs.lemmas.Iterator.Search.{all_from_yields_List}
use Rattle.quadtree.proofs.EqualLeaves.{same-bytes}
use Rattle.quadtree.proofs.walk.equal_leaves.Goals as goal

pub returns : goal.returns
returns c = let a = c.args in
    all_from_yields_List (λ b. nat_eq b (get_or a.t.now a.at 0)) _ _ c.all.result c.all.ensures.ran
    (YieldsList-from_slice (slice_range a.t.now (a.at + 1) a.end) cc) (λ x b q k. search (rules, tests))
    ∙ same-bytes a.t.now a.at a.end c.if-end-at.false (c.requires.1 c.if-end-at.false)
