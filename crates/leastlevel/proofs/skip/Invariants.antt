use Prim.Native.Nat.{ℕ, ◌+◌, ◌-◌, ◌≤◌}
use lib.ListN.{length}
use Rattle.surface.specs.Quadtree.{Quadtree, bytes}
use Rattle.quadtree.specs.Subtree.{Subtree}
use Rattle.leastlevel.proofs.Forests.{Forest}
use Rattle.leastlevel.proofs.skip.Given as goal

abbrev pub invariant-loop-next : goal.invariant-loop-next
invariant-loop-next l = (l.next ≤ l.end) × ((k : ℕ) (q : Quadtree) → Subtree k l.t l.at q → Forest (l.end - l.next) l.t l.next (l.at + length (bytes q)))

abbrev pub decreases-loop-next : goal.decreases-loop-next
decreases-loop-next l = length l.t - l.next
