-- From the next byte to the end so far stand so many trees as that has bytes, up to the end of the tree asked for.
use mathlib.Core.Path.{◌≡◌, refl, ◌∙◌, subst}
use mathlib.Core.Bool.{cond}
use mathlib.Core.List.{List}
use Prim.Native.Nat.{ℕ, ◌+◌, ◌-◌, ◌≤◌, ◌<◌}
use native.Mathlib.Omega.{arith}
use lib.Dec.{leb}
use lib.ListN.{length, get_or}
use Rattle.finite.proofs.Tests.{pick}
use Rattle.surface.specs.Quadtree.{bytes}
use Rattle.quadtree.proofs.SubtreeLaws.{subtree-inside}
use Rattle.leastlevel.specs.Visits.{begun}
use Rattle.leastlevel.proofs.Forests.{Forest, forest-long, forest-inside, forest-byte, forest-next}
use Rattle.leastlevel.proofs.skip.Goals.{In-loop-next, Start}
use Rattle.leastlevel.proofs.skip.Goals as goal

pub overflow_add-end : goal.overflow_add-end
overflow_add-end c = let t = c.requires in
    omega (arith, (subtree-inside t.0 c.args.t.now c.args.at t.1 t.2).0, c.well_formed.0.1)

pub loop-next-init : goal.loop-next-init
loop-next-init c = let a = c.args in
    let one : 1 ≡ a.at + 1 - a.at = omega arith in (
      omega arith,
      λ k q s. subst (λ n. Forest n a.t.now a.at (a.at + length (bytes q))) one (k, q, s, refl),
    )

-- in a turn, the trees up to the end of the one that stands there
module _ (c : In-loop-next) where
  abbrev start : Start
  start = c.before.before.before.before

  abbrev next : ℕ
  next = c.loop-next.next

  abbrev end : ℕ
  end = c.loop-next.end

  abbrev bytes_of : List ℕ
  bytes_of = start.args.t.now

  some : 0 < end - next
  some = omega arith

  trees : Forest (end - next) bytes_of next (start.args.at + length (bytes start.requires.1))
  trees = c.loop-next.invariant.1 start.requires.0 start.requires.1 start.requires.2

  inside : next < length bytes_of
  inside = forest-inside (end - next) bytes_of next _ some trees

  few : end ≤ length bytes_of
  few =
      let t = start.requires in
      let last = (subtree-inside t.0 bytes_of start.args.at t.1 t.2).1 in
      omega (arith, forest-long (end - next) bytes_of next _ trees, last)

  byte : get_or bytes_of next 0 ≤ 4
  byte = forest-byte (end - next) bytes_of next _ some trees

begun-few : (b : ℕ) → begun b ≤ 4
begun-few b = pick (leb b 3) (λ t. cond t 0 4 ≤ 4) (λ _. omega arith) (λ _. omega arith)

pub bounds-t-next : goal.bounds-t-next
bounds-t-next c = inside (goal.at.bounds-t-next c).In-loop-next

pub begins-end-requires : goal.begins-end-requires
begins-end-requires c = byte (goal.at.begins-end-requires c).In-loop-next

pub overflow_add-end-in-loop-next : goal.overflow_add-end-in-loop-next
overflow_add-end-in-loop-next c = omega (arith, few (goal.at.overflow_add-end-in-loop-next c).In-loop-next, c.begins-end.ensures, begun-few (get_or (bytes_of (goal.at.overflow_add-end-in-loop-next c).In-loop-next) (next (goal.at.overflow_add-end-in-loop-next c).In-loop-next) 0), (start (goal.at.overflow_add-end-in-loop-next c).In-loop-next).well_formed.0.1)

pub loop-next-smaller : goal.loop-next-smaller
loop-next-smaller c = omega (arith, inside (goal.at.loop-next-smaller c).In-loop-next)

pub loop-next-preserved : goal.loop-next-preserved
loop-next-preserved c = let left : end (goal.at.loop-next-preserved c).In-loop-next - next (goal.at.loop-next-preserved c).In-loop-next + begun (get_or (bytes_of (goal.at.loop-next-preserved c).In-loop-next) (next (goal.at.loop-next-preserved c).In-loop-next) 0) - 1 ≡ end (goal.at.loop-next-preserved c).In-loop-next + c.begins-end.result - (next (goal.at.loop-next-preserved c).In-loop-next + 1) =
    omega (arith, some (goal.at.loop-next-preserved c).In-loop-next, c.begins-end.ensures) in (
      omega arith,
      λ k q s.
          subst (λ n. Forest n (bytes_of (goal.at.loop-next-preserved c).In-loop-next) (next (goal.at.loop-next-preserved c).In-loop-next + 1) ((start (goal.at.loop-next-preserved c).In-loop-next).args.at + length (bytes q))) left
          (forest-next (end (goal.at.loop-next-preserved c).In-loop-next - next (goal.at.loop-next-preserved c).In-loop-next) (bytes_of (goal.at.loop-next-preserved c).In-loop-next) (next (goal.at.loop-next-preserved c).In-loop-next) _ (some (goal.at.loop-next-preserved c).In-loop-next) (c.loop-next.invariant.1 k q s)),
    )

pub returns : goal.returns
returns c = λ k q s.
    let a = c.args in
    let next = c.loop-next.next in
    let end = c.loop-next.end in
    let none : end - next ≡ 0 = omega arith in
    let last : end ≡ next = omega arith in
    last ∙ subst (λ n. Forest n a.t.now next (a.at + length (bytes q))) none (c.loop-next.invariant.1 k q s)
