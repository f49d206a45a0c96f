-- `levels_agree`: level after level.
use mathlib.Core.Path.{refl, sym}
use native.Mathlib.Nat.{le_of_eq}
use native.Mathlib.Omega.{arith}
use lib.Dec.{lit≤}
use Rattle.fromgrid.proofs.LevelLaws.{level-within}
use Rattle.fromgrid.proofs.levels_agree.Goals as goal

pub agrees-requires : goal.agrees-requires
agrees-requires c = let (o, nested, l) = c.requires in (
  o.side-W.1,
  o.side-H.1,
  lit≤ tt,
  omega (arith, l.zero.size),
  level-within _ _ _ 0 _ _ c.args.level0.now (lit≤ tt) l.zero,
  (λ h. absurd (omega (arith, h)), λ _. le_of_eq (sym l.one.size)),
  nested,
)

pub agrees-requires-then-agrees : goal.agrees-requires-then-agrees
agrees-requires-then-agrees c = let (o, nested, l) = c.requires in (
  o.side-W.1,
  o.side-H.1,
  lit≤ tt,
  omega (arith, l.one.size),
  level-within _ _ _ 1 _ _ c.args.level1.now (lit≤ tt) l.one,
  (λ h. absurd (omega (arith, h)), λ _. le_of_eq (sym l.two.size)),
  nested,
)

pub agrees-requires-then-agrees-2 : goal.agrees-requires-then-agrees-2
agrees-requires-then-agrees-2 c = let (o, nested, l) = c.requires in (
  o.side-W.1,
  o.side-H.1,
  lit≤ tt,
  omega (arith, l.two.size),
  level-within _ _ _ 2 _ _ c.args.level2.now (lit≤ tt) l.two,
  (λ _. le_of_eq (sym o.size), λ h. absurd (h refl)),
  nested,
)
