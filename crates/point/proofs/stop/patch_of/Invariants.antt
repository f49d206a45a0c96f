use Prim.Native.Nat.{◌+◌, ◌-◌, ◌≤◌}
use Rattle.point.specs.Patches.{PatchAt}
use Rattle.point.proofs.stop.patch_of.Given as goal

-- the patch is that of the level before
abbrev pub invariant-loop-level : goal.invariant-loop-level
invariant-loop-level l = (l.level ≤ l.stop + 1) × PatchAt l.w l.h l.rows l.numbers l.u l.v (l.level - 1) l.patch
