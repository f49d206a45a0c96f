use mathlib.Core.Path.{◌≡◌}
use Prim.Native.Nat.{◌+◌, ◌*◌, ◌≤◌}
use lib.IntN.{nat_abs, ◌+ℤ◌}
use lib.ListN.{drop}
use Rattle.surface.specs.Window.{folded, lesser, greater}
use Rattle.window.proofs.over.Given as goal

abbrev pub invariant-loop-x : goal.invariant-loop-x
invariant-loop-x l =
    (folded ◌+ℤ◌ l.total (drop l.x-index l.part) ≡ folded ◌+ℤ◌ l.fn.before.total l.part)
    × (folded lesser l.least (drop l.x-index l.part) ≡ folded lesser l.initial.least l.part)
    × (folded greater l.greatest (drop l.x-index l.part) ≡ folded greater l.initial.greatest l.part)
    × (nat_abs l.total ≤ nat_abs l.fn.before.total + l.x-index * 2147483648)
