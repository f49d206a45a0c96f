-- The quarters under a cut support along one side.
use Rattle.std.specs.Prelude.{◌≡◌, ℕ, ◌+◌, ◌/◌}
use Rattle.surface.specs.Support.{low_end, high_end}
use Rattle.activity.specs.declared.Window.{Window}

-- those under the support of function a of level L, along a side of n cells, from low to before high
abbrev pub Over : ℕ → ℕ → ℕ → Window → Type 0
Over n L a w = (w.low ≡ low_end L a / 2) × (w.high ≡ (high_end n L a + 1) / 2)
