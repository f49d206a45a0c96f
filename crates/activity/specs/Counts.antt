-- The active functions of the four levels together.
use Rattle.std.specs.Prelude.{◌≡◌, List, ℕ, ◌≤◌, ◌<◌, get_or}
use Rattle.surface.specs.Support.{active_count}

-- the active functions of each level, at most 67 by 67
abbrev pub Counted : ℕ → ℕ → (ℕ → ℕ → ℕ) → List ℕ → Type 0
Counted W H lev counts = (L : ℕ) → L < 4 → (get_or counts L 0 ≡ active_count W H lev L) × (get_or counts L 0 ≤ 4489)
