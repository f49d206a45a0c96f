-- The entries of a patch, and what subdividing it gives.
use Rattle.std.specs.Prelude.{◌≡◌, List, [], ℕ, ◌≤◌, ◌<◌, ℤ, pos, nat_abs, get_or}
use Rattle.surface.specs.Patch.{subdivided}

-- the entry of the k-th function along u and the l-th along v
abbrev pub entry : List (List ℤ) → ℕ → ℕ → ℤ
entry p k l = get_or (get_or p k []) l (pos 0)

-- each entry is at most m in size
abbrev pub Bounded : ℕ → List (List ℤ) → Type 0
Bounded m p = (k l : ℕ) → k < 4 → l < 4 → nat_abs (entry p k l) ≤ m

-- each entry is that of document 01's subdivision step
abbrev pub Subdivided : ℕ → ℕ → List (List ℤ) → List (List ℤ) → Type 0
Subdivided g h p r = (k l : ℕ) → k < 4 → l < 4 → entry r k l ≡ subdivided g h (entry p) k l
