-- Bytes put into a lent buffer.
use Rattle.std.specs.Prelude.{◌≡◌, List, ◌++◌, ℕ, ◌+◌, length, take, drop}

-- A text is put at a position, after what stands before it; r is the position after it, and bytes from there on are
-- untouched.
abbrev pub Put : List ℕ → ℕ → List ℕ → ℕ → List ℕ → Type 0
Put text at before r after =
    (r ≡ at + length text) × (take r after ≡ take at before ++ text) × (drop r after ≡ drop r before)
