-- Lists of calls that were made one after the other, each on what the one before left.
use Rattle.std.specs.Prelude.{List, [], ◌∷◌}

-- Where `keeps c m` says that the call m kept its promise on what stood before it, c, and `leaves c m` is what stands
-- after it: each kept its promise, on what then stood.
unfoldable pub Kept : {C M : Type 0} → (C → M → Type 0) → (C → M → C) → C → List M → Type 0
Kept keeps leaves c [] = Unit
Kept keeps leaves c (m ∷ ms) = keeps c m × Kept keeps leaves (leaves c m) ms

-- What stands after the list.
unfoldable pub standing : {C M : Type 0} → (C → M → C) → C → List M → C
standing leaves c [] = c
standing leaves c (m ∷ ms) = standing leaves (leaves c m) ms
