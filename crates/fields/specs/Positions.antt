-- Fields by their positions in the file.
use Rattle.std.specs.Prelude.{Bool, ◌&&◌, List, ℕ, ◌+◌, ◌-◌, ◌≤◌, leb, length, take, drop, Result, Ok, Err}
use Rattle.surface.specs.Fields.{Judged, declined, Part, holds}
use Rattle.answers.specs.declared.Refusal.{Refusal}
use Rattle.answers.specs.Refusals.{number}

-- a length between two others
abbrev pub between : ℕ → ℕ → ℕ → Bool
between low high n = leb low n && leb n high

-- the body of the field at a position, which ends before another
abbrev pub body_at : List ℕ → ℕ → ℕ → List ℕ
body_at file at end = take (end - (at + 3)) (drop (at + 3) file)

-- the part that ends before a position, with what it holds by that position; or a refusal number
abbrev pub part_at : {A : Type 0} → Result ℕ Refusal → List ℕ → (ℕ → A) → Judged (Part A)
part_at (Ok end) file of = holds (of end) (drop end file)
part_at (Err e) file of = declined (number e)

-- a body ends in the file, and its length is between two others
abbrev pub ends : Result ℕ Refusal → List ℕ → ℕ → ℕ → ℕ → Type 0
ends (Ok end) file at low high =
    (at + 3 + low ≤ end) × (end ≤ at + 3 + high) × (end ≤ length file)
ends (Err e) file at low high = Unit {0}
