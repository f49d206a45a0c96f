-- Document 02, Eleven: "the total, least and greatest of the records held". What a least and a greatest record are.
-- Proved in proofs/Extremes.antt, each under its name in small letters.
use Rattle.std.specs.Prelude.{◌≡◌, ◌↔◌, List, [], ℕ, ◌<◌, ℤ, pos, ◌≤ℤ◌, length, get_or}
use Rattle.surface.specs.Window.{missing, present, figures_of}

-- x is one of the records, and each of them follows x in an order.
pub record Outermost (order : ℤ → ℤ → Type 0) (records : List ℤ) (x : ℤ) : Type 0 where
  pub among : (k : ℕ) × (k < length records) × (get_or records k (pos 0) ≡ x)
  pub bounds : (k : ℕ) → k < length records → order x (get_or records k (pos 0))

-- A least record that is told is one of them, and none is below it; there is no other such. It is marked missing
-- exactly where there is no record.
abbrev pub LeastRecord : Type 0
LeastRecord =
    (records : List ℤ)
    → ((x : ℤ) → ((figures_of records).least ≡ present x) ↔ Outermost ◌≤ℤ◌ records x)
    × (((figures_of records).least ≡ missing) ↔ (records ≡ []))

-- A greatest one is one of them, and none is above it.
abbrev pub GreatestRecord : Type 0
GreatestRecord =
    (records : List ℤ)
    → ((x : ℤ) → ((figures_of records).greatest ≡ present x) ↔ Outermost (λ x y. y ≤ℤ x) records x)
    × (((figures_of records).greatest ≡ missing) ↔ (records ≡ []))
