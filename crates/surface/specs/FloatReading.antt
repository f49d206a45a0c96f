-- Document 01, "Readings": what holds of the f64 reading, which may differ from one correct program to another.
use Rattle.std.specs.Prelude.{◌≡◌, Bool, true, false, ℕ, ◌*◌, ◌^◌, ◌≤◌, ℤ, pos, neg_ℤ, nat_abs, ◌-ℤ◌, ◌*ℤ◌, Float}
use Rattle.std.specs.Float.{nan, inf, fin}
use Rattle.std.specs.Float.Ieee.{up, down}
use Rattle.surface.specs.Truncation.{D}
use Rattle.surface.specs.Calls.{Answer, refused, gives}

-- The whole number n with a sign.
abbrev pub signed : Bool → ℕ → ℤ
signed true n = neg_ℤ (pos n)
signed false n = pos n

-- The f64 is within 1/b of the fraction n/d: "The bound ... is stated over whole numbers: the f64 is a whole number
-- times a power of two." The value of `fin s m e` is ±m×2^e, and 2^e is up e / down e. Neither NaN nor an infinity is
-- near.
abbrev pub Near : ℕ → ℕ → ℤ → Float → Type 0
Near b d n nan = ⊥
Near b d n (inf s) = ⊥
Near b d n (fin s m e) = nat_abs (signed s (m * up e * d) -ℤ n *ℤ pos (down e)) * b ≤ d * down e

-- An answer that goes with an exact outcome: the same refusal, or a result that is near the exact one.
abbrev pub Meets : {A B : Type 0} → (A → B → Type 0) → Answer A → Answer B → Type 0
Meets near (refused n) (refused m) = m ≡ n
Meets near (refused n) (gives x) = ⊥
Meets near (gives a) (refused m) = ⊥
Meets near (gives a) (gives x) = near a x

-- "the answer is either watts as an f64 or a refusal number": the f64 reading that goes with an exact outcome lies
-- "within 2^-30 watt of it".
abbrev pub FloatMeets : Answer ℤ → Answer Float → Type 0
FloatMeets = Meets (Near (2 ^ 30) D)
