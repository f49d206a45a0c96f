-- Document 02, Eleven: "The last hours of a firing. Potters watch energy over a moving stretch. Keep a window over a
-- long run of minute records, each whole watts, in a lent slice of i32 whose length is the window's." The whole outcome
-- of both calls on every input.
use Rattle.std.specs.Prelude.{not, ◌&&◌, cond, List, [], ◌∷◌, ℕ, suc, ◌+◌, ◌%◌, ℤ, pos, nat_abs, ◌+ℤ◌, leb, ltb, length, get_or, set}
use Rattle.std.specs.Int.Signed.{lt_z}
use Rattle.finite.specs.Range.{table_from}
use Rattle.surface.specs.Table.{cause, ◌or_else◌}
use Rattle.surface.specs.Calls.{Answer, answer, Done, done}

-- "Beside the slice the state is the number held and the place of the oldest."
pub record WindowState : Type 0 where
  pub held : ℕ
  pub oldest : ℕ

-- 22: "a window of 0 or above 1,440 places, or more held than places, or the oldest outside them"
abbrev pub window_cause : ℕ → WindowState → ℕ
window_cause n s = cause 22 (not (leb 1 n && leb n 1440 && (leb s.held n && ltb s.oldest n)))

-- Of n places the one that is k places after place p, "place 0 following the last place".
abbrev pub place_after : ℕ → ℕ → ℕ → ℕ
place_after n p k = (p + k) % n

-- ---- a new record

-- 23: "a new record beyond 32,000 in size, after 22"
abbrev pub record_cause : ℕ → WindowState → ℤ → ℕ
record_cause n s watts = window_cause n s or_else cause 23 (ltb 32000 (nat_abs watts))

-- "A new record takes the place after the newest held, ... and the first goes to the place named as the oldest's": as
-- many places after the oldest's as are held. "When the window is full it overwrites the oldest": as many places after
-- it as there are is the oldest's own.
abbrev pub new_place : ℕ → WindowState → ℕ
new_place n s = place_after n s.oldest s.held

-- One more is held; "When the window is full ... the next place becomes the oldest's."
abbrev pub new_state : ℕ → WindowState → WindowState
new_state n s =
    cond (ltb s.held n) (record { held = suc s.held; oldest = s.oldest })
    (record { held = s.held; oldest = place_after n s.oldest 1 })

-- The answer is the new state; the slice receives the record at its one place.
unfoldable pub record_outcome : List ℤ → WindowState → ℤ → Done WindowState ℤ
record_outcome window s watts =
    let n = length window in
    done (record_cause n s watts) (new_state n s) (set window (new_place n s) watts) window

-- ---- "the total, least and greatest of the records held"

-- "the records held", the oldest first
abbrev pub records_held : List ℤ → WindowState → List ℤ
records_held window s = table_from 0 s.held (λ k. get_or window (place_after (length window) s.oldest k) (pos 0))

-- the lesser and the greater of two numbers
abbrev pub lesser : ℤ → ℤ → ℤ
lesser x y = cond (lt_z y x) y x

abbrev pub greater : ℤ → ℤ → ℤ
greater x y = cond (lt_z x y) y x

-- f x y, then f of that and the next, and so on to the last: with _+ℤ_ the sum of x and those of the list, with lesser
-- and greater the least and the greatest of them
unfoldable pub folded : (ℤ → ℤ → ℤ) → ℤ → List ℤ → ℤ
folded f x [] = x
folded f x (y ∷ ys) = folded f (f x y) ys

-- A least or greatest record, or none: "the other two are marked missing".
pub data Extreme : Type 0 where
  missing : Extreme
  present : ℤ → Extreme

pub record Figures : Type 0 where
  pub total : ℤ
  pub least : Extreme
  pub greatest : Extreme

-- "With none held the total is 0 and the other two are marked missing."
abbrev pub figures_of : List ℤ → Figures
figures_of [] = record { total = pos 0; least = missing; greatest = missing }
figures_of (x ∷ xs) =
    record {
      total = folded ◌+ℤ◌ x xs;
      least = present (folded lesser x xs);
      greatest = present (folded greater x xs);
    }

-- "A second call, which writes nothing, takes slice and state and gives the total, least and greatest".
unfoldable pub figures_outcome : List ℤ → WindowState → Answer Figures
figures_outcome window s = answer (window_cause (length window) s) (figures_of (records_held window s))
