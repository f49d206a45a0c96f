-- Document 02, Eleven: a run written out, of the calls and of the linked ones. The window has two places and begins
-- with the second one named as the oldest's. Records of 5, 32,001, 7 and 9 watts are handed over, and the second is
-- refused.
-- Proved in proofs/Cases.antt, each under its name in small letters.
use Rattle.std.specs.Prelude.{◌≡◌, List, [], ◌∷◌, ℕ, pos}
use Rattle.surface.specs.Calls.{Answer, refused, gives}
use Rattle.surface.specs.Window.{WindowState, present, figures_outcome}
use Rattle.records.specs.Run.{Window, Call, Added, FiguresAsked, KilnAdded, KilnFiguresAsked, accepted, last_ones}
use Rattle.records.specs.Run.{last_left, Run}

abbrev pub state : ℕ → ℕ → WindowState
state held oldest = record { held = held; oldest = oldest }

abbrev pub window : ℕ → ℕ → ℕ → ℕ → Window
window a b held oldest = record { slice = pos a ∷ pos b ∷ []; state = state held oldest }

abbrev pub call : ℕ → Answer WindowState → Window → Call
call x told left = record { watts = pos x; told = told; left = left }

-- The slice holds 91 and 92 before the first record: places that hold no record.
abbrev pub begun : Window
begun = window 91 92 0 1

abbrev pub four : List Call
four =
    call 5 (gives (state 1 1)) (window 91 5 1 1)
    ∷ call 32001 (refused 23) (window 91 5 1 1)
    ∷ call 7 (gives (state 2 1)) (window 7 5 2 1)
    ∷ call 9 (gives (state 2 0)) (window 7 9 2 0)
    ∷ []

-- Both kinds of calls can have been made so. 5, 7 and 9 were accepted, and the last two are held: the sum is 16, the
-- least 7 and the greatest 9.
pub record RunWrittenOut : Type 0 where
  pub calls : Run Added FiguresAsked begun four
  pub linked : Run KilnAdded KilnFiguresAsked begun four
  pub taken : accepted four ≡ pos 5 ∷ pos 7 ∷ pos 9 ∷ []
  pub last : last_ones 2 (accepted four) ≡ pos 7 ∷ pos 9 ∷ []
  pub left : last_left begun four ≡ window 7 9 2 0
  pub told : figures_outcome (last_left begun four).slice (last_left begun four).state
      ≡ gives (record { total = pos 16; least = present (pos 7); greatest = present (pos 9) })
