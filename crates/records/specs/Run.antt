-- Document 02, Eleven, of the calls `add_record` and `figures` of a window and of the linked ones, from their promises
-- alone: "After any run of records into one slice, refused ones included, ... these, for the state last left, equal the
-- sum, least and greatest of the last ones accepted". A statement is parametrised by what it is to have made each call,
-- so that it is said once for both. `EveryRun` is proved in proofs/Run.antt, the others in proofs/SomeRun.antt.
use Rattle.std.specs.Prelude.{◌≡◌, ◌≢◌, cond, List, [], ◌∷◌, map, ℕ, zero, suc, ◌-◌, ◌≤◌, ◌<◌, min, ℤ, pos, nat_abs}
use Rattle.std.specs.Prelude.{ltb, length, get_or, drop, Result}
use Rattle.surface.specs.Calls.{Answer, refused, gives, answer}
use Rattle.surface.specs.Window.{WindowState, window_cause, place_after, records_held, missing, present, Figures}
use Rattle.surface.specs.Window.{figures_of}
use Rattle.answers.specs.declared.Refusal.{Refusal}
use Rattle.answers.specs.declared.WindowState as state
use Rattle.answers.specs.declared.Figures as declared
use Rattle.answers.specs.Answers.{recorded_answer, figures_answer}
use Rattle.records.specs.Lists.{Kept, standing}
use Rattle.demands.specs.WindowPromises.{RecordPromise, FiguresPromise, KilnRecordPromise, KilnFiguresPromise}

-- ---- calls that were made

-- The slice, and "Beside the slice the state".
pub record Window : Type 0 where
  pub slice : List ℤ
  pub state : WindowState

-- A call with a new record that was made: what was told, and the slice and the state that it left.
pub record Call : Type 0 where
  pub watts : ℤ
  pub told : Answer WindowState
  pub left : Window

-- The state that a call of `add_record` leaves: the one that it gives, or the one that it was handed.
abbrev pub state_left : WindowState → Answer WindowState → WindowState
state_left handed (refused n) = handed
state_left handed (gives s) = s

abbrev pub Added : Window → Call → Type 0
Added w c =
    (r : Result state.WindowState Refusal) × RecordPromise w.slice w.state c.watts r c.left.slice
    × (recorded_answer r ≡ c.told) × (c.left.state ≡ state_left w.state c.told)

-- The figures of a window were asked for, and this was told.
abbrev pub FiguresAsked : Window → Answer Figures → Type 0
FiguresAsked w told =
    (r : Result declared.Figures Refusal) × FiguresPromise w.slice w.state r × (figures_answer r ≡ told)

-- The same of the linked calls: the state left is what stands at the two parameters; a code of 0 tells it, and any
-- other is the refusal number.
abbrev pub KilnAdded : Window → Call → Type 0
KilnAdded w c =
    (code : ℕ) × KilnRecordPromise w.slice w.state c.watts code c.left.state c.left.slice
    × (answer code c.left.state ≡ c.told)

-- The figures that stand at the parameters: where the flag is not 0, least and greatest are missing.
abbrev pub figures_at : ℤ → ℕ → ℤ → ℤ → Figures
figures_at total zero least greatest = record { total = total; least = present least; greatest = present greatest }
figures_at total (suc n) least greatest = record { total = total; least = missing; greatest = missing }

abbrev pub KilnFiguresAsked : Window → Answer Figures → Type 0
KilnFiguresAsked w told =
    (code : ℕ) × (total₀ : ℤ) × (total : ℤ) × (flag₀ : ℕ) × (flag : ℕ) × (least₀ : ℤ) × (least : ℤ)
    × (greatest₀ : ℤ) × (greatest : ℤ)
    × KilnFiguresPromise w.slice w.state code total₀ total flag₀ flag least₀ least greatest₀ greatest
    × (answer code (figures_at total flag least greatest) ≡ told)

-- ---- the statements, of calls that were made so

-- The records of the calls that were accepted, the first first.
abbrev pub accepted_or : Answer WindowState → ℤ → List ℤ → List ℤ
accepted_or (refused n) x xs = xs
accepted_or (gives s) x xs = x ∷ xs

unfoldable pub accepted : List Call → List ℤ
accepted [] = []
accepted (c ∷ cs) = accepted_or c.told c.watts (accepted cs)

-- Those of a list that are not "beyond 32,000 in size".
unfoldable pub within : List Call → List ℤ
within [] = []
within (c ∷ cs) = cond (ltb 32000 (nat_abs c.watts)) (within cs) (c.watts ∷ within cs)

-- "the last ones accepted, as many as the window has places, or all if fewer"
abbrev pub last_ones : ℕ → List ℤ → List ℤ
last_ones n xs = drop (length xs - n) xs

-- The slice and the state that the last call left.
abbrev pub last_left : Window → List Call → Window
last_left w calls = standing (λ v c. c.left) w calls

-- Each call that was refused was told 23.
unfoldable pub RefusedWith23 : List Call → Type 0
RefusedWith23 [] = Unit
RefusedWith23 (c ∷ cs) = ((n : ℕ) → c.told ≡ refused n → n ≡ 23) × RefusedWith23 cs

-- Place p of a window holds no record.
abbrev pub NotHeld : Window → ℕ → Type 0
NotHeld w p = (k : ℕ) → k < w.state.held → place_after (length w.slice) w.state.oldest k ≢ p

module _ (Added : Window → Call → Type 0) (Asked : Window → Answer Figures → Type 0) where
  -- "any run of records into one slice, refused ones included, begun with none held and no cause for 22, each handed
  -- the state the one before left and nothing else writing the slice"
  pub record Run (w : Window) (calls : List Call) : Type 0 where
    pub begun : window_cause (length w.slice) w.state ≡ 0
    pub none : w.state.held ≡ 0
    pub made : Kept Added (λ v c. c.left) w calls

  -- What is so after every run, of any length.
  pub record AfterRun (w : Window) (calls : List Call) : Type 0 where
    -- "these, for the state last left, equal the sum, least and greatest of the last ones accepted, as many as the
    -- window has places, or all if fewer"
    pub figures : (told : Answer Figures) → Asked (last_left w calls) told
        → told ≡ gives (figures_of (last_ones (length w.slice) (accepted calls)))
    -- Which were accepted: all but those "beyond 32,000 in size", and these were told 23.
    pub accepts : accepted calls ≡ within calls
    pub refuses : RefusedWith23 calls
    -- These are the records held, the oldest first,
    pub holds : records_held (last_left w calls).slice (last_left w calls).state
        ≡ last_ones (length w.slice) (accepted calls)
    -- "as many as the window has places, or all if fewer".
    pub held : (last_left w calls).state.held ≡ min (length w.slice) (length (accepted calls))
    -- No cause for 22 comes up, so that the run can go on.
    pub goes : window_cause (length (last_left w calls).slice) (last_left w calls).state ≡ 0
    -- A place that holds no record is as it was when the run began.
    pub untouched : (p : ℕ) → NotHeld (last_left w calls) p
        → get_or (last_left w calls).slice p (pos 0) ≡ get_or w.slice p (pos 0)
    pub size : length (last_left w calls).slice ≡ length w.slice
    -- The total is at most 1,440 times 32,000 in size.
    pub fits : nat_abs (figures_of (last_ones (length w.slice) (accepted calls))).total ≤ 46080000

  abbrev pub EveryRun : Type 0
  EveryRun = (w : Window) (calls : List Call) → Run w calls → AfterRun w calls

  -- There is a run of each list of records, and figures after it.
  abbrev pub SomeRun : Type 0
  SomeRun =
      (w : Window) → window_cause (length w.slice) w.state ≡ 0 → w.state.held ≡ 0 → (records : List ℤ)
      → (calls : List Call) × Run w calls × (map (λ c. c.watts) calls ≡ records)
      × ((told : Answer Figures) × Asked (last_left w calls) told)

-- Of the calls, and of the linked ones.
abbrev pub RunOfCalls : Type 0
RunOfCalls = EveryRun Added FiguresAsked × SomeRun Added FiguresAsked

abbrev pub RunOfLinked : Type 0
RunOfLinked = EveryRun KilnAdded KilnFiguresAsked × SomeRun KilnAdded KilnFiguresAsked
