-- There is a run of each list of records: the outcome of each call is an answer that it can give.
use Rattle.std.specs.Prelude.{Some, None, Result, Ok, Err}
use mathlib.Core.Path.{◌≡◌, refl, ap₂}
use mathlib.Core.Bool.{Bool, true, false}
use mathlib.Core.List.{List, [], ◌∷◌, map}
use lib.IntN.{ℤ, pos}
use lib.ListN.{length}
use Rattle.surface.specs.Table.{cause, ◌or_else◌}
use Rattle.surface.specs.Calls.{Answer, answer}
use Rattle.surface.specs.Window.{WindowState, new_state, record_outcome, records_held, folded, lesser, greater, Figures}
use Rattle.surface.specs.Window.{figures_of, figures_outcome}
use Rattle.answers.specs.declared.Refusal as Causes
use Rattle.answers.specs.declared.Refusal.{Refusal}
use Rattle.answers.specs.declared.WindowState as state
use Rattle.answers.specs.declared.Figures as figures
use Rattle.answers.specs.Answers.{recorded_answer, figures_answer}
use Rattle.answers.specs.Codes.{code_of, or_given, itself, missing_flag, or_held}
use Rattle.records.specs.Lists.{Kept}
use Rattle.records.specs.Run.{Window, Call, state_left, Added, FiguresAsked, KilnAdded, KilnFiguresAsked}
use Rattle.records.specs.Run.{figures_at, last_left}
use Rattle.records.specs.Run.{SomeRun, RunOfCalls, RunOfLinked}
use Rattle.records.proofs.Run.{run-of-added, run-of-kiln-added}

-- a call with this record that was made
abbrev Made : (Window → Call → Type 0) → Window → ℤ → Type 0
Made Added w x = (c : Call) × (c.watts ≡ x) × Added w c

module _ (Added : Window → Call → Type 0) (Asked : Window → Answer Figures → Type 0)
    (makes : (w : Window) (x : ℤ) → Made Added w x) (asks : (w : Window) → (told : Answer Figures) × Asked w told) where
  made : (w : Window) (xs : List ℤ) → (calls : List Call) × Kept Added (λ v c. c.left) w calls
      × (map (λ c. c.watts) calls ≡ xs)
  unfolding Kept
  made w [] = ([], tt, refl)
  made w (x ∷ xs) =
      let m = makes w x in
      let rest = made m.0.left xs in
      (m.0 ∷ rest.0, (m.2, rest.1), ap₂ ◌∷◌ m.1 rest.2)

  some-run : SomeRun Added Asked
  some-run w begun none xs =
      let m = made w xs in
      (m.0, record { begun = begun; none = none; made = m.1 }, m.2, asks (last_left w m.0))

-- ---- the calls

-- each outcome of a record is an answer's
answered : (p q : Bool) (s : WindowState)
    → (r : Result state.WindowState Refusal) × (recorded_answer r ≡ answer (cause 22 p or_else cause 23 q) s)
answered true q s = (Err Causes.TheVariants.Window, refl)
answered false true s = (Err Causes.TheVariants.Record, refl)
answered false false s = (Ok (record { held = s.held; oldest = s.oldest }), refl)

makes-added : (w : Window) (x : ℤ) → Made Added w x
unfolding record_outcome
makes-added w x =
    let o = record_outcome w.slice w.state x in
    let a : (r : Result state.WindowState Refusal) × (recorded_answer r ≡ o.result) =
    answered _ _ (new_state (length w.slice) w.state) in (
      record {
        watts = x;
        told = o.result;
        left = record { slice = o.after; state = state_left w.state o.result };
      },
      refl,
      (a.0, (a.1, refl), a.1, refl),
    )

-- each outcome of the figures is an answer's
figured : (p : Bool) (xs : List ℤ)
    → (r : Result figures.Figures Refusal) × (figures_answer r ≡ answer (cause 22 p) (figures_of xs))
figured true xs = (Err Causes.TheVariants.Window, refl)
figured false [] = (Ok (record { total = pos 0; extremes = None }), refl)
figured false (x ∷ xs) = (
  Ok (record {
    total = (figures_of (x ∷ xs)).total;
    extremes = Some (record { least = folded lesser x xs; greatest = folded greater x xs });
  }),
  refl,
)

asks-figures : (w : Window) → (told : Answer Figures) × FiguresAsked w told
unfolding figures_outcome
asks-figures w =
    let o = figures_outcome w.slice w.state in
    let f : (r : Result figures.Figures Refusal) × (figures_answer r ≡ o) =
    figured _ (records_held w.slice w.state) in
    (o, (f.0, f.1, f.1))

pub run-of-calls : RunOfCalls
run-of-calls = (run-of-added, some-run Added FiguresAsked makes-added asks-figures)

-- ---- the linked calls

makes-kiln-added : (w : Window) (x : ℤ) → Made KilnAdded w x
makes-kiln-added w x =
    let o = record_outcome w.slice w.state x in
    let s = or_given itself o.result w.state in (
      record { watts = x; told = answer (code_of o.result) s; left = record { slice = o.after; state = s } },
      refl,
      (code_of o.result, ((refl, refl), refl), refl),
    )

asks-kiln-figures : (w : Window) → (told : Answer Figures) × KilnFiguresAsked w told
asks-kiln-figures w =
    let o = figures_outcome w.slice w.state in
    let total = or_given (λ f. f.total) o (pos 0) in
    let flag = or_given (λ f. missing_flag f.least) o 0 in
    let least = or_given (λ f. or_held f.least (pos 0)) o (pos 0) in
    let greatest = or_given (λ f. or_held f.greatest (pos 0)) o (pos 0) in (
      answer (code_of o) (figures_at total flag least greatest),
      (code_of o, pos 0, total, 0, flag, pos 0, least, pos 0, greatest, (refl, refl, refl, refl, refl), refl),
    )

pub run-of-linked : RunOfLinked
run-of-linked = (run-of-kiln-added, some-run KilnAdded KilnFiguresAsked makes-kiln-added asks-kiln-figures)
