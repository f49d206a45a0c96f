-- Document 01: "Where an answer is an enum, a definition gives this paper's number and values for each of its cases."
use Rattle.std.specs.Prelude.{true, ℤ, Option, Some, None, Result, Ok, Err}
use Rattle.surface.specs.Calls as calls
use Rattle.surface.specs.Calls.{Answer, refused, gives}
use Rattle.surface.specs.Enquiry as enquiry
use Rattle.surface.specs.Slopes.{FloatSlopes}
use Rattle.surface.specs.TableFile.{Sides, FileResult}
use Rattle.surface.specs.Note.{NotePart, no_part}
use Rattle.surface.specs.Window as window
use Rattle.answers.specs.declared.Refusal.{Refusal}
use Rattle.answers.specs.declared.LevelsUnder.{LevelsUnder}
use Rattle.answers.specs.declared.Slip.{Slip}
use Rattle.answers.specs.declared.WattsAndSlopes.{WattsAndSlopes}
use Rattle.answers.specs.declared.Loaded.{Loaded}
use Rattle.answers.specs.declared.Note.{Note}
use Rattle.answers.specs.declared.Bench.{Bench}
use Rattle.answers.specs.declared.Sheet.{Sheet}
use Rattle.answers.specs.declared.WindowState.{WindowState}
use Rattle.answers.specs.declared.Extremes.{Extremes}
use Rattle.answers.specs.declared.Figures.{Figures}
use Rattle.answers.specs.Refusals.{number}

-- a call gives its result, by the document's values, or the number of its refusal
abbrev pub answer_by : {A B : Type 0} → (A → B) → Result A Refusal → Answer B
answer_by f (Ok a) = gives (f a)
answer_by f (Err e) = refused (number e)

-- a call that answers only whether it was done
abbrev pub outcome_answer : Result (Unit {0}) Refusal → Answer (Unit {0})
outcome_answer = answer_by (λ u. tt)

-- a call whose value is a number, as it is: a length, a numerator, whole watts, a cost
abbrev pub value_answer : {A : Type 0} → Result A Refusal → Answer A
value_answer = answer_by (λ a. a)

abbrev pub levels_told : LevelsUnder → calls.LevelsUnder
levels_told l = record { least = l.least; greatest = l.greatest; visited = l.visited }

abbrev pub least_answer : Result LevelsUnder Refusal → Answer calls.LevelsUnder
least_answer = answer_by levels_told

-- the slip of document 02 that a slip of the code is
abbrev pub slip_told : Slip → enquiry.Slip
slip_told s =
    record {
      box = record { u0 = s.u0; v0 = s.v0; u1 = s.u1; v1 = s.v1 };
      level = s.level;
      tree_length = s.length;
      active0 = s.active0;
      active1 = s.active1;
      active2 = s.active2;
      active3 = s.active3;
      visited = s.visited;
    }

abbrev pub enquiry_answer : Result Slip Refusal → Answer enquiry.Slip
enquiry_answer = answer_by slip_told

abbrev pub slopes_told : WattsAndSlopes → FloatSlopes
slopes_told x = record { watts = x.watts; along_u = x.along_u; along_v = x.along_v }

abbrev pub slopes_answer : Result WattsAndSlopes Refusal → Answer FloatSlopes
slopes_answer = answer_by slopes_told

abbrev pub loaded_told : Loaded → FileResult
loaded_told l = record { tree_length = l.length; W = l.w; H = l.h }

abbrev pub file_answer : Result Loaded Refusal → Answer FileResult
file_answer = answer_by loaded_told

abbrev pub note_told : Option Note → NotePart
note_told None = no_part
note_told (Some n) = record { stands = true; offset = n.offset; size = n.length }

-- of the bench loader's answer what file reading gives, and the note: a refused call tells of none
abbrev pub bench_answer : Result Bench Refusal → Answer FileResult
bench_answer = answer_by (λ b. loaded_told b.loaded)

abbrev pub bench_note : Result Bench Refusal → NotePart
bench_note (Ok b) = note_told b.note
bench_note (Err e) = no_part

abbrev pub sheet_told : Sheet → Sides
sheet_told s = record { W = s.w; H = s.h }

abbrev pub sheet_answer : Result Sheet Refusal → Answer Sides
sheet_answer = answer_by sheet_told

abbrev pub state_told : WindowState → window.WindowState
state_told s = record { held = s.held; oldest = s.oldest }

abbrev pub recorded_answer : Result WindowState Refusal → Answer window.WindowState
recorded_answer = answer_by state_told

-- the least and the greatest of the records held, marked missing with none held
abbrev pub figures_with : ℤ → Option Extremes → window.Figures
figures_with total None = record { total = total; least = window.missing; greatest = window.missing }
figures_with total (Some x) = record { total = total; least = window.present x.least; greatest = window.present x.greatest }

abbrev pub figures_told : Figures → window.Figures
figures_told f = figures_with f.total f.extremes

abbrev pub figures_answer : Result Figures Refusal → Answer window.Figures
figures_answer = answer_by figures_told
