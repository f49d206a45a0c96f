-- What an answer is for another language: a refusal number, 0 for none, and values written through parameters.
use Rattle.std.specs.Prelude.{◌≡◌, cond, List, [], ◌∷◌, ℕ, ◌^◌, ℤ, Float, get_or}
use Rattle.surface.specs.Sheet.{Box}
use Rattle.surface.specs.Truncation.{D}
use Rattle.surface.specs.Calls.{Answer, refused, gives, LevelsUnder, Written, Done}
use Rattle.surface.specs.Enquiry.{Slip}
use Rattle.surface.specs.FloatReading.{Near}
use Rattle.surface.specs.Slopes.{ExactSlopes, FloatSlopes, NearSlopes}
use Rattle.surface.specs.Note.{NotePart}
use Rattle.surface.specs.TableFile.{Sides, FileResult}
use Rattle.surface.specs.Window.{WindowState, Extreme, missing, present, Figures}

-- the refusal number, 0 where the call gives its result
abbrev pub code_of : {A : Type 0} → Answer A → ℕ
code_of (refused n) = n
code_of (gives a) = 0

-- what stands at a parameter afterwards: what stood there, or the value that the call gives
abbrev pub or_given : {A B : Type 0} → (A → B) → Answer A → B → B
or_given f (refused n) old = old
or_given f (gives a) old = f a

-- a number that the call gives, as it is
abbrev pub itself : {A : Type 0} → A → A
itself n = n

-- "For every input a call gives its full result, or one refusal number from document 01 and writes nothing", of a call
-- that gives one value: its code, and what stands at the parameter that receives the value, before and after
abbrev pub NumberTold : {A : Type 0} → Answer A → ℕ → A → A → Type 0
NumberTold o code before after = (code ≡ code_of o) × (after ≡ or_given itself o before)

abbrev pub least_of : LevelsUnder → ℕ
least_of a = a.least

abbrev pub greatest_of : LevelsUnder → ℕ
greatest_of a = a.greatest

abbrev pub visited_of : LevelsUnder → ℕ
visited_of a = a.visited

-- the same of a least level, whose parameters receive it, the greatest level and the number of nodes visited
abbrev pub LeastTold : Answer LevelsUnder → ℕ → ℕ → ℕ → ℕ → ℕ → ℕ → ℕ → Type 0
LeastTold o code least₀ least greatest₀ greatest visited₀ visited =
    (code ≡ code_of o)
    × (least ≡ or_given least_of o least₀)
    × (greatest ≡ or_given greatest_of o greatest₀)
    × (visited ≡ or_given visited_of o visited₀)

-- the active functions of a slip, levels 0 to 3
abbrev pub active_of : Slip → List ℕ
active_of s = s.active0 ∷ s.active1 ∷ s.active2 ∷ s.active3 ∷ []

-- an enquiry's code, and what stands at its parameters: the new tree's length, the active functions of levels 0 to 3
-- and the nodes visited; box and level are those that it was lent
abbrev pub SlipTold : Answer Slip → ℕ → ℕ → ℕ → List ℕ → List ℕ → ℕ → ℕ → Type 0
SlipTold o code length₀ length active₀ active visited₀ visited =
    (code ≡ code_of o)
    × (length ≡ or_given (λ s. s.tree_length) o length₀)
    × (active ≡ or_given active_of o active₀)
    × (visited ≡ or_given (λ s. s.visited) o visited₀)

-- the slip that is lent as its numbers
abbrev pub lent_slip : Box → ℕ → ℕ → List ℕ → ℕ → Slip
lent_slip box level length active visited =
    record {
      box = box;
      level = level;
      tree_length = length;
      active0 = get_or active 0 0;
      active1 = get_or active 1 0;
      active2 = get_or active 2 0;
      active3 = get_or active 3 0;
      visited = visited;
    }

-- the f64 that stands at a parameter afterwards: what stood there, or watts within 2^-30 of the exact reading
abbrev pub WattsAfter : Answer ℤ → Float → Float → Type 0
WattsAfter (refused n) old new = new ≡ old
WattsAfter (gives n) old new = Near (2 ^ 30) D n new

-- the watts and slopes that stand at three parameters afterwards: what stood there, or a record within its bounds
abbrev pub SlopesAfter : Answer ExactSlopes → FloatSlopes → FloatSlopes → Type 0
SlopesAfter (refused n) old new = new ≡ old
SlopesAfter (gives e) old new = NearSlopes e new

-- what a call that writes one slice leaves: its code and the slice
abbrev pub SliceWritten : {A B : Type 0} → Done A B → ℕ → List B → Type 0
SliceWritten o code slice = (code ≡ code_of o.result) × (slice ≡ o.after)

-- what a call that writes bytes and tells how many leaves: its code, the parameter that receives their number, and the
-- buffer
abbrev pub BytesWritten : Done ℕ ℕ → ℕ → ℕ → ℕ → List ℕ → Type 0
BytesWritten o code length₀ length after = NumberTold o.result code length₀ length × (after ≡ o.after)

-- what a call that writes a table leaves: its code, the parameter that receives the tree's length, and both outputs
abbrev pub TableWritten : Written ℕ → ℕ → ℕ → ℕ → List ℕ → List ℤ → Type 0
TableWritten o code tree_length₀ tree_length tree numbers =
    NumberTold o.result code tree_length₀ tree_length × (tree ≡ o.tree) × (numbers ≡ o.numbers)

abbrev pub length_of : FileResult → ℕ
length_of r = r.tree_length

abbrev pub w_of : FileResult → ℕ
w_of r = r.W

abbrev pub h_of : FileResult → ℕ
h_of r = r.H

-- file reading's code, and what it leaves at its three parameters: the tree's length, W and H
abbrev pub FileTold : Answer FileResult → ℕ → ℕ → ℕ → ℕ → ℕ → ℕ → ℕ → Type 0
FileTold o code tree_length₀ tree_length w₀ w h₀ h =
    (code ≡ code_of o)
    × (tree_length ≡ or_given length_of o tree_length₀)
    × (w ≡ or_given w_of o w₀)
    × (h ≡ or_given h_of o h₀)

-- what file reading leaves: the same, and both outputs
abbrev pub FileWritten : Written FileResult → ℕ → ℕ → ℕ → ℕ → ℕ → ℕ → ℕ → List ℕ → List ℤ → Type 0
FileWritten o code tree_length₀ tree_length w₀ w h₀ h tree numbers =
    FileTold o.result code tree_length₀ tree_length w₀ w h₀ h × (tree ≡ o.tree) × (numbers ≡ o.numbers)

-- what the bench loader leaves at its three further parameters, 1 or 0 at the first: the part that it tells of, where
-- it gives its result
abbrev pub NoteAfter : {A : Type 0} → Answer A → NotePart → ℕ → ℕ → ℕ → ℕ → ℕ → ℕ → Type 0
NoteAfter o p noted₀ noted offset₀ offset size₀ size =
    (noted ≡ or_given (λ a. cond p.stands 1 0) o noted₀)
    × (offset ≡ or_given (λ a. p.offset) o offset₀)
    × (size ≡ or_given (λ a. p.size) o size₀)

-- what a grid's conversion leaves: its code, W and H at its two parameters, and the slice
abbrev pub SheetWritten : Done Sides ℤ → ℕ → ℕ → ℕ → ℕ → ℕ → List ℤ → Type 0
SheetWritten o code w₀ w h₀ h after =
    (code ≡ code_of o.result)
    × (w ≡ or_given (λ s. s.W) o.result w₀)
    × (h ≡ or_given (λ s. s.H) o.result h₀)
    × (after ≡ o.after)

-- what a new record leaves: its code, the state at its two parameters, and the slice
abbrev pub RecordTold : Done WindowState ℤ → ℕ → WindowState → WindowState → List ℤ → Type 0
RecordTold o code state₀ state after = NumberTold o.result code state₀ state × (after ≡ o.after)

-- 1 where it is marked missing, else 0
abbrev pub missing_flag : Extreme → ℕ
missing_flag missing = 1
missing_flag (present x) = 0

-- what stands at the parameter of a least or greatest record: what stood there where it is missing
abbrev pub or_held : Extreme → ℤ → ℤ
or_held missing old = old
or_held (present x) old = x

-- the code of a window's figures, and what stands at its four parameters: the total, the flag of the other two, and
-- these
abbrev pub FiguresTold : Answer Figures → ℕ → ℤ → ℤ → ℕ → ℕ → ℤ → ℤ → ℤ → ℤ → Type 0
FiguresTold o code total₀ total flag₀ flag least₀ least greatest₀ greatest =
    (code ≡ code_of o)
    × (total ≡ or_given (λ f. f.total) o total₀)
    × (flag ≡ or_given (λ f. missing_flag f.least) o flag₀)
    × (least ≡ or_given (λ f. or_held f.least least₀) o least₀)
    × (greatest ≡ or_given (λ f. or_held f.greatest greatest₀) o greatest₀)
