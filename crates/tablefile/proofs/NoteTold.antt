-- Where the note stands in a file that loads, and the file without it.
use mathlib.Core.Path.{◌≡◌, refl, sym, ap, ◌∙◌, subst}
use mathlib.Core.Bool.{Bool, cond}
use mathlib.Core.List.{List, [], ◌∷◌, ◌++◌, append-nil, append_assoc}
use Prim.Native.Nat.{ℕ, ◌+◌, ◌-◌}
use native.Mathlib.Omega.{arith}
use lib.IntN.{ℤ}
use lib.ListN.{length, take, drop, length-append}
use lib.Seq.{take-length, take_at, drop_at}
use Rattle.finite.specs.Range.{joined}
use Rattle.surface.specs.Support.{active_count}
use Rattle.surface.specs.Table.{levels, coefficients}
use Rattle.surface.specs.Fields.{declined, contains, two_bytes, field_bytes}
use Rattle.surface.specs.Note.{Note, none, noted, note_bytes, part_of, note_in}
use Rattle.surface.specs.TableFile.{Loaded, level_body, counts_body, file_with}
use Rattle.fields.proofs.Written.{nil-bytes}
use Rattle.tablefile.specs.Counts.{has_counts, with_counts}
use Rattle.tablefile.specs.Notes.{BareFiles, NoteIsPart, up_to, SavedWithout}
use Rattle.tablefile.proofs.Saved.{saved-loads, loaded-is, saved-of-loaded}
use Rattle.tablefile.proofs.Theorems.{accepted-is-acceptable}

-- ---- the end of a list

-- what comes before its last part, and that part
before_last : (x b : List ℕ) → take (length (x ++ b) - length b) (x ++ b) ≡ x
before_last x b = take_at x b (length (x ++ b) - length b) (omega (arith, length-append x b))

last-part : (x b : List ℕ) → take (length b) (drop (length (x ++ b) - length b) (x ++ b)) ≡ b
last-part x b =
    ap (take (length b)) (drop_at x b (length (x ++ b) - length b) (omega (arith, length-append x b)))
    ∙ take-length b

-- ---- the file of a table

-- the note is last
note-last : (counts : Bool) (note : Note) (W H : ℕ) (t : List ℕ) (cs : List ℤ)
    → file_with counts note W H t cs ≡ file_with counts none W H t cs ++ note_bytes note
unfolding file_with
note-last counts note W H t cs =
    let n = active_count W H (levels t) in
    let front = field_bytes 1 (W ∷ H ∷ []) ++ field_bytes 2 t ++ cond counts (field_bytes 3 (counts_body n)) [] in
    let field : ℕ → List ℕ = λ L. field_bytes (16 + L) (level_body W H (levels t) (coefficients W H cs) L) in
    ap (λ s. s ++ note_bytes note) (sym (append-nil (front ++ joined 4 field)))

-- without one it is a file that a note may follow
pub bare-files : BareFiles
bare-files counts W H t cs acc =
    let loads = (saved-loads counts none W H t cs acc refl).0 in
    let f : Loaded = record { W = W; H = H; tree = t; numbers = cs; note = none } in
    record {
      whole = λ e. let cut : contains f ≡ declined 12 = sym loads ∙ e in let z : ◌≡◌ {A = ℕ} 0 1 = cc in omega arith;
      no_note = λ g e.
          let same : contains f ≡ contains g = sym loads ∙ e in let here : f ≡ g = cc in ap (λ f. f.note) (sym here);
    }

-- and the part of the file that it is
pub part-is-note : (counts : Bool) (note : Note) (W H : ℕ) (t : List ℕ) (cs : List ℤ)
    → let file = file_with counts note W H t cs in note_in file (part_of file note) ≡ note
part-is-note counts none W H t cs = refl
part-is-note counts (noted b) W H t cs =
    let head : List ℕ = 32 ∷ two_bytes (length b) in
    let front = file_with counts none W H t cs in
    let split : file_with counts (noted b) W H t cs ≡ (front ++ head) ++ b =
    note-last counts (noted b) W H t cs ∙ sym (append_assoc front head b) in
    ap (λ s. noted (take (length b) (drop (length s - length b) s))) split ∙ ap noted (last-part (front ++ head) b)

pub note-is-part : NoteIsPart
note-is-part s bs f e =
    subst (λ s. note_in s (part_of s f.note) ≡ f.note) (sym (loaded-is s bs f e).0)
    (part-is-note (has_counts s) f.note f.W f.H f.tree f.numbers)

-- Without the note it is the file for no note, with the counts or without them.
pub saved-without : SavedWithout
saved-without s bs f e =
    let note = f.note in
    let bare = file_with (has_counts s) none f.W f.H f.tree f.numbers in
    let split : s ≡ bare ++ note_bytes note =
    (loaded-is s bs f e).0 ∙ note-last (has_counts s) note f.W f.H f.tree f.numbers in
    let short : up_to note s ≡ bare = ap (up_to note) split ∙ before_last bare (note_bytes note) in
    let loads = saved-loads (has_counts s) none f.W f.H f.tree f.numbers (accepted-is-acceptable s f e)
    refl in
    let g : Loaded = record { W = f.W; H = f.H; tree = f.tree; numbers = f.numbers; note = none } in
    saved-of-loaded bare (loads.1 nil-bytes) g loads.0
    ∙ ap (with_counts (active_count f.W f.H (levels f.tree))) (sym short)
