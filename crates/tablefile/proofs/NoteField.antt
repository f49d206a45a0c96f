-- The field of the note: what its acceptance says, and that a written one is read back.
use mathlib.Core.Path.{◌≡◌, refl, sym, ap, ap₂, ◌∙◌}
use mathlib.Core.Bool.{Bool, true, false, cond}
use mathlib.Core.List.{List, [], ◌++◌, append-nil}
use Prim.Native.Nat.{ℕ, ◌≤◌}
use native.Mathlib.Omega.{arith}
use lib.Dec.{eqb}
use borrow.Author.Tests.{leb-true, le-leb}
use lib.ListN.{length, get_or}
use Rattle.surface.specs.Fields.{holds, in_part, field, Bytes, field_bytes}
use Rattle.surface.specs.Note.{Note, none, noted, note_field, note_bytes, note_fits}
use Rattle.fields.proofs.FieldLaws.{body_of, rest_of, Stands, held, checked-accepted, body-length, field-written}
use Rattle.fields.proofs.Written.{checked-read}

-- ---- accepted

-- A note, or none, is all that is left.
abbrev pub Noted : List ℕ → Note → Type 0
Noted s none = s ≡ []
Noted s (noted b) = Stands 32 0 64 s × (body_of s ≡ b) × (rest_of s ≡ [])

pub note-accepted : (s : List ℕ) (note : Note) (rest : List ℕ) → note_field s ≡ holds note rest → rest ≡ []
    → Noted s note
unfolding note_field
note-accepted s note rest e end = go (eqb (get_or s 0 0) 32) e
  where
    known : (a b : Note) (r : List ℕ) → a ≡ b → Noted r a → Noted r b
    known a b r e n = rw e at n

    go : (t : Bool) → cond t (in_part (field 32 0 64 s) λ b rest. holds (noted b) rest) (holds none s) ≡ holds note rest
        → Noted s note
    go true e =
        let c = checked-accepted 32 0 64 0 (λ b. true) noted s note rest e in
        known (noted (body_of s)) note s c.2 (c.0, refl, c.3 ∙ end)
    go false e = let h = held none note s rest e in known none note s h.0 (h.1 ∙ end)

-- the bytes that are left are those of the note, which is one of 0 to 64 bytes
pub note-bytes : (s : List ℕ) (note : Note) → Bytes s → Noted s note
    → (s ≡ note_bytes note) × (note_fits note ≡ true)
note-bytes s none bs e = (e, refl)
note-bytes s (noted b) bs (stands, body, end) = (
  field-written 32 0 64 s bs stands
      ∙ ap₂ (λ b l. field_bytes 32 b ++ l) body end
      ∙ append-nil (field_bytes 32 b),
  le-leb (length b) 64
      (omega (arith, ap length body, body-length s stands.whole, stands.short)),
)

-- ---- written

pub note-read : (note : Note) → note_fits note ≡ true → note_field (note_bytes note) ≡ holds note []
unfolding note_field
note-read none h = refl
note-read (noted b) h =
    let short = leb-true (length b) 64 h in
    ap (λ s. in_part (field 32 0 64 s) λ b rest. holds (noted b) rest) (sym (append-nil (field_bytes 32 b)))
    ∙ checked-read 32 0 64 0 (λ b. true) noted b [] (omega arith) (omega arith) short refl

pub note-length : (note : Note) → note_fits note ≡ true → length (note_bytes note) ≤ 67
note-length none h = omega arith
note-length (noted b) h = omega (arith, leb-true (length b) 64 h)
