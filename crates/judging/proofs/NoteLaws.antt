-- The field of the note by its position, and what follows it.
use Rattle.std.specs.Prelude.{Result, Ok, Err}
use mathlib.Core.Path.{◌≡◌, refl, ap, ap₂, ◌∙◌}
use mathlib.Core.List.{List}
use Prim.Native.Nat.{ℕ, zero, suc, ◌≤◌, ◌<◌}
use native.Mathlib.Nat.{le_refl}
use native.Mathlib.Omega.{arith}
use borrow.Author.Tests.{eq-eqb, ne_eqb, lt-ltb, le-ltb}
use lib.ListN.{length, get_or, drop, length-drop, drop_of_length-le}
use Rattle.surface.specs.Fields.{declined, holds, field}
use Rattle.surface.specs.Note.{note_field}
use Rattle.answers.specs.declared.Refusal.{Refusal}
use Rattle.answers.specs.Refusals.{number}
use Rattle.answers.proofs.AnswerLaws.{number-positive}
use Rattle.fields.specs.Positions.{body_at, part_at, ends}
use Rattle.judging.specs.Judged.{note_at, note_judged, EndJudged}

module _ (file : List ℕ) (at : ℕ) where
  -- another byte stands there, or none
  pub note-lacking : at ≤ length file → ¬ (get_or (drop at file) 0 0 ≡ 32) → note_judged (Ok at) file at
  unfolding note_field
  note-lacking h e = (
    h,
    le_refl at,
    λ l. absurd (omega arith),
    rw (ne_eqb (get_or (drop at file) 0 0) 32 e, le-ltb at at (le_refl at)),
  )

  -- tag 32 stands there
  pub note-there : get_or (drop at file) 0 0 ≡ 32 → (r : Result ℕ Refusal)
      → part_at r file (body_at file at) ≡ field 32 0 64 (drop at file) → ends r file at 0 64 → note_judged r file at
  unfolding note_field
  note-there tag (Err c) e k = rw (eq-eqb (get_or (drop at file) 0 0) 32 tag, ← e)
  note-there tag (Ok end) e k =
      let inside : at < end = omega (arith, k.0) in (
        k.2,
        omega (arith, k.0),
        λ l. omega (arith, k.0),
        rw (eq-eqb (get_or (drop at file) 0 0) 32 tag, lt-ltb at end inside, ← e),
      )

  -- ---- what follows

  pub end-faulty : (e : Refusal) → note_field (drop at file) ≡ declined (number e) → EndJudged (number e) file at
  end-faulty e = go (number e) (number-positive e)
    where
      go : (n : ℕ) → ¬ (n ≡ 0) → note_field (drop at file) ≡ declined n → EndJudged n file at
      go zero h k = absurd (h refl)
      go (suc c) h k = λ W H t numbers. rw k

  pub end-past : (end : ℕ) → note_judged (Ok end) file at → end < length file → EndJudged 15 file at
  end-past end k h W H t numbers =
      let left : 0 < length (drop end file) = omega (arith, length-drop end file) in
      rw (k.3, lt-ltb 0 (length (drop end file)) left)

  pub end_whole : (end : ℕ) → note_judged (Ok end) file at → length file ≤ end → EndJudged 0 file at
  end_whole end k h =
      let all : end ≡ length file = omega (arith, k.0) in (
        λ l. omega (arith, k.2 (omega arith)),
        k.3 ∙ ap₂ holds (ap (note_at file at) all) (drop_of_length-le file {i = end} (omega arith)),
      )
