-- The whole file by the regions and the coefficients: its length, what a checked table has, and that it is the table's.
use mathlib.Core.Path.{◌≡◌, refl, ap, ap₂, ◌∙◌}
use mathlib.Core.Bool.{Bool, true, false}
use mathlib.Core.List.{List, [], ◌∷◌, ◌++◌}
use Prim.Native.Nat.{ℕ, ◌+◌, ◌≤◌, ◌<◌}
use native.Mathlib.Omega.{arith}
use lib.Dec.{lit<, eqb}
use lib.IntN.{ℤ}
use lib.ListN.{length, get_or, length-append}
use Rattle.finite.specs.Range.{total, joined}
use Rattle.finite.proofs.Joined.{joined_length, joined-cong}
use Rattle.surface.specs.Sheet.{functions}
use Rattle.surface.specs.Support.{active, active_count}
use Rattle.surface.specs.Table.{◌or_else◌, levels, coefficients, table_cause}
use Rattle.surface.specs.Calls.{put, done}
use Rattle.surface.specs.Fields.{field_bytes}
use Rattle.surface.specs.TableFile.{counts_body, file_with, file_of}
use Rattle.surface.specs.Note.{Note, note_bytes}
use Rattle.surface.specs.Saving.{note_cause, file_out_cause, save_cause, save_outcome}
use Rattle.surface.proofs.TableLaws.{Sound, sides}
use Rattle.tablefile.proofs.CountsField.{counts-length, counts-body-cong}
use Rattle.tablefile.proofs.SavedLevels.{level-length, limit-small}
use Rattle.tablefile.proofs.Saved.{tree-size}
use Rattle.rows.specs.Rows.{levels_of, level_rows}
use Rattle.rows.proofs.RowLaws.{rows-least, rows-count, rows-nested}
use Rattle.activity.specs.Counts.{Counted}
use Rattle.saving.specs.Saved.{Spelt, bytes_if, level_under, Checked, length_by, file_under}
use Rattle.saving.specs.Saved.{saved_outcome}
use Rattle.saving.proofs.BodyLaws.{body-cong}

-- ---- its length

module _ (W H : ℕ) (t : List ℕ) (lev : ℕ → ℕ → ℕ) (coef : ℕ → ℕ → ℕ → ℤ) where
  -- that of the fields before the levels, and theirs
  pub parts-size : length (file_under W H t lev coef) ≡ 19 + length t + length (joined 4 (level_under W H lev coef))
  unfolding file_under
  parts-size =
      let front = field_bytes 1 (W ∷ H ∷ []) ++ field_bytes 2 t in
      let counts = field_bytes 3 (counts_body (active_count W H lev)) in
      omega (
        arith,
        length-append (front ++ counts) (joined 4 (level_under W H lev coef)),
        length-append front counts,
        length-append (field_bytes 1 (W ∷ H ∷ [])) (field_bytes 2 t),
        counts-length (active_count W H lev),
      )

  pub file-size : (counts : List ℕ) → Counted W H lev counts
      → length (file_under W H t lev coef) ≡ length_by (length t) counts
  unfolding total
  file-size counts n =
      omega (
        arith,
        parts-size,
        joined_length (level_under W H lev coef) 4,
        level-length W H lev coef 0,
        level-length W H lev coef 1,
        level-length W H lev coef 2,
        level-length W H lev coef 3,
        (n 0 (lit< tt)).0,
        (n 1 (lit< tt)).0,
        (n 2 (lit< tt)).0,
        (n 3 (lit< tt)).0,
      )

-- the counts that were found are the ones of the file
pub counts-found : (W H : ℕ) (lev : ℕ → ℕ → ℕ) (counts : List ℕ) → Counted W H lev counts
    → counts_body (λ L. get_or counts L 0) ≡ counts_body (active_count W H lev)
counts-found W H lev counts n =
    counts-body-cong (λ L. get_or counts L 0) (active_count W H lev) (λ L h. (n L h).0)

-- ---- a checked table

spelt : (W H : ℕ) (t : List ℕ) (cs : List ℤ) → Sound W H t cs → (L a b : ℕ) → L < 4 → a < functions W L
    → b < functions H L → Spelt (coefficients W H cs L a b)
spelt W H t cs s L a b hL ha hb = go (active W H (levels t) L a b) refl
  where
    go : (on : Bool) → active W H (levels t) L a b ≡ on → Spelt (coefficients W H cs L a b)
    go true e = omega (arith, s.limits L a b hL ha hb e, limit-small L hL)
    go false e = rw (s.passive L a b hL ha hb e) (lit< tt)

pub checked : (W H : ℕ) (t : List ℕ) (cs : List ℤ) (rows : List ℕ) → Sound W H t cs → rows ≡ level_rows t
    → Checked W H t cs rows
checked W H t cs rows s e =
    record {
      small-W = (sides s).1;
      small-H = (sides s).3;
      tree = (tree-size W H t s.tree).1;
      size = s.size;
      spelt = λ L hL a b ha hb. spelt W H t cs s L a b hL ha hb;
      nested = rw e (rows-nested (levels t));
    }

-- ---- the file of a table

module _ (W H : ℕ) (hW : W ≤ 8) (hH : H ≤ 8) (t rows : List ℕ) (cs : List ℤ) (e : rows ≡ level_rows t) where
  same-file : (note : Note)
      → file_under W H t (levels_of rows) (coefficients W H cs) ++ note_bytes note ≡ file_of note W H t cs
  unfolding file_with file_under
  same-file note =
      ap₂ (λ counts l. field_bytes 1 (W ∷ H ∷ []) ++ field_bytes 2 t ++ field_bytes 3 counts ++ l ++ note_bytes note)
      (counts-body-cong (active_count W H (levels_of rows)) (active_count W H (levels t))
      λ L h. rows-count W H t rows L hW hH e)
      (joined-cong 4 (level_under W H (levels_of rows) (coefficients W H cs))
      (level_under W H (levels t) (coefficients W H cs))
      λ L hL. ap (field_bytes (16 + L))
      (body-cong W H L (levels_of rows) (levels t) (coefficients W H cs) (coefficients W H cs)
      λ a b ha hb. ap (λ l. bytes_if (eqb l L) (coefficients W H cs L a b)) (rows-least W H t rows L a b hW hH e)))

  -- and the outcome of writing it is that of saving the table
  pub same_outcome : (note : Note) (out : List ℕ) → 0 ≡ table_cause W H t cs
      → saved_outcome W H t (levels_of rows) (coefficients W H cs) note out ≡ save_outcome W H t cs note out
  unfolding save_outcome save_cause
  same_outcome note out z =
      let file = file_of note W H t cs in
      ap (λ file. done (note_cause note or_else file_out_cause file out) (length file) (put file out) out)
      (same-file note)
      ∙ ap (λ c. done (c or_else note_cause note or_else file_out_cause file out) (length file) (put file out) out) z
