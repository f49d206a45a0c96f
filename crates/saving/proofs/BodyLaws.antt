-- The bytes of a level's rows: what a row puts by its marks is its part of the level's body.
use mathlib.Core.Path.{◌≡◌, ap, ap₂, ◌∙◌, subst}
use mathlib.Core.List.{List}
use Prim.Native.Nat.{ℕ, ◌+◌, ◌*◌, ◌≤◌, ◌<◌}
use lib.IntN.{ℤ, pos}
use lib.ListN.{length, get_or}
use Rattle.finite.specs.Range.{joined}
use Rattle.finite.proofs.Joined.{joined-cong}
use Rattle.surface.specs.Sheet.{functions, eighths}
use Rattle.surface.specs.Support.{active}
use Rattle.surface.specs.Table.{places, start, coefficients}
use Rattle.surface.specs.Fields.{field_bytes}
use Rattle.surface.specs.TableFile.{place_bytes, row_bytes, level_body}
use Rattle.activity.specs.Marks.{marked, ActiveRow}
use Rattle.activity.specs.declared.Marks.{Marks}
use Rattle.coefficients.proofs.Parts.{part, part_length, part_at, level-at}
use Rattle.saving.specs.Saved.{Spelt, bytes_if, marked_bytes, in_part, LevelSpelt, level_under}

module _ (W H L b n e : ℕ) (lev : ℕ → ℕ → ℕ) (marks : Marks) (own : List ℤ) (columns : n ≡ functions W L)
    (side : e ≡ eighths L) (inside : b * n + n ≤ length own) where
  -- a row's number is the coefficient of its function
  row_number : (a : ℕ) → a < n → get_or (part (b * n) n own) a (pos 0) ≡ in_part W own L a b
  row_number a h = part_at (b * n) n own a h ∙ ap (λ k. get_or own (b * k + a) (pos 0)) columns

  pub row-bytes : ActiveRow W H L b lev marks
      → marked_bytes (marked e marks) (part (b * n) n own) ≡ row_bytes W H lev (in_part W own) L b
  row-bytes active =
      joined-cong (length (part (b * n) n own)) _ (λ a. place_bytes W H lev (in_part W own) L a b)
      (λ a h.
      let below : a < n = subst (λ k. a < k) (part_length (b * n) n own inside) h in
      ap₂ bytes_if
      (ap (λ e. marked e marks a) side ∙ active a (subst (λ k. a < k) columns below))
      (row_number a below))
      ∙ ap (λ k. joined k (λ a. place_bytes W H lev (in_part W own) L a b))
      (part_length (b * n) n own inside ∙ columns)

  pub row-spelt : LevelSpelt W H (in_part W own) L → b < functions H L → (a : ℕ) → a < length (part (b * n) n own)
      → Spelt (get_or (part (b * n) n own) a (pos 0))
  row-spelt spelt hb a h =
      let below : a < n = subst (λ k. a < k) (part_length (b * n) n own inside) h in
      rw (row_number a below) (spelt a b (subst (λ k. a < k) columns below) hb)

-- a level's body by what each of its places adds
pub body-cong : (W H L : ℕ) (lev lev' : ℕ → ℕ → ℕ) (f g : ℕ → ℕ → ℕ → ℤ)
    → ((a b : ℕ) → a < functions W L → b < functions H L
    → place_bytes W H lev f L a b ≡ place_bytes W H lev' g L a b)
    → level_body W H lev f L ≡ level_body W H lev' g L
unfolding level_body
body-cong W H L lev lev' f g same =
    joined-cong (functions H L) (λ b. row_bytes W H lev f L b) (λ b. row_bytes W H lev' g L b)
    λ b hb. joined-cong (functions W L) (λ a. place_bytes W H lev f L a b) (λ a. place_bytes W H lev' g L a b)
    λ a ha. same a b ha hb

-- ---- a level's part of the slice

module _ (W H L first size : ℕ) (lev : ℕ → ℕ → ℕ) (cs : List ℤ) (begins : first ≡ start W H L)
    (sized : size ≡ places W H L) where
  pub part-under : level_under W H lev (in_part W (part first size cs)) L ≡ level_under W H lev (coefficients W H cs) L
  part-under =
      ap (field_bytes (16 + L))
      (body-cong W H L lev lev (in_part W (part first size cs)) (coefficients W H cs)
      λ a b ha hb. ap (bytes_if (active W H lev L a b)) (level-at W H L first size cs begins sized a b ha hb))

  pub part-spelt : LevelSpelt W H (coefficients W H cs) L → LevelSpelt W H (in_part W (part first size cs)) L
  part-spelt spelt a b ha hb = rw (level-at W H L first size cs begins sized a b ha hb) (spelt a b ha hb)
