-- The field of the counts: what its acceptance says, and that a written one is read back.
use mathlib.Core.Path.{◌≡◌, refl, sym, ap, ◌∙◌, fun_ext}
use mathlib.Core.Bool.{Bool, true, false, cond, true≢false}
use mathlib.Core.List.{List, []}
use Prim.Native.Nat.{ℕ, zero, suc, ◌<◌}
use native.Mathlib.Omega.{arith}
use lib.Dec.{eqb}
use borrow.Author.Tests.{eq-eqb, eqb-true}
use lib.ListN.{length, get_or}
use Rattle.finite.specs.Range.{joined}
use Rattle.finite.proofs.Joined.{joined-cong}
use Rattle.finite.proofs.Tests.{every_true, every-intro, every-cong}
use Rattle.surface.specs.Fields.{holds, field, checked, two_bytes_at, two_bytes, Bytes}
use Rattle.surface.specs.TableFile.{counts_agree, counts_field, counts_body}
use Rattle.fields.proofs.FieldLaws.{body_of, rest_of, Stands, held, checked-accepted, body-length}
use Rattle.fields.proofs.FieldLaws.{rest-bytes}
use Rattle.fields.proofs.Written.{two-bytes, joined_bytes}
use Rattle.fields.proofs.TwoBytes.{two-read, two-determine}

-- ---- accepted

-- The bytes after the counts that s starts with, or s.
abbrev pub past_counts : List ℕ → List ℕ
past_counts s = cond (eqb (get_or s 0 0) 3) (rest_of s) s

pub past_bytes : (s : List ℕ) → Bytes s → Bytes (past_counts s)
past_bytes s h = go (eqb (get_or s 0 0) 3)
  where
    go : (t : Bool) → Bytes (cond t (rest_of s) s)
    go true = rest-bytes s h
    go false = h

module _ (n : ℕ → ℕ) where
  -- The counts stand at the front of s, and are those of the tree.
  pub record CountsStand (s : List ℕ) : Type 0 where
    pub field : Stands 3 8 8 s
    pub agree : counts_agree n (body_of s) ≡ true

  pub counts-accepted : (s b rest : List ℕ) → counts_field n s ≡ holds b rest
      → (past_counts s ≡ rest) × (eqb (get_or s 0 0) 3 ≡ true → CountsStand s)
  unfolding counts_field
  counts-accepted s b rest e = go (eqb (get_or s 0 0) 3) e
    where
      go : (t : Bool) → cond t (checked (field 3 8 8 s) 20 (counts_agree n) (λ b. b)) (holds [] s) ≡ holds b rest
          → (cond t (rest_of s) s ≡ rest) × (t ≡ true → CountsStand s)
      go true e =
          let c = checked-accepted 3 8 8 19 (counts_agree n) (λ b. b) s b rest e in
          (c.3, λ u. record { field = c.0; agree = c.1 })
      go false e = ((held [] b s rest e).1, λ u. absurd (true≢false (sym u)))

  -- each count is the one of its level
  pub counts-tell : (b : List ℕ) → counts_agree n b ≡ true → (L : ℕ) → L < 4 → two_bytes_at b L ≡ n L
  unfolding counts_agree
  counts-tell b e L h =
      eqb-true (two_bytes_at b L) (n L) (every_true 4 (λ L. eqb (two_bytes_at b L) (n L)) e L h)

  -- ---- written

  pub counts-length : length (counts_body n) ≡ 8
  unfolding counts_body joined
  counts-length = refl

  pub counts-bytes : Bytes (counts_body n)
  unfolding counts_body
  counts-bytes = joined_bytes (λ L. two_bytes (n L)) 4 (λ L h. two-bytes (n L))

  module _ (few : (L : ℕ) → L < 4 → n L < 65536) where
    counts-read : (L : ℕ) → L < 4 → two_bytes_at (counts_body n) L ≡ n L
    unfolding counts_body joined
    counts-read zero h = two-read (n 0) (few 0 h)
    counts-read (suc zero) h = two-read (n 1) (few 1 h)
    counts-read (suc (suc zero)) h = two-read (n 2) (few 2 h)
    counts-read (suc (suc (suc zero))) h = two-read (n 3) (few 3 h)
    counts-read (suc (suc (suc (suc L)))) h = absurd (omega arith)

    pub counts-agree : counts_agree n (counts_body n) ≡ true
    unfolding counts_agree
    counts-agree =
        every-intro 4 (λ L. eqb (two_bytes_at (counts_body n) L) (n L))
        λ L h. eq-eqb (two_bytes_at (counts_body n) L) (n L) (counts-read L h)

    -- counts that agree are the ones that are written
    pub counts-written : (s : List ℕ) → Bytes (body_of s) → CountsStand s → body_of s ≡ counts_body n
    counts-written s bs c =
        two-determine (body_of s) (counts_body n) bs counts-bytes 4
        (body-length s c.field.whole ∙ omega (arith, c.field.long, c.field.short)) counts-length
        λ L h. counts-tell (body_of s) c.agree L h ∙ sym (counts-read L h)

-- ---- of two counts that are the same

module _ (n m : ℕ → ℕ) (same : (L : ℕ) → L < 4 → n L ≡ m L) where
  pub counts-body-cong : counts_body n ≡ counts_body m
  unfolding counts_body
  counts-body-cong = joined-cong 4 (λ L. two_bytes (n L)) (λ L. two_bytes (m L)) λ L h. ap two_bytes (same L h)

  pub counts-field-cong : (s : List ℕ) → counts_field n s ≡ counts_field m s
  unfolding counts_field counts_agree
  counts-field-cong s =
      ap (λ ok. cond (eqb (get_or s 0 0) 3) (checked (field 3 8 8 s) 20 ok (λ b. b)) (holds [] s))
      (fun_ext λ b. every-cong 4 (λ L. eqb (two_bytes_at b L) (n L)) (λ L. eqb (two_bytes_at b L) (m L))
      λ L h. ap (eqb (two_bytes_at b L)) (same L h))
