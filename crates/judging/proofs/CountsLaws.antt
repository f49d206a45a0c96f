-- The field of the counts by its position and by the counts that were found.
use mathlib.Core.Path.{◌≡◌, refl, sym, ap, ◌∙◌}
use mathlib.Core.Bool.{Bool, true, false}
use mathlib.Core.List.{List, []}
use Prim.Native.Nat.{ℕ, suc, ◌≤◌, ◌<◌}
use native.Mathlib.Nat.{add-zero}
use native.Mathlib.Omega.{arith}
use lib.Dec.{eqb}
use borrow.Author.Tests.{eq-eqb, ne_eqb, eqb-true}
use lib.ListN.{length, get_or, drop, drop_of_length-le}
use lib.Seq.{get_or-drop}
use Rattle.finite.proofs.Tests.{every_true, every-intro}
use Rattle.surface.specs.Support.{active_count}
use Rattle.surface.specs.Fields.{declined, holds, field, checked, two_bytes_at}
use Rattle.surface.specs.TableFile.{counts_agree, counts_field, file_contents}
use Rattle.rows.specs.Rows.{levels_of}
use Rattle.judging.specs.Judged.{Front, Head, ends_at}

-- ---- the counts one by one

module _ (n : ℕ → ℕ) (b : List ℕ) where
  -- that of level L is the one found
  abbrev pub Agrees : ℕ → Type 0
  Agrees L = two_bytes_at b L ≡ n L

  pub agree-all : ((L : ℕ) → L < 4 → Agrees L) → true ≡ counts_agree n b
  unfolding counts_agree
  agree-all h =
      sym (every-intro 4 (λ L. eqb (two_bytes_at b L) (n L)) λ L l. eq-eqb (two_bytes_at b L) (n L) (h L l))

  pub agree-lost : (L : ℕ) → L < 4 → (Agrees L → ⊥) → false ≡ counts_agree n b
  unfolding counts_agree
  agree-lost L l h = go (counts_agree n b) refl
    where
      go : (t : Bool) → counts_agree n b ≡ t → false ≡ t
      go false e = refl
      go true e =
          absurd (h
          (eqb-true (two_bytes_at b L) (n L) (every_true 4 (λ L. eqb (two_bytes_at b L) (n L)) e L l)))

-- ---- by the byte at its tag

module _ (n : ℕ → ℕ) (s : List ℕ) where
  pub counts-lacking : (get_or s 0 0 ≡ 3 → ⊥) → counts_field n s ≡ holds [] s
  unfolding counts_field
  counts-lacking h = rw (ne_eqb (get_or s 0 0) 3 h)

  pub counts-there : get_or s 0 0 ≡ 3 → counts_field n s ≡ checked (field 3 8 8 s) 20 (counts_agree n) (λ b. b)
  unfolding counts_field
  counts-there h = rw (eq-eqb (get_or s 0 0) 3 h)

-- the byte at a position, of which there may be none
pub tag-there : (file : List ℕ) (at : ℕ) → get_or (drop at file) 0 0 ≡ get_or file at 0
tag-there file at = get_or-drop at file 0 0 ∙ ap (λ n. get_or file n 0) (add-zero at)

pub no-tag : (file : List ℕ) (at tag : ℕ) → length file ≤ at → get_or (drop at file) 0 0 ≡ suc tag → ⊥
no-tag file at tag h e =
    let none : ◌≡◌ {A = ℕ} 0 (suc tag) = ap (λ l. get_or l 0 0) (sym (drop_of_length-le file {i = at} h)) ∙ e in
    absurd (omega arith)

-- ---- in the file

module _ (file : List ℕ) (end W H : ℕ) (rows : List ℕ) (f : Front file end W H rows) where
  pub counts-declined : (c : ℕ) → counts_field (active_count W H (levels_of rows)) (drop end file) ≡ declined c
      → file_contents file ≡ declined c
  counts-declined c e = rw e at f.contents

  -- the levels are due after the counts
  pub counts-passed : (from : ℕ) → ends_at file from (counts_field (active_count W H (levels_of rows)) (drop end file))
      → Head file end from W H rows
  counts-passed from e =
      record {
        small-W = f.small-W;
        small-H = f.small-H;
        low = f.low;
        size = f.size;
        inside = e.0;
        nested = f.nested;
        contents = rw e.1.1 at f.contents;
      }
