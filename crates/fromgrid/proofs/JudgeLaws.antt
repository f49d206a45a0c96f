-- What the judged fields say of a grid, one law for each way out of the judging functions.
use Rattle.std.specs.Prelude.{Ok, Err}
use mathlib.Core.Path.{◌≡◌, refl, sym, ap, ap₂, ◌∙◌, subst}
use mathlib.Core.Bool.{Bool, true, false, not}
use mathlib.Core.List.{List, []}
use Prim.Native.Nat.{ℕ, ◌+◌, ◌-◌, ◌*◌, ◌≤◌, ◌<◌}
use native.Mathlib.Omega.{arith}
use borrow.Author.Tests.{lt-ltb}
use lib.ListN.{length, drop, length-drop, drop_of_length-le}
use lib.Seq.{take_all}
use Rattle.surface.specs.Table.{cause, places, limit}
use Rattle.surface.specs.Fields.{declined, contains, unless, holds, field, checked, all_within}
use Rattle.surface.specs.TableFile.{sides_field}
use Rattle.surface.specs.Grid.{numbers_in, grid_field, grid_contents}
use Rattle.answers.specs.declared.Refusal.{Refusal}
use Rattle.answers.specs.Refusals.{number}
use Rattle.fields.specs.Positions.{body_at, part_at, ends}
use Rattle.fields.proofs.PositionLaws.{checked-faulty, checked-told}
use Rattle.judging.specs.Judged.{SidesStand}
use Rattle.fromgrid.specs.Converts.{numbers_part, Good, NumbersJudged}

-- ---- the numbers

module _ (file : List ℕ) (W H n : ℕ) (s : n ≡ places W H 3) where
  -- the field with its contents, by the count that was found
  by_count : checked (field 19 (5 * n) (5 * n) (drop 5 file)) 4 (all_within (limit 3) n) (numbers_in n)
      ≡ grid_field W H (drop 5 file)
  unfolding grid_field
  by_count = rw s

  pub numbers-faulty : (e : Refusal) → declined (number e) ≡ field 19 (5 * n) (5 * n) (drop 5 file)
      → numbers_part W H (drop 5 file) ≡ declined (number e)
  numbers-faulty e q =
      let k : grid_field W H (drop 5 file) ≡ declined (number e) =
      sym by_count
      ∙ checked-faulty 19 (5 * n) (5 * n) 4 (all_within (limit 3) n) (numbers_in n) file 5 (Err e) q e refl in
      rw k

  module _ (end : ℕ) (e : part_at (Ok end) file (body_at file 5) ≡ field 19 (5 * n) (5 * n) (drop 5 file)) where
    -- by the test of its numbers
    told : (t : Bool) → t ≡ all_within (limit 3) n (body_at file 5 end)
        → grid_field W H (drop 5 file)
        ≡ unless (cause 4 (not t)) (holds (numbers_in n (body_at file 5 end)) (drop end file))
    told t u =
        sym by_count
        ∙ checked-told 19 (5 * n) (5 * n) 4 (all_within (limit 3) n) (numbers_in n) file 5 (Ok end) e end refl t u

    pub numbers-past : false ≡ all_within (limit 3) n (body_at file 5 end) → numbers_part W H (drop 5 file) ≡ declined 4
    numbers-past u = rw (told false u)

    pub numbers_more : true ≡ all_within (limit 3) n (body_at file 5 end) → end < length file
        → numbers_part W H (drop 5 file) ≡ declined 15
    numbers_more u h =
        let left : 0 < length (drop end file) = omega (arith, length-drop end file) in
        rw (told true u, lt-ltb 0 (length (drop end file)) left)

    pub numbers-whole : ends (Ok end) file 5 (5 * n) (5 * n) → true ≡ all_within (limit 3) n (body_at file 5 end)
        → length file ≤ end → NumbersJudged (Ok tt) file W H
    numbers-whole k u h =
        let body : body_at file 5 end ≡ drop 8 file = take_all (end - 8) (drop 8 file)
        (omega (arith, length-drop 8 file)) in
        let none : drop end file ≡ [] = drop_of_length-le file {i = end} h in (
          subst (λ m. length file ≡ 8 + 5 * m) s (omega (arith, k.0, k.1, k.2)),
          subst (λ m. all_within (limit 3) m (drop 8 file) ≡ true) s (ap (all_within (limit 3) n) (sym body) ∙ sym u),
          rw (told true u, none) (ap₂ (λ m b. contains (record { W = W; H = H; numbers = numbers_in m b })) s body),
        )

-- ---- both fields

pub sides-declined : (file : List ℕ) (c : ℕ) → sides_field file ≡ declined c → grid_contents file ≡ declined c
unfolding grid_contents
sides-declined file c e = rw e

module _ (file : List ℕ) (W H : ℕ) (s : SidesStand file W H) where
  -- what the contents are by the numbers
  by_numbers : grid_contents file ≡ numbers_part W H (drop 5 file)
  unfolding grid_contents
  by_numbers = rw (s.field, s.here.0, s.here.1)

  pub numbers-declined : (c : ℕ) → numbers_part W H (drop 5 file) ≡ declined c → grid_contents file ≡ declined c
  numbers-declined c e = by_numbers ∙ e

  pub grid-good : NumbersJudged (Ok tt) file W H → Good file W H
  grid-good k =
      record {
        side-W = s.side-W;
        side-H = s.side-H;
        size = k.0;
        within = k.1;
        contents = by_numbers ∙ k.2;
      }
