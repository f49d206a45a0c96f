-- The whole grid: what a checked table has, its grid by the rows of its regions, and how long it is.
use mathlib.Core.Path.{◌≡◌, sym, ap, ◌∙◌, subst}
use mathlib.Core.List.{List}
use Prim.Native.Nat.{ℕ, ◌+◌, ◌*◌, ◌≤◌}
use native.Mathlib.Nat.{mul_comm}
use native.Mathlib.Omega.{arith}
use lib.IntN.{ℤ, pos, nat_abs}
use lib.ListN.{length, get_or}
use Rattle.finite.specs.Range.{grid}
use Rattle.finite.proofs.Table.{length-grid, grid-cong}
use Rattle.surface.specs.Sheet.{functions}
use Rattle.surface.specs.Table.{levels, places, coefficients, limit}
use Rattle.surface.specs.Carry.{carried}
use Rattle.surface.specs.Grid.{grid_file, grid_of}
use Rattle.surface.proofs.Carried.{carried-cong}
use Rattle.surface.proofs.TableLaws.{Sound}
use Rattle.surface.proofs.Insertion.{carried-fits}
use Rattle.rows.specs.Rows.{levels_of, level_rows}
use Rattle.rows.proofs.RowLaws.{level-rows, rows-nested}
use Rattle.togrid.specs.Strips.{Checked, value, numbers_bytes, grid_by}
use Rattle.togrid.proofs.TextLaws.{numbers-length}

module _ (W H : ℕ) (hW : W ≤ 8) (hH : H ≤ 8) (t rows : List ℕ) (cs : List ℤ) (e : rows ≡ level_rows t) where
  by_rows : (L a b : ℕ) → value W H rows cs L a b ≡ carried W H (levels t) (coefficients W H cs) L a b
  by_rows =
      carried-cong W H (levels_of rows) (levels t) (coefficients W H cs)
      (λ q r hq hr. ap (λ m. levels_of m q r) e ∙ level-rows t q r (omega arith) (omega arith))

  pub checked : Sound W H t cs → Checked W H rows cs
  checked s = record {
    small-W = hW;
    small-H = hH;
    size = s.size;
    nested = rw e (rows-nested (levels t));
    fit = λ L a b hL ha hb.
        subst (λ z. nat_abs z ≤ limit L) (sym (by_rows L a b)) (carried-fits W H t cs s L a b hL ha hb);
  }

  pub same-grid : grid_by W H rows cs ≡ grid_of W H t cs
  unfolding grid_of
  same-grid = grid-cong (functions W 3) (functions H 3) _ _ (λ a b ha hb. by_rows 3 a b)

-- the bytes of the numbers of a grid, and of a table's grid as a whole
pub body-size : (W H : ℕ) (f : ℕ → ℕ → ℤ)
    → 5 * places W H 3 ≡ length (numbers_bytes (grid (functions W 3) (functions H 3) f))
body-size W H f =
    let n = functions W 3 in
    let m = functions H 3 in
    let g = grid n m f in
    omega (arith, numbers-length (λ k. get_or g k (pos 0)) (length g), length-grid n m f, mul_comm m n)

pub file-size : (W H : ℕ) (t : List ℕ) (cs : List ℤ) → 8 + 5 * places W H 3 ≡ length (grid_file W H (grid_of W H t cs))
unfolding grid_file grid_of
file-size W H t cs = omega (arith, body-size W H (λ a b. carried W H (levels t) (coefficients W H cs) 3 a b))
