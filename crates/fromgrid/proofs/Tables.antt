-- A grid that was judged, over the tree of some regions: numbers that fit are a table with its readings, and where no
-- coefficients carry its numbers no table has them.
use mathlib.Core.Path.{◌≡◌, sym, ap, ◌∙◌, subst}
use mathlib.Core.Bool.{true, cond}
use mathlib.Core.List.{List}
use Prim.Native.Nat.{ℕ, ◌+◌, ◌*◌, ◌≤◌, ◌<◌}
use native.Mathlib.Nat.{zero-add, mul_comm}
use native.Mathlib.Omega.{arith}
use lib.Dec.{leb, eqb}
use lib.IntN.{ℤ, pos, nat_abs}
use borrow.Author.Tests.{le-leb, ne_eqb}
use Rattle.finite.proofs.Tests.{and_intro, pick}
use Rattle.finite.proofs.Table.{get_d-table, place-below}
use Rattle.surface.specs.Sheet.{good_side, functions}
use Rattle.surface.specs.Support.{active, least_under}
use Rattle.surface.specs.Carry.{carried}
use Rattle.surface.specs.Table.{tree_of, formed, levels, places, coefficients, slice_of, limit}
use Rattle.surface.specs.Fields.{number_at}
use Rattle.surface.specs.Grid.{grid_number, numbers_in, ReadsAs}
use Rattle.surface.proofs.TableLaws.{formed-tree, Sound, sound, acceptable, slice-length, slice-coefficient}
use Rattle.surface.proofs.Carried.{carried-cong}
use Rattle.surface.proofs.Insertion.{carried-fits}
use Rattle.uniqueness.proofs.Grids.{reads-acceptable, carried-of-grid, grid-of-carried}
use Rattle.rows.specs.Rows.{levels_of, level_rows}
use Rattle.rows.proofs.RowLaws.{level-rows, rows-least}
use Rattle.fromgrid.specs.Converts.{active_in, Fits, Carries}
use Rattle.fromgrid.proofs.ConvertLaws.{carried-fit}

-- a grid's number by its place in the body
pub number-at : (W H : ℕ) (body : List ℕ) (a b : ℕ) → a < functions W 3 → b < functions H 3
    → grid_number W (numbers_in (places W H 3) body) a b ≡ number_at body (b * functions W 3 + a)
number-at W H body a b ha hb =
    let k = b * functions W 3 + a in
    let n = functions W 3 in
    get_d-table 0 (places W H 3) (λ k. number_at body k) k (pos 0)
    (omega (arith, place-below n (functions H 3) a b ha hb, mul_comm n (functions H 3)))
    ∙ ap (λ k. number_at body k) (zero-add k)

module _ (W H : ℕ) (p_w : 0 < W) (hW : W ≤ 8) (p_h : 0 < H) (hH : H ≤ 8) (t rows : List ℕ) (e : rows ≡ level_rows t)
    (body : List ℕ) where
  abbrev lev : ℕ → ℕ → ℕ
  lev = levels_of rows

  abbrev grid : List ℤ
  grid = numbers_in (places W H 3) body

  least : (L a b : ℕ) → least_under W H lev L a b ≡ least_under W H (levels t) L a b
  least L a b = rows-least W H t rows L a b hW hH e

  by_rows : (coef : ℕ → ℕ → ℕ → ℤ) (L a b : ℕ) → carried W H lev coef L a b ≡ carried W H (levels t) coef L a b
  by_rows coef =
      carried-cong W H lev (levels t) coef
      (λ q r hq hr. ap (λ m. levels_of m q r) e ∙ level-rows t q r (omega arith) (omega arith))

  -- where no coefficients carry the grid's numbers
  pub none-reads : ((coef : ℕ → ℕ → ℕ → ℤ) → ¬ Carries W H lev coef (λ a b. number_at body (b * functions W 3 + a)))
      → (cs : List ℤ) → ¬ ReadsAs W H t cs grid
  none-reads none cs reads =
      let s = sound W H t cs (reads-acceptable W H t cs grid reads) in
      let coef = coefficients W H cs in
      none coef record {
        numbers = λ a b ha hb.
            by_rows coef 3 a b ∙ carried-of-grid W H t cs grid reads a b ha hb ∙ number-at W H body a b ha hb;
        fits = λ L a b hL ha hb.
            subst (λ z. nat_abs z ≤ limit L) (sym (by_rows coef L a b)) (carried-fits W H t cs s L a b hL ha hb);
        passive = λ L a b hL ha hb h.
            s.passive L a b hL ha hb
            (ne_eqb (least_under W H (levels t) L a b) L (λ z. omega (arith, least L a b)));
      }

  -- numbers that fit
  module _ (N : ℕ → ℕ → ℕ → ℤ) (last : (a b : ℕ) → N 3 a b ≡ number_at body (b * functions W 3 + a))
      (fit : Fits W H lev N) (whole : formed W H (tree_of t) ≡ true) where
    abbrev cs : List ℤ
    cs = slice_of W H (active_in W H lev N)

    given : (L a b : ℕ) → L < 4 → a < functions W L → b < functions H L
        → coefficients W H cs L a b ≡ active_in W H lev N L a b
    given = slice-coefficient W H (active_in W H lev N)

    good : (n : ℕ) → 0 < n → n ≤ 8 → good_side n ≡ true
    good n p h = and_intro (leb 1 n) (leb n 8) (le-leb 1 n p) (le-leb n 8 h)

    table-sound : Sound W H t cs
    table-sound = record {
      side-W = good W p_w hW;
      side-H = good H p_h hH;
      tree = formed-tree W H t whole;
      size = slice-length W H (active_in W H lev N);
      limits = λ L a b hL ha hb _.
          subst (λ z. nat_abs z ≤ limit L) (sym (given L a b hL ha hb))
          (pick (active W H lev L a b) (λ t. nat_abs (cond t (N L a b) (pos 0)) ≤ limit L)
          (λ _. fit.small L a b hL ha hb) (λ _. omega arith));
      passive = λ L a b hL ha hb passive.
          given L a b hL ha hb
          ∙ ap (λ t. cond t (N L a b) (pos 0)) (ap (λ m. eqb m L) (least L a b) ∙ passive);
    }

    pub fit-reads : ReadsAs W H t cs grid
    fit-reads =
        grid-of-carried W H t cs grid (acceptable W H t cs table-sound)
        (λ a b ha hb. sym (by_rows (coefficients W H cs) 3 a b)
        ∙ carried-fit W H p_w p_h lev N fit (coefficients W H cs) given 3 a b (omega arith) ha hb
        ∙ last a b ∙ sym (number-at W H body a b ha hb))
