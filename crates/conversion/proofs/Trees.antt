-- Which table there is over a tree: the table itself over its own tree, its carried table over a finer one, and a
-- grid's own numbers over the whole sheet at level 3.
use mathlib.Core.Path.{◌≡◌, refl, sym, ap, ◌∙◌, subst}
use mathlib.Core.Bool.{true, false, ◌&&◌}
use mathlib.Core.List.{List}
use Prim.Native.Nat.{ℕ, ◌+◌, ◌*◌, ◌≤◌, ◌<◌}
use native.Mathlib.Nat.{le_refl, le_trans, le_of_eq}
use native.Mathlib.Decide.{dec_lt}
use native.Mathlib.Omega.{arith}
use lib.IntN.{ℤ, pos, nat_abs}
use lib.ListN.{length, get_or, replicate, length-append, length-replicate, get_or-replicate, get_or-append}
use lib.Seq.{drop_at, get_or-append-add}
use borrow.Author.Tests.{eqb-true, eqb-false}
use Rattle.surface.specs.Sheet.{functions, quarters}
use Rattle.surface.specs.Support.{shares, least_under, active}
use Rattle.surface.specs.Truncation.{value_at}
use Rattle.surface.specs.Carry.{carried_over}
use Rattle.surface.specs.Table.{levels, start, place, coefficients, limit, region_cause}
use Rattle.surface.specs.Grid.{grid_number, ReadsAs, Grid, no_table, the_table}
use Rattle.surface.proofs.Least.{le-least_where, least_under-le-3, least_under-raise}
use Rattle.surface.proofs.TableLaws.{formed-tree, regions-good, start-step, place-before, Sound, sound, acceptable}
use Rattle.surface.proofs.TableLaws.{slice-length, slice-coefficient}
use Rattle.surface.proofs.Linear.{reading-cong}
use Rattle.surface.proofs.Refine.{carried_over-active, refine-reading}
use Rattle.surface.proofs.Insertion.{carried-limit}
use Rattle.surface.proofs.Demands.{same_outcome}
use Rattle.uniqueness.proofs.OneSurface.{full-grid, one-table-of-grid}
use Rattle.conversion.specs.Grids.{OneConversion, OwnTree, own_numbers, WholeSheet, carried_to, FinerTree, GoodGrid}
use Rattle.conversion.proofs.Grids.{grid-reads}
use Rattle.conversion.proofs.Files.{judged-good}

pub one-conversion : OneConversion
one-conversion W H t grid no_table no_table p q = refl
one-conversion W H t grid no_table (the_table d) p q = absurd (p d q)
one-conversion W H t grid (the_table c) no_table p q = absurd (q c p)
one-conversion W H t grid (the_table c) (the_table d) p q = ap the_table (one-table-of-grid W H t grid c d p q)

pub own-tree : OwnTree
own-tree W H t cs acc = grid-reads W H t cs acc

-- ---- a finer tree

module _ (W H : ℕ) (s : List ℕ) (cs : List ℤ) (ok : Sound W H s cs) (t : List ℕ) (good : region_cause W H t ≡ 0)
    (rise : (q r : ℕ) → q < quarters W → r < quarters H → levels s q r ≤ levels t q r) where
  abbrev after : ℕ → ℕ → ℕ → ℤ
  after L a b = carried_over W H (levels s) (levels t) (coefficients W H cs) L a b

  carried-coefficient : (L a b : ℕ) → L < 4 → a < functions W L → b < functions H L
      → coefficients W H (carried_to W H s cs t) L a b ≡ after L a b
  carried-coefficient = slice-coefficient W H after

  finer-sound : Sound W H t (carried_to W H s cs t)
  finer-sound =
      let (_, _, _, _, form) = regions-good W H t good in
      record {
        side-W = ok.side-W;
        side-H = ok.side-H;
        tree = formed-tree W H t form;
        size = slice-length W H after;
        limits = λ L a b hL ha hb act.
            let e = eqb-true (least_under W H (levels t) L a b) L act in
            subst (λ z. nat_abs z ≤ limit L)
            (sym (carried-coefficient L a b hL ha hb
            ∙ carried_over-active W H (levels s) (levels t) rise (coefficients W H cs) L a b e))
            (carried-limit W H s cs ok L a b hL ha hb
            (le_trans (least_under-raise W H (levels s) (levels t) rise L a b) (le_of_eq e)));
        passive = λ L a b hL ha hb act. carried-coefficient L a b hL ha hb ∙ rw act;
      }

pub finer-tree : FinerTree
finer-tree W H s cs acc t good finer u v on =
    let ok = sound W H s cs acc in
    let rise : (q r : ℕ) → q < quarters W → r < quarters H → levels s q r ≤ levels t q r =
    λ q r hq hr. omega (arith, finer q r hq hr) in
    let f = value_at W H u v in
    let new = carried_to W H s cs t in
    same_outcome W H t s new cs (acceptable W H t new (finer-sound W H s cs ok t good rise)) acc u v
    (reading-cong W H (levels t) (coefficients W H new) (after W H s cs ok t good rise)
    (carried-coefficient W H s cs ok t good rise) f
    ∙ refine-reading W H (levels s) (levels t) rise (coefficients W H cs) f)
    ∙ grid-reads W H s cs acc u v on

-- ---- the whole sheet at level 3

-- no square is coarser
least-fine : (W H : ℕ) (t : List ℕ) → ((q r : ℕ) → q < quarters W → r < quarters H → levels t q r ≡ 3)
    → (L a b : ℕ) → least_under W H (levels t) L a b ≡ 3
unfolding least_under
least-fine W H t fine L a b =
    let low = le-least_where W H 3 (levels t) (λ q r. shares W L a q && shares H L b r) (le_refl 3)
    (λ q r hq hr _. omega (arith, fine q r hq hr)) in
    omega (arith, low, least_under-le-3 W H (levels t) L a b)

module _ (g : Grid) (ok : GoodGrid g) (t : List ℕ) (good : region_cause g.W g.H t ≡ 0)
    (fine : (q r : ℕ) → q < quarters g.W → r < quarters g.H → levels t q r ≡ 3) where
  abbrev W : ℕ
  W = g.W

  abbrev H : ℕ
  H = g.H

  abbrev zeros : List ℤ
  zeros = replicate (start W H 3) (pos 0)

  abbrev numbers : List ℤ
  numbers = own_numbers g

  before-size : length zeros ≡ start W H 3
  before-size = length-replicate (start W H 3) (pos 0)

  -- a coefficient of levels 0 to 2 is 0, and one of level 3 is the grid's
  before : (L a b : ℕ) → L < 3 → a < functions W L → b < functions H L → coefficients W H numbers L a b ≡ pos 0
  unfolding coefficients
  before L a b hL ha hb =
      let low : place W H L a b < start W H 3 = place-before W H L 3 a b hL ha hb in
      get_or-append zeros g.numbers (pos 0) (place W H L a b) (omega (arith, before-size))
      ∙ get_or-replicate (start W H 3) (place W H L a b) (pos 0) (pos 0) low

  last : (a b : ℕ) → coefficients W H numbers 3 a b ≡ grid_number W g.numbers a b
  unfolding coefficients
  last a b =
      ap (λ n. get_or numbers (n + (b * functions W 3 + a)) (pos 0)) (sym before-size)
      ∙ get_or-append-add zeros g.numbers (b * functions W 3 + a) (pos 0)

  -- so those of level 3 are active, and no others
  level-3 : (L a b : ℕ) → active W H (levels t) L a b ≡ true → 3 ≡ L
  level-3 L a b act = sym (least-fine W H t fine L a b) ∙ eqb-true (least_under W H (levels t) L a b) L act

  whole-sound : Sound W H t numbers
  whole-sound =
      let (_, _, _, _, form) = regions-good W H t good in
      record {
        side-W = ok.side_w;
        side-H = ok.side_h;
        tree = formed-tree W H t form;
        size = omega (arith, length-append zeros g.numbers, before-size, ok.size, start-step W H 3);
        limits = λ L a b hL ha hb act.
            let e = level-3 L a b act in
            subst (λ L. nat_abs (coefficients W H numbers L a b) ≤ limit L) e
            (rw (last a b)
            (ok.within a b (subst (λ L. a < functions W L) (sym e) ha) (subst (λ L. b < functions H L) (sym e) hb)));
        passive = λ L a b hL ha hb act. before L a b (coarse L a b hL act) ha hb;
      }
    where
      coarse : (L a b : ℕ) → L < 4 → active W H (levels t) L a b ≡ false → L < 3
      coarse L a b hL act = go (dec_lt L 3)
        where
          go : Dec (L < 3) → L < 3
          go (yes h) = h
          go (no h) =
              let e : 3 ≡ L = omega arith in
              absurd (eqb-false (least_under W H (levels t) L a b) L act (least-fine W H t fine L a b ∙ e))

pub whole-sheet : WholeSheet
whole-sheet file g e t good whole =
    let ok = judged-good file g e in
    let W = g.W in
    let H = g.H in
    let fine : (q r : ℕ) → q < quarters W → r < quarters H → levels t q r ≡ 3 =
    λ q r hq hr. omega (arith, whole q r hq hr) in
    let numbers = own_numbers g in
    subst (ReadsAs W H t numbers)
    (drop_at (replicate (start W H 3) (pos 0)) g.numbers (start W H 3) (length-replicate (start W H 3) (pos 0)))
    (full-grid W H t numbers (acceptable W H t numbers (whole-sound g ok t good fine)) fine)
