-- Each acceptable table reads as the grid of its carried values of level 3, and as no other grid.
use mathlib.Core.Path.{◌≡◌, sym, ap, ◌∙◌}
use mathlib.Core.List.{List}
use Prim.Native.Nat.{ℕ, ◌*◌, ◌<◌}
use native.Mathlib.Nat.{mul_comm}
use native.Mathlib.Omega.{arith}
use lib.IntN.{ℤ, pos}
use lib.ListN.{length, get_or}
use lib.Seq.{ext_get_or}
use Rattle.finite.proofs.Table.{length-grid, get_d-grid, place-split}
use Rattle.surface.specs.Sheet.{functions}
use Rattle.surface.specs.Carry.{carried}
use Rattle.surface.specs.Table.{levels, places, coefficients}
use Rattle.surface.specs.Grid.{grid_number, ReadsAs, grid_file, grid_of}
use Rattle.uniqueness.proofs.Grids.{same-carried, fine, grid_coefficients, fine-own, fine-reading, carried-of-grid}
use Rattle.uniqueness.proofs.Grids.{grid-of-carried}
use Rattle.conversion.specs.Grids.{GridReads, OneGridEach, OneGrid, SameReadingsSameGrid}

-- the numbers of a table's grid, and how many there are
pub grid-number : (W H : ℕ) (t : List ℕ) (cs : List ℤ) (a b : ℕ) → a < functions W 3 → b < functions H 3
    → grid_number W (grid_of W H t cs) a b ≡ carried W H (levels t) (coefficients W H cs) 3 a b
unfolding grid_of
grid-number W H t cs a b ha hb =
    get_d-grid (functions W 3) (functions H 3) (λ a b. carried W H (levels t) (coefficients W H cs) 3 a b) a b (pos 0)
    ha hb

pub grid-size : (W H : ℕ) (t : List ℕ) (cs : List ℤ) → length (grid_of W H t cs) ≡ places W H 3
unfolding grid_of
grid-size W H t cs =
    length-grid (functions W 3) (functions H 3) (λ a b. carried W H (levels t) (coefficients W H cs) 3 a b)
    ∙ mul_comm (functions H 3) (functions W 3)

-- grids with the same numbers are the same
same-grid : (W H : ℕ) (f g : List ℤ) → length f ≡ places W H 3 → length g ≡ places W H 3
    → ((a b : ℕ) → a < functions W 3 → b < functions H 3 → grid_number W f a b ≡ grid_number W g a b) → f ≡ g
same-grid W H f g ef eg same =
    ext_get_or (pos 0) f g (ef ∙ sym eg)
    λ i l.
    let inside : i < functions H 3 * functions W 3 = rw (ef, mul_comm (functions W 3) (functions H 3)) at l in
    let (a, b, ha, hb, at) = place-split (functions W 3) (functions H 3) i inside in
    ap (λ k. get_or f k (pos 0)) at ∙ same a b ha hb ∙ sym (ap (λ k. get_or g k (pos 0)) at)

pub grid-reads : GridReads
grid-reads W H t cs acc =
    grid-of-carried W H t cs (grid_of W H t cs) acc (λ a b ha hb. sym (grid-number W H t cs a b ha hb))

pub one-grid-each : OneGridEach
one-grid-each W H t cs grid reads size =
    same-grid W H grid (grid_of W H t cs) (omega (arith, size)) (grid-size W H t cs)
    (λ a b ha hb. sym (carried-of-grid W H t cs grid reads a b ha hb) ∙ sym (grid-number W H t cs a b ha hb))

pub same-readings-same-grid : SameReadingsSameGrid
same-readings-same-grid W H s t cs ds acc same =
    let grid = grid_of W H t ds in
    let reads : ReadsAs W H s cs grid = λ u v on. same u v on ∙ grid-reads W H t ds acc u v on in
    let one = sym (one-grid-each W H s cs grid reads (omega (arith, grid-size W H t ds))) in
    (one, ap (grid_file W H) one)

pub one-grid : OneGrid
one-grid W H f g p_w p_h ef eg same =
    same-grid W H f g (omega (arith, ef)) (omega (arith, eg))
    (λ a b ha hb. sym (fine-own W H f a b)
    ∙ same-carried W H p_w p_h fine fine (grid_coefficients W f) (grid_coefficients W g)
    (λ u v on. fine-reading W H f u v ∙ same u v on ∙ sym (fine-reading W H g u v)) a b ha hb
    ∙ fine-own W H g a b)
