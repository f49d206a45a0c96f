-- The cells that show a function: each active function has one, and tables with the same numbers around it have the
-- same coefficient of that function.
use mathlib.Core.Path.{◌≡◌, refl, sym, ◌∙◌}
use mathlib.Core.Bool.{true, ◌&&◌}
use mathlib.Core.List.{List}
use Prim.Native.Nat.{ℕ, ◌+◌, ◌*◌, ◌/◌, ◌≤◌, ◌<◌}
use native.Mathlib.Nat.{le_refl}
use native.Mathlib.Decide.{dec_le, dec_lt}
use native.Mathlib.Omega.{arith}
use lib.IntN.{ℤ}
use borrow.Author.Tests.{eqb-true, ne_eqb}
use Rattle.finite.proofs.Tests.{both}
use Rattle.surface.specs.Sheet.{on_sheet}
use Rattle.surface.specs.Support.{low_end, high_end, shares, least_under}
use Rattle.surface.specs.Carry.{carried}
use Rattle.surface.specs.Table.{levels, coefficients, Acceptable, table_reading}
use Rattle.surface.specs.Calls.{exact_outcome}
use Rattle.surface.proofs.Least.{least_where-attained}
use Rattle.surface.proofs.SmallLevels.{levels-small}
use Rattle.surface.proofs.Selection.{touches, shares-cell, in-region}
use Rattle.surface.proofs.TableLaws.{regions-good, sound}
use Rattle.surface.proofs.Demands.{reading-given}
use Rattle.uniqueness.specs.OneSurface.{Shows, EachShown}
use Rattle.uniqueness.proofs.UnderCell.{Over, over_functions}
use Rattle.uniqueness.proofs.ReverseSubdivision.{reversed}

-- equal outcomes on acceptable tables are equal readings
pub same-reading : (W H : ℕ) (s t : List ℕ) (c d : List ℤ) → Acceptable W H s c → Acceptable W H t d → (u v : ℕ)
    → on_sheet W H u v ≡ true → exact_outcome W H s c u v ≡ exact_outcome W H t d u v
    → table_reading W H s c u v ≡ table_reading W H t d u v
same-reading W H s t c d acc acc' u v on e =
    let n = table_reading W H s c u v in
    sym ((reading-given W H t d u v n).0 (sym e ∙ (reading-given W H s c u v n).1 (acc, on, refl))).2

-- the numbers of level 3 around a cell that shows a function decide its coefficient
pub shown-once : (W H : ℕ) (t : List ℕ) (c d : List ℤ) → Acceptable W H t c → Acceptable W H t d
    → (L a b x y : ℕ) → Shows W H t L a b x y
    → ((k l : ℕ) → k < 4 → l < 4
    → carried W H (levels t) (coefficients W H c) 3 (x + k) (y + l)
    ≡ carried W H (levels t) (coefficients W H d) 3 (x + k) (y + l))
    → coefficients W H c L a b ≡ coefficients W H d L a b
shown-once W H t c d acc acc' L a b x y shows around =
    let hx : x < 8 * W = let h = shows.high_u in omega arith in
    let hy : y < 8 * H = let h = shows.high_v in omega arith in
    let low : levels t (x / 2) (y / 2) ≤ L = let e = shows.level in omega arith in
    let hL : L ≤ 3 = let e = shows.level in omega (arith, levels-small t (x / 2) (y / 2)) in
    go hx hy low hL (dec_le L m)
  where
    m : ℕ
    m = least_under W H (levels t) L a b

    over-u : Over W L a x
    over-u = (shows.low_u, omega (arith, shows.high_u))

    over-v : Over H L b y
    over-v = (shows.low_v, omega (arith, shows.high_v))

    -- a function that has a coarser square under it is passive
    go : x < 8 * W → y < 8 * H → levels t (x / 2) (y / 2) ≤ L → L ≤ 3 → Dec (L ≤ m)
        → coefficients W H c L a b ≡ coefficients W H d L a b
    go hx hy low hL (yes h) =
        reversed W H (levels t) x y hx hy (coefficients W H c) (coefficients W H d) around L a b hL low h
        over-u over-v
    go hx hy low hL (no h) =
        let passive = ne_eqb m L (λ e. h (omega arith)) in
        let ha = over_functions W L x hx hL a over-u in
        let hb = over_functions H L y hy hL b over-v in
        (sound W H t c acc).passive L a b (omega arith) ha hb passive
        ∙ sym ((sound W H t d acc').passive L a b (omega arith) ha hb passive)

pub each-shown : EachShown
unfolding least_under
each-shown W H t e L a b hL ha hb act = go (dec_lt L 3)
  where
    good : (0 < W) × (0 < H)
    good = let (p_w, _, p_h, _, _) = regions-good W H t e in (p_w, p_h)

    is : least_under W H (levels t) L a b ≡ L
    is = eqb-true (least_under W H (levels t) L a b) L act

    tu : low_end L a < high_end W L a
    tu = touches W L a good.0 (omega arith) ha

    tv : low_end L b < high_end H L b
    tv = touches H L b good.1 (omega arith) hb

    go : Dec (L < 3) → (x : ℕ) × (y : ℕ) × Shows W H t L a b x y
    go (yes l) =
        let (q, r, under, own) = least_where-attained W H (levels t) (λ q r. shares W L a q && shares H L b r) L is l in
        let us = both (shares W L a q) (shares H L b r) under in
        let (x, lx, hx, ex) = shares-cell W L a q tu us.0 in
        let (y, ly, hy, ey) = shares-cell H L b r tv us.1 in
        (x, y, record { low_u = lx; high_u = hx; low_v = ly; high_v = hy; level = rw (ex, ey) own })
    -- at level 3 each cell under the support is in such a square
    go (no l) =
        let x = low_end L a in
        let y = low_end L b in
        let inside = (in-region W H (levels t) 3 L a b good.0 good.1 (le_refl 3) (omega arith) ha hb).0
        (omega (arith, is)) x y (le_refl x) tu (le_refl y) tv in
        let small = levels-small t (x / 2) (y / 2) in
        (x, y, record { low_u = le_refl x; high_u = tu; low_v = le_refl y; high_v = tv; level = omega arith })
