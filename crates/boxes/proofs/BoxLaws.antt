-- Places in a box; a square that has one shares area with the box, and one that lies in the box has no other.
use mathlib.Core.Bool.{true}
use mathlib.Core.Path.{◌≡◌}
use Prim.Native.Nat.{ℕ, ◌+◌, ◌≤◌, ◌<◌}
use native.Mathlib.Omega.{arith}
use lib.Dec.{leb}
use borrow.Author.Tests.{leb-true}
use Rattle.finite.proofs.Tests.{both, and_intro, lts-intro, between, between-true, between-intro}
use Rattle.surface.specs.Sheet.{Box}
use Rattle.surface.specs.Support.{in_box}
use Rattle.boxes.specs.Boxes.{overlap, shares_area, among, lies_in}

shares : (lo hi x n q : ℕ) → x ≤ q → q < x + n → between lo hi q ≡ true → overlap lo hi x n ≡ true
shares lo hi x n q l u e =
    let p : (lo ≤ q) × (q < hi) = between-true lo hi q e in
    lts-intro x hi lo (x + n) (omega arith) (omega arith)

pub box_shares : (b : Box) (x y side q r : ℕ) → x ≤ q → q < x + side → y ≤ r → r < y + side → in_box b q r ≡ true
    → shares_area x y side b ≡ true
box_shares b x y side q r lu hu lv hv e =
    let es = both (between b.u0 b.u1 q) (between b.v0 b.v1 r) e in
    and_intro (overlap b.u0 b.u1 x side) (overlap b.v0 b.v1 y side)
    (shares b.u0 b.u1 x side q lu hu es.0)
    (shares b.v0 b.v1 y side r lv hv es.1)

pub box-holds : (b : Box) (x y side q r : ℕ) → lies_in x y side b ≡ true → x ≤ q → q < x + side → y ≤ r → r < y + side
    → in_box b q r ≡ true
box-holds b x y side q r e lu hu lv hv =
    let es = both (among b.u0 b.u1 x side) (among b.v0 b.v1 y side) e in
    and_intro (between b.u0 b.u1 q) (between b.v0 b.v1 r)
    (along b.u0 b.u1 x q es.0 lu hu)
    (along b.v0 b.v1 y r es.1 lv hv)
  where
    along : (lo hi x q : ℕ) → among lo hi x side ≡ true → x ≤ q → q < x + side → between lo hi q ≡ true
    along lo hi x q e l u =
        let es = both (leb lo x) (leb (x + side) hi) e in
        between-intro lo hi q (omega (arith, leb-true lo x es.0)) (omega (arith, leb-true (x + side) hi es.1))
