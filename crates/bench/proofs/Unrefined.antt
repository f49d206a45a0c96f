-- Tables that meet what Untruncated asks: no region finer than a level, at every point of a 1 by 1 sheet.
use mathlib.Core.Path.{◌≡◌, refl}
use mathlib.Core.Bool.{Bool, true, false, not, ◌||◌}
use mathlib.Core.List.{List}
use Prim.Native.Nat.{ℕ, ◌+◌, ◌*◌, ◌≤◌}
use native.Mathlib.Omega.{arith}
use lib.IntN.{pos}
use lib.Dec.{leb, lit<}
use borrow.Author.Tests.{not-true, lt-leb}
use Rattle.finite.specs.Range.{every, least}
use Rattle.surface.specs.Sheet.{eighths}
use Rattle.surface.specs.Quadtree.{parse, level_at}
use Rattle.surface.specs.Support.{least_under, in_region}
use Rattle.surface.specs.Spline.{spline_at}
use Rattle.surface.specs.Truncation.{truncated}
use Rattle.surface.specs.Table.{levels, everywhere}
use Rattle.bench.specs.Bench.{flat, refined}
use Rattle.surface.proofs.TableLaws.{everywhere-true}
use Rattle.surface.proofs.Demands.{not-truncated}

-- What Untruncated asks of a table, as a test on 1 by 1: no function finer than L has its cut support in the region of
-- its level.
abbrev NoneFiner : List ℕ → ℕ → Type 0
NoneFiner t L = everywhere 1 1 (λ M c d. leb M L || not (in_region 1 1 (levels t) M c d)) ≡ true

-- Then each function of level L is the product of its two splines at every point.
whole : (t : List ℕ) (n L : ℕ) → n + L ≡ 3 → NoneFiner t L → (u v a b : ℕ) → u ≤ 128 → v ≤ 128
    → truncated 1 1 (levels t) u v n L a b ≡ pos (spline_at 1 L a u * spline_at 1 L b v)
whole t n L e test u v a b hu hv =
    not-truncated 1 1 (levels t) u v (lit< tt) (lit< tt) hu hv n L a b e
    (λ M c d l m hc hd _. finer (leb M L) (in_region 1 1 (levels t) M c d) (lt-leb M L l)
    (everywhere-true 1 1 (λ M c d. leb M L || not (in_region 1 1 (levels t) M c d)) test M c d (omega arith) hc hd))
  where
    finer : (t s : Bool) → t ≡ false → (t || not s) ≡ true → s ≡ false
    finer t s p e = not-true s (rw p at e)

-- A sheet of level 0 throughout passes, and one of level 1.
pub whole-unrefined : (u v a b : ℕ) → u ≤ 128 → v ≤ 128
    → truncated 1 1 (levels flat) u v 3 0 a b ≡ pos (spline_at 1 0 a u * spline_at 1 0 b v)
unfolding every least_under least eighths levels level_at parse
whole-unrefined = whole flat 3 0 refl refl

pub whole-refined : (u v a b : ℕ) → u ≤ 128 → v ≤ 128
    → truncated 1 1 (levels refined) u v 2 1 a b ≡ pos (spline_at 1 1 a u * spline_at 1 1 b v)
unfolding every least_under least eighths levels level_at parse
whole-refined = whole refined 2 1 refl refl
