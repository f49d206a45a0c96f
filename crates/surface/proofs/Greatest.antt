-- The greatest level of quarter squares: its bounds, and that of the one quarter square that holds a point.
use mathlib.Core.Path.{◌≡◌, sym, ap₂, subst}
use mathlib.Core.Bool.{Bool, true, ◌&&◌, cond}
use Prim.Native.Nat.{ℕ, ◌+◌, ◌≤◌, ◌<◌}
use native.Mathlib.Nat.{le_trans, le_of_eq, le_antisymm}
use native.Mathlib.Omega.{arith}
use lib.Dec.{leb, ltb}
use borrow.Author.Tests.{le-leb}
use Rattle.finite.specs.Range.{greatest}
use Rattle.finite.proofs.Maxima.{le-greatest, greatest-le}
use Rattle.finite.proofs.Tests.{both, and_intro, lts-intro, between, between-true, between-intro, pick}
use Rattle.surface.specs.Sheet.{quarters, quarter_of, quarter_box}
use Rattle.surface.specs.Support.{least_where, greatest_where, in_box}
use Rattle.surface.specs.Patch.{stop_level}
use Rattle.surface.specs.Calls.{box_cause}
use Rattle.surface.proofs.Causes.{none-cause}
use Rattle.surface.proofs.Least.{least_where-le, le-least_where}

module _ (W H : ℕ) (lev : ℕ → ℕ → ℕ) (p : ℕ → ℕ → Bool) where
  pub le-greatest_where : (q r : ℕ) → q < quarters W → r < quarters H → p q r ≡ true → lev q r ≤ greatest_where W H lev p
  le-greatest_where q r hq hr e =
      le_trans
      (subst (λ t. cond t (lev q r) 0 ≤ greatest (quarters H) (λ r. cond (p q r) (lev q r) 0)) e
      (le-greatest (quarters H) (λ r. cond (p q r) (lev q r) 0) r hr))
      (le-greatest (quarters W) (λ q. greatest (quarters H) (λ r. cond (p q r) (lev q r) 0)) q hq)

  pub greatest_where-le : (m : ℕ) → ((q r : ℕ) → q < quarters W → r < quarters H → p q r ≡ true → lev q r ≤ m)
      → greatest_where W H lev p ≤ m
  greatest_where-le m h =
      greatest-le (quarters W) m (λ q. greatest (quarters H) (λ r. cond (p q r) (lev q r) 0))
      λ q hq. greatest-le (quarters H) m (λ r. cond (p q r) (lev q r) 0)
      λ r hr. pick (p q r) (λ b. cond b (lev q r) 0 ≤ m) (h q r hq hr) (λ _. omega arith)

-- ---- the quarter square that holds a point, as a box

in_itself : (q : ℕ) → between q (q + 1) q ≡ true
in_itself q = between-intro q (q + 1) q (omega arith) (omega arith)

alone : (q x : ℕ) → between q (q + 1) x ≡ true → x ≡ q
alone q x e = omega (arith, between-true q (q + 1) x e)

module _ (W H : ℕ) (lev : ℕ → ℕ → ℕ) (u v : ℕ) (p_w : 0 < W) (p_h : 0 < H) where
  abbrev q₀ : ℕ
  q₀ = quarter_of W u

  abbrev r₀ : ℕ
  r₀ = quarter_of H v

  abbrev held : ℕ → ℕ → Bool
  held = in_box (quarter_box W H u v)

  inside : held q₀ r₀ ≡ true
  inside = and_intro (between q₀ (q₀ + 1) q₀) (between r₀ (r₀ + 1) r₀) (in_itself q₀) (in_itself r₀)

  -- the box holds no other quarter square, so each there has that level
  same : (q r : ℕ) → held q r ≡ true → lev q r ≡ lev q₀ r₀
  same q r e =
      let es = both (between q₀ (q₀ + 1) q) (between r₀ (r₀ + 1) r) e in
      ap₂ lev (alone q₀ q es.0) (alone r₀ r es.1)

  -- and lies in the sheet
  pub no-box-cause : box_cause W H (quarter_box W H u v) ≡ 0
  no-box-cause =
      none-cause 7 _
      (and_intro (ltb q₀ (q₀ + 1) && ltb r₀ (r₀ + 1)) (leb (q₀ + 1) (quarters W) && leb (r₀ + 1) (quarters H))
      (lts-intro q₀ (q₀ + 1) r₀ (r₀ + 1) (omega arith) (omega arith))
      (and_intro (leb (q₀ + 1) (quarters W)) (leb (r₀ + 1) (quarters H))
      (le-leb (q₀ + 1) (quarters W) (omega arith)) (le-leb (r₀ + 1) (quarters H) (omega arith))))

  pub stop-level : stop_level W H lev u v ≡ lev q₀ r₀
  stop-level =
      le_antisymm (greatest_where-le W H lev held (lev q₀ r₀) (λ q r _ _ e. le_of_eq (same q r e)))
      (le-greatest_where W H lev held q₀ r₀ (omega arith) (omega arith) inside)

  pub least-level : lev q₀ r₀ ≤ 3 → least_where W H lev held ≡ lev q₀ r₀
  least-level h =
      le_antisymm (least_where-le W H lev held q₀ r₀ (omega arith) (omega arith) inside)
      (le-least_where W H (lev q₀ r₀) lev held h (λ q r _ _ e. le_of_eq (sym (same q r e))))
