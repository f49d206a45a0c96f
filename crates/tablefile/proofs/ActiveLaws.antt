-- The active functions of a level in slice order: how many come before one, and which one comes after k.
use mathlib.Core.Path.{◌≡◌, ap}
use mathlib.Core.Bool.{true, false, cond}
use mathlib.Core.List.{List}
use Prim.Native.Nat.{ℕ, ◌-◌, ◌*◌, ◌^◌, ◌≤◌, ◌<◌}
use native.Mathlib.Nat.{mul-le-mul, pow-le-pow_right}
use native.Mathlib.Omega.{arith}
use lib.IntN.{pos, nat_abs}
use lib.Dec.{leb}
use borrow.Author.Tests.{leb-true}
use Rattle.finite.specs.Range.{count, total}
use Rattle.finite.proofs.Tests.{every_true, count-le}
use Rattle.surface.specs.Sheet.{functions}
use Rattle.surface.specs.Support.{active, active_in_row, active_count, active_before}
use Rattle.surface.specs.Fields.{number_at, all_within}
use Rattle.surface.specs.TableFile.{loaded}
use Rattle.tablefile.proofs.CountLaws.{total-le, total-through, count-before, total-split, count-split}

module _ (W H : ℕ) (lev : ℕ → ℕ → ℕ) (L : ℕ) where
  -- an active function's number is one of the level's
  active-before : (a b : ℕ) → a < functions W L → b < functions H L → active W H lev L a b ≡ true
      → active_before W H lev L a b < active_count W H lev L
  unfolding active_before active_count active_in_row
  active-before a b ha hb e =
      omega (
        arith,
        total-through (functions H L) (λ r. count (functions W L) (λ c. active W H lev L c r)) b hb,
        count-before (functions W L) (λ c. active W H lev L c b) a ha e,
      )

  -- each number of the level is that of an active function
  pub active-place : (k : ℕ) → k < active_count W H lev L
      → (a : ℕ) × (b : ℕ) × (a < functions W L) × (b < functions H L) × (active W H lev L a b ≡ true)
      × (active_before W H lev L a b ≡ k)
  unfolding active_before active_count active_in_row
  active-place k h =
      let rows : ℕ → ℕ = λ r. count (functions W L) (λ c. active W H lev L c r) in
      let row = total-split (functions H L) rows k h in
      let b = row.0 in
      let at = count-split (functions W L) (λ c. active W H lev L c b) (k - total b rows) (omega arith) in
      (at.0, b, at.1, row.1, at.2, omega arith)

  -- at most one number for each place
  pub active-count-le : active_count W H lev L ≤ functions H L * functions W L
  unfolding active_count active_in_row
  active-count-le =
      total-le (functions H L) (functions W L) (λ b. count (functions W L) (λ a. active W H lev L a b))
      (λ b. count-le (functions W L) (λ a. active W H lev L a b))

  -- so by a bound of its rows and columns
  pub active-square : (n : ℕ) → functions W L ≤ n → functions H L ≤ n → active_count W H lev L ≤ n * n
  active-square n wide high = omega (arith, active-count-le, mul-le-mul high wide)

  -- at most 67 rows of 67
  pub active-few : W ≤ 8 → H ≤ 8 → L < 4 → active_count W H lev L ≤ 4489
  active-few hW hH h =
      let scale : 2 ^ L ≤ 2 ^ 3 = pow-le-pow_right {n = 2} (omega arith) {i = L} {j = 3} (omega arith) in
      active-square 67 (omega (arith, mul-le-mul hW scale)) (omega (arith, mul-le-mul hH scale))

  -- ---- the numbers of a body

  pub loaded-active : (body : List ℕ) (a b : ℕ) → active W H lev L a b ≡ true
      → loaded W H lev L body a b ≡ number_at body (active_before W H lev L a b)
  loaded-active body a b e =
      ap (λ t. cond t (number_at body (active_before W H lev L a b)) (pos 0)) e

  pub loaded-passive : (body : List ℕ) (a b : ℕ) → active W H lev L a b ≡ false
      → loaded W H lev L body a b ≡ pos 0
  loaded-passive body a b e =
      ap (λ t. cond t (number_at body (active_before W H lev L a b)) (pos 0)) e

  pub loaded-within : (most : ℕ) (body : List ℕ) → all_within most (active_count W H lev L) body ≡ true
      → (a b : ℕ) → a < functions W L → b < functions H L → active W H lev L a b ≡ true
      → nat_abs (loaded W H lev L body a b) ≤ most
  unfolding all_within
  loaded-within most body w a b ha hb e =
      let k = active_before W H lev L a b in
      rw (loaded-active body a b e)
      (leb-true (nat_abs (number_at body k)) most
      (every_true (active_count W H lev L) (λ k. leb (nat_abs (number_at body k)) most) w k (active-before a b ha hb e)))
