-- The coefficients of a level, row after row.
use mathlib.Core.Path.{◌≡◌, refl, ap, ◌∙◌}
use mathlib.Core.Bool.{Bool, true, false, cond}
use mathlib.Core.List.{List}
use Prim.Native.Nat.{ℕ, ◌+◌, ◌≤◌, ◌<◌}
use native.Mathlib.Nat.{mul_comm}
use native.Mathlib.Numerals.{add-one}
use native.Mathlib.Omega.{arith}
use lib.IntN.{pos}
use lib.ListN.{replicate}
use Rattle.finite.specs.Range.{count, total}
use Rattle.finite.proofs.Table.{grid-cong, grid-const}
use Rattle.surface.specs.Sheet.{functions}
use Rattle.surface.specs.Support.{active, active_in_row, active_count, active_before}
use Rattle.surface.specs.Table.{places}
use Rattle.surface.specs.Fields.{number_at}
use Rattle.surface.specs.TableFile.{loaded, level_loaded}
use Rattle.tablefile.proofs.CountLaws.{total-through, count-before}
use Rattle.loading.specs.Levels.{rows_before}

module _ (W H L b : ℕ) (lev : ℕ → ℕ → ℕ) where
  pub rows-within : b < functions H L → rows_before W H lev L (b + 1) ≤ active_count W H lev L
  unfolding active_count total
  rows-within h = rw (add-one b) (total-through (functions H L) (λ r. active_in_row W H lev L r) b h)

  -- the numbers before a row, those before place a of it, and all of it
  pub before-next : rows_before W H lev L (b + 1)
      ≡ rows_before W H lev L b + count (functions W L) (λ c. active W H lev L c b)
  unfolding total active_in_row
  before-next = rw (add-one b)

  pub place-number : (a next : ℕ) → next ≡ rows_before W H lev L b
      → active_before W H lev L a b ≡ next + count a (λ c. active W H lev L c b)
  unfolding active_before
  place-number a next e = rw e

-- a level with no active function
pub none-loaded : (W H L : ℕ) (lev : ℕ → ℕ → ℕ) (body : List ℕ) → active_count W H lev L ≡ 0
    → level_loaded W H lev L body ≡ replicate (places W H L) (pos 0)
unfolding active_count active_in_row
none-loaded W H L lev body none =
    grid-cong (functions W L) (functions H L) (λ a b. loaded W H lev L body a b) (λ a b. pos 0)
    (λ a b ha hb. ap (λ u. cond u (number_at body (active_before W H lev L a b)) (pos 0)) (passive a b ha hb _ refl))
    ∙ grid-const (functions W L) (functions H L) (pos 0)
    ∙ ap (λ k. replicate k (pos 0)) (mul_comm (functions H L) (functions W L))
  where
    passive : (a b : ℕ) → a < functions W L → b < functions H L → (u : Bool) → active W H lev L a b ≡ u → u ≡ false
    passive a b ha hb false e = refl
    passive a b ha hb true e =
        absurd (omega (
          arith,
          total-through (functions H L) (λ r. count (functions W L) (λ c. active W H lev L c r)) b hb,
          count-before (functions W L) (λ c. active W H lev L c b) a ha e,
        ))
