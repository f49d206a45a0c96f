-- Laws of the loops over a level's rows and over the levels: one row or level more.
use mathlib.Core.Path.{◌≡◌, refl, sym, ap, ap₂, ◌∙◌, subst}
use mathlib.Core.Bool.{Bool, true, false, not, ◌&&◌, ◌||◌}
use mathlib.Core.List.{List}
use Prim.Native.Nat.{ℕ, ◌+◌, ◌*◌, ◌≤◌, ◌<◌}
use native.Mathlib.Numerals.{add-one}
use lib.IntN.{ℤ, pos}
use lib.ListN.{length, get_or}
use Rattle.finite.specs.Range.{every, every2}
use Rattle.finite.proofs.Tests.{same_test, every-cong, every2-true, every2-intro}
use Rattle.surface.specs.Sheet.{functions}
use Rattle.surface.specs.Support.{active}
use Rattle.surface.specs.Table.{start}
use Rattle.coefficients.proofs.Parts.{part, part_length, row_at}
use Rattle.faults.specs.Faults.{Test, holds_at, holds_on}

-- ---- flags

not-and : (a b : Bool) → (not a || not b) ≡ not (a && b)
not-and true b = refl
not-and false b = refl

pub none-lost : (p : ℕ → Bool) {t : Bool} → t ≡ false → t ≡ not (every 0 p)
unfolding every
none-lost p e = e

-- the flag t of the numbers below n, with the flag u of n itself
pub lost-more : (n : ℕ) (p : ℕ → Bool) {t u v : Bool} → t ≡ not (every n p) → u ≡ not (p n) → v ≡ (t || u)
    → v ≡ not (every (n + 1) p)
unfolding every
lost-more n p e f g = g ∙ ap₂ ◌||◌ e f ∙ not-and (every n p) (p n) ∙ ap (λ k. not (every k p)) (sym (add-one n))

-- ---- rows outside and columns inside

every-swap : (n m : ℕ) (p : ℕ → ℕ → Bool) → every2 m n (λ b a. p a b) ≡ every2 n m p
every-swap n m p =
    same_test (every2 m n (λ b a. p a b)) (every2 n m p)
    (λ e. every2-intro n m p (λ a b ha hb. every2-true m n (λ b a. p a b) e b a hb ha))
    (λ e. every2-intro m n (λ b a. p a b) (λ b a hb ha. every2-true n m p e a b ha hb))

-- the test holds on the rows of level L below row k
abbrev pub holds_below : Test → ℕ → ℕ → (ℕ → ℕ → ℕ) → List ℤ → ℕ → ℕ → Bool
holds_below p W H lev cs L k = every k (λ b. every (functions W L) (λ a. holds_at p W H lev cs L a b))

-- all rows
pub rows-done : (W H : ℕ) (lev : ℕ → ℕ → ℕ) (cs : List ℤ) (L k : ℕ) → k ≡ functions H L → (p : Test)
    → not (holds_below p W H lev cs L k) ≡ not (holds_on p W H lev cs L)
rows-done W H lev cs L k e p =
    ap (λ k. not (holds_below p W H lev cs L k)) e
    ∙ ap not (every-swap (functions W L) (functions H L) (λ a b. holds_at p W H lev cs L a b))

-- a test of a row's coefficients is the test at the functions of row b
pub row-holds : (W H L b n from : ℕ) (cs : List ℤ) (lev : ℕ → ℕ → ℕ) → n ≡ functions W L
    → from ≡ start W H L + b * n → from + n ≤ length cs → (p : Test)
    → let row = part from n cs in
    every (length row) (λ a. p L (active W H lev L a b) (get_or row a (pos 0)))
    ≡ every (functions W L) (λ a. holds_at p W H lev cs L a b)
row-holds W H L b n from cs lev columns begins fits p =
    let row = part from n cs in
    ap (λ k. every k (λ a. p L (active W H lev L a b) (get_or row a (pos 0)))) (part_length from n cs fits ∙ columns)
    ∙ every-cong (functions W L) (λ a. p L (active W H lev L a b) (get_or row a (pos 0)))
    (λ a. holds_at p W H lev cs L a b)
    (λ a ha. ap (p L (active W H lev L a b))
    (row_at W H L b n from columns begins cs cs a refl (subst (λ k. a < k) (sym columns) ha)))
