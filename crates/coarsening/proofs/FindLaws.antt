-- The quarters in a cell, by the cell's level.
use mathlib.Core.Path.{◌≡◌, sym, subst}
use Prim.Native.Nat.{ℕ, zero, suc, ◌+◌, ◌*◌, ◌≤◌, ◌<◌}
use native.Mathlib.Decide.{dec_lt}
use native.Mathlib.Omega.{arith}
use Rattle.coarsening.specs.Coarser.{cell_at, side_at}

-- quarter q lies in cell x where it is one of those along the cell's side
of-side : (L x q : ℕ) → L ≤ 2 → x * side_at L ≤ q → q < (x + 1) * side_at L → cell_at L q ≡ x
of-side zero x q l low high = omega arith
of-side (suc zero) x q l low high = omega arith
of-side (suc (suc zero)) x q l low high = omega arith
of-side (suc (suc (suc L))) x q l low high = absurd (omega arith)

pub in_cell : (L s x q : ℕ) → L ≤ 2 → s ≡ side_at L → x * s ≤ q → q < (x + 1) * s → cell_at L q ≡ x
in_cell L s x q l e = subst (λ s. x * s ≤ q → q < (x + 1) * s → cell_at L q ≡ x) (sym e) (of-side L x q l)

on-side : (L x q : ℕ) → L ≤ 2 → cell_at L q ≡ x → (x * side_at L ≤ q) × (q < (x + 1) * side_at L)
on-side zero x q l e = (omega arith, omega arith)
on-side (suc zero) x q l e = (omega arith, omega arith)
on-side (suc (suc zero)) x q l e = (omega arith, omega arith)
on-side (suc (suc (suc L))) x q l e = absurd (omega arith)

pub along : (L s x q : ℕ) → L ≤ 2 → s ≡ side_at L → cell_at L q ≡ x → (x * s ≤ q) × (q < (x + 1) * s)
along L s x q l e i = subst (λ s. (x * s ≤ q) × (q < (x + 1) * s)) (sym e) (on-side L x q l i)

-- a cell's side ends in the table
pub ends : (L s x : ℕ) → s ≡ side_at L → (x + 1) * side_at L ≤ 32 → (x + 1) * s ≤ 32
ends L s x e h = subst (λ s. (x + 1) * s ≤ 32) (sym e) h

-- the quarter squares of cell (x, y) in the rows of quarters before n are above the level
abbrev pub Above : ℕ → ℕ → ℕ → (ℕ → ℕ → ℕ) → ℕ → Type 0
Above L x y lev n = (q r : ℕ) → cell_at L q ≡ x → cell_at L r ≡ y → r < n → L < lev q r

-- so are those in row r that are before column n
abbrev pub RowAbove : ℕ → ℕ → (ℕ → ℕ → ℕ) → ℕ → ℕ → Type 0
RowAbove L x lev r n = (q : ℕ) → cell_at L q ≡ x → q < n → L < lev q r

pub one-more : (L x r n : ℕ) (lev : ℕ → ℕ → ℕ) → RowAbove L x lev r n → L < lev n r → RowAbove L x lev r (n + 1)
one-more L x r n lev above here q e h = go (dec_lt q n)
  where
    go : Dec (q < n) → L < lev q r
    go (yes p) = above q e p
    go (no p) =
        let last : n ≡ q = omega (arith, p, h) in
        subst (λ q. L < lev q r) last here

pub row-more : (L s x y r n : ℕ) (lev : ℕ → ℕ → ℕ) → L ≤ 2 → s ≡ side_at L → (x + 1) * s ≤ n → Above L x y lev r
    → RowAbove L x lev r n → Above L x y lev (r + 1)
row-more L s x y r n lev l side full above row q p eq ep h = go (dec_lt p r)
  where
    go : Dec (p < r) → L < lev q p
    go (yes k) = above q p eq ep k
    go (no k) =
        let last : r ≡ p = omega (arith, k, h) in
        subst (λ p. L < lev q p) last (row q eq (omega (arith, full, (along L s x q l side eq).1)))
