-- A row held against what the coarser level gives.
use mathlib.Core.Path.{◌≡◌, sym, ap, ◌∙◌}
use mathlib.Core.Bool.{Bool, true, false}
use mathlib.Core.List.{List, ◌++◌}
use Prim.Native.Nat.{ℕ, ◌+◌, ◌*◌, ◌≤◌, ◌<◌}
use native.Mathlib.Nat.{zero-add, mul-le-mul}
use native.Mathlib.Omega.{arith}
use lib.IntN.{ℤ, pos}
use lib.ListN.{length, get_or, take, replicate, length-replicate, get_or-replicate}
use lib.Seq.{take_at, ext_get_or, get_or-take, length-take-le}
use Rattle.surface.specs.Sheet.{functions}
use Rattle.surface.specs.Table.{places}
use Rattle.carry.specs.Carried.{RowsOf, next_number}
use Rattle.fromgrid.specs.Converts.{in_rows, RowTold}

-- a slice from its first row on
pub rows_whole : (n m : ℕ) (s : List ℤ) → RowsOf n m 0 (in_rows n s) s
rows_whole n m s a j ha hj = ap (λ k. get_or s (k * n + a) (pos 0)) (sym (zero-add j))

-- numbers that were put at the front of an array and are lent from there
pub lent-front : (n : ℕ) (s rest : List ℤ) → length s ≡ n → take n (s ++ rest) ≡ s
lent-front n s rest size = take_at s rest n size

module _ (W H : ℕ) (lev : ℕ → ℕ → ℕ) (L b : ℕ) (f F : ℕ → ℕ → ℤ) (own row : List ℤ)
    (own_is : (a : ℕ) → a < functions W (L + 1) → get_or own a (pos 0) ≡ F a b)
    (row_is : (a : ℕ) → a < functions W (L + 1)
    → get_or row a (pos 0) ≡ next_number W H lev L f (get_or own a (pos 0)) a b) where
  given : (a : ℕ) → a < functions W (L + 1) → get_or row a (pos 0) ≡ next_number W H lev L f (F a b) a b
  given a ha = row_is a ha ∙ ap (λ z. next_number W H lev L f z a b) (own_is a ha)

  pub row_told : (t : Bool) → length row ≡ functions W (L + 1)
      → (t ≡ true → (k : ℕ) → k < length row → get_or row k (pos 0) ≡ get_or own k (pos 0))
      → (t ≡ false → (k : ℕ) × (k < length row) × (get_or row k (pos 0) ≡ get_or own k (pos 0) → ⊥))
      → RowTold W H lev L f F b t
  row_told t size same differ = (
    λ yes a ha. sym (own_is a ha) ∙ sym (same yes a (omega (arith, size))) ∙ given a ha,
    λ no agree.
        let (k, hk, apart) = differ no in
        let ha : k < functions W (L + 1) = omega (arith, size) in
        apart (given k ha ∙ sym (agree k ha) ∙ sym (own_is k ha)),
  )

-- room for the numbers of a level at the front of an array of zeros
pub zeros-front : (n m k : ℕ) → n ≡ k → k ≤ m → take n (replicate m (pos 0)) ≡ replicate k (pos 0)
zeros-front n m k e h =
    let size : length (take k (replicate m (pos 0))) ≡ k =
    length-take-le k (replicate m (pos 0)) (omega (arith, length-replicate m (pos 0))) in
    ap (λ n. take n (replicate m (pos 0))) e
    ∙ ext_get_or (pos 0) (take k (replicate m (pos 0))) (replicate k (pos 0))
    (size ∙ sym (length-replicate k (pos 0)))
    (λ i l.
    let hi : i < k = omega (arith, size) in
    get_or-take k (replicate m (pos 0)) i (pos 0) hi
    ∙ get_or-replicate m i (pos 0) (pos 0) (omega arith)
    ∙ sym (get_or-replicate k i (pos 0) (pos 0) hi))

-- and the room is enough
pub rooms : (W H : ℕ) → W ≤ 8 → H ≤ 8 → (places W H 0 ≤ 121) × (places W H 1 ≤ 361) × (places W H 2 ≤ 1225)
rooms W H hW hH =
    let w₀ : functions W 0 ≤ 11 = omega arith in
    let h₀ : functions H 0 ≤ 11 = omega arith in
    let w₁ : functions W 1 ≤ 19 = omega arith in
    let h₁ : functions H 1 ≤ 19 = omega arith in
    let w₂ : functions W 2 ≤ 35 = omega arith in
    let h₂ : functions H 2 ≤ 35 = omega arith in
    (mul-le-mul w₀ h₀, mul-le-mul w₁ h₁, mul-le-mul w₂ h₂)
