-- Windows of rows: their numbers are small, those of level 0 are the coefficients, and each row of the next level has
-- its parents in one.
use mathlib.Core.Path.{◌≡◌, refl, sym, ap, ◌∙◌, subst}
use mathlib.Core.Bool.{cond}
use mathlib.Core.List.{List, ◌++◌}
use Prim.Native.Nat.{ℕ, ◌+◌, ◌-◌, ◌*◌, ◌/◌, ◌%◌, ◌^◌, ◌≤◌, ◌<◌}
use native.Mathlib.Nat.{add-mul, suc-mul, mul_comm, mul-le-mul_left, mul-le-mul_right, pow-le-pow_right}
use native.Mathlib.Numerals.{add-one}
use native.Mathlib.Decide.{dec_lt}
use native.Mathlib.Omega.{arith}
use lib.IntN.{ℤ, pos, ◌*ℤ◌}
use lib.ListN.{length, get_or, take, get_or-append}
use lib.Seq.{length-take-le, get_or-take, get_or-append-add, take_at}
use Rattle.finite.specs.Range.{sum2}
use Rattle.finite.proofs.Table.{place-split, place-below}
use Rattle.surface.specs.Sheet.{functions}
use Rattle.surface.specs.Support.{in_region}
use Rattle.surface.specs.Truncation.{weight2}
use Rattle.surface.specs.Table.{start, slots, coefficients}
use Rattle.surface.specs.Carry.{carried}
use Rattle.surface.proofs.TableLaws.{start-before}
use Rattle.rows.specs.Rows.{levels_of}
use Rattle.coefficients.proofs.Parts.{part, part_length, part_at, row_at}
use Rattle.carry.specs.Carried.{CarriedFit, Within, RowsOf, next_number, NextRow}
use Rattle.togrid.specs.Strips.{value, Row, Window}

-- numbers that were put at the front of an array and are lent from there
pub lent-front : (P : List ℤ → Type 0) (n : ℕ) (s rest : List ℤ) → length s ≡ n → P s → P (take n (s ++ rest))
lent-front P n s rest size p = subst P (sym (take_at s rest n size)) p

-- a row stands in a slice of rows
pub row_inside : (i m n : ℕ) {size : ℕ} → i < m → size ≡ m * n → i * n + n ≤ size
row_inside i m n h e = omega (arith, mul-le-mul_right n h, suc-mul i n)

-- one row more, put in its place
pub rows_more : (n i first from : ℕ) (f : ℕ → ℕ → ℤ) (out row rest : List ℤ) → from ≡ i * n → i * n ≤ length out
    → length row ≡ n → RowsOf n i first f out → ((a : ℕ) → a < n → get_or row a (pos 0) ≡ f a (first + i))
    → RowsOf n (i + 1) first f (take from out ++ (row ++ rest))
rows_more n i first from f out row rest begins fits size before new a j ha hj = go (dec_lt j i)
  where
    front : length (take from out) ≡ i * n
    front = length-take-le from out (omega arith) ∙ begins

    go : Dec (j < i) → get_or (take from out ++ (row ++ rest)) (j * n + a) (pos 0) ≡ f a (first + j)
    go (yes l) =
        let p : j * n + a < from = omega (arith, place-below n i a j ha l) in
        get_or-append (take from out) (row ++ rest) (pos 0) (j * n + a) (omega (arith, front))
        ∙ get_or-take from out (j * n + a) (pos 0) p
        ∙ before a j ha l
    go (no l) =
        let e : i ≡ j = omega arith in
        subst (λ j. get_or (take from out ++ (row ++ rest)) (j * n + a) (pos 0) ≡ f a (first + j)) e
        (ap (λ k. get_or (take from out ++ (row ++ rest)) (k + a) (pos 0)) (sym front)
        ∙ get_or-append-add (take from out) (row ++ rest) a (pos 0)
        ∙ get_or-append row rest (pos 0) a (omega arith)
        ∙ new a ha)

module _ (W H : ℕ) (rows : List ℕ) (cs : List ℤ) where
  -- a window's numbers are small enough for a sum of them
  pub window-within : (L first m : ℕ) (s : List ℤ) → L < 3 → CarriedFit W H rows cs → Window W H rows cs L first m s
      → Within 131072000 s
  window-within L first m s hL fit w k l =
      let q = place-split (functions W L) m k (subst (λ i. k < i) w.size l) in
      let same : get_or s k (pos 0) ≡ value W H rows cs L q.0 (first + q.1) =
      ap (λ k. get_or s k (pos 0)) q.4 ∙ w.values q.0 q.1 q.2 q.3 in
      let power : 64 ^ L ≤ 4096 = pow-le-pow_right {n = 64} (omega arith) {i = L} {j = 2} (omega arith) in
      rw same
      (omega (
        arith,
        fit L q.0 (first + q.1) (omega arith) q.2 (omega (arith, w.inside, q.3)),
        mul-le-mul_left 32000 power,
      ))

  -- level 0 carries its coefficients
  pub window-zero : (y n : ℕ) → n ≡ functions W 0 → y < H → y * n + 4 * n ≤ length cs
      → Window W H rows cs 0 y 4 (part (y * n) (4 * n) cs)
  unfolding carried coefficients start
  window-zero y n columns hy fits = record {
    inside = omega arith;
    size = part_length (y * n) (4 * n) cs fits ∙ ap (λ n. 4 * n) columns;
    values = λ a j ha hj.
        let k = functions W 0 in
        let here : y * n + (j * k + a) ≡ 0 + ((y + j) * k + a) =
        omega (arith, add-mul y j k, ap (λ n. y * n) columns) in
        part_at (y * n) (4 * n) cs (j * k + a)
        (subst (λ n. j * k + a < 4 * n) (sym columns) (place-below k 4 a j ha hj))
        ∙ ap (λ i. get_or cs i (pos 0)) here;
  }

  -- the four rows of a strip stand in the slice
  pub strip-fits : (y n : ℕ) → n ≡ functions W 0 → y < H → length cs ≡ slots W H → y * n + 4 * n ≤ length cs
  unfolding start
  strip-fits y n columns hy size =
      let k = functions W 0 in
      let rows : y + 4 ≤ functions H 0 = omega arith in
      rw columns
      (omega (
        arith,
        mul-le-mul_right k rows,
        add-mul y 4 k,
        mul_comm k (functions H 0),
        start-before W H 0 4 (omega arith),
      ))

  -- a row from the window of the level before it
  pub row-carried : (L b first m from n : ℕ) (coarse row : List ℤ) → n ≡ functions W (L + 1)
      → from ≡ start W H (L + 1) + b * n → b / 2 - first + b % 2 + 2 ≤ m → Window W H rows cs L first m coarse
      → NextRow W H rows L b first coarse (part from n cs) row → Row W H rows cs (L + 1) b row
  unfolding carried
  row-carried L b first m from n coarse row columns begins few w next = (
    next.0,
    λ a ha.
        next.1 (value W H rows cs L) (λ c j hc hj. w.values c j hc (omega arith)) a ha
        ∙ ap (λ z. next_number W H (levels_of rows) L (value W H rows cs L) z a b)
        (row_at W H (L + 1) b n from columns begins cs cs a refl (subst (λ k. a < k) (sym columns) ha))
        ∙ ap (λ k. cond (in_region W H (levels_of rows) k a b) (coefficients W H cs k a b)
        (sum2 (functions W L) (functions H L) (λ c d. weight2 c d a b *ℤ value W H rows cs L c d))) (add-one L)
        ∙ ap (λ k. value W H rows cs k a b) (sym (add-one L)),
  )
