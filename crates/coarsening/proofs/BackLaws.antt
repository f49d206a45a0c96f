-- Numbers of a level from those of the level after it: cells and quarters, and what undoing a step leaves.
use mathlib.Core.Path.{◌≡◌, sym, ap, ◌∙◌, subst}
use mathlib.Core.List.{List}
use Prim.Native.Nat.{ℕ, zero, suc, ◌+◌, ◌-◌, ◌*◌, ◌%◌, ◌≤◌, ◌<◌}
use native.Mathlib.Nat.{mul_comm, mul-le-mul_right, mul-le-mul}
use native.Mathlib.Decide.{dec_le, dec_lt}
use native.Mathlib.Numerals.{add-one}
use native.Mathlib.Omega.{arith}
use lib.IntN.{ℤ, pos, nat_abs}
use lib.ListN.{length, get_or, replicate, length-replicate, get_or-replicate}
use Rattle.finite.proofs.Table.{place-below}
use Rattle.surface.specs.Sheet.{functions, quarters}
use Rattle.surface.specs.Table.{places, limit}
use Rattle.surface.specs.Patch.{subdivided}
use Rattle.patch.specs.Patches.{entry}
use Rattle.parents.specs.Parents.{Back}
use Rattle.coarsening.specs.Coarser.{cell_at, side_at, Around, Stand, PutAt, Step, Coarser, Undone, Past, Backed}
use Rattle.coarsening.specs.Coarser.{Whole}

-- ---- cells and quarters

-- the functions around a quarter's cell are some of the level's
pub cell-fits : (n L q : ℕ) → L ≤ 3 → q < quarters n → cell_at L q + 4 ≤ functions n L
cell-fits n zero q hL hq = omega arith
cell-fits n (suc zero) q hL hq = omega arith
cell-fits n (suc (suc zero)) q hL hq = omega arith
cell-fits n (suc (suc (suc zero))) q hL hq = omega arith
cell-fits n (suc (suc (suc (suc L)))) q hL hq = absurd (omega arith)

-- a quarter of the sheet lies in one of the level's cells, and the other way round
pub quarter-fits : (n L q : ℕ) → L ≤ 2 → cell_at L q + 3 < functions n L → q < quarters n
quarter-fits n zero q hL hq = omega arith
quarter-fits n (suc zero) q hL hq = omega arith
quarter-fits n (suc (suc zero)) q hL hq = omega arith
quarter-fits n (suc (suc (suc L))) q hL hq = absurd (omega arith)

-- the quarters of a cell are below 32
pub side-fits : (n L x : ℕ) → n ≤ 8 → L ≤ 2 → x + 3 < functions n L → (x + 1) * side_at L ≤ 32
side-fits n zero x hn hL hx = omega arith
side-fits n (suc zero) x hn hL hx = omega arith
side-fits n (suc (suc zero)) x hn hL hx = omega arith
side-fits n (suc (suc (suc L))) x hn hL hx = absurd (omega arith)

-- a level has at most 67 functions along a side
pub functions-few : (n L : ℕ) → n ≤ 8 → L ≤ 3 → functions n L ≤ 67
functions-few n zero hn hL = omega arith
functions-few n (suc zero) hn hL = omega arith
functions-few n (suc (suc zero)) hn hL = omega arith
functions-few n (suc (suc (suc zero))) hn hL = omega arith
functions-few n (suc (suc (suc (suc L)))) hn hL = absurd (omega arith)

-- four rows from a cell on stand in a level
pub rows_fit : (n H L y : ℕ) → y + 4 ≤ functions H L → (y + 4) * n ≤ n * functions H L
rows_fit n H L y h = omega (arith, mul-le-mul_right n h, mul_comm n (functions H L))

pub few : (W H L : ℕ) → W ≤ 8 → H ≤ 8 → L ≤ 3 → places W H L ≤ 4489
few W H L hW hH hL = mul-le-mul (functions-few W L hW hL) (functions-few H L hH hL)

pub stand-less : (L : ℕ) (body : List ℕ) (fine : List ℤ) (n m : ℕ) → n ≤ m → Stand L body fine m → Stand L body fine n
stand-less L body fine n m h (b, f) = (λ e. omega (arith, b e), λ e. omega (arith, f e))

-- ---- a patch that was put

-- what stands at a function's place then: an entry of the patch, or what stood there
pub put-cases : (n x y : ℕ) (p : List (List ℤ)) (s t : List ℤ) → PutAt n x y p s t → (P : ℤ → Type 0) (a b : ℕ) → a < n
    → ((i j : ℕ) → i < 4 → j < 4 → x + i ≡ a → y + j ≡ b → P (entry p j i))
    → ((x ≤ a → a < x + 4 → y ≤ b → b < y + 4 → ⊥) → P (get_or s (b * n + a) (pos 0)))
    → P (get_or t (b * n + a) (pos 0))
put-cases n x y p s t put P a b ha inside outside = go (dec_le x a) (dec_lt a (x + 4)) (dec_le y b) (dec_lt b (y + 4))
  where
    other : (x ≤ a → a < x + 4 → y ≤ b → b < y + 4 → ⊥) → P (get_or t (b * n + a) (pos 0))
    other h = subst P (sym (put.outside a b ha h)) (outside h)

    here : x ≤ a → a < x + 4 → y ≤ b → b < y + 4 → P (get_or t (b * n + a) (pos 0))
    here xa ax yb by =
        let u : x + (a - x) ≡ a = omega arith in
        let v : y + (b - y) ≡ b = omega arith in
        subst P
        (sym (put.inside (a - x) (b - y) (omega arith) (omega arith)) ∙ (λ k. get_or t (v k * n + u k) (pos 0)))
        (inside (a - x) (b - y) (omega arith) (omega arith) u v)

    go : Dec (x ≤ a) → Dec (a < x + 4) → Dec (y ≤ b) → Dec (b < y + 4) → P (get_or t (b * n + a) (pos 0))
    go (yes xa) (yes ax) (yes yb) (yes by) = here xa ax yb by
    go (yes xa) (yes ax) (yes yb) (no h) = other (λ _ _ _ by. h by)
    go (yes xa) (yes ax) (no h) d = other (λ _ _ yb _. h yb)
    go (yes xa) (no h) c d = other (λ _ ax _ _. h ax)
    go (no h) b c d = other (λ xa _ _ _. h xa)

-- ---- one step

-- the patch that was found is what the finer numbers come from
pub step-found : (L q r x y : ℕ) (F : ℕ → ℕ → ℤ) (p patch : List (List ℤ)) → x ≡ cell_at (L + 1) q
    → y ≡ cell_at (L + 1) r → ((k l : ℕ) → k < 4 → l < 4 → entry p l k ≡ F (x + k) (y + l))
    → Back (x % 2) (y % 2) p patch → (C : ℕ → ℕ → ℤ) → Step L F C q r → (i j : ℕ) → i < 4 → j < 4
    → entry patch j i ≡ C (cell_at L q + i) (cell_at L r + j)
step-found L q r x y F p patch ex ey taken back C step =
    let u : x ≡ cell_at (suc L) q = ex ∙ ap (λ k. cell_at k q) (add-one L) in
    let v : y ≡ cell_at (suc L) r = ey ∙ ap (λ k. cell_at k r) (add-one L) in
    let c : ℕ → ℕ → ℤ = λ i j. C (cell_at L q + i) (cell_at L r + j) in
    back.0 c (λ k l hk hl. taken k l hk hl ∙ (λ t. F (u t + k) (v t + l)) ∙ step k l hk hl
    ∙ sym (λ t. subdivided (u t % 2) (v t % 2) c k l))

-- one of its numbers is past the limit
pub step_past : (W H L q r : ℕ) (C : ℕ → ℕ → ℤ) (patch : List (List ℤ)) → L ≤ 2 → q < quarters W → r < quarters H
    → ((i j : ℕ) → i < 4 → j < 4 → entry patch j i ≡ C (cell_at L q + i) (cell_at L r + j))
    → (l : ℕ) × (k : ℕ) × (l < 4) × (k < 4) × (limit L < nat_abs (entry patch l k)) → Past W H L C
step_past W H L q r C patch hL hq hr found (l, k, hl, hk, past) = (
  cell_at L q + k,
  cell_at L r + l,
  omega (arith, cell-fits W L q (omega arith) hq),
  omega (arith, cell-fits H L r (omega arith) hr),
  subst (λ z. limit L < nat_abs z) (found k l hk hl) past,
)

-- ---- numbers found

-- the number of function (a, b) is what F comes from, if it comes from anything
abbrev pub Good : ℕ → ℕ → (ℕ → ℕ → ℕ) → ℕ → (ℕ → ℕ → ℤ) → List ℤ → ℕ → ℕ → Type 0
Good W H lev L F s a b = (C : ℕ → ℕ → ℤ) → Coarser W H lev L F C → get_or s (b * functions W L + a) (pos 0) ≡ C a b

module _ (W H : ℕ) (lev : ℕ → ℕ → ℕ) (L : ℕ) (F : ℕ → ℕ → ℤ) (hL : L ≤ 2) where
  -- no row is done: all numbers are 0
  pub backed-none : (s : List ℤ) → s ≡ replicate (places W H L) (pos 0)
      → Backed W H lev L F (λ q r. cell_at L r < 0) s
  backed-none s e = record {
    size = ap length e ∙ length-replicate (places W H L) (pos 0);
    small = λ a b ha hb. rw (at a b ha hb) (omega arith);
    unreached = λ a b ha hb h. at a b ha hb;
    found = λ C h q r hq hr d. absurd (omega arith);
  }
    where
      at : (a b : ℕ) → a < functions W L → b < functions H L → get_or s (b * functions W L + a) (pos 0) ≡ pos 0
      at a b ha hb =
          ap (λ s. get_or s (b * functions W L + a) (pos 0)) e
          ∙ get_or-replicate (places W H L) (b * functions W L + a) (pos 0) (pos 0)
          (omega (
            arith,
            place-below (functions W L) (functions H L) a b ha hb,
            mul_comm (functions W L) (functions H L),
          ))

  -- all rows are done
  pub backed-all : (y : ℕ) (s : List ℤ) → functions H L ≤ y + 3 → Backed W H lev L F (λ q r. cell_at L r < y) s
      → Backed W H lev L F Whole s
  backed-all y s e b = record {
    size = b.size;
    small = b.small;
    unreached = b.unreached;
    found = λ C h q r hq hr _. b.found C h q r hq hr (omega (arith, cell-fits H L r (omega arith) hr));
  }

  -- a row more
  pub backed-row : (y : ℕ) (s : List ℤ)
      → ((q r : ℕ) → q < quarters W → cell_at L r ≡ y → lev q r ≤ L → (a b : ℕ) → Around L q a → Around L r b
      → Good W H lev L F s a b)
      → Backed W H lev L F (λ q r. cell_at L r < y) s → Backed W H lev L F (λ q r. cell_at L r < y + 1) s
  backed-row y s row b = record {
    size = b.size;
    small = b.small;
    unreached = b.unreached;
    found = λ C h q r hq hr d low a c aa ac. go C h q r hq hr d low a c aa ac (dec_lt (cell_at L r) y);
  }
    where
      go : (C : ℕ → ℕ → ℤ) → Coarser W H lev L F C → (q r : ℕ) → q < quarters W → r < quarters H
          → cell_at L r < y + 1 → lev q r ≤ L → (a c : ℕ) → Around L q a → Around L r c → Dec (cell_at L r < y)
          → get_or s (c * functions W L + a) (pos 0) ≡ C a c
      go C h q r hq hr d low a c aa ac (yes before) = b.found C h q r hq hr before low a c aa ac
      go C h q r hq hr d low a c aa ac (no here) = row q r hq (omega (arith, d, here)) low a c aa ac C h

  -- what undoing a step leaves
  module _ (q r : ℕ) (s t : List ℤ) (hq : q < quarters W) (hr : r < quarters H) (low : lev q r ≤ L)
      (u : Undone W L q r F s t) where
    cases : (P : ℤ → Type 0) (a b : ℕ) → a < functions W L
        → ((i j : ℕ) → i < 4 → j < 4 → cell_at L q + i ≡ a → cell_at L r + j ≡ b → P (entry u.patch j i))
        → ((cell_at L q ≤ a → a < cell_at L q + 4 → cell_at L r ≤ b → b < cell_at L r + 4 → ⊥)
        → P (get_or s (b * functions W L + a) (pos 0)))
        → P (get_or t (b * functions W L + a) (pos 0))
    cases = put-cases (functions W L) (cell_at L q) (cell_at L r) u.patch s t u.put

    put-good : (a b : ℕ) → (C : ℕ → ℕ → ℤ) → Coarser W H lev L F C → (i j : ℕ) → i < 4 → j < 4
        → cell_at L q + i ≡ a → cell_at L r + j ≡ b → entry u.patch j i ≡ C a b
    put-good a b C h i j hi hj ei ej = u.found C (h q r hq hr low) i j hi hj ∙ (λ z. C (ei z) (ej z))

    pub good_new : (a b : ℕ) → Around L q a → Around L r b → Good W H lev L F t a b
    good_new a b aa ab C h = cases (λ z. z ≡ C a b) a b (omega (arith, aa, cell-fits W L q (omega arith) hq))
        (put-good a b C h) (λ out. absurd (out aa.0 aa.1 ab.0 ab.1))

    pub good-kept : (a b : ℕ) → a < functions W L → Good W H lev L F s a b → Good W H lev L F t a b
    good-kept a b ha good C h = cases (λ z. z ≡ C a b) a b ha (put-good a b C h) (λ _. good C h)

    pub backed-kept : (done : ℕ → ℕ → Type 0) → Backed W H lev L F done s → Backed W H lev L F done t
    backed-kept done b = record {
      size = u.put.size ∙ b.size;
      small = λ c d hc hd. cases (λ z. nat_abs z ≤ limit L) c d hc
          (λ k l hk hl _ _. u.within l k hl hk) (λ _. b.small c d hc hd);
      unreached = λ c d hc hd none. cases (λ z. z ≡ pos 0) c d hc
          (λ k l hk hl ek el. absurd (none q r hq hr low (omega arith, omega arith) (omega arith, omega arith)))
          (λ _. b.unreached c d hc hd none);
      found = λ C h q' r' hq' hr' d low' a c aa ac.
          good-kept a c (omega (arith, aa, cell-fits W L q' (omega arith) hq'))
          (λ C h. b.found C h q' r' hq' hr' d low' a c aa ac) C h;
    }
