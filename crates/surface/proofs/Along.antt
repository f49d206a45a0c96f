-- What the functions along one direction have at a point, by level and index: four polynomials of the point's cell, be
-- they the splines or their derivatives.
use mathlib.Core.Path.{◌≡◌, refl, sym, ap, ap₂, ◌∙◌}
use mathlib.Core.Logic.{◌⊎◌, inl, inr}
use mathlib.Core.Bool.{true, cond, ◌&&◌}
use Prim.Native.Nat.{ℕ, zero, suc, ◌+◌, ◌-◌, ◌*◌, ◌≤◌, ◌<◌}
use native.Mathlib.Decide.{dec_le}
use native.Mathlib.Nat.{add-mul, add-sub_cancel_left, le-add_right, le_trans, zero-add}
use native.Mathlib.Nat.{mul-le-mul_right, le_of_mul-le-mul_right}
use native.Mathlib.Omega.{arith}
use lib.Dec.{leb}
use lib.IntN.{ℤ, pos, ◌*ℤ◌, zero-*ℤ, *ℤ-zero}
use borrow.Author.Tests.{le-leb, lt-leb, lt-ltb}
use Rattle.finite.specs.Range.{sum}
use Rattle.finite.proofs.Sum.{sum-window, sum-cong, sum-zero}
use Rattle.surface.specs.Sheet.{functions, steps}
use Rattle.surface.specs.Spline.{cell_of}
use Rattle.surface.specs.Support.{holds_along}
use Rattle.surface.specs.Truncation.{weight}
use Rattle.surface.proofs.SplineCell.{CellPoint, cell-inside, cell-point, cell-step}
use Rattle.surface.proofs.SplineWeight.{eighths-pos, eighths-step, weight-after, weight-before, weight-shift}

-- they keep the two-scale relation, are 0 where their support does not hold the point, and but for the four of its cell
pub record Along (n u : ℕ) (x : ℕ → ℕ → ℤ) : Type 0 where
  pub two-scale : (L a : ℕ) → L < 3 → x L a ≡ sum (functions n (suc L)) (λ c. pos (weight a c) *ℤ x (suc L) c)
  pub inside : (L a : ℕ) → L ≤ 3 → (x L a ≡ pos 0) ⊎ (holds_along L a u ≡ true)
  pub low : (L a : ℕ) → a < cell_of n L u → x L a ≡ pos 0
  pub far : (L a : ℕ) → cell_of n L u + 4 ≤ a → x L a ≡ pos 0

-- only the four of the point's cell are in a weighted sum
pub window : (n u : ℕ) → 0 < n → u ≤ 128 * n → (x : ℕ → ℕ → ℤ) → Along n u x → (L : ℕ) → L ≤ 3 → (f : ℕ → ℤ)
    → sum (functions n L) (λ a. x L a *ℤ f a) ≡ sum 4 (λ k. x L (cell_of n L u + k) *ℤ f (cell_of n L u + k))
window n u p h x along L l f =
    let i = cell-inside n L u p h l in
    sum-window (functions n L) (cell_of n L u) 4 (λ a. x L a *ℤ f a) (omega arith)
    (λ a m. ap (λ t. t *ℤ f a) (along.low L a m) ∙ zero-*ℤ (f a))
    (λ a m. ap (λ t. t *ℤ f a) (along.far L a m) ∙ zero-*ℤ (f a))

-- ---- four polynomials of a cell: P k r s is the k-th at r steps of s

-- the function with index a of level L at u, by the polynomials of the cell c, and of the cell that holds u
abbrev pub piece_in : (ℕ → ℕ → ℕ → ℤ) → ℕ → ℕ → ℕ → ℕ → ℤ
piece_in P L c a u = cond (leb c a) (P (a - c) (u - c * steps L) (steps L)) (pos 0)

abbrev pub piece_at : (ℕ → ℕ → ℕ → ℤ) → ℕ → ℕ → ℕ → ℕ → ℤ
piece_at P n L a u = piece_in P L (cell_of n L u) a u

-- there are four; those of a cell are made of those of its halves; a function is 0 at both ends of its support; and at
-- the end of a cell it has what it has at the start of the next
pub record Pieces (P : ℕ → ℕ → ℕ → ℤ) : Type 0 where
  pub none : (k r s : ℕ) → 4 ≤ k → P k r s ≡ pos 0
  pub near-half : (k r q : ℕ) → k < 4
      → P k r (r + (r + 2 * q)) ≡ sum 4 (λ j. pos (weight k j) *ℤ P j r (r + q))
  pub far-half : (k r q : ℕ) → k < 4
      → P k (r + q + r) (r + q + r + q) ≡ sum 4 (λ j. pos (weight k (1 + j)) *ℤ P j r (r + q))
  pub first : (s : ℕ) → P 3 0 s ≡ pos 0
  pub last : (s : ℕ) → P 0 s s ≡ pos 0
  pub at-knot : (k s : ℕ) → P (suc k) s s ≡ P k 0 s

-- how far a point is into the cell c, of D steps, from how far it is into its half c', of d steps
offset :
    (c c' h D d r r₀ u : ℕ) → c' ≡ 2 * c + h → D ≡ 2 * d → u ≡ c * D + r₀ → u ≡ c' * d + r → r₀ ≡ h * d + r
offset c c' h D d r r₀ u e f p q = omega (arith, ap (λ x. x * d) e, ap (λ x. c * x) f)

-- of two cells of s steps that have a point, the later one starts where the earlier one ends
next-cell : (s c d u : ℕ) → 0 < s → d * s ≤ u → u ≤ (c + 1) * s → c < d → (d ≡ c + 1) × (u ≡ (c + 1) * s)
next-cell s c d u p low high l =
    let step : c + 1 ≤ d = omega arith in
    let after : (c + 1) * s ≤ d * s = mul-le-mul_right s step in
    let most : d ≤ c + 1 = le_of_mul-le-mul_right (le_trans low high) p in
    (omega arith, omega arith)

module _ (P : ℕ → ℕ → ℕ → ℤ) (pieces : Pieces P) where
  -- at a knot the cells on both sides agree
  knot : (L c a : ℕ) → piece_in P L c a ((c + 1) * steps L) ≡ piece_in P L (c + 1) a ((c + 1) * steps L)
  knot L c a = go (dec_le c a) (dec_le (c + 1) a)
    where
      s : ℕ
      s = steps L

      end : (c + 1) * s - c * s ≡ s
      end = omega arith

      start : (c + 1) * s - (c + 1) * s ≡ 0
      start = omega arith

      go : Dec (c ≤ a) → Dec (c + 1 ≤ a) → piece_in P L c a ((c + 1) * s) ≡ piece_in P L (c + 1) a ((c + 1) * s)
      go (no h) (yes k) = absurd (omega arith)
      go (no h) (no k) = rw (lt-leb c a (omega arith), lt-leb (c + 1) a (omega arith))
      go (yes h) (no k) =
          let first : a - c ≡ 0 = omega arith in
          rw (le-leb c a h, lt-leb (c + 1) a (omega arith), end, first) (pieces.last s)
      go (yes h) (yes k) =
          let next : a - c ≡ suc (a - (c + 1)) = omega arith in
          rw (le-leb c a h, le-leb (c + 1) a k, end, start, next) (pieces.at-knot (a - (c + 1)) s)

  -- so each cell that has the point, in it or on its edge, gives what the cell that holds it gives
  pub cells_meet : (n L a u c : ℕ) → 0 < n → u ≤ 128 * n → L ≤ 3 → c * steps L ≤ u → u ≤ (c + 1) * steps L
      → piece_in P L c a u ≡ piece_at P n L a u
  cells_meet n L a u c p h l low high = go (dec_le d c) (dec_le c d)
    where
      s : ℕ
      s = steps L

      d : ℕ
      d = cell_of n L u

      side : 0 < s
      side = omega (arith, eighths-pos L)

      go : Dec (d ≤ c) → Dec (c ≤ d) → piece_in P L c a u ≡ piece_in P L d a u
      go (yes f) (yes e) = let same : c ≡ d = omega arith in ap (λ c. piece_in P L c a u) same
      go (no f) _ =
          let i = cell-inside n L u p h l in
          let (e, g) = next-cell s c d u side i.1 high (omega arith) in
          ap (piece_in P L c a) g ∙ knot L c a ∙ sym (ap₂ (λ c u. piece_in P L c a u) e g)
      go (yes f) (no e) =
          let i = cell-inside n L u p h l in
          let (e, g) = next-cell s d c u side low i.2 (omega arith) in
          ap₂ (λ c u. piece_in P L c a u) e g ∙ sym (knot L d a) ∙ sym (ap (piece_in P L d a) g)

  weighs-none : (w : ℕ → ℕ) (x : ℕ → ℤ) → ((j : ℕ) → j < 4 → w j ≡ 0) → sum 4 (λ j. pos (w j) *ℤ x j) ≡ pos 0
  weighs-none w x z = sum-zero 4 (λ j. pos (w j) *ℤ x j) (λ j l. rw (z j l) (zero-*ℤ (x j)))

  -- a piece of a cell on its h-th half, of d steps
  half : (h k d r q r₀ q₀ : ℕ) → h ≤ 1 → d ≡ r + q → r₀ ≡ h * d + r → r₀ + q₀ ≡ 2 * d
      → P k r₀ (r₀ + q₀) ≡ sum 4 (λ j. pos (weight k (h + j)) *ℤ P j r (r + q))
  half h k d r q r₀ q₀ l s e f = go h l e (dec_le 4 k)
    where
      go : (h : ℕ) → h ≤ 1 → r₀ ≡ h * d + r → Dec (4 ≤ k)
          → P k r₀ (r₀ + q₀) ≡ sum 4 (λ j. pos (weight k (h + j)) *ℤ P j r (r + q))
      -- a parent that starts after the cell has none of the cell's four
      go h l e (yes m) =
          pieces.none k r₀ (r₀ + q₀) m
          ∙ sym (weighs-none (λ j. weight k (h + j)) (λ j. P j r (r + q))
          (λ j b. weight-before k (h + j) (omega arith)))
      go zero l e (no m) =
          let e₁ : r₀ ≡ r = omega arith in
          let e₂ : q₀ ≡ r + 2 * q = omega arith in
          simp zero-add (ap₂ (λ x y. P k x (x + y)) e₁ e₂ ∙ pieces.near-half k r q (omega arith))
      go (suc zero) l e (no m) =
          let e₁ : r₀ ≡ r + q + r = omega arith in
          let e₂ : q₀ ≡ q = omega arith in
          ap₂ (λ x y. P k x (x + y)) e₁ e₂ ∙ pieces.far-half k r q (omega arith)
      go (suc (suc h)) l e (no m) = absurd (omega arith)

  module _ (n u : ℕ) (p : 0 < n) (b : u ≤ 128 * n) where
    abbrev at : ℕ → ℕ → ℤ
    at L a = piece_at P n L a u

    -- the function k after the first of the four has the k-th piece, and all but those four have nothing
    pub piece-in : (L k : ℕ) → at L (cell_of n L u + k) ≡ P k (u - cell_of n L u * steps L) (steps L)
    piece-in L k =
        let c = cell_of n L u in
        rw (le-leb c (c + k) (le-add_right c k), add-sub_cancel_left c k)

    piece-low : (L a : ℕ) → a < cell_of n L u → at L a ≡ pos 0
    piece-low L a h = rw (lt-leb (cell_of n L u) a h)

    piece-far : (L a : ℕ) → cell_of n L u + 4 ≤ a → at L a ≡ pos 0
    piece-far L a h =
        rw (le-leb (cell_of n L u) a (omega arith)) (pieces.none (a - cell_of n L u) _ _ (omega arith))

    -- with the point r steps into its cell, and q before its end
    piece-value : (L a k r q : ℕ) → a ≡ cell_of n L u + k → u ≡ cell_of n L u * steps L + r → steps L ≡ r + q
        → at L a ≡ P k r (r + q)
    piece-value L a k r q at point side =
        let into : u - cell_of n L u * steps L ≡ r = omega arith in
        ap (λ y. piece_at P n L y u) at ∙ piece-in L k ∙ ap₂ (λ x y. P k x y) into side

    -- the two-scale relation: of the finer functions those of the point's cell are not 0
    piece-two-scale : (L a : ℕ) → L < 3 → at L a ≡ sum (functions n (suc L)) (λ c. pos (weight a c) *ℤ at (suc L) c)
    piece-two-scale L a l =
        go (dec_le c a) (cell-step n L u p l b)
        ∙ sym (sum-window (functions n (suc L)) c' 4 (λ d. pos (weight a d) *ℤ at (suc L) d)
        (omega (arith, cell-inside n (suc L) u p b l))
        (λ d m. ap (λ t. pos (weight a d) *ℤ t) (piece-low (suc L) d m) ∙ *ℤ-zero (pos (weight a d)))
        (λ d m. ap (λ t. pos (weight a d) *ℤ t) (piece-far (suc L) d m) ∙ *ℤ-zero (pos (weight a d))))
      where
        c : ℕ
        c = cell_of n L u

        c' : ℕ
        c' = cell_of n (suc L) u

        twice : steps L ≡ 2 * steps (suc L)
        twice = omega (arith, eighths-step L l)

        go : Dec (c ≤ a) → (h : ℕ) × (h ≤ 1) × (c' ≡ 2 * c + h)
            → at L a ≡ sum 4 (λ j. pos (weight a (c' + j)) *ℤ at (suc L) (c' + j))
        go (no g) (h, m, e) =
            piece-low L a (omega arith)
            ∙ sym (weighs-none (λ j. weight a (c' + j)) (λ j. at (suc L) (c' + j))
            (λ j i. weight-after a (c' + j) (omega arith)))
        go (yes g) (h, m, e) =
            let k = a - c in
            let place : a ≡ c + k = omega arith in
            let record { r = r; q = q; side = side; point = point; value = _ } = cell-point n (suc L) u p b l in
            let record { r = r₀; q = q₀; side = s₀; point = p₀; value = _ } = cell-point n L u p b (omega arith) in
            let start = offset c c' h (steps L) (steps (suc L)) r r₀ u e twice p₀ point in
            piece-value L a k r₀ q₀ place p₀ s₀
            ∙ half h k (steps (suc L)) r q r₀ q₀ m side start (sym s₀ ∙ twice)
            ∙ sum-cong 4 (λ j. pos (weight k (h + j)) *ℤ P j r (r + q))
            (λ j. pos (weight a (c' + j)) *ℤ at (suc L) (c' + j))
            (λ j _. sym (ap₂ (λ x y. pos x *ℤ y) (weight-shift c k (h + j) a (c' + j) place (omega arith))
            (piece-value (suc L) (c' + j) j r q refl point side)))

    -- a piece is 0, or has its point inside its function's support
    piece-support : (k s r q : ℕ) → 0 < s → s ≡ r + q
        → (P k r (r + q) ≡ pos 0) ⊎ ((k * s < r + 3 * s) × (r < (k + 1) * s))
    piece-support zero s r zero m e =
        let end : r + 0 ≡ r = omega arith in inl (ap (P 0 r) end ∙ pieces.last r)
    piece-support zero s r (suc q) m e = inr (omega arith)
    piece-support (suc zero) s r q m e = inr (omega arith)
    piece-support (suc (suc zero)) s r q m e = inr (omega arith)
    piece-support (suc (suc (suc zero))) s zero q m e = inl (pieces.first (0 + q))
    piece-support (suc (suc (suc zero))) s (suc r) q m e = inr (omega arith)
    piece-support (suc (suc (suc (suc k)))) s r q m e = inl (pieces.none _ r (r + q) (omega arith))

    piece_inside : (L a : ℕ) → L ≤ 3 → (at L a ≡ pos 0) ⊎ (holds_along L a u ≡ true)
    piece_inside L a l = go (dec_le c a)
      where
        c : ℕ
        c = cell_of n L u

        s : ℕ
        s = steps L

        go : Dec (c ≤ a) → (at L a ≡ pos 0) ⊎ (holds_along L a u ≡ true)
        go (no g) = inl (piece-low L a (omega arith))
        go (yes g) = decide (piece-support k s r q (omega (arith, eighths-pos L)) side)
          where
            k : ℕ
            k = a - c

            point' : CellPoint n L u
            point' = cell-point n L u p b l

            r : ℕ
            r = point'.r

            q : ℕ
            q = point'.q

            side : s ≡ r + q
            side = point'.side

            decide : (P k r (r + q) ≡ pos 0) ⊎ ((k * s < r + 3 * s) × (r < (k + 1) * s))
                → (at L a ≡ pos 0) ⊎ (holds_along L a u ≡ true)
            decide (inl e) = inl (piece-value L a k r q (omega arith) point'.point side ∙ e)
            decide (inr within) =
                let place : a ≡ c + k = omega arith in
                let whole : a * s ≡ c * s + k * s = ap (λ y. y * s) place ∙ add-mul c k s in
                inr (ap₂ ◌&&◌ (lt-ltb (a * s) (u + 3 * s) (omega (arith, point'.point)))
                (lt-ltb u ((a + 1) * s) (omega (arith, point'.point))))

    pub pieces-along : Along n u at
    pieces-along = record { two-scale = piece-two-scale; inside = piece_inside; low = piece-low; far = piece-far }
