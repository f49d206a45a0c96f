-- The derivatives of the four splines of a cell: with s = r + q each is a difference of sums of monomials in r and q.
-- They keep the two-scale relation, as the splines do.
use mathlib.Core.List.{[], ◌∷◌}
use mathlib.Core.Path.{◌≡◌, refl, sym, ap, ◌∙◌, subst}
use Prim.Native.Nat.{ℕ, zero, suc, ◌+◌, ◌-◌, ◌*◌, ◌≤◌, ◌<◌}
use native.Mathlib.Nat.{add-sub_cancel_left, sub_self, add-zero, zero-add}
use native.Mathlib.Decide.{dec_le, ℕ_discrete}
use lib.Dec.{lit<}
use native.Mathlib.Omega.{arith}
use lib.IntN.{ℤ, pos, nat_abs, ◌-ℤ◌, ◌*ℤ◌, +ℤ_idl, +ℤ_idr}
use lib.ListN.{get_or}
use Rattle.finite.specs.Range.{sum}
use Rattle.finite.proofs.Sum.{sum-cong}
use Rattle.finite.proofs.Difference.{difference, add-differences, scale-difference, difference-size}
use Rattle.finite.proofs.Four.{each}
use Rattle.surface.specs.Truncation.{weight}
use Rattle.surface.specs.Slopes.{piece_slope}
use Rattle.surface.proofs.SplinePiece.{square}
use Rattle.surface.proofs.Along.{Pieces}

-- what a derivative has above 0 and what below
abbrev pub rising : ℕ → ℕ → ℕ → ℕ
rising k r q = get_or (0 ∷ 0 ∷ (3 * (q * q) + 12 * (r * q)) ∷ (3 * (r * r)) ∷ []) k 0

abbrev pub falling : ℕ → ℕ → ℕ → ℕ
falling k r q = get_or ((3 * (q * q)) ∷ (3 * (r * r) + 12 * (r * q)) ∷ 0 ∷ 0 ∷ []) k 0

abbrev parts : ℕ → ℕ → ℕ → ℤ
parts k r q = pos (rising k r q) -ℤ pos (falling k r q)

pub slope-none : (k r s : ℕ) → 4 ≤ k → piece_slope k r s ≡ pos 0
unfolding piece_slope
slope-none k r s h =
    let e : k ≡ suc (suc (suc (suc (k - 4)))) = omega arith in
    rw e

pub slope-parts : (k r q : ℕ) → k < 4 → piece_slope k r (r + q) ≡ parts k r q
unfolding piece_slope
slope-parts k r q =
    each (λ k. piece_slope k r (r + q) ≡ parts k r q)
    (simp (square, add-sub_cancel_left) (sym (+ℤ_idl _)))
    (simp square (difference (9 * (r * r)) (12 * (r * (r + q))) (rising 1 r q) (falling 1 r q) (omega arith)))
    (simp square
    (difference (6 * (r * (r + q)) + 3 * ((r + q) * (r + q))) (9 * (r * r)) (rising 2 r q) (falling 2 r q)
    (omega arith)))
    (simp square (sym (+ℤ_idr _)))
    k

-- a weighted sum of differences
weigh-parts : (w a b : ℕ → ℕ)
    → sum 4 (λ j. pos (w j) *ℤ (pos (a j) -ℤ pos (b j)))
    ≡ pos (w 0 * a 0 + w 1 * a 1 + w 2 * a 2 + w 3 * a 3) -ℤ pos (w 0 * b 0 + w 1 * b 1 + w 2 * b 2 + w 3 * b 3)
unfolding sum
weigh-parts w a b =
    simp (+ℤ_idl, scale-difference, add-differences)

-- a derivative of a cell is made of those of its half where its parts are
made_of : (k r₀ q₀ r q : ℕ) (w : ℕ → ℕ) → k < 4
    → rising k r₀ q₀ + (w 0 * falling 0 r q + w 1 * falling 1 r q + w 2 * falling 2 r q + w 3 * falling 3 r q)
    ≡ w 0 * rising 0 r q + w 1 * rising 1 r q + w 2 * rising 2 r q + w 3 * rising 3 r q + falling k r₀ q₀
    → piece_slope k r₀ (r₀ + q₀) ≡ sum 4 (λ j. pos (w j) *ℤ piece_slope j r (r + q))
made_of k r₀ q₀ r q w h e =
    slope-parts k r₀ q₀ h
    ∙ difference _ _ _ _ e
    ∙ sym (weigh-parts w (λ j. rising j r q) (λ j. falling j r q))
    ∙ sum-cong 4 (λ j. pos (w j) *ℤ parts j r q) (λ j. pos (w j) *ℤ piece_slope j r (r + q))
    (λ j l. ap (λ t. pos (w j) *ℤ t) (sym (slope-parts j r q l)))

near-half : (k r q : ℕ) → k < 4
    → piece_slope k r (r + (r + 2 * q)) ≡ sum 4 (λ j. pos (weight k j) *ℤ piece_slope j r (r + q))
unfolding weight
near-half k r q =
    each (λ k. piece_slope k r (r + (r + 2 * q)) ≡ sum 4 (λ j. pos (weight k j) *ℤ piece_slope j r (r + q)))
    (made_of 0 r (r + 2 * q) r q (weight 0) (lit< tt) (omega arith))
    (made_of 1 r (r + 2 * q) r q (weight 1) (lit< tt) (omega arith))
    (made_of 2 r (r + 2 * q) r q (weight 2) (lit< tt) (omega arith))
    (made_of 3 r (r + 2 * q) r q (weight 3) (lit< tt) (omega arith))
    k

far-half : (k r q : ℕ) → k < 4
    → piece_slope k (r + q + r) (r + q + r + q) ≡ sum 4 (λ j. pos (weight k (1 + j)) *ℤ piece_slope j r (r + q))
unfolding weight
far-half k r q =
    each (λ k. piece_slope k (r + q + r) (r + q + r + q) ≡ sum 4 (λ j. pos (weight k (1 + j)) *ℤ piece_slope j r (r + q)))
    (made_of 0 (r + q + r) q r q (λ j. weight 0 (1 + j)) (lit< tt) (omega arith))
    (made_of 1 (r + q + r) q r q (λ j. weight 1 (1 + j)) (lit< tt) (omega arith))
    (made_of 2 (r + q + r) q r q (λ j. weight 2 (1 + j)) (lit< tt) (omega arith))
    (made_of 3 (r + q + r) q r q (λ j. weight 3 (1 + j)) (lit< tt) (omega arith))
    k

slope-first : (s : ℕ) → piece_slope 3 0 s ≡ pos 0
unfolding piece_slope
slope-first s = refl

-- at the end of a cell a function has the derivative that it has at the start of the next
at-knot : (k s : ℕ) → piece_slope (suc k) s s ≡ piece_slope k 0 s
at-knot k s = go (dec_le 3 k)
  where
    end : (k : ℕ) → k < 4 → piece_slope k s s ≡ parts k s 0
    end k h = rw (add-zero s) at (slope-parts k s 0 h)

    start : (k : ℕ) → k < 4 → piece_slope k 0 s ≡ parts k 0 s
    start k h = rw (zero-add s) at (slope-parts k 0 s h)

    meet : (k : ℕ) → k < 3 → parts (suc k) s 0 ≡ parts k 0 s
    meet zero h = difference (rising 1 s 0) (falling 1 s 0) (rising 0 0 s) (falling 0 0 s) (omega arith)
    meet (suc zero) h = difference (rising 2 s 0) (falling 2 s 0) (rising 1 0 s) (falling 1 0 s) (omega arith)
    meet (suc (suc zero)) h = difference (rising 3 s 0) (falling 3 s 0) (rising 2 0 s) (falling 2 0 s) (omega arith)
    meet (suc (suc (suc k))) h = absurd (omega arith)

    past : (k : ℕ) → 3 ≤ k → piece_slope k 0 s ≡ pos 0
    past k h = decided (ℕ_discrete k 3)
      where
        decided : Dec (k ≡ 3) → piece_slope k 0 s ≡ pos 0
        decided (yes e) = rw e (slope-first s)
        decided (no e) = slope-none k 0 s (omega arith)

    go : Dec (3 ≤ k) → piece_slope (suc k) s s ≡ piece_slope k 0 s
    go (yes h) = slope-none (suc k) s s (omega arith) ∙ sym (past k h)
    go (no h) = end (suc k) (omega arith) ∙ meet k (omega arith) ∙ sym (start k (omega arith))

pub slopes : Pieces piece_slope
unfolding piece_slope
slopes =
    record {
      none = slope-none;
      near-half = near-half;
      far-half = far-half;
      first = slope-first;
      last = λ s. simp sub_self;
      at-knot = at-knot;
    }

two_products : (r q : ℕ) → 2 * (r * q) ≤ r * r + q * q
two_products r q = go (dec_le r q)
  where
    apart : (x d : ℕ) → 2 * (x * (x + d)) ≤ x * x + (x + d) * (x + d)
    apart x d = omega arith

    go : Dec (r ≤ q) → 2 * (r * q) ≤ r * r + q * q
    go (yes h) =
        let e : r + (q - r) ≡ q = omega arith in
        subst (λ y. 2 * (r * y) ≤ r * r + y * y) e (apart r (q - r))
    go (no h) =
        let e : q + (r - q) ≡ r = omega arith in
        omega (arith, subst (λ y. 2 * (q * y) ≤ q * q + y * y) e (apart q (r - q)))

-- the sizes of the four derivatives add up to 6s² + 12rq, which is at most 9s²
pub slope-sizes : (r q : ℕ)
    → nat_abs (piece_slope 0 r (r + q)) + nat_abs (piece_slope 1 r (r + q)) + nat_abs (piece_slope 2 r (r + q))
    + nat_abs (piece_slope 3 r (r + q)) ≤ 9 * ((r + q) * (r + q))
slope-sizes r q =
    let size : (k : ℕ) → k < 4 → nat_abs (piece_slope k r (r + q)) ≤ rising k r q + falling k r q =
    λ k h. rw (slope-parts k r q h) (difference-size (rising k r q) (falling k r q)) in
    omega (arith, size 0 (lit< tt), size 1 (lit< tt), size 2 (lit< tt), size 3 (lit< tt), two_products r q)
