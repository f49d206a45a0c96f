-- The two-scale sum as the code takes it: a child along v in each column, then one along u.
use mathlib.Core.Path.{◌≡◌, refl, sym, ap, ap₂, ◌∙◌}
use mathlib.Core.List.{List}
use Prim.Native.Nat.{ℕ, zero, suc, ◌+◌, ◌-◌, ◌*◌, ◌/◌, ◌%◌, ◌≤◌, ◌<◌}
use native.Mathlib.Nat.{add-mul, mul-one, mul-le-mul_right}
use native.Mathlib.Omega.{arith}
use lib.IntN.{ℤ, pos, ◌*ℤ◌}
use lib.ListN.{length, get_or, replicate, get_or-replicate}
use Rattle.finite.specs.Range.{sum, sum2}
use Rattle.finite.proofs.Sum.{sum-cong}
use Rattle.finite.proofs.Weighted.{nested}
use Rattle.surface.specs.Sheet.{functions}
use Rattle.surface.specs.Truncation.{weight, weight2}
use Rattle.surface.specs.Patch.{stencil}
use Rattle.surface.proofs.Parents.{parents, parents2}
use Rattle.patch.specs.Steps.{Small, midway, even_of, odd_of}
use Rattle.patch.proofs.Subdivision.{even-child, odd-child, even-size, odd-size}
use Rattle.carry.specs.Carried.{Within, child_of, child_from, column_child, RowsOf}

-- ---- a child by the parity of its index

pub odd-rest : (c : ℕ) → (c % 2 ≡ 0 → ⊥) → c % 2 ≡ 1
odd-rest c h = go (c % 2) h (native.Mathlib.Nat.mod-lt c (omega arith))
  where
    go : (r : ℕ) → (r ≡ 0 → ⊥) → r < 2 → r ≡ 1
    go zero h l = absurd (h refl)
    go (suc zero) h l = refl
    go (suc (suc r)) h l = absurd (omega arith)

stencil-even : (c : ℕ) (f : ℕ → ℤ) → c % 2 ≡ 0 → even_of (f 0) (f 1) ≡ child_of c f
unfolding sum
stencil-even c f e = rw e (even-child (f 0) (f 1) (f 2))

stencil-odd : (c : ℕ) (f : ℕ → ℤ) → (c % 2 ≡ 0 → ⊥) → odd_of (f 0) (f 1) (f 2) ≡ child_of c f
unfolding sum
stencil-odd c f e = rw (odd-rest c e) (odd-child (f 0) (f 1) (f 2))

-- the three places from one on, a step apart
places : (s : List ℤ) (at step : ℕ)
    → (get_or s at (pos 0) ≡ get_or s (at + 0 * step) (pos 0))
    × (get_or s (at + step) (pos 0) ≡ get_or s (at + 1 * step) (pos 0))
    × (get_or s (at + step + step) (pos 0) ≡ get_or s (at + 2 * step) (pos 0))
places s at step =
    let here : at ≡ at + 0 * step = omega arith in
    let next : at + step ≡ at + 1 * step = omega arith in
    let last : at + step + step ≡ at + 2 * step = omega arith in (
      ap (λ k. get_or s k (pos 0)) here,
      ap (λ k. get_or s k (pos 0)) next,
      ap (λ k. get_or s k (pos 0)) last,
    )

pub child-even : (s : List ℤ) (at step c : ℕ) {r : ℤ} → at + step < length s → c % 2 ≡ 0
    → r ≡ even_of (get_or s at (pos 0)) (get_or s (at + step) (pos 0))
    → (r ≡ child_from s at step c) × (Within 131072000 s → Small r)
child-even s at step c two e v =
    let p = places s at step in (
      v ∙ ap₂ even_of p.0 p.1 ∙ stencil-even c (λ i. get_or s (at + i * step) (pos 0)) e,
      λ w. rw v (even-size (get_or s at (pos 0)) (get_or s (at + step) (pos 0)) (w at (omega arith)) (w (at + step) two)),
    )

pub child-odd : (s : List ℤ) (at step c : ℕ) {r : ℤ} → at + step + step < length s → (c % 2 ≡ 0 → ⊥)
    → r ≡ odd_of (get_or s at (pos 0)) (get_or s (at + step) (pos 0)) (get_or s (at + step + step) (pos 0))
    → (r ≡ child_from s at step c) × (Within 131072000 s → Small r)
child-odd s at step c three e v =
    let p = places s at step in (
      v ∙ (λ k. odd_of (p.0 k) (p.1 k) (p.2 k)) ∙ stencil-odd c (λ i. get_or s (at + i * step) (pos 0)) e,
      λ w. rw v (odd-size (get_or s at (pos 0)) (get_or s (at + step) (pos 0)) (get_or s (at + step + step) (pos 0))
          (w at (omega arith)) (w (at + step) (omega arith)) (w (at + step + step) three)),
    )

-- a child of the same parity, of parents that are the same where it has a weight
pub child-same : (b i : ℕ) (f g : ℕ → ℤ) → i % 2 ≡ b % 2 → ((j : ℕ) → j < i % 2 + 2 → f j ≡ g j)
    → child_of i f ≡ child_of b g
child-same b i f g same e = go (native.Mathlib.Decide.ℕ_discrete (i % 2) 0)
  where
    go : Dec (i % 2 ≡ 0) → child_of i f ≡ child_of b g
    go (yes h) =
        sym (stencil-even i f h) ∙ ap₂ even_of (e 0 (omega arith)) (e 1 (omega arith))
        ∙ stencil-even b g (sym same ∙ h)
    go (no h) =
        let two : 2 < i % 2 + 2 = omega (arith, odd-rest i h) in
        sym (stencil-odd i f h) ∙ (λ k. odd_of (e 0 (omega arith) k) (e 1 (omega arith) k) (e 2 two k))
        ∙ stencil-odd b g (λ z. h (same ∙ z))

-- ---- along v, column after column

pub zeros-small : Within midway (replicate 35 (pos 0))
zeros-small k h = rw (get_or-replicate 35 k (pos 0) (pos 0) h) (omega arith)

-- ---- along u

-- a child's sum reads nothing beyond the functions of the coarser level
pub child-cong : (n L c : ℕ) (f g : ℕ → ℤ) → c < functions n (suc L) → ((i : ℕ) → i < functions n L → f i ≡ g i)
    → child_of c (λ i. f (c / 2 + i)) ≡ child_of c (λ i. g (c / 2 + i))
child-cong n L c f g h e =
    sym (parents n L c f h)
    ∙ sum-cong (functions n L) (λ a. pos (weight a c) *ℤ f a) (λ a. pos (weight a c) *ℤ g a)
    (λ i l. ap (λ t. pos (weight i c) *ℤ t) (e i l))
    ∙ parents n L c g h

-- both directions: the sum over all functions of level L
pub two-scale : (W H L a b : ℕ) (s : List ℤ) → a < functions W (suc L) → b < functions H (suc L)
    → child_of a (λ i. column_child s (functions W L) b (a / 2 + i))
    ≡ sum2 (functions W L) (functions H L) (λ c d. weight2 c d a b *ℤ get_or s (d * functions W L + c) (pos 0))
two-scale W H L a b s ha hb =
    nested 3 3 (λ i. pos (stencil a i)) (λ j. pos (stencil b j))
    (λ i j. get_or s ((b / 2 + j) * functions W L + (a / 2 + i)) (pos 0))
    ∙ sym (parents2 W H L a b ha hb (λ c d. get_or s (d * functions W L + c) (pos 0)))

-- the same of numbers that stand in a slice from a row on
pub two-scale-from : (W H L a b first : ℕ) (f : ℕ → ℕ → ℤ) (s sums : List ℤ) → a < functions W (suc L)
    → b < functions H (suc L) → first ≤ b / 2 → RowsOf (functions W L) (b / 2 - first + b % 2 + 2) first f s
    → ((c : ℕ) → c < functions W L → get_or sums c (pos 0) ≡ column_child s (functions W L) (b - 2 * first) c)
    → child_from sums (a / 2) 1 a ≡ sum2 (functions W L) (functions H L) (λ c d. weight2 c d a b *ℤ f c d)
two-scale-from W H L a b first f s sums ha hb low stands along =
    sum-cong 3 (λ i. pos (stencil a i) *ℤ get_or sums (a / 2 + i * 1) (pos 0))
    (λ i. pos (stencil a i) *ℤ get_or sums (a / 2 + i) (pos 0))
    (λ i l. ap (λ k. pos (stencil a i) *ℤ get_or sums (a / 2 + k) (pos 0)) (mul-one i))
    ∙ child-cong W L a (λ i. get_or sums i (pos 0)) (λ c. child_of b (λ j. f c (b / 2 + j))) ha
    (λ c hc. along c hc ∙ child-same b (b - 2 * first) _ _ (omega arith) (λ j hj. in_row c j hc hj))
    ∙ nested 3 3 (λ i. pos (stencil a i)) (λ j. pos (stencil b j)) (λ i j. f (a / 2 + i) (b / 2 + j))
    ∙ sym (parents2 W H L a b ha hb f)
  where
    in_row : (c j : ℕ) → c < functions W L → j < (b - 2 * first) % 2 + 2
        → get_or s (((b - 2 * first) / 2 + j) * functions W L + c) (pos 0) ≡ f c (b / 2 + j)
    in_row c j hc hj =
        let row : first + ((b - 2 * first) / 2 + j) ≡ b / 2 + j = omega arith in
        stands c ((b - 2 * first) / 2 + j) hc (omega arith) ∙ ap (f c) row
