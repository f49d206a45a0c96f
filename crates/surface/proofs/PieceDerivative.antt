-- The derivatives of the four splines of a cell are derivatives: an identity of monomials, forward and backward.
use mathlib.Core.Path.{◌≡◌, refl, sym, ap, ap₂, ◌∙◌, subst}
use mathlib.Core.List.{[], ◌∷◌}
use Prim.Native.Nat.{ℕ, suc, ◌+◌, ◌-◌, ◌*◌, ◌≤◌, ◌<◌}
use native.Mathlib.Decide.{dec_le}
use native.Mathlib.Omega.{arith}
use lib.IntN.{pos, ◌+ℤ◌, ◌-ℤ◌, ◌*ℤ◌, +ℤ_idr, *ℤ-zero}
use lib.ListN.{get_or}
use Rattle.finite.proofs.Difference.{difference, add-differences, multiply-differences}
use Rattle.finite.proofs.Four.{each}
use Rattle.surface.specs.Spline.{piece}
use Rattle.surface.specs.Slopes.{piece_slope}
use Rattle.surface.specs.Derivatives.{bend, PiecesDerive}
use Rattle.surface.proofs.SplinePiece.{piece-0, piece-1, piece-2, piece-3, piece-far}
use Rattle.surface.proofs.SlopePiece.{rising, falling, slope-parts, slope-none}

-- a value A, h = x − r times a slope a − b more than B, and h² times c − d: over naturals
expanded : (A B x r a b c d : ℕ)
    → A + (x * b + r * a + ((x * x + r * r) * d + (x * r + r * x) * c))
    ≡ B + (x * a + r * b) + ((x * x + r * r) * c + (x * r + r * x) * d)
    → let h = pos x -ℤ pos r in
    pos A ≡ pos B +ℤ h *ℤ (pos a -ℤ pos b) +ℤ h *ℤ h *ℤ (pos c -ℤ pos d)
expanded A B x r a b c d e =
    let h = pos x -ℤ pos r in
    let first = multiply-differences x r a b in
    let second =
    ap (λ t. t *ℤ (pos c -ℤ pos d)) (multiply-differences x r x r)
    ∙ multiply-differences (x * x + r * r) (x * r + r * x) c d in
    let all =
    ap₂ (λ y z. pos B -ℤ pos 0 +ℤ y +ℤ z) first second
    ∙ ap
    (λ t. t +ℤ (pos ((x * x + r * r) * c + (x * r + r * x) * d) -ℤ pos ((x * x + r * r) * d + (x * r + r * x) * c)))
    (add-differences B 0 (x * a + r * b) (x * b + r * a))
    ∙ add-differences (B + (x * a + r * b)) (0 + (x * b + r * a)) ((x * x + r * r) * c + (x * r + r * x) * d)
    ((x * x + r * r) * d + (x * r + r * x) * c) in
    sym (+ℤ_idr (pos A))
    ∙ difference A 0 (B + (x * a + r * b) + ((x * x + r * r) * c + (x * r + r * x) * d))
    (0 + (x * b + r * a) + ((x * x + r * r) * d + (x * r + r * x) * c)) (omega arith)
    ∙ sym all
    ∙ ap (λ t. t +ℤ h *ℤ (pos a -ℤ pos b) +ℤ h *ℤ h *ℤ (pos c -ℤ pos d)) (+ℤ_idr (pos B))

-- the pieces and the bends, by their monomials
abbrev monomials : ℕ → ℕ → ℕ → ℕ
monomials k r q =
    get_or
    ((q * q * q)
    ∷ (r * r * r + 6 * (r * r * q) + 12 * (r * q * q) + 4 * (q * q * q))
    ∷ (4 * (r * r * r) + 12 * (r * r * q) + 6 * (r * q * q) + q * q * q)
    ∷ (r * r * r)
    ∷ [])
    k
    0

piece-monomials : (k r q : ℕ) → k < 4 → piece k r (r + q) ≡ monomials k r q
piece-monomials k r q =
    each (λ k. piece k r (r + q) ≡ monomials k r q) (piece-0 r q) (piece-1 r q) (piece-2 r q) (piece-3 r q) k

abbrev upward : ℕ → ℕ → ℕ → ℕ → ℕ
upward k r x s = get_or ((3 * s) ∷ (6 * r + 3 * x) ∷ (3 * s) ∷ (2 * r + x) ∷ []) k 0

abbrev downward : ℕ → ℕ → ℕ → ℕ → ℕ
downward k r x s = get_or ((2 * r + x) ∷ (6 * s) ∷ (6 * r + 3 * x) ∷ 0 ∷ []) k 0

bend-parts : (k r x s : ℕ) → k < 4 → bend k r x s ≡ pos (upward k r x s) -ℤ pos (downward k r x s)
bend-parts k r x s =
    each (λ k. bend k r x s ≡ pos (upward k r x s) -ℤ pos (downward k r x s)) refl refl refl (sym (+ℤ_idr _)) k

-- what is to be shown, by monomials
abbrev Expansion : ℕ → ℕ → ℕ → ℕ → ℕ → Type 0
Expansion k x p r q =
    let s = r + q in
    let a = rising k r q in
    let b = falling k r q in
    let c = upward k r x s in
    let d = downward k r x s in
    monomials k x p + (x * b + r * a + ((x * x + r * r) * d + (x * r + r * x) * c))
    ≡ monomials k r q + (x * a + r * b) + ((x * x + r * r) * c + (x * r + r * x) * d)

forward : (k r h p : ℕ) → k < 4 → Expansion k (r + h) p r (h + p)
forward k r h p =
    each (λ k. Expansion k (r + h) p r (h + p)) (omega arith) (omega arith) (omega arith) (omega arith) k

backward : (k x h q : ℕ) → k < 4 → Expansion k x (h + q) (x + h) q
backward k x h q =
    each (λ k. Expansion k x (h + q) (x + h) q) (omega arith) (omega arith) (omega arith) (omega arith) k

abbrev Derived : ℕ → ℕ → ℕ → ℕ → Type 0
Derived k r x s =
    let h = pos x -ℤ pos r in
    pos (piece k x s) ≡ pos (piece k r s) +ℤ h *ℤ piece_slope k r s +ℤ h *ℤ h *ℤ bend k r x s

derived : (k x p r q : ℕ) → k < 4 → x + p ≡ r + q → Expansion k x p r q → Derived k r x (r + q)
derived k x p r q h e n =
    let s = r + q in
    let d = pos x -ℤ pos r in
    let value : piece k x s ≡ monomials k x p =
    subst (λ s. piece k x s ≡ monomials k x p) e (piece-monomials k x p h) in
    ap pos value
    ∙ expanded (monomials k x p) (monomials k r q) x r (rising k r q) (falling k r q) (upward k r x s)
    (downward k r x s) n
    ∙ sym (λ i. pos (piece-monomials k r q h i) +ℤ d *ℤ slope-parts k r q h i +ℤ d *ℤ d *ℤ bend-parts k r x s h i)

pub pieces-derive : PiecesDerive
pieces-derive k r x s h m = go (dec_le 4 k) (dec_le r x)
  where
    into : r + (s - r) ≡ s
    into = omega arith

    go : Dec (4 ≤ k) → Dec (r ≤ x) → Derived k r x s
    go (yes l) _ =
        let e : k ≡ suc (suc (suc (suc (k - 4)))) = omega arith in
        let d = pos x -ℤ pos r in
        rw (piece-far k x s l, piece-far k r s l, slope-none k r s l, e, *ℤ-zero d, *ℤ-zero (d *ℤ d))
    go (no l) (yes b) =
        let e₁ : r + (x - r) ≡ x = omega arith in
        let e₂ : x - r + (s - x) ≡ s - r = omega arith in
        subst (Derived k r x) into
        (derived k x (s - x) r (s - r) (omega arith) (omega arith)
        (subst (λ q. Expansion k x (s - x) r q) e₂
        (subst (λ y. Expansion k y (s - x) r (x - r + (s - x))) e₁ (forward k r (x - r) (s - x) (omega arith)))))
    go (no l) (no b) =
        let e₁ : x + (r - x) ≡ r = omega arith in
        let e₂ : r - x + (s - r) ≡ s - x = omega arith in
        subst (Derived k r x) into
        (derived k x (s - x) r (s - r) (omega arith) (omega arith)
        (subst (λ p. Expansion k x p r (s - r)) e₂
        (subst (λ y. Expansion k x (r - x + (s - r)) y (s - r)) e₁ (backward k x (r - x) (s - r) (omega arith)))))
