-- A slice is that of its own coefficients, so slices of one length with the same coefficients are the same.
use mathlib.Core.Path.{◌≡◌, refl, sym, ap, ap₂, ◌∙◌}
use mathlib.Core.List.{List, [], ◌++◌}
use Prim.Native.Nat.{ℕ, zero, suc, ◌+◌, ◌*◌, ◌≤◌, ◌<◌}
use native.Mathlib.Nat.{mul_comm}
use native.Mathlib.Omega.{arith}
use lib.IntN.{ℤ, pos}
use lib.ListN.{length, get_or, take, drop, length-drop, take-append-drop, drop_of_length-le}
use lib.Seq.{length-take-le, get_or-drop, get_or-take, drop-drop, ext_get_or}
use Rattle.finite.specs.Range.{grid}
use Rattle.finite.proofs.Table.{length-grid, get_d-grid, grid-cong, place-split}
use Rattle.surface.specs.Sheet.{functions}
use Rattle.surface.specs.Table.{start, slots, coefficients, slice_from, slice_of}
use Rattle.surface.proofs.TableLaws.{start-step, start-le}

own-part : (n m s : ℕ) (cs : List ℤ) (d : ℤ) → s + m * n ≤ length cs
    → grid n m (λ a b. get_or cs (s + (b * n + a)) d) ≡ take (m * n) (drop s cs)
own-part n m s cs d h =
    ext_get_or d (grid n m f) (take (m * n) (drop s cs)) (length-grid n m f ∙ sym size)
    λ i l.
    let inside : i < m * n = rw (length-grid n m f) at l in
    let p = place-split n m i inside in
    ap (λ k. get_or (grid n m f) k d) p.4
    ∙ get_d-grid n m f p.0 p.1 d p.2 p.3
    ∙ ap (λ k. get_or cs (s + k) d) (sym p.4)
    ∙ sym (get_or-take (m * n) (drop s cs) i d inside ∙ get_or-drop s cs i d)
  where
    f : ℕ → ℕ → ℤ
    f a b = get_or cs (s + (b * n + a)) d

    size : length (take (m * n) (drop s cs)) ≡ m * n
    size = length-take-le (m * n) (drop s cs) (omega (arith, length-drop s cs))

own-slice : (W H : ℕ) (cs : List ℤ) → length cs ≡ slots W H → (n L : ℕ) → n + L ≡ 4
    → slice_from W H (coefficients W H cs) L n ≡ drop (start W H L) cs
unfolding slice_from coefficients
own-slice W H cs size zero L e =
    let end : start W H L ≡ length cs = ap (λ k. start W H k) (omega arith) ∙ sym size in
    sym (drop_of_length-le cs {i = start W H L} (omega arith))
own-slice W H cs size (suc n) L e =
    let places = functions H L * functions W L in
    let next : start W H (suc L) ≡ start W H L + places =
    start-step W H L ∙ ap (λ k. start W H L + k) (mul_comm (functions W L) (functions H L)) in
    ap₂ ◌++◌
    (own-part (functions W L) (functions H L) (start W H L) cs (pos 0)
    (omega (arith, start-le W H (suc L) 4 (omega arith))))
    (own-slice W H cs size n (suc L) (omega arith)
    ∙ ap (λ k. drop k cs) next
    ∙ sym (drop-drop places (start W H L) cs))
    ∙ take-append-drop places (drop (start W H L) cs)

pub own-numbers : (W H : ℕ) (cs : List ℤ) → length cs ≡ slots W H → slice_of W H (coefficients W H cs) ≡ cs
unfolding start
own-numbers W H cs size = own-slice W H cs size 4 0 refl

-- coefficients that agree everywhere have one slice
pub slice-cong : (W H : ℕ) (f g : ℕ → ℕ → ℕ → ℤ)
    → ((L a b : ℕ) → L < 4 → a < functions W L → b < functions H L → f L a b ≡ g L a b)
    → slice_of W H f ≡ slice_of W H g
unfolding slice_from
slice-cong W H f g h =
    let level : (L : ℕ) → L < 4
    → grid (functions W L) (functions H L) (f L) ≡ grid (functions W L) (functions H L) (g L) =
    λ L l. grid-cong (functions W L) (functions H L) (f L) (g L) (λ a b. h L a b l) in
    ap₂ ◌++◌ (level 0 (omega arith)) (ap₂ ◌++◌ (level 1 (omega arith)) (ap₂ ◌++◌ (level 2 (omega arith))
    (ap (λ l. l ++ []) (level 3 (omega arith)))))

pub same_numbers : (W H : ℕ) (c d : List ℤ) → length c ≡ slots W H → length d ≡ slots W H
    → ((L a b : ℕ) → L < 4 → a < functions W L → b < functions H L
    → coefficients W H c L a b ≡ coefficients W H d L a b)
    → c ≡ d
same_numbers W H c d size size' h =
    sym (own-numbers W H c size) ∙ slice-cong W H (coefficients W H c) (coefficients W H d) h ∙ own-numbers W H d size'
