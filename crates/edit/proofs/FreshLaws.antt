-- The causes and the outcome of `fresh`, and the slice of a fresh table.
use mathlib.Core.Path.{◌≡◌, refl, sym, ap, ap₂, ◌∙◌}
use mathlib.Core.Bool.{not, ◌&&◌}
use mathlib.Core.List.{List, [], ◌∷◌, ◌++◌, append-nil}
use Prim.Native.Nat.{ℕ, ◌+◌, ◌-◌, ◌*◌, ◌≤◌, ◌<◌}
use native.Mathlib.Nat.{mul_comm}
use native.Mathlib.Omega.{arith}
use lib.Dec.{ltb}
use lib.IntN.{ℤ, pos, nat_abs}
use lib.ListN.{length, take, drop, replicate, length-replicate, replicate-append-replicate}
use lib.Seq.{length-take-le, take-length, drop-length, take_at, drop_at}
use Rattle.finite.specs.Range.{grid}
use Rattle.finite.proofs.Table.{grid-const}
use Rattle.finite.proofs.Tests.{both}
use Rattle.surface.specs.Sheet.{good_side, functions}
use Rattle.surface.specs.Table.{cause, ◌or_else◌, places, slots, limit, slice_from, slice_of}
use Rattle.surface.specs.Calls.{outputs_cause, fresh_cause, fresh_coefficients}
use Rattle.surface.proofs.RefusalLaws.{outputs}
use Rattle.surface.proofs.TableLaws.{good-side}
use Rattle.surface.proofs.Causes.{or_else-none, cause-none}
use Rattle.coefficients.proofs.Sizes.{starts}

-- ---- the slice

-- a grid of one value, by columns and rows
grid-value : (n m : ℕ) (x : ℤ) → grid n m (λ a b. x) ≡ replicate (n * m) x
grid-value n m x = grid-const n m x ∙ ap (λ k. replicate k x) (mul_comm m n)

grid-more : (n m k : ℕ) (x : ℤ) (rest : List ℤ) → rest ≡ replicate k x
    → grid n m (λ a b. x) ++ rest ≡ replicate (n * m + k) x
grid-more n m k x rest e = ap₂ ◌++◌ (grid-value n m x) e ∙ replicate-append-replicate (n * m) k x

fresh-slice : (W H : ℕ) (number : ℤ)
    → replicate (places W H 0) number ++ replicate (slots W H - places W H 0) (pos 0)
    ≡ slice_of W H (fresh_coefficients number)
unfolding slice_from
fresh-slice W H number =
    let finer = grid-more (functions W 1) (functions H 1) (places W H 2 + (places W H 3 + 0)) (pos 0) _
    (grid-more (functions W 2) (functions H 2) (places W H 3 + 0) (pos 0) _
    (grid-more (functions W 3) (functions H 3) 0 (pos 0) [] refl)) in
    let rest : slots W H - places W H 0 ≡ places W H 1 + (places W H 2 + (places W H 3 + 0)) =
    omega (arith, (starts W H).4) in
    ap₂ ◌++◌ (sym (grid-value (functions W 0) (functions H 0) number))
    (ap (λ k. replicate k (pos 0)) rest ∙ sym finer)

-- with k the places of level 0 and n the slice's length
pub fresh-spread : (W H : ℕ) (number z : ℤ) (k n : ℕ) → k ≡ places W H 0 → z ≡ number → n ≡ slots W H
    → replicate k z ++ replicate (n - k) (pos 0) ≡ slice_of W H (fresh_coefficients number)
fresh-spread W H number z k n e f g =
    ap₂ (λ k z. replicate k z ++ replicate (n - k) (pos 0)) e f
    ∙ ap (λ n. replicate (places W H 0) number ++ replicate (n - places W H 0) (pos 0)) g
    ∙ fresh-slice W H number

-- ---- the slice in two steps: one number at its first k places, then 0 at the others

module _ (k : ℕ) (number : ℤ) where
  pub spread-first : (xs x : List ℤ) (j : ℕ) → k ≤ length xs → j ≡ k
      → x ≡ replicate (length (take j (drop 0 xs))) number
      → take 0 xs ++ (x ++ drop j (drop 0 xs)) ≡ replicate k number ++ drop k xs
  spread-first xs x j h e p =
      ap₂ ◌++◌ (p ∙ ap (λ i. replicate i number) (ap (λ j. length (take j xs)) e ∙ length-take-le k xs h))
      (ap (λ j. drop j xs) e)

  pub spread-rest : (ys zs y : List ℤ) (m : ℕ) → ys ≡ replicate k number ++ zs → m ≡ length zs
      → y ≡ replicate (length (take m (drop k ys))) (pos 0)
      → take k ys ++ (y ++ drop m (drop k ys)) ≡ replicate k number ++ replicate (length zs) (pos 0)
  spread-rest ys zs y m e l p =
      let front : take k ys ≡ replicate k number =
      ap (take k) e ∙ take_at (replicate k number) zs k (length-replicate k number) in
      let back : drop k ys ≡ zs = ap (drop k) e ∙ drop_at (replicate k number) zs k (length-replicate k number) in
      let new : y ≡ replicate (length zs) (pos 0) =
      p ∙ ap (λ t. replicate (length t) (pos 0)) (ap₂ take l back ∙ take-length zs) in
      ap₂ ◌++◌ front
      (ap₂ ◌++◌ new (ap₂ drop l back ∙ drop-length zs) ∙ append-nil (replicate (length zs) (pos 0)))

-- ---- what holds where no cause applies

pub fresh-none : (W H : ℕ) (number : ℤ) (tree : List ℕ) (numbers : List ℤ) → fresh_cause W H number tree numbers ≡ 0
    → (W ≤ 8) × (H ≤ 8) × (length numbers ≡ slots W H) × (0 < length tree)
fresh-none W H number tree numbers e =
    let c10 = cause 10 (ltb (limit 0) (nat_abs number)) in
    let last = outputs_cause W H (0 ∷ []) tree numbers in
    let e1 = or_else-none (cause 1 (not (good_side W && good_side H))) (c10 or_else last) e in
    let out = outputs W H (0 ∷ []) tree numbers (or_else-none c10 last e1.1).1 in
    let sides = both (good_side W) (good_side H) (cause-none 0 (good_side W && good_side H) e1.0) in
    ((good-side W sides.0).1, (good-side H sides.1).1, out.1, out.0)
