-- Laws of the figures of a list of records, which are folded over it in two parts or one by one.
use mathlib.Core.Path.{◌≡◌, refl, sym, ap, subst, ◌∙◌}
use mathlib.Core.List.{List, [], ◌∷◌, ◌++◌}
use Prim.Native.Nat.{ℕ, suc, ◌+◌, ◌^◌, ◌≤◌, ◌<◌}
use native.Mathlib.Omega.{arith}
use borrow.Author.Rules.{sfits_of}
use lib.Dec.{lit<}
use lib.IntN.{ℤ, pos, nat_abs, ◌+ℤ◌}
use lib.Signed.{mag}
use lib.ListN.{length, get_or, drop}
use lib.Seq.{drop-cons, drop-length}
use mir.Syntax.{w32, w64}
use mir.Val.{SFits, to_z, of_z}
use mir.ValLaws.{to_z-of_z}
use Rattle.finite.proofs.Order.{abs-add}
use Rattle.finite.proofs.Signed.{abs-fits, fits-abs}
use Rattle.surface.specs.Window.{folded}

-- ---- a record added to a total

abbrev pub widened : ℤ → ℤ
widened x = to_z w64 (of_z w64 (to_z w32 (of_z w32 x)))

module _ (x : ℤ) (h : mag x < 2 ^ 31) where
  size : nat_abs x ≤ 2147483648
  size = fits-abs w32 x h

  pub wide_fits : SFits w64 (to_z w32 (of_z w32 x))
  wide_fits = subst (SFits w64) (sym (to_z-of_z w32 x (sfits_of h))) (abs-fits x size (lit< tt))

  pub wide_is : widened x ≡ x
  wide_is = to_z-of_z w64 (to_z w32 (of_z w32 x)) wide_fits ∙ to_z-of_z w32 x (sfits_of h)

  pub wide-size : nat_abs (widened x) ≤ 2147483648
  wide-size = subst (λ z. nat_abs z ≤ 2147483648) (sym wide_is) size

  module _ (total : ℤ) {m : ℕ} (g : nat_abs total ≤ m) (l : m + 2147483648 < 2 ^ 63) where
    pub sum_fits : SFits w64 (total +ℤ widened x)
    sum_fits = abs-fits (total +ℤ widened x) (abs-add total (widened x) g wide-size) l

    pub sum_is : to_z w64 (of_z w64 (total +ℤ widened x)) ≡ total +ℤ x
    sum_is = to_z-of_z w64 (total +ℤ widened x) sum_fits ∙ ap (λ z. total +ℤ z) wide_is

    pub sum-size : nat_abs (to_z w64 (of_z w64 (total +ℤ widened x))) ≤ m + 2147483648
    sum-size = subst (λ z. nat_abs z ≤ m + 2147483648) (sym sum_is) (abs-add total x g size)

-- ---- records folded

module _ (f : ℤ → ℤ → ℤ) where
  -- a result of f, of a record that the machine has read
  pub took : {r : ℤ} (l x : ℤ) → SFits w32 r → r ≡ f l (to_z w32 (of_z w32 x)) → SFits w32 x → to_z w32 (of_z w32 r) ≡ f l x
  took {r} l x g e h = to_z-of_z w32 r g ∙ e ∙ ap (f l) (to_z-of_z w32 x h)

  -- one after the other
  pub fold-append : (x : ℤ) (xs ys : List ℤ) → folded f x (xs ++ ys) ≡ folded f (folded f x xs) ys
  unfolding folded
  fold-append x [] ys = refl
  fold-append x (y ∷ xs) ys = fold-append (f x y) xs ys

  -- one more of a list
  pub fold_more : (x z : ℤ) (xs : List ℤ) (i : ℕ) → i < length xs → folded f x (drop i xs) ≡ z
      → folded f (f x (get_or xs i (pos 0))) (drop (i + 1) xs) ≡ z
  unfolding folded
  fold_more x z xs i h e =
      let next : i + 1 ≡ suc i = omega arith in
      ap (λ k. folded f (f x (get_or xs i (pos 0))) (drop k xs)) next
      ∙ sym (ap (folded f x) (drop-cons xs i (pos 0) h)) ∙ e

  -- none left
  pub fold_end : (x z : ℤ) (xs : List ℤ) (i : ℕ) → i ≡ length xs → folded f x (drop i xs) ≡ z → x ≡ z
  unfolding folded
  fold_end x z xs i h e = sym (ap (folded f x) (ap (λ k. drop k xs) h ∙ drop-length xs)) ∙ e
