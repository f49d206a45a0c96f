-- Where a row stands in its level's part, and a level's part in the slice; the elements of a part.
use mathlib.Core.Path.{◌≡◌, sym, ap, subst, ◌∙◌}
use mathlib.Core.List.{List}
use Prim.Native.Nat.{ℕ, suc, ◌+◌, ◌-◌, ◌*◌, ◌≤◌, ◌<◌}
use native.Mathlib.Numerals.{add-one}
use native.Mathlib.Nat.{add_assoc, mul_comm, suc-mul, mul-le-mul, mul-le-mul_right}
use native.Mathlib.Omega.{arith}
use lib.IntN.{ℤ, pos}
use lib.ListN.{length, get_or, take, drop, length-take, length-drop}
use lib.Seq.{get_or-take, get_or-drop}
use Rattle.finite.proofs.Table.{place-below}
use Rattle.surface.specs.Sheet.{functions}
use Rattle.surface.specs.Table.{places, start, slots, coefficients}
use Rattle.surface.proofs.TableLaws.{start-before}

-- the place of a row, of m rows of n
pub row_small : (b m n : ℕ) → b < m → m ≤ 67 → n ≤ 67 → (b * n ≤ 4489) × (b < 67)
row_small b m n below few columns =
    let low : b ≤ 67 = omega arith in
    (mul-le-mul low columns, omega arith)

-- a row in the level's part
pub row_fits : (W H L b n m : ℕ) (cs : List ℤ) → n ≡ functions W L → m ≡ functions H L → b < m
    → length cs ≡ places W H L → b * n + n ≤ length cs
row_fits W H L b n m cs columns rows below size =
    let all : length cs ≡ n * m = rw (columns, rows) size in
    omega (arith, mul-le-mul_right n below, suc-mul b n, mul_comm n m)

-- the level's part in the slice
pub level-fits : (W H L first size : ℕ) → L ≤ 3 → first ≡ start W H L → size ≡ places W H L
    → first + size ≤ slots W H
level-fits W H L first size low begins sized = rw (begins, sized) (start-before W H L 4 (omega arith))

-- n coefficients from a place on
abbrev pub part : ℕ → ℕ → List ℤ → List ℤ
part from n cs = take (from + n - from) (drop from cs)

pub part_length : (from n : ℕ) (cs : List ℤ) → from + n ≤ length cs → length (part from n cs) ≡ n
part_length from n cs h = simp (length-take, length-drop) (omega arith)

pub part_at : (from n : ℕ) (cs : List ℤ) (a : ℕ) → a < n → get_or (part from n cs) a (pos 0) ≡ get_or cs (from + a) (pos 0)
part_at from n cs a h =
    let inner : a < from + n - from = omega arith in
    get_or-take (from + n - from) (drop from cs) a (pos 0) inner ∙ get_or-drop from cs a (pos 0)

-- a coefficient of a level stands in the level's part
pub level-at : (W H L first size : ℕ) (cs : List ℤ) → first ≡ start W H L → size ≡ places W H L → (a b : ℕ)
    → a < functions W L → b < functions H L
    → get_or (part first size cs) (b * functions W L + a) (pos 0) ≡ coefficients W H cs L a b
unfolding coefficients
level-at W H L first size cs begins sized a b ha hb =
    part_at first size cs (b * functions W L + a)
    (subst (λ k. b * functions W L + a < k) (mul_comm (functions H L) (functions W L) ∙ sym sized)
    (place-below (functions W L) (functions H L) a b ha hb))
    ∙ ap (λ k. get_or cs (k + (b * functions W L + a)) (pos 0)) begins

-- ---- row b of level L, of n places from place `from` on

pub rows_none : (first n : ℕ) → first ≡ first + 0 * n
rows_none first n = omega arith

pub row_next : (b n first : ℕ) {from : ℕ} → from ≡ first + b * n → from + n ≡ first + (b + 1) * n
row_next b n first e = rw (e, add-one b, suc-mul b n) (add_assoc first (b * n) n)

module _ (W H L b n from : ℕ) (columns : n ≡ functions W L) (begins : from ≡ start W H L + b * n) where
  pub row-end : L < 4 → b < functions H L → from + n ≤ slots W H
  row-end hL below =
      let all : suc b * n ≤ functions H L * n = mul-le-mul_right n below in
      let part : functions H L * n ≡ places W H L = ap (λ n. functions H L * n) columns ∙ mul_comm (functions H L) _ in
      omega (arith, start-before W H L 4 hL, suc-mul b n)

  -- its coefficients, in a list that is as it was from the row on
  pub row_at : (out before : List ℤ) (a : ℕ) → drop from out ≡ drop from before → a < n
      → get_or (part from n out) a (pos 0) ≡ coefficients W H before L a b
  unfolding coefficients
  row_at out before a rest h =
      part_at from n out a h
      ∙ sym (get_or-drop from out a (pos 0))
      ∙ ap (λ l. get_or l a (pos 0)) rest
      ∙ get_or-drop from before a (pos 0)
      ∙ ap (λ k. get_or before (k + a) (pos 0)) (begins ∙ ap (λ n. start W H L + b * n) columns)
      ∙ ap (λ i. get_or before i (pos 0)) (add_assoc (start W H L) (b * functions W L) a)
