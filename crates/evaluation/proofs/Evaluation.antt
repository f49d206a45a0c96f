-- The four splines of a cell and their derivatives, and a weighted sum of weighted sums, are document 01's evaluation
-- of a patch.
use mathlib.Core.Path.{◌≡◌, refl, sym, ap, ap₂, ◌∙◌}
use mathlib.Core.List.{List, []}
use Prim.Native.Nat.{ℕ, ◌+◌, ◌-◌, ◌*◌, ◌^◌, ◌≤◌, ◌<◌}
use native.Mathlib.Nat.{le_refl, mul-le-mul_right}
use native.Mathlib.Omega.{arith}
use lib.Dec.{lit<, lit≤}
use lib.IntN.{ℤ, pos, nat_abs, ◌+ℤ◌, ◌-ℤ◌, ◌*ℤ◌, +ℤ_idl, +ℤ_idr}
use lib.ListN.{get_or}
use mir.Syntax.{w64}
use mir.Val.{SFits, to_z, of_z}
use mir.ValLaws.{to_z-of_z}
use Rattle.finite.specs.Range.{sum, sum2}
use Rattle.finite.proofs.Difference.{difference-size}
use Rattle.finite.proofs.Order.{abs-add, abs-mul}
use Rattle.finite.proofs.Sum.{sum-cong}
use Rattle.finite.proofs.Weighted.{nested}
use Rattle.surface.specs.Sheet.{eighths, steps}
use Rattle.surface.specs.Spline.{piece}
use Rattle.surface.specs.Slopes.{piece_slope}
use Rattle.surface.specs.Table.{limit}
use Rattle.surface.proofs.SplinePiece.{piece-0, piece-1, piece-2, piece-3, piece-sum, square}
use Rattle.surface.proofs.SlopePiece.{rising, falling, slope-parts, slope-sizes}
use Rattle.evaluation.specs.declared.Four.{Four}
use Rattle.patch.specs.Patches.{entry, Bounded}
use Rattle.evaluation.specs.Weights.{splines_of, derivatives_of, whole, steepest, Weights, Row, Fit, FitRows}
use Rattle.evaluation.specs.Weights.{weighed, weighed_rows}
use Rattle.patch.proofs.Size.{fits, literal}
use Rattle.patch.proofs.Four.{each}

-- a sum of products that is a spline, as bits
spline : (n k r q x : ℕ) {v : ℕ} → r + q ≡ n → piece k r (r + q) ≡ v → x ≡ v → x < 2 ^ 63
    → to_z w64 x ≡ pos (piece k r n)
spline n k r q x s e f l = (literal x l).same ∙ ap pos (f ∙ sym (rw s at e))

-- what `splines_at` writes, of the four products of three
pub splines : (n r q a x y d : ℕ) → r + q ≡ n → (a ≡ q * q * q) × (a ≤ 2097152) → (x ≡ r * r * q) × (x ≤ 2097152)
    → (y ≡ r * q * q) × (y ≤ 2097152) → (d ≡ r * r * r) × (d ≤ 2097152)
    → ◌≡◌ {A = Four}
    (record {
      a = to_z w64 a;
      b = to_z w64 (d + 6 * x + 12 * y + 4 * a);
      c = to_z w64 (4 * d + 12 * x + 6 * y + a);
      d = to_z w64 d;
    })
    (splines_of n r)
splines n r q a x y d s ha hx hy hd =
    let e = spline n 0 r q a s (piece-0 r q) ha.0 (omega arith) in
    let f = spline n 1 r q (d + 6 * x + 12 * y + 4 * a) s (piece-1 r q) (omega arith) (omega arith) in
    let g = spline n 2 r q (4 * d + 12 * x + 6 * y + a) s (piece-2 r q) (omega arith) (omega arith) in
    let h = spline n 3 r q d s (piece-3 r q) hd.0 (omega arith) in
    λ i. record { a = e i; b = f i; c = g i; d = h i }

-- what is taken from 0
pub negated_fits : (x : ℕ) → x < 2 ^ 63 → SFits w64 (to_z w64 0 -ℤ to_z w64 x)
negated_fits x l =
    rw ((literal 0 (lit< tt)).same, (literal x l).same)
    (fits (pos 0 -ℤ pos x) {m = 0 + x} (difference-size 0 x) (omega arith))

negated : (x : ℕ) → x < 2 ^ 63 → to_z w64 (of_z w64 (to_z w64 0 -ℤ to_z w64 x)) ≡ pos 0 -ℤ pos x
negated x l =
    to_z-of_z w64 _ (negated_fits x l)
    ∙ ap₂ ◌-ℤ◌ (literal 0 (lit< tt)).same (literal x l).same

-- a derivative that falls, and one that rises, as bits
falls : (n k r q x : ℕ) → k < 4 → r + q ≡ n → rising k r q ≡ 0 → x ≡ falling k r q → x < 2 ^ 63
    → to_z w64 (of_z w64 (to_z w64 0 -ℤ to_z w64 x)) ≡ piece_slope k r n
falls n k r q x h s e f l =
    negated x l ∙ sym (rw s at (slope-parts k r q h ∙ ap₂ (λ a b. pos a -ℤ pos b) e (sym f)))

rises : (n k r q x : ℕ) → k < 4 → r + q ≡ n → falling k r q ≡ 0 → x ≡ rising k r q → x < 2 ^ 63
    → to_z w64 x ≡ piece_slope k r n
rises n k r q x h s e f l =
    (literal x l).same ∙ sym (+ℤ_idr (pos x))
    ∙ sym (rw s at (slope-parts k r q h ∙ ap₂ (λ a b. pos a -ℤ pos b) (sym f) e))

-- what `derivatives_at` writes, of its three products
pub derivatives : (n r q a x d : ℕ) → r + q ≡ n → (a ≡ 3 * q * q) × (a ≤ 2097152) → (x ≡ 12 * r * q) × (x ≤ 2097152)
    → (d ≡ 3 * r * r) × (d ≤ 2097152)
    → ◌≡◌ {A = Four}
    (record {
      a = to_z w64 (of_z w64 (to_z w64 0 -ℤ to_z w64 a));
      b = to_z w64 (of_z w64 (to_z w64 0 -ℤ to_z w64 (d + x)));
      c = to_z w64 (a + x);
      d = to_z w64 d;
    })
    (derivatives_of n r)
derivatives n r q a x d s ha hx hd =
    let e = falls n 0 r q a (lit< tt) s refl (omega arith) (omega arith) in
    let f = falls n 1 r q (d + x) (lit< tt) s refl (omega arith) (omega arith) in
    let g = rises n 2 r q (a + x) (lit< tt) s refl (omega arith) (omega arith) in
    let h = rises n 3 r q d (lit< tt) s refl (omega arith) (omega arith) in
    λ i. record { a = e i; b = f i; c = g i; d = h i }

-- the splines add up to the whole, and the sizes of the derivatives to at most the steepest
pub weights : (n r : ℕ) → r ≤ n → Weights (whole n) (splines_of n r)
weights n r h =
    let e : r + (n - r) ≡ n = omega arith in
    omega (arith, rw e at (piece-sum r (n - r)))

pub slope-weights : (n r : ℕ) → r ≤ n → Weights (steepest n) (derivatives_of n r)
slope-weights n r h =
    let e : r + (n - r) ≡ n = omega arith in
    rw (square n) (rw e at (slope-sizes r (n - r)))

-- a weighted sum of four
weighed-sum : (w : Four) (x : List ℤ) (f : ℕ → ℤ) → f 0 ≡ w.a → f 1 ≡ w.b → f 2 ≡ w.c → f 3 ≡ w.d
    → weighed w x ≡ sum 4 (λ k. f k *ℤ get_or x k (pos 0))
unfolding weighed sum
weighed-sum w x f e₀ e₁ e₂ e₃ = rw (e₀, e₁, e₂, e₃, +ℤ_idl)

pub weighed-size : (t m : ℕ) (w : Four) (x : List ℤ) → Weights t w → Row m x → nat_abs (weighed w x) ≤ t * m
unfolding weighed
weighed-size t m w x hw hx =
    let one : (a : ℤ) (k : ℕ) → k < 4 → nat_abs (a *ℤ get_or x k (pos 0)) ≤ nat_abs a * m =
    λ a k hk. abs-mul a (get_or x k (pos 0)) (le_refl (nat_abs a)) (hx k hk) in
    let s =
    abs-add (w.a *ℤ get_or x 0 (pos 0) +ℤ w.b *ℤ get_or x 1 (pos 0) +ℤ w.c *ℤ get_or x 2 (pos 0))
    (w.d *ℤ get_or x 3 (pos 0))
    (abs-add (w.a *ℤ get_or x 0 (pos 0) +ℤ w.b *ℤ get_or x 1 (pos 0)) (w.c *ℤ get_or x 2 (pos 0))
    (abs-add (w.a *ℤ get_or x 0 (pos 0)) (w.b *ℤ get_or x 1 (pos 0)) (one w.a 0 (lit< tt)) (one w.b 1 (lit< tt)))
    (one w.c 2 (lit< tt)))
    (one w.d 3 (lit< tt)) in
    omega (arith, mul-le-mul_right m hw)

row_at : (w : Four) (p : List (List ℤ)) (k : ℕ) → k < 4
    → get_or (weighed_rows w p) k (pos 0) ≡ weighed w (get_or p k [])
row_at w p = each (λ k. get_or (weighed_rows w p) k (pos 0) ≡ weighed w (get_or p k [])) refl refl refl refl

pub rows-size : (t m : ℕ) (w : Four) (p : List (List ℤ)) → Weights t w → Bounded m p → Row (t * m) (weighed_rows w p)
rows-size t m w p h b k hk = rw (row_at w p k hk) (weighed-size t m w (get_or p k []) h (λ l. b k l hk))

-- what weighing asks: of weights and a patch, and of weights and rows that were weighed
pub rows_fit : {w : Four} (t m : ℕ) (w₀ : Four) (p : List (List ℤ)) → w ≡ w₀ → Weights t w₀ → Bounded m p
    → t < 2 ^ 63 → m < 2 ^ 63 → t * m < 2 ^ 63 → FitRows w p
rows_fit t m w₀ p e hw b ht hm h = rw e (t, m, hw, b, ht, hm, h)

pub sum_fits : {w : Four} {x : List ℤ} (t t' m : ℕ) (w₀ w' : Four) (p : List (List ℤ)) → w ≡ w₀ → x ≡ weighed_rows w' p
    → Weights t w₀ → Weights t' w' → Bounded m p → t < 2 ^ 63 → t' * m < 2 ^ 63 → t * (t' * m) < 2 ^ 63 → Fit w x
sum_fits t t' m w₀ w' p e f hw hw' b ht hm h = rw (e, f) (t, t' * m, hw, rows-size t' m w' p hw' b, ht, hm, h)

-- and what it gives, as it is read back
pub sum-read : {w : Four} {x : List ℤ} {z : ℤ} (w₀ w' : Four) (p : List (List ℤ)) → w ≡ w₀ → x ≡ weighed_rows w' p
    → SFits w64 z → z ≡ weighed w x → to_z w64 (of_z w64 z) ≡ weighed w₀ (weighed_rows w' p)
sum-read {z = z} w₀ w' p e f h g = to_z-of_z w64 z h ∙ g ∙ ap₂ weighed e f

-- a weighted sum of the weighted sums of the rows, by what the weights of both directions are
evaluates : (w w' : Four) (p : List (List ℤ)) (f f' : ℕ → ℤ)
    → f 0 ≡ w.a → f 1 ≡ w.b → f 2 ≡ w.c → f 3 ≡ w.d → f' 0 ≡ w'.a → f' 1 ≡ w'.b → f' 2 ≡ w'.c → f' 3 ≡ w'.d
    → weighed w (weighed_rows w' p) ≡ sum2 4 4 (λ k l. f k *ℤ f' l *ℤ entry p k l)
evaluates w w' p f f' a b c d a' b' c' d' =
    weighed-sum w (weighed_rows w' p) f a b c d
    ∙ sum-cong 4 (λ k. f k *ℤ get_or (weighed_rows w' p) k (pos 0)) (λ k. f k *ℤ sum 4 (λ l. f' l *ℤ entry p k l))
    (λ k hk. ap (λ z. f k *ℤ z) (row_at w' p k hk ∙ weighed-sum w' (get_or p k []) f' a' b' c' d'))
    ∙ nested 4 4 f f' (entry p)

module _ (n : ℕ) (p : List (List ℤ)) (r s : ℕ) where
  pub value : weighed (splines_of n r) (weighed_rows (splines_of n s) p)
      ≡ sum2 4 4 (λ k l. pos (piece k r n * piece l s n) *ℤ entry p k l)
  value =
      evaluates (splines_of n r) (splines_of n s) p (λ k. pos (piece k r n)) (λ l. pos (piece l s n)) refl refl refl refl
      refl refl refl refl

  pub slope-u : weighed (derivatives_of n r) (weighed_rows (splines_of n s) p)
      ≡ sum2 4 4 (λ k l. piece_slope k r n *ℤ pos (piece l s n) *ℤ entry p k l)
  slope-u =
      evaluates (derivatives_of n r) (splines_of n s) p (λ k. piece_slope k r n) (λ l. pos (piece l s n)) refl refl refl
      refl refl refl refl refl

  pub slope-v : weighed (splines_of n r) (weighed_rows (derivatives_of n s) p)
      ≡ sum2 4 4 (λ k l. pos (piece k r n) *ℤ piece_slope l s n *ℤ entry p k l)
  slope-v =
      evaluates (splines_of n r) (derivatives_of n s) p (λ k. pos (piece k r n)) (λ l. piece_slope l s n) refl refl refl
      refl refl refl refl refl

-- ---- bounds

-- sums of the splines, of the derivatives, of the rows by either and of all fit, with the entries at their level's
-- limit: the greatest is 32,000×D
pub record Sizes (n m : ℕ) : Type 0 where
  pub side : n ≤ 128
  pub whole-fits : whole n < 2 ^ 63
  pub steepest-fits : steepest n < 2 ^ 63
  pub entry-fits : m < 2 ^ 63
  pub row_fits : whole n * m < 2 ^ 63
  pub slope-row-fits : steepest n * m < 2 ^ 63
  pub value-fits : whole n * (whole n * m) < 2 ^ 63
  pub slope-u-fits : steepest n * (whole n * m) < 2 ^ 63
  pub slope-v-fits : whole n * (steepest n * m) < 2 ^ 63

pub sizes : (n L : ℕ) → L < 4 → n ≡ steps L → Sizes n (limit L)
unfolding eighths
sizes n L l e =
    rw e
    (each (λ L. Sizes (steps L) (limit L))
    (record {
      side = lit≤ tt;
      whole-fits = lit< tt;
      steepest-fits = lit< tt;
      entry-fits = lit< tt;
      row_fits = lit< tt;
      slope-row-fits = lit< tt;
      value-fits = lit< tt;
      slope-u-fits = lit< tt;
      slope-v-fits = lit< tt;
    })
    (record {
      side = lit≤ tt;
      whole-fits = lit< tt;
      steepest-fits = lit< tt;
      entry-fits = lit< tt;
      row_fits = lit< tt;
      slope-row-fits = lit< tt;
      value-fits = lit< tt;
      slope-u-fits = lit< tt;
      slope-v-fits = lit< tt;
    })
    (record {
      side = lit≤ tt;
      whole-fits = lit< tt;
      steepest-fits = lit< tt;
      entry-fits = lit< tt;
      row_fits = lit< tt;
      slope-row-fits = lit< tt;
      value-fits = lit< tt;
      slope-u-fits = lit< tt;
      slope-v-fits = lit< tt;
    })
    (record {
      side = lit≤ tt;
      whole-fits = lit< tt;
      steepest-fits = lit< tt;
      entry-fits = lit< tt;
      row_fits = lit< tt;
      slope-row-fits = lit< tt;
      value-fits = lit< tt;
      slope-u-fits = lit< tt;
      slope-v-fits = lit< tt;
    })
    L l)
