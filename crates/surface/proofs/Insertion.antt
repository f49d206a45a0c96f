-- An accepted insertion: the new tree has the raised levels, the table stays acceptable, and no reading moves.
use mathlib.Core.Path.{◌≡◌, refl, sym, ap, ◌∙◌, subst}
use mathlib.Core.Logic.{◌⊎◌, inl, inr}
use mathlib.Core.Bool.{true, ◌&&◌, cond}
use mathlib.Core.List.{List}
use Prim.Native.Nat.{ℕ, zero, suc, ◌+◌, ◌-◌, ◌*◌, ◌^◌, ◌≤◌, ◌<◌, max}
use native.Mathlib.Nat.{mul_left_comm, one-le-pow, le_trans, le_of_eq}
use native.Mathlib.Decide.{dec_le}
use native.Mathlib.Omega.{arith}
use lib.IntN.{ℤ, pos, neg_ℤ, nat_abs, ◌*ℤ◌}
use lib.Dec.{leb, ltb, eqb, lit<}
use borrow.Author.Tests.{ltb-true, eqb-true, eq-eqb, ne_eqb}
use Rattle.surface.specs.Sheet.{Box, functions, quarters}
use Rattle.surface.specs.Quadtree.{bytes}
use Rattle.surface.specs.Support.{least_under, in_box}
use Rattle.surface.specs.Carry.{carried, carried_over}
use Rattle.surface.specs.Table.{levels, coefficients, limit, table_sum}
use Rattle.surface.specs.Calls.{new_levels, new_tree, new_coefficients}
use Rattle.surface.proofs.TreeLevels.{level_at-beyond, region_tree-ext}
use Rattle.surface.proofs.SmallLevels.{levels-small}
use Rattle.surface.proofs.OneTree.{region-formed, region-levels}
use Rattle.surface.proofs.Least.{least_under-cong, least_under-raise}
use Rattle.surface.proofs.TableLaws.{Formed, levels-of, Sound, sides, slice-length, slice-coefficient}
use Rattle.surface.proofs.Carried.{carried-own}
use Rattle.surface.proofs.Linear.{reading-cong}
use Rattle.surface.proofs.Refine.{carried_over-active, refine-reading}
use Rattle.surface.proofs.Bounds.{Between, carried-between}
use Rattle.finite.proofs.Int.{mul-neg}
use Rattle.finite.proofs.Order.{scale-mono, scale-reflects, abs-le, le-abs}
use Rattle.finite.proofs.Tests.{both, pick}
use lib.Pow.{pow-add}
use lib.Signed.{◌≤ℤ◌}

-- a square of the box lies before its far corner
in-box : (b : Box) (q r : ℕ) → in_box b q r ≡ true → (q < b.u1) × (r < b.v1)
in-box b q r e =
    let e2 = both (leb b.u0 q && ltb q b.u1) (leb b.v0 r && ltb r b.v1) e in (
      ltb-true q b.u1 (both (leb b.u0 q) (ltb q b.u1) e2.0).1,
      ltb-true r b.v1 (both (leb b.v0 r) (ltb r b.v1) e2.1).1,
    )

module _ (W H : ℕ) (t : List ℕ) (f : Formed W H t) (hW : W ≤ 8) (hH : H ≤ 8) (box : Box) (n : ℕ) (hn : n ≤ 3)
    (hu : box.u1 ≤ quarters W) (hv : box.v1 ≤ quarters H) where
  new-le : (q r : ℕ) → new_levels t box n q r ≤ 3
  new-le q r = pick (in_box box q r) (λ b. cond b (max (levels t q r) n) (levels t q r) ≤ 3)
      (λ _. omega (arith, levels-small t q r)) (λ _. levels-small t q r)

  -- beyond the sheet the old level is 0, and the box does not reach there
  new-beyond : (q r : ℕ) → q < 32 → r < 32 → (quarters W ≤ q) ⊎ (quarters H ≤ r) → new_levels t box n q r ≡ 0
  new-beyond q r hq hr e =
      pick (in_box box q r) (λ b. cond b (max (levels t q r) n) (levels t q r) ≡ 0)
      (λ i. absurd (outside e (in-box box q r i)))
      (λ _. levels-of W H t f q r ∙ level_at-beyond W H 5 0 0 f.tree q r f.shape hq hr (from-corner e))
    where
      outside : (quarters W ≤ q) ⊎ (quarters H ≤ r) → (q < box.u1) × (r < box.v1) → ⊥
      outside (inl h) i = omega arith
      outside (inr h) i = omega arith

      from-corner : (quarters W ≤ q) ⊎ (quarters H ≤ r) → (quarters W ≤ 0 + q) ⊎ (quarters H ≤ 0 + r)
      from-corner (inl h) = inl (omega arith)
      from-corner (inr h) = inr (omega arith)

  -- the new tree is of the form and has the raised levels
  pub new-formed : Formed W H (new_tree t box n)
  unfolding new_tree
  new-formed = region-formed W H hW hH (new_levels t box n) new-le new-beyond

  whole-levels : (q r : ℕ) → q < 32 → r < 32 → levels (new_tree t box n) q r ≡ new_levels t box n q r
  unfolding new_tree
  whole-levels = region-levels W H hW hH (new_levels t box n) new-le new-beyond

  pub new-levels : (q r : ℕ) → q < quarters W → r < quarters H → levels (new_tree t box n) q r ≡ new_levels t box n q r
  new-levels q r hq hr = whole-levels q r (omega arith) (omega arith)

  -- the same box raises them no further
  again : (q r : ℕ) → q < 32 → r < 32 → new_levels (new_tree t box n) box n q r ≡ new_levels t box n q r
  again q r hq hr =
      ap (λ l. cond (in_box box q r) (max l n) l) (whole-levels q r hq hr)
      ∙ pick (in_box box q r)
      (λ b. let l = cond b (max (levels t q r) n) (levels t q r) in cond b (max l n) l ≡ l)
      (λ _. omega arith) (λ _. refl)

  pub new-tree-again : new_tree (new_tree t box n) box n ≡ new_tree t box n
  unfolding new_tree
  new-tree-again =
      ap bytes (region_tree-ext 5 0 0 (new_levels (new_tree t box n) box n) (new_levels t box n)
      (λ q r hq hr. again (0 + q) (0 + r) (omega arith) (omega arith)))

-- a coefficient within its limit, in units of level 3, is at most 32,000×64^3 in size, and the other way round
limit-scaled : (n L : ℕ) → n + L ≡ 3 → 64 ^ n * limit L ≡ limit 3
limit-scaled n L e = mul_left_comm (64 ^ n) 32000 (64 ^ L) ∙ ap (λ k. 32000 * k)
    (sym (pow-add 64 n L) ∙ ap (λ k. 64 ^ k) e)

pub scaled-between : (n L : ℕ) (z : ℤ) → n + L ≡ 3 → nat_abs z ≤ limit L
    → Between (neg_ℤ (pos (limit 3))) (pos (64 ^ n) *ℤ z) (pos (limit 3))
scaled-between n L z e h =
    let b = abs-le z h in
    let m = limit-scaled n L e in (
      subst (λ k. neg_ℤ (pos k) ≤ℤ (pos (64 ^ n) *ℤ z)) m
          (subst (λ k. k ≤ℤ (pos (64 ^ n) *ℤ z)) (mul-neg (pos (64 ^ n)) (pos (limit L)))
          (scale-mono (64 ^ n) b.0)),
      subst (λ k. (pos (64 ^ n) *ℤ z) ≤ℤ pos k) m (scale-mono (64 ^ n) b.1),
    )

between-scaled : (n L : ℕ) (z : ℤ) → n + L ≡ 3 → Between (neg_ℤ (pos (limit 3))) (pos (64 ^ n) *ℤ z) (pos (limit 3))
    → nat_abs z ≤ limit L
between-scaled n L z e b =
    let m = sym (limit-scaled n L e) in
    let p : 0 < 64 ^ n = one-le-pow n 64 (lit< tt) in
    le-abs z
    (scale-reflects (64 ^ n) p
    (subst (λ k. k ≤ℤ (pos (64 ^ n) *ℤ z)) (sym (mul-neg (pos (64 ^ n)) (pos (limit L))))
    (subst (λ k. neg_ℤ (pos k) ≤ℤ (pos (64 ^ n) *ℤ z)) m b.0)))
    (scale-reflects (64 ^ n) p (subst (λ k. (pos (64 ^ n) *ℤ z) ≤ℤ pos k) m b.1))

-- in an acceptable table each carried value that counts is within the limit of its level
pub carried-limit : (W H : ℕ) (t : List ℕ) (cs : List ℤ) → Sound W H t cs → (L a b : ℕ) → L < 4 → a < functions W L
    → b < functions H L → least_under W H (levels t) L a b ≤ L
    → nat_abs (carried W H (levels t) (coefficients W H cs) L a b) ≤ limit L
carried-limit W H t cs s L a b hL ha hb h =
    let e : 3 - L + L ≡ 3 = omega arith in
    between-scaled (3 - L) L (carried W H (levels t) (coefficients W H cs) L a b) e
    (carried-between W H (levels t) (coefficients W H cs) (neg_ℤ (pos (limit 3))) (pos (limit 3)) (λ _ _ _. Unit {0})
    (λ _ _ _ _ _ _ _ _ _. tt)
    (λ n M c d m hc hd act _. scaled-between n M (coefficients W H cs M c d) m
    (s.limits M c d (omega arith) hc hd (eq-eqb (least_under W H (levels t) M c d) M act)))
    L (3 - L) e a b ha hb h tt)

-- where a function's least level is above its own, it carries its passive coefficient, 0; so every carried value fits
pub carried-fits : (W H : ℕ) (t : List ℕ) (cs : List ℤ) → Sound W H t cs → (L a b : ℕ) → L < 4 → a < functions W L
    → b < functions H L → nat_abs (carried W H (levels t) (coefficients W H cs) L a b) ≤ limit L
carried-fits W H t cs s L a b hL ha hb = go (dec_le (least_under W H (levels t) L a b) L)
  where
    own : (M : ℕ) → M < least_under W H (levels t) M a b
        → carried W H (levels t) (coefficients W H cs) M a b ≡ coefficients W H cs M a b
    own zero h = unfold carried in refl
    own (suc M) h = carried-own W H (levels t) (coefficients W H cs) M a b (omega arith)

    go : Dec (least_under W H (levels t) L a b ≤ L) → nat_abs (carried W H (levels t) (coefficients W H cs) L a b) ≤
        limit L
    go (yes h) = carried-limit W H t cs s L a b hL ha hb h
    go (no h) =
        rw (
          own L (omega arith),
          s.passive L a b hL ha hb
              (ne_eqb (least_under W H (levels t) L a b) L (λ e. h (omega arith))),
        )
        (omega arith)

module _ (W H : ℕ) (t : List ℕ) (cs : List ℤ) (s : Sound W H t cs) (box : Box) (n : ℕ) (hn : n ≤ 3)
    (hu : box.u1 ≤ quarters W) (hv : box.v1 ≤ quarters H) where
  abbrev new : ℕ → ℕ → ℕ
  new = levels (new_tree t box n)

  formed' : Formed W H (new_tree t box n)
  formed' = new-formed W H t s.tree (sides s).1 (sides s).3 box n hn hu hv

  levels' : (q r : ℕ) → q < quarters W → r < quarters H → new q r ≡ new_levels t box n q r
  levels' = new-levels W H t s.tree (sides s).1 (sides s).3 box n hn hu hv

  rise : (q r : ℕ) → q < quarters W → r < quarters H → levels t q r ≤ new q r
  rise q r hq hr =
      rw (levels' q r hq hr)
      (pick (in_box box q r) (λ b. levels t q r ≤ cond b (max (levels t q r) n) (levels t q r))
      (λ _. omega arith) (λ _. omega arith))

  abbrev after : ℕ → ℕ → ℕ → ℤ
  after L a b = carried_over W H (levels t) new (coefficients W H cs) L a b

  -- the slice written holds the carried values of the functions active under the new tree
  new-coefficient : (L a b : ℕ) → L < 4 → a < functions W L → b < functions H L
      → coefficients W H (new_coefficients W H t cs box n) L a b ≡ after L a b
  unfolding new_coefficients
  new-coefficient L a b hL ha hb =
      slice-coefficient W H (carried_over W H (levels t) (new_levels t box n) (coefficients W H cs)) L a b hL ha hb
      ∙ ap (λ m. cond (eqb m L) (carried W H (levels t) (coefficients W H cs) L a b) (pos 0))
      (least_under-cong W H (new_levels t box n) new (λ q r hq hr. sym (levels' q r hq hr)) L a b)

  pub insertion-sound : Sound W H (new_tree t box n) (new_coefficients W H t cs box n)
  insertion-sound =
      record {
        side-W = s.side-W;
        side-H = s.side-H;
        tree = formed';
        size = unfold new_coefficients in slice-length W H _;
        limits = λ L a b hL ha hb act.
            let e = eqb-true (least_under W H new L a b) L act in
            subst (λ z. nat_abs z ≤ limit L)
            (sym (new-coefficient L a b hL ha hb
            ∙ carried_over-active W H (levels t) new rise (coefficients W H cs) L a b e))
            (carried-limit W H t cs s L a b hL ha hb
            (le_trans (least_under-raise W H (levels t) new rise L a b) (le_of_eq e)));
        passive = λ L a b hL ha hb act. new-coefficient L a b hL ha hb ∙ rw act;
      }

  -- whichever functions are read: their values, or their derivatives
  pub insertion-reading : (f : ℕ → ℕ → ℕ → ℤ)
      → table_sum W H (new_tree t box n) (new_coefficients W H t cs box n) f ≡ table_sum W H t cs f
  insertion-reading f =
      reading-cong W H new (coefficients W H (new_coefficients W H t cs box n)) after new-coefficient f
      ∙ refine-reading W H (levels t) new rise (coefficients W H cs) f
