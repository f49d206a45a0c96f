-- A fresh table is acceptable, and an accepted set leaves one.
use mathlib.Core.Path.{◌≡◌, refl, sym, ◌∙◌, subst}
use mathlib.Core.Bool.{true, false, not, ◌&&◌}
use mathlib.Core.List.{List, [], ◌∷◌}
use Prim.Native.Nat.{ℕ, zero, suc, ◌/◌, ◌≤◌, ◌<◌}
use native.Mathlib.Decide.{ℕ_discrete}
use native.Mathlib.Omega.{arith}
use lib.IntN.{ℤ, pos, negsuc, nat_abs, ◌+ℤ◌}
use lib.Dec.{ltb, T}
use lib.Signed.{le_z, lt_z}
use borrow.Author.Tests.{ltb-true, ltb-false, leb-true, eq-eqb}
use lib.ListN.{length, get_or, take, drop, set, length-set}
use lib.Seq.{take-append_seam, get_or-set_same, get_or-set_other}
use Rattle.finite.proofs.Tests.{both, and_intro}
use Rattle.surface.specs.Sheet.{good_side, cells, functions}
use Rattle.surface.specs.Quadtree.{leaf, parse, well_formed, level_at}
use Rattle.surface.specs.Support.{low_end, shares, least_under, active}
use Rattle.surface.specs.Table.{cause, ◌or_else◌, levels, place, coefficients, slice_of, limit, table_cause}
use Rattle.surface.specs.Table.{Acceptable}
use Rattle.surface.specs.Calls.{gives, outputs_cause, fresh_cause}
use Rattle.surface.specs.Calls.{fresh_coefficients, fresh_outcome, index_fits, index, set_cause, set_outcome}
use Rattle.surface.specs.Demands.{WritesAcceptable}
use Rattle.surface.proofs.Least.{least_where-le}
use Rattle.surface.proofs.Selection.{touches, cell-shares}
use Rattle.surface.proofs.TableLaws.{good-side, Sound, sound, acceptable}
use Rattle.surface.proofs.TableLaws.{slice-length, slice-coefficient, place-in-slice, place-unique}
use Rattle.surface.proofs.RefusalLaws.{answer-gives}
use Rattle.surface.proofs.Causes.{or_else-none, cause-none, cause-off}

-- ---- fresh

-- with no region above level 0 every level 0 function is active
flat-active : (W H : ℕ) → 0 < W → 0 < H → (a b : ℕ) → a < functions W 0 → b < functions H 0
    → active W H (levels (0 ∷ [])) 0 a b ≡ true
unfolding least_under levels level_at parse
flat-active W H p_w p_h a b ha hb =
    let su = cell-shares W 0 a (low_end 0 a) (omega arith) (touches W 0 a p_w (omega arith) ha) in
    let sv = cell-shares H 0 b (low_end 0 b) (omega arith) (touches H 0 b p_h (omega arith) hb) in
    let m : least_under W H (levels (0 ∷ [])) 0 a b ≤ 0 =
    least_where-le W H (levels (0 ∷ [])) (λ q r. shares W 0 a q && shares H 0 b r) (low_end 0 a / 2) (low_end 0 b / 2)
    su.1 sv.1 (and_intro (shares W 0 a (low_end 0 a / 2)) (shares H 0 b (low_end 0 b / 2)) su.0 sv.0) in
    eq-eqb (least_under W H (levels (0 ∷ [])) 0 a b) 0 (omega arith)

fresh-sound : (W H : ℕ) (number : ℤ) → good_side W ≡ true → good_side H ≡ true → nat_abs number ≤ limit 0
    → Sound W H (0 ∷ []) (slice_of W H (fresh_coefficients number))
fresh-sound W H number gW gH hn =
    record {
      side-W = gW;
      side-H = gH;
      tree = record { tree = leaf 0; whole = unfold parse in refl; shape = unfold well_formed in refl };
      size = slice-length W H (fresh_coefficients number);
      limits = λ L a b hL ha hb act.
          subst (λ z. nat_abs z ≤ limit L) (sym (slice-coefficient W H (fresh_coefficients number) L a b hL ha hb))
          (small L a b);
      passive = λ L a b hL ha hb pas.
          slice-coefficient W H (fresh_coefficients number) L a b hL ha hb ∙ none L a b ha hb pas;
    }
  where
    small : (L a b : ℕ) → nat_abs (fresh_coefficients number L a b) ≤ limit L
    small zero a b = hn
    small (suc L) a b = rw (lib.Dec.eqb-suc-zero L) (omega arith)

    none : (L a b : ℕ) → a < functions W L → b < functions H L → active W H (levels (0 ∷ [])) L a b ≡ false
        → fresh_coefficients number L a b ≡ pos 0
    none zero a b ha hb p =
        absurd (subst T (sym (flat-active W H (good-side W gW).0 (good-side H gH).0 a b ha hb) ∙ p) tt)
    none (suc L) a b ha hb p = rw (lib.Dec.eqb-suc-zero L)

fresh-acceptable : (W H : ℕ) (number : ℤ) (tree_out : List ℕ) (numbers_out : List ℤ) (n : ℕ)
    → (fresh_outcome W H number tree_out numbers_out).result ≡ gives n
    → Acceptable W H (take n (fresh_outcome W H number tree_out numbers_out).tree)
    (fresh_outcome W H number tree_out numbers_out).numbers
unfolding fresh_outcome
fresh-acceptable W H number tree_out numbers_out n e =
    let c1 = cause 1 (not (good_side W && good_side H)) in
    let c10 = cause 10 (ltb (limit 0) (nat_abs number)) in
    let rest = outputs_cause W H (0 ∷ []) tree_out numbers_out in
    let g = answer-gives (fresh_cause W H number tree_out numbers_out) 1 n e in
    let e1 = or_else-none c1 (c10 or_else rest) g.0 in
    let e10 = or_else-none c10 rest e1.1 in
    let sides = both (good_side W) (good_side H) (cause-none 0 (good_side W && good_side H) e1.0) in
    let hn = ltb-false (limit 0) (nat_abs number) (cause-off 9 (ltb (limit 0) (nat_abs number)) e10.0) in
    rw (g.0, ← g.1)
    (subst (λ t. Acceptable W H t (slice_of W H (fresh_coefficients number)))
    (sym (take-append_seam (0 ∷ []) (drop 1 tree_out)))
    (acceptable W H (0 ∷ []) (slice_of W H (fresh_coefficients number))
    (fresh-sound W H number sides.0 sides.1 hn)))

-- ---- set

-- an index that fits is one of the level's functions
pub index_of : (n L : ℕ) (i : ℤ) → index_fits n L i ≡ true
    → (i +ℤ pos 3 ≡ pos (index i)) × (index i < functions n L)
index_of n L (pos m) e =
    let h = ltb-true m (cells n L) (both (le_z (negsuc 2) (pos m)) (lt_z (pos m) (pos (cells n L))) e).1 in
    (refl, omega arith)
index_of n L (negsuc m) e =
    small m (leb-true m 2 (both (le_z (negsuc 2) (negsuc m)) (lt_z (negsuc m) (pos (cells n L))) e).0)
  where
    small : (m : ℕ) → m ≤ 2
        → (negsuc m +ℤ pos 3 ≡ pos (index (negsuc m))) × (index (negsuc m) < functions n L)
    small zero h = (refl, omega arith)
    small (suc zero) h = (refl, omega arith)
    small (suc (suc zero)) h = (refl, omega arith)
    small (suc (suc (suc m))) h = absurd (omega arith)

-- one active place set to a number within the limit
set-sound : (W H : ℕ) (t : List ℕ) (cs : List ℤ) → Sound W H t cs → (L a b : ℕ) (number : ℤ) → L < 4 → a < functions
    W L
    → b < functions H L → active W H (levels t) L a b ≡ true → nat_abs number ≤ limit L
    → Sound W H t (set cs (place W H L a b) number)
set-sound W H t cs s L a b number hL ha hb act hn =
    record {
      side-W = s.side-W;
      side-H = s.side-H;
      tree = s.tree;
      size = length-set cs (place W H L a b) number ∙ s.size;
      limits = λ M c d hM hc hd p.
          cases (λ z. nat_abs z ≤ limit M) M c d hc hd (λ k. subst (λ K. nat_abs number ≤ limit K) k.0 hn)
          (s.limits M c d hM hc hd p);
      passive = λ M c d hM hc hd p.
          cases (λ z. z ≡ pos 0) M c d hc hd
          (λ k. absurd (subst T (sym act ∙ same_test M c d k ∙ p) tt))
          (s.passive M c d hM hc hd p);
    }
  where
    inside : place W H L a b < length cs
    inside = rw s.size (place-in-slice W H L a b hL ha hb)

    same_test : (M c d : ℕ) → (L ≡ M) × (a ≡ c) × (b ≡ d) → active W H (levels t) L a b ≡ active W H (levels t) M c d
    same_test M c d k = rw (k.0, k.1, k.2)

    -- the coefficient set is the number, each other is as it was
    cases : (P : ℤ → Type 0) (M c d : ℕ) → c < functions W M → d < functions H M →
        ((L ≡ M) × (a ≡ c) × (b ≡ d) → P number)
        → P (coefficients W H cs M c d) → P (coefficients W H (set cs (place W H L a b) number) M c d)
    cases P M c d hc hd new old = unfold coefficients in go new old (ℕ_discrete (place W H M c d) (place W H L a b))
      where
        go : ((L ≡ M) × (a ≡ c) × (b ≡ d) → P number) → P (get_or cs (place W H M c d) (pos 0))
            → Dec (place W H M c d ≡ place W H L a b)
            → P (get_or (set cs (place W H L a b) number) (place W H M c d) (pos 0))
        go new old (yes e) =
            subst (λ p. P (get_or (set cs (place W H L a b) number) p (pos 0))) (sym e)
            (subst P (sym (get_or-set_same cs (place W H L a b) number (pos 0) inside))
            (new (place-unique W H L a b M c d ha hb hc hd (sym e))))
        go new old (no e) = subst P (sym (get_or-set_other cs (place W H L a b) (place W H M c d) number (pos 0) e)) old

set-acceptable : (W H : ℕ) (t : List ℕ) (cs : List ℤ) (L : ℕ) (i j number : ℤ)
    → (set_outcome W H t cs L i j number).result ≡ gives tt → Acceptable W H t (set_outcome W H t cs L i j number).after
unfolding set_outcome set_cause
set-acceptable W H t cs L i j number e =
    let c0 = table_cause W H t cs in
    let b9 = index_fits W L i && index_fits H L j && active W H (levels t) L (index i) (index j) in
    let b10 = ltb (limit L) (nat_abs number) in
    let g = (answer-gives (set_cause W H t cs L i j number) tt tt e).0 in
    let e0 = or_else-none c0 (cause 8 (ltb 3 L) or_else cause 9 (not b9) or_else cause 10 b10) g in
    let e8 = or_else-none (cause 8 (ltb 3 L)) (cause 9 (not b9) or_else cause 10 b10) e0.1 in
    let e9 = or_else-none (cause 9 (not b9)) (cause 10 b10) e8.1 in
    let hL : L ≤ 3 = ltb-false 3 L (cause-off 7 (ltb 3 L) e8.0) in
    let f = both (index_fits W L i && index_fits H L j) (active W H (levels t) L (index i) (index j))
    (cause-none 8 b9 e9.0) in
    let ij = both (index_fits W L i) (index_fits H L j) f.0 in
    rw g
    (acceptable W H t (set cs (place W H L (index i) (index j)) number)
    (set-sound W H t cs (sound W H t cs e0.0) L (index i) (index j) number (omega arith) (index_of W L i ij.0).1
    (index_of H L j ij.1).1 f.1 (ltb-false (limit L) (nat_abs number) (cause-off 9 b10 e9.1))))

-- Acceptable tables are what the writing calls leave.
pub writes-acceptable : WritesAcceptable
writes-acceptable = record { fresh = fresh-acceptable; set = set-acceptable }
