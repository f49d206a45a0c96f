-- Which functions of a row have their cut support in a region: from the words of the rows under it to the marks.
use mathlib.Core.Path.{◌≡◌, refl, sym, ap, ◌∙◌, subst}
use mathlib.Core.Bool.{Bool, true, ◌&&◌}
use mathlib.Core.List.{List}
use mathlib.Core.Logic.{◌↔◌}
use Prim.Native.Nat.{ℕ, zero, suc, ◌+◌, ◌-◌, ◌*◌, ◌/◌, ◌%◌, ◌^◌, ◌≤◌, ◌<◌, min}
use native.Mathlib.Nat.{le_trans, mul-one, mul-zero, mul_assoc, suc-mul, add-zero, add_assoc, add_comm, mod-lt}
use native.Mathlib.Nat.{zero-lt-suc}
use native.Mathlib.Decide.{dec_lt}
use native.Mathlib.Omega.{arith}
use lib.Bits.{bit_and}
use lib.Dec.{leb}
use lib.ListN.{get_or}
use borrow.Author.Tests.{eq-eqb, ne_eqb, leb-true, le-leb, lt-ltb, le-ltb, lt-leb}
use Rattle.finite.specs.Bits.{bit}
use Rattle.finite.proofs.Bits.{bit-small, bit-and, bit-shr}
use Rattle.finite.proofs.Tests.{same_test, both, and_intro}
use Rattle.surface.specs.Sheet.{eighths, functions, quarters}
use Rattle.surface.specs.Support.{low_end, high_end, shares, least_where, least_under}
use Rattle.surface.proofs.Least.{least_where-le, le-least_where}
use Rattle.rows.specs.Rows.{in_rows, levels_of, Nested}
use Rattle.activity.specs.Marks.{Common, padded_bit, PaddedTo, Runs, mark_at, marked, placed, RegionRow}
use Rattle.activity.specs.declared.Marks.{Marks}
use Rattle.activity.proofs.BitLaws.{all_ones}
use Rattle.activity.proofs.WindowLaws.{eighths-le, shares-window, window-fits}

-- ---- along u: the places of the runs

-- where the support of function a starts, if a cell's side is e eighths: its quarter, with 16 places before the sheet
abbrev pub mark_place : ℕ → ℕ → ℕ
mark_place e a = (32 + a * e - 3 * e) / 2

abbrev pub words : ℕ → ℕ → Marks
words even odd = record { even = even; odd = odd }

module _ (e even odd a : ℕ) (small : e ≤ 8) where
  pub even_place : a % 2 ≡ 0 → mark_at e (placed e (words even odd)) a ≡ bit even (mark_place e a)
  even_place h =
      let index : a ≡ 2 * (a / 2) = omega arith in
      let twice : a * e ≡ 2 * (a / 2 * e) = ap (λ n. n * e) index ∙ mul_assoc 2 (a / 2) e in
      rw (eq-eqb (a % 2) 0 h) (bit-shr even ((32 - 3 * e) / 2) (a / 2 * e) ∙ ap (bit even) (omega arith))

  pub odd_place : a % 2 ≡ 1 → mark_at e (placed e (words even odd)) a ≡ bit odd (mark_place e a)
  odd_place h =
      let index : a ≡ suc (2 * (a / 2)) = omega arith in
      let twice : a * e ≡ 2 * (a / 2 * e) + e =
      ap (λ n. n * e) index ∙ suc-mul (2 * (a / 2)) e ∙ ap (λ n. n + e) (mul_assoc 2 (a / 2) e) in
      rw (ne_eqb (a % 2) 0 (λ z. omega arith)) (bit-shr odd (16 - e) (a / 2 * e) ∙ ap (bit odd) (omega arith))

-- how many quarters the support of function a covers before it is cut: one more where level 3 edges halve two
abbrev pub width : ℕ → ℕ → ℕ
width L a = 2 * eighths L + eighths L % 2 * (1 - a % 2)

-- the quarters of the sheet under it are those of the run at its place
pub run-shares : (W L a q : ℕ) → L ≤ 3 → q < quarters W
    → (shares W L a q ≡ true)
    ↔ ((mark_place (eighths L) a ≤ 16 + q) × (16 + q < mark_place (eighths L) a + width L a))
unfolding eighths
run-shares W L a q hL hq =
    (λ e. there L hL ((shares-window W L a q).0 e), λ h. (shares-window W L a q).1 (back L hL h))
  where
    there : (L : ℕ) → L ≤ 3 → (low_end L a / 2 ≤ q) × (q < (high_end W L a + 1) / 2)
        → (mark_place (eighths L) a ≤ 16 + q) × (16 + q < mark_place (eighths L) a + width L a)
    there zero h w = (omega arith, omega arith)
    there (suc zero) h w = (omega arith, omega arith)
    there (suc (suc zero)) h w = (omega arith, omega arith)
    there (suc (suc (suc zero))) h w = (omega arith, omega arith)
    there (suc (suc (suc (suc L)))) h w = absurd (omega arith)

    back : (L : ℕ) → L ≤ 3 → (mark_place (eighths L) a ≤ 16 + q) × (16 + q < mark_place (eighths L) a + width L a)
        → (low_end L a / 2 ≤ q) × (q < (high_end W L a + 1) / 2)
    back zero h w = (omega arith, omega arith)
    back (suc zero) h w = (omega arith, omega arith)
    back (suc (suc zero)) h w = (omega arith, omega arith)
    back (suc (suc (suc zero))) h w = (omega arith, omega arith)
    back (suc (suc (suc (suc L)))) h w = absurd (omega arith)

-- ---- the bits of a row's marks

-- the run that the mark of function a tells of
abbrev pub MarkRun : ℕ → ℕ → Marks → Type 0
MarkRun L word m =
    (a : ℕ) → (marked (eighths L) m a ≡ true)
    ↔ ((j : ℕ) → j < width L a → 1 ≤ bit word (mark_place (eighths L) a + j))

-- from the runs of 2 e bits, e the side of a cell in eighths: an even function of level 3 takes two of them
mark-run : (L word even odd : ℕ) → Runs word (2 * eighths L) odd
    → ((k : ℕ) → bit even k ≡ min (bit odd k) (bit odd (k + eighths L % 2)))
    → MarkRun L word (placed (eighths L) (words even odd))
mark-run L word even odd runs pairs a = go (a % 2) refl
  where
    place : ℕ
    place = mark_place (eighths L) a

    run : (k : ℕ) → (1 ≤ bit odd k) ↔ ((j : ℕ) → j < 2 * eighths L → 1 ≤ bit word (k + j))
    run k = rw (runs k) (all_ones (2 * eighths L) (λ j. bit word (k + j)))

    -- a bit of the first run, or else of the second
    inside : (j : ℕ) → j < 2 * eighths L + eighths L % 2
        → ((j : ℕ) → j < 2 * eighths L → 1 ≤ bit word (place + j))
        → ((j : ℕ) → j < 2 * eighths L → 1 ≤ bit word (place + eighths L % 2 + j))
        → Dec (j < 2 * eighths L) → 1 ≤ bit word (place + j)
    inside j hj first last (yes l) = first j l
    inside j hj first last (no l) =
        let e = eighths L in
        let half : e % 2 < 2 = mod-lt e (zero-lt-suc 1) in
        let k : place + e % 2 + (j - e % 2) ≡ place + j = omega arith in
        subst (λ i. 1 ≤ bit word i) k (last (j - e % 2) (omega arith))

    go : (d : ℕ) → a % 2 ≡ d
        → (marked (eighths L) (placed (eighths L) (words even odd)) a ≡ true)
        ↔ ((j : ℕ) → j < width L a → 1 ≤ bit word (place + j))
    go zero p =
        let e = eighths L in
        let one : 1 - a % 2 ≡ 1 = omega arith in
        let size : width L a ≡ 2 * e + e % 2 = rw one (ap (λ n. 2 * e + n) (mul-one (e % 2))) in
        let half : e % 2 < 2 = mod-lt e (zero-lt-suc 1) in
        rw (even_place e even odd a (eighths-le L) p, size) (
          λ t j hj.
              let h = leb-true 1 (bit even place) t in
              let first : 1 ≤ bit odd place = omega (arith, pairs place) in
              let last : 1 ≤ bit odd (place + e % 2) = omega (arith, pairs place) in
              inside j hj ((run place).0 first) ((run (place + e % 2)).0 last) (dec_lt j (2 * e)),
          λ h. le-leb 1 (bit even place)
              (rw (pairs place)
              (omega (
                arith,
                (run place).1 (λ j hj. h j (omega arith)),
                (run (place + e % 2)).1
                    (λ j hj. subst (λ k. 1 ≤ bit word k) (sym (add_assoc place (e % 2) j))
                    (h (e % 2 + j) (omega arith))),
              ))),
        )
    go (suc d) p =
        let e = eighths L in
        let none : 1 - a % 2 ≡ 0 = omega arith in
        let size : width L a ≡ 2 * e = rw none (ap (λ n. 2 * e + n) (mul-zero (e % 2)) ∙ add-zero (2 * e)) in
        let left : a % 2 ≡ 1 = omega (arith, mod-lt a (zero-lt-suc 1)) in
        rw (odd_place e even odd a (eighths-le L) left, size) (
          λ t. (run place).0 (leb-true 1 (bit odd place) t),
          λ h. le-leb 1 (bit odd place) ((run place).1 h),
        )

-- a mark's run ends within the word
pub place-fits : (W L a : ℕ) → W ≤ 8 → L ≤ 3 → a < functions W L → mark_place (eighths L) a + width L a ≤ 64
unfolding eighths
place-fits W zero a hW hL ha = omega arith
place-fits W (suc zero) a hW hL ha = omega arith
place-fits W (suc (suc zero)) a hW hL ha = omega arith
place-fits W (suc (suc (suc zero))) a hW hL ha = omega arith
place-fits W (suc (suc (suc (suc L)))) a hW hL ha = absurd (omega arith)

-- the places of the sheet in a padded word, and those beside it
pad-sheet : (W word q : ℕ) → q < quarters W → padded_bit W word (16 + q) ≡ bit word q
pad-sheet W word q h =
    let place : 16 + q - 16 ≡ q = omega arith in
    rw (le-ltb (16 + q) 16 (omega arith), lt-leb (16 + quarters W) (16 + q) (omega arith), place) refl

pad-below : (W word k : ℕ) → k < 16 → padded_bit W word k ≡ 1
pad-below W word k h = rw (lt-ltb k 16 h) refl

pad-past : (W word k : ℕ) → 16 ≤ k → 16 + quarters W ≤ k → padded_bit W word k ≡ 1
pad-past W word k l h = rw (le-ltb k 16 l, le-leb (16 + quarters W) k h) refl

-- ---- one region

-- bit q of the words of the rows under a support is 1 where each of these quarters lies in the region
common-bit : (rows : List ℕ) (first low high word q : ℕ) → Common rows (first + low) (first + high) word → q < 32
    → (1 ≤ bit word q) ↔ ((r : ℕ) → low ≤ r → r < high → 1 ≤ bit (get_or rows (first + r) 0) q)
common-bit rows first low high word q common hq =
    let f : ℕ → ℕ = λ k. bit (get_or rows (first + low + k) 0) q in
    let n = first + high - (first + low) in (
      λ h r l u.
          let place : first + low + (r - low) ≡ first + r = omega arith in
          subst (λ p. 1 ≤ bit (get_or rows p 0) q) place
          ((all_ones n f).0 (rw (common q hq) at h) (r - low) (omega arith)),
      λ h. rw (common q hq)
          ((all_ones n f).1 λ k l. subst (λ p. 1 ≤ bit (get_or rows p 0) q) (omega arith)
          (h (low + k) (omega arith) (omega arith))),
    )

-- a quarter lies in the region of level l + 1 exactly when its level is at least that
pub nested-level : (rows : List ℕ) (l q r : ℕ) → Nested rows → l < 3 → q < 32 → r < 32
    → (1 ≤ in_rows rows l q r) ↔ (suc l ≤ levels_of rows q r)
nested-level rows l q r n hl hq hr = go l hl
  where
    s : in_rows rows 1 q r ≤ in_rows rows 0 q r
    s = n.second q r hq hr

    t : in_rows rows 2 q r ≤ in_rows rows 1 q r
    t = n.third q r hq hr

    small : (l : ℕ) → in_rows rows l q r < 2
    small l = bit-small (get_or rows (l * 32 + r) 0) q

    go : (l : ℕ) → l < 3 → (1 ≤ in_rows rows l q r) ↔ (suc l ≤ levels_of rows q r)
    go zero h = (
      λ e. omega (arith, s, t, small 0, small 1, small 2),
      λ e. omega
          (arith, s, t, small 0, small 1, small 2),
    )
    go (suc zero) h =
        (λ e. omega (arith, s, t, small 0, small 1, small 2), λ e. omega (arith, s, t, small 0, small 1, small 2))
    go (suc (suc zero)) h =
        (λ e. omega (arith, s, t, small 0, small 1, small 2), λ e. omega (arith, s, t, small 0, small 1, small 2))
    go (suc (suc (suc l))) h = absurd (omega arith)

module _ (W H L b l : ℕ) (rows : List ℕ) (word padded : ℕ) (m : Marks) (nested : Nested rows) (hW : W ≤ 8) (hH : H ≤ 8)
    (hL : L ≤ 3) (hl : l < 3) where
  module _ (common : Common rows (l * 32 + low_end L b / 2) (l * 32 + (high_end H L b + 1) / 2) word)
      (pad : PaddedTo W word padded) (run : MarkRun L padded m) where
    -- bit q of the word: the quarters (q, r) under the supports of row b
    column : (q : ℕ) → q < quarters W
        → (1 ≤ bit word q) ↔ ((r : ℕ) → r < quarters H → shares H L b r ≡ true → suc l ≤ levels_of rows q r)
    column q hq =
        let c = common-bit rows (l * 32) (low_end L b / 2) ((high_end H L b + 1) / 2) word q common (omega arith) in (
          λ h r hr e.
              let w = (shares-window H L b r).0 e in
              (nested-level rows l q r nested hl (omega arith) (omega arith)).0 (c.0 h r w.0 w.1),
          λ h. c.1 λ r lo hi.
              let hr : r < quarters H = omega (arith, window-fits H L b) in
              (nested-level rows l q r nested hl (omega arith) (omega arith)).1
              (h r hr ((shares-window H L b r).1 (lo, hi))),
        )

    pub region-marks : RegionRow W H L b (suc l) (levels_of rows) m
    unfolding least_under
    region-marks a ha = same_test (marked (eighths L) m a) (leb (suc l) (least_under W H (levels_of rows) L a b)) there
        back
      where
        under : ℕ → ℕ → Bool
        under q r = shares W L a q && shares H L b r

        place : ℕ
        place = mark_place (eighths L) a

        there : marked (eighths L) m a ≡ true → leb (suc l) (least_where W H (levels_of rows) under) ≡ true
        there e =
            le-leb (suc l) (least_where W H (levels_of rows) under)
            (le-least_where W H (suc l) (levels_of rows) under (omega arith) λ q r hq hr t.
            let s = both (shares W L a q) (shares H L b r) t in
            let p = (run-shares W L a q hL hq).0 s.0 in
            let j = 16 + q - place in
            let k : place + j ≡ 16 + q = omega (arith, p.0) in
            let one : 1 ≤ bit padded (16 + q) = subst (λ i. 1 ≤ bit padded i) k ((run a).0 e j (omega (arith, p.1))) in
            (column q hq).0 (rw (pad (16 + q) (omega arith), pad-sheet W word q hq) at one) r hr s.1)

        back : leb (suc l) (least_where W H (levels_of rows) under) ≡ true → marked (eighths L) m a ≡ true
        back e = (run a).1 λ j hj.
            let fits : place + j < 64 = omega (arith, place-fits W L a hW hL ha) in
            rw (pad (place + j) fits) (go j hj (dec_lt (place + j) 16) (dec_lt (place + j) (16 + quarters W)))
          where
            go : (j : ℕ) → j < width L a → Dec (place + j < 16) → Dec (place + j < 16 + quarters W)
                → 1 ≤ padded_bit W word (place + j)
            go j hj (yes s) t = rw (pad-below W word (place + j) s) (omega arith)
            go j hj (no s) (no t) = rw (pad-past W word (place + j) (omega arith) (omega arith)) (omega arith)
            go j hj (no s) (yes t) =
                let q = place + j - 16 in
                let hq : q < quarters W = omega arith in
                let k : place + j ≡ 16 + q = omega arith in
                let u = (run-shares W L a q hL hq).1 (omega arith, omega arith) in
                rw (k, pad-sheet W word q hq)
                ((column q hq).1 λ r hr er.
                le_trans (leb-true (suc l) (least_where W H (levels_of rows) under) e)
                (least_where-le W H (levels_of rows) under q r hq hr (and_intro (shares W L a q) (shares H L b r) u er)))

-- the marks of row b of level L for the region of level M, from the words of its rows and the runs in them
pub region-row : (W H L b M : ℕ) (rows : List ℕ) (low high word padded : ℕ) (m : Marks) → Nested rows → W ≤ 8 → H ≤ 8
    → L ≤ 3 → 1 ≤ M → M ≤ 3 → low ≡ low_end L b / 2 → high ≡ (high_end H L b + 1) / 2
    → Common rows (32 * M - 32 + low) (32 * M - 32 + high) word → PaddedTo W word padded → MarkRun L padded m
    → RegionRow W H L b M (levels_of rows) m
region-row W H L b zero rows low high word padded m n hW hH hL one three el eh common pad run = absurd (omega arith)
region-row W H L b (suc l) rows low high word padded m n hW hH hL one three el eh common pad run =
    let first : 32 * suc l - 32 ≡ l * 32 = omega arith in
    region-marks W H L b l rows word padded m n hW hH hL (omega arith) (rw (first, el, eh) at common) pad run

-- at level 3 an even function takes two runs, above it one
module _ (L word odd : ℕ) (runs : Runs word (2 * eighths L) odd) where
  pub fine-run : L ≡ 3 → MarkRun L word (placed (eighths L) (words (bit_and odd (odd / 2 ^ 1)) odd))
  unfolding eighths
  fine-run fine =
      let rest : eighths L % 2 ≡ 1 = ap (λ l. eighths l % 2) fine in
      mark-run L word (bit_and odd (odd / 2 ^ 1)) odd runs λ k.
      rw rest
      (bit-and odd (odd / 2 ^ 1) k ∙ ap (min (bit odd k)) (bit-shr odd 1 k ∙ ap (bit odd) (add_comm 1 k)))

  pub coarse-run : L ≤ 3 → (L ≡ 3 → ⊥) → MarkRun L word (placed (eighths L) (words odd odd))
  unfolding eighths
  coarse-run hL coarse =
      mark-run L word odd odd runs λ k. rw (even-side L hL coarse, add-zero k) (omega arith)
    where
      even-side : (L : ℕ) → L ≤ 3 → (L ≡ 3 → ⊥) → eighths L % 2 ≡ 0
      even-side zero h n = refl
      even-side (suc zero) h n = refl
      even-side (suc (suc zero)) h n = refl
      even-side (suc (suc (suc zero))) h n = absurd (n refl)
      even-side (suc (suc (suc (suc L)))) h n = absurd (omega arith)
