-- Squares of the rows that are raised: equal levels, nested regions, the levels in a square and beside it; and
-- squares with no level above a given one.
use mathlib.Core.Path.{◌≡◌, refl, ap, ap₂, ◌∙◌}
use mathlib.Core.Bool.{Bool, true, false, ◌&&◌, cond}
use mathlib.Core.List.{List}
use Prim.Native.Nat.{ℕ, zero, suc, ◌+◌, ◌-◌, ◌*◌, ◌≤◌, ◌<◌, max}
use native.Mathlib.Omega.{arith}
use lib.ListN.{get_or}
use Rattle.finite.proofs.Bits.{bit-small}
use Rattle.finite.proofs.Tests.{both, pick}
use Rattle.rows.specs.Rows.{in_rows, levels_of, Nested, above, in_span, NoneIn, Painted}
use Rattle.rows.proofs.Spans.{in-span, span-true}

module _ {x y side : ℕ} {rows new : List ℕ} where
  -- levels that agree in the square
  pub painted-cong : {f g : ℕ → ℕ → ℕ} → Painted x y side f rows new
      → ((i j : ℕ) → i < side → j < side → f i j ≡ g i j) → Painted x y side g rows new
  painted-cong {f} {g} p same =
      record {
        size = p.size;
        bits = λ l q r hl hq hr.
            p.bits l q r hl hq hr
            ∙ ap (max (in_rows rows l q r))
            (pick (in_span x side q && in_span y side r)
            (λ t. cond t (above l (f (q - x) (r - y))) 0 ≡ cond t (above l (g (q - x) (r - y))) 0)
            (λ e.
            let s = both (in_span x side q) (in_span y side r) e in
            let u = span-true x side q s.0 in
            let v = span-true y side r s.1 in
            ap (above l) (same (q - x) (r - y) (omega arith) (omega arith)))
            (λ _. refl));
      }

  module _ {lev : ℕ → ℕ → ℕ} (p : Painted x y side lev rows new) where
    painted-bit : (l q r : ℕ) → l < 3 → q < 32 → r < 32
        → in_rows new l q r
        ≡ max (in_rows rows l q r) (cond (in_span x side q && in_span y side r) (above l (lev (q - x) (r - y))) 0)
    painted-bit l q r hl hq hr = p.bits l q r hl hq hr

    -- regions stay nested, since each square is raised to one level
    pub painted-nested : Nested rows → Nested new
    painted-nested n =
        record {
          second = λ q r hq hr.
              rw (painted-bit 1 q r (omega arith) hq hr, painted-bit 0 q r (omega arith) hq hr)
              (step (in_span x side q && in_span y side r) 0 (lev (q - x) (r - y)) (n.second q r hq hr));
          third = λ q r hq hr.
              rw (painted-bit 2 q r (omega arith) hq hr, painted-bit 1 q r (omega arith) hq hr)
              (step (in_span x side q && in_span y side r) 1 (lev (q - x) (r - y)) (n.third q r hq hr));
        }
      where
        step : (t : Bool) (l v : ℕ) {a b : ℕ} → b ≤ a
            → max b (cond t (above (l + 1) v) 0) ≤ max a (cond t (above l v) 0)
        step true l v h = omega arith
        step false l v h = omega arith

    -- in the square, the greater of the old level and the one it is raised to
    pub level-inside : Nested rows → (q r : ℕ) → q < 32 → r < 32 → x ≤ q → q < x + side → y ≤ r → r < y + side
        → lev (q - x) (r - y) ≤ 3 → levels_of new q r ≡ max (levels_of rows q r) (lev (q - x) (r - y))
    level-inside n q r hq hr xq qx yr ry low =
        rw (bits 0 (omega arith), bits 1 (omega arith), bits 2 (omega arith))
        (sums (in_rows rows 0 q r) (in_rows rows 1 q r) (in_rows rows 2 q r) (lev (q - x) (r - y)) (small 0)
        (n.second q r hq hr)
        (n.third q r hq hr) low)
      where
        small : (l : ℕ) → in_rows rows l q r < 2
        small l = bit-small (get_or rows (l * 32 + r) 0) q

        bits : (l : ℕ) → l < 3 → in_rows new l q r ≡ max (in_rows rows l q r) (above l (lev (q - x) (r - y)))
        bits l hl =
            let here = ap₂ ◌&&◌ (in-span x side q xq qx) (in-span y side r yr ry) in
            painted-bit l q r hl hq hr
            ∙ ap (λ t. max (in_rows rows l q r) (cond t (above l (lev (q - x) (r - y))) 0)) here

        sums : (a b c v : ℕ) → a < 2 → b ≤ a → c ≤ b → v ≤ 3
            → max a (above 0 v) + max b (above 1 v) + max c (above 2 v) ≡ max (a + b + c) v
        sums a b c zero ha hb hc hv = omega arith
        sums a b c (suc zero) ha hb hc hv = omega arith
        sums a b c (suc (suc zero)) ha hb hc hv = omega arith
        sums a b c (suc (suc (suc zero))) ha hb hc hv = omega arith
        sums a b c (suc (suc (suc (suc v)))) ha hb hc hv = absurd (omega arith)

    -- beside it, the old level
    pub level-beside : (q r : ℕ) → q < 32 → r < 32 → (in_span x side q && in_span y side r) ≡ false
        → levels_of new q r ≡ levels_of rows q r
    level-beside q r hq hr out =
        rw (bits 0 (omega arith), bits 1 (omega arith), bits 2 (omega arith)) refl
      where
        bits : (l : ℕ) → l < 3 → in_rows new l q r ≡ in_rows rows l q r
        bits l hl =
            painted-bit l q r hl hq hr
            ∙ ap (λ t. max (in_rows rows l q r) (cond t (above l (lev (q - x) (r - y))) 0)) out
            ∙ omega arith

-- regions are nested, so no square has a level above l where none lies in the region of level l + 1
pub none-level : {rows : List ℕ} (l x y side : ℕ) → l < 3 → Nested rows → x + side ≤ 32 → y + side ≤ 32
    → NoneIn l x y side side rows → (q r : ℕ) → x ≤ q → q < x + side → y ≤ r → r < y + side → levels_of rows q r ≤ l
none-level {rows} l x y side few n fx fy none q r xq qx yr ry =
    go l few (none q r xq qx yr ry) (n.second q r (omega arith) (omega arith))
    (n.third q r (omega arith) (omega arith))
    (bit-small (get_or rows (0 * 32 + r) 0) q)
  where
    go : (l : ℕ) → l < 3 → in_rows rows l q r ≡ 0 → in_rows rows 1 q r ≤ in_rows rows 0 q r
        → in_rows rows 2 q r ≤ in_rows rows 1 q r → in_rows rows 0 q r < 2 → levels_of rows q r ≤ l
    go zero few e a b c = omega arith
    go (suc zero) few e a b c = omega arith
    go (suc (suc zero)) few e a b c = omega arith
    go (suc (suc (suc l))) few e a b c = absurd (omega arith)

pub three-levels : (rows : List ℕ) (q r : ℕ) → levels_of rows q r ≤ 3
three-levels rows q r = omega (arith, small 0, small 1, small 2)
  where
    small : (l : ℕ) → in_rows rows l q r < 2
    small l = bit-small (get_or rows (l * 32 + r) 0) q
