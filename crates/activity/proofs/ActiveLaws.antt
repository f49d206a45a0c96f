-- Active functions: those in the region of their own level and not in that of the next.
use mathlib.Core.Path.{◌≡◌, refl, sym, ap, ap₂, ◌∙◌}
use mathlib.Core.Bool.{Bool, true, false, cond}
use mathlib.Core.List.{List}
use Prim.Native.Nat.{ℕ, zero, suc, ◌+◌, ◌-◌, ◌*◌, ◌/◌, ◌%◌, ◌^◌, ◌≤◌, ◌<◌}
use native.Mathlib.Nat.{mul-le-mul_right, suc-mul, mod-lt, zero-lt-suc}
use native.Mathlib.Omega.{arith}
use lib.Dec.{leb, eqb}
use borrow.Author.Tests.{eq-eqb, ne_eqb, leb-true, leb-false, le-leb, lt-leb}
use Rattle.finite.specs.Bits.{bit}
use Rattle.finite.specs.Range.{table_from}
use Rattle.finite.proofs.Bits.{bit-small, bit-ones, bit_past, bit-shr}
use Rattle.finite.proofs.Table.{table-cong}
use Rattle.finite.proofs.Minima.{least-le-top}
use Rattle.surface.specs.Sheet.{eighths, functions, quarters}
use Rattle.surface.specs.Support.{least_under}
use Rattle.rows.specs.Rows.{levels_of}
use Rattle.activity.specs.Marks.{mark_at, marked, placed, RegionRow, ActiveRow, Without}
use Rattle.activity.specs.Mark.{row_marks, active_mark}
use Rattle.activity.specs.declared.Marks.{Marks}
use Rattle.activity.proofs.WindowLaws.{eighths-le, eighths-some}
use Rattle.activity.proofs.RegionLaws.{mark_place, words, even_place, odd_place, place-fits}
use Rattle.activity.proofs.StepLaws.{digit}

-- ---- all functions marked, and none

-- two words alike, at a function's place
alike : (e word a : ℕ) → e ≤ 8 → mark_at e (placed e (words word word)) a ≡ bit word (mark_place e a)
alike e word a small = go (a % 2) refl
  where
    go : (d : ℕ) → a % 2 ≡ d → mark_at e (placed e (words word word)) a ≡ bit word (mark_place e a)
    go zero h = even_place e word word a small h
    go (suc d) h = odd_place e word word a small (omega (arith, mod-lt a (zero-lt-suc 1)))

pub all-inside : (W H L b : ℕ) (lev : ℕ → ℕ → ℕ) → W ≤ 8 → L ≤ 3
    → RegionRow W H L b 0 lev (placed (eighths L) (words 18446744073709551615 18446744073709551615))
all-inside W H L b lev hW hL a ha =
    let fits : mark_place (eighths L) a < 64 = omega (arith, place-fits W L a hW hL ha, eighths-some L) in
    ap (leb 1) (alike (eighths L) 18446744073709551615 a (eighths-le L) ∙ bit-ones 64 (mark_place (eighths L) a) fits)
    ∙ sym (le-leb 0 (least_under W H lev L a b) (omega arith))

least-small : (W H : ℕ) (lev : ℕ → ℕ → ℕ) (L a b : ℕ) → least_under W H lev L a b ≤ 3
unfolding least_under
least-small W H lev L a b = least-le-top 3 (quarters W) _

pub none-beyond : (W H L b : ℕ) (lev : ℕ → ℕ → ℕ) → RegionRow W H L b 4 lev (placed (eighths L) (words 0 0))
none-beyond W H L b lev a ha =
    ap (leb 1)
    (alike (eighths L) 0 a (eighths-le L) ∙ bit_past 0 0 (mark_place (eighths L) a) (omega arith) (omega arith))
    ∙ sym (lt-leb 4 (least_under W H lev L a b) (omega (arith, least-small W H lev L a b)))

-- ---- own region and not the next

-- the bits of even and odd functions alike
less-bit : (t : Bool) (own finer m : Marks) (k : ℕ) → Without own.even finer.even m.even
    → Without own.odd finer.odd m.odd
    → bit (cond t m.even m.odd) k
    ≡ bit (cond t own.even own.odd) k - bit (cond t finer.even finer.odd) k
less-bit true own finer m k e o = e k
less-bit false own finer m k e o = o k

-- and so of words from a place on
without-shr : (word other r n : ℕ) → Without word other r → Without (word / 2 ^ n) (other / 2 ^ n) (r / 2 ^ n)
without-shr word other r n e k =
    bit-shr r n k ∙ e (n + k) ∙ sym (ap₂ ◌-◌ (bit-shr word n k) (bit-shr other n k))

-- a number that is at least L and not at least L + 1 is L
exactly : (x y v L : ℕ) → x < 2 → y < 2 → leb 1 x ≡ leb L v → leb 1 y ≡ leb (L + 1) v → leb 1 (x - y) ≡ eqb v L
exactly zero zero v L hx hy ex ey = sym (ne_eqb v L (λ e. omega (arith, leb-false L v (sym ex))))
exactly zero (suc zero) v L hx hy ex ey = sym (ne_eqb v L (λ e. omega (arith, leb-false L v (sym ex))))
exactly (suc zero) zero v L hx hy ex ey =
    sym (eq-eqb v L (omega (arith, leb-true L v (sym ex), leb-false (L + 1) v (sym ey))))
exactly (suc zero) (suc zero) v L hx hy ex ey = sym (ne_eqb v L (λ e. omega (arith, leb-true (L + 1) v (sym ey))))
exactly zero (suc (suc y)) v L hx hy ex ey = absurd (omega arith)
exactly (suc zero) (suc (suc y)) v L hx hy ex ey = absurd (omega arith)
exactly (suc (suc x)) y v L hx hy ex ey = absurd (omega arith)

marks-without : (W H L b : ℕ) (lev : ℕ → ℕ → ℕ) (own finer m : Marks) → RegionRow W H L b L lev own
    → RegionRow W H L b (L + 1) lev finer → Without own.even finer.even m.even
    → Without own.odd finer.odd m.odd → ActiveRow W H L b lev m
marks-without W H L b lev own finer m r s e o a ha =
    let t = eqb (a % 2) 0 in
    let k = a / 2 * eighths L in
    let x = bit (cond t own.even own.odd) k in
    let y = bit (cond t finer.even finer.odd) k in
    ap (leb 1) (less-bit t own finer m k e o)
    ∙ exactly x y (least_under W H lev L a b) L (bit-small (cond t own.even own.odd) k)
    (bit-small (cond t finer.even finer.odd) k) (r a ha) (s a ha)

pub active-marks : (W H L b : ℕ) (lev : ℕ → ℕ → ℕ) (own finer m : Marks)
    → RegionRow W H L b L lev (placed (eighths L) own) → RegionRow W H L b (L + 1) lev (placed (eighths L) finer)
    → Without own.even finer.even m.even → Without own.odd finer.odd m.odd
    → ActiveRow W H L b lev (placed (eighths L) m)
active-marks W H L b lev own finer m r s e o =
    let p = placed (eighths L) in
    marks-without W H L b lev (p own) (p finer) (p m) r s (without-shr own.even finer.even m.even _ e)
    (without-shr own.odd finer.odd m.odd _ o)

-- ---- places of marks

-- a function's index times the side of a cell, of the n functions of a row
pub index-fits : (n a e : ℕ) → n * e ≤ 88 → 1 ≤ e → a < n → a * e ≤ 88
index-fits n a e size some h = omega (arith, mul-le-mul_right e h, suc-mul a e)

-- the marks of a row's n functions, from the active ones
pub row-marks : (W H L n b : ℕ) (rows : List ℕ) (e : ℕ) (m : Marks) → n ≡ functions W L → e ≡ eighths L
    → ActiveRow W H L b (levels_of rows) m → row_marks e m n ≡ table_from 0 n (λ a. active_mark W H L rows a b)
row-marks W H L n b rows e m size side found =
    table-cong 0 n (mark_at e m) (λ a. active_mark W H L rows a b)
    (λ k l. digit (mark_at e m (0 + k)) (bit-small _ ((0 + k) / 2 * e))
    ∙ ap (λ t. cond t 1 0) (ap (λ e. marked e m (0 + k)) side ∙ found (0 + k) (omega arith)))
