-- A grid's bytes: the grid of an acceptable table is judged good, and what is judged good has no other bytes.
use mathlib.Core.Path.{◌≡◌, refl, sym, ap, ap₂, ◌∙◌, subst}
use mathlib.Core.Bool.{true}
use mathlib.Core.List.{List, [], ◌∷◌, ◌++◌, append-nil}
use Prim.Native.Nat.{ℕ, zero, suc, ◌+◌, ◌*◌, ◌≤◌, ◌<◌}
use native.Mathlib.Nat.{mul-le-mul, mul_comm, zero-add}
use native.Mathlib.Decide.{dec_lt}
use native.Mathlib.Omega.{arith}
use lib.IntN.{ℤ, pos, nat_abs}
use lib.Dec.{leb, ltb}
use lib.ListN.{length, get_or, length-append, length-drop, get_or-append}
use lib.Seq.{get_or-append-add, ext_get_or}
use borrow.Author.Tests.{ltb-false, leb-true, le-leb}
use Rattle.finite.specs.Range.{joined}
use Rattle.finite.proofs.Table.{length-table, get_d-table, place-below, place-split}
use Rattle.finite.proofs.Tests.{both, and_intro, every_true, every-intro}
use Rattle.surface.specs.Sheet.{good_side, functions}
use Rattle.surface.specs.Table.{places, limit}
use Rattle.surface.specs.Fields.{contains, holds, length_at, number_at, all_within, Bytes, field_bytes, number_bytes}
use Rattle.surface.specs.TableFile.{sides_in, good_sides, sides_field, end_cause}
use Rattle.surface.specs.Grid.{grid_file, grid_of, Grid, numbers_in, grid_field, grid_contents}
use Rattle.surface.proofs.Causes.{cause-off}
use Rattle.surface.proofs.TableLaws.{good-side, Sound, sound}
use Rattle.surface.proofs.Insertion.{carried-fits}
use Rattle.fields.proofs.FieldLaws.{body_of, rest_of, Stands, unless-accepted, part-accepted, checked-accepted}
use Rattle.fields.proofs.FieldLaws.{body-length, body_bytes, rest-bytes, field-written}
use Rattle.fields.proofs.FiveBytes.{numbers-determine}
use Rattle.fields.proofs.Written.{nil-bytes, cons-bytes, append-bytes, joined_bytes, field-bytes, checked-read}
use Rattle.fields.proofs.Written.{number-bytes, number_read}
use Rattle.conversion.specs.Grids.{GridLength, GridLoads, GoodGrid, JudgedGood, JudgedLength, OneFileEach}
use Rattle.conversion.proofs.Grids.{grid-number, grid-size}

-- ---- numbers of five bytes, one after the other

abbrev fives : ℕ → (ℕ → ℤ) → List ℕ
fives n f = joined n (λ k. number_bytes (f k))

fives-length : (n : ℕ) (f : ℕ → ℤ) → length (fives n f) ≡ 5 * n
unfolding joined
fives-length zero f = refl
fives-length (suc n) f = length-append (fives n f) (number_bytes (f n)) ∙ omega (arith, fives-length n f)

fives-at : (n : ℕ) (f : ℕ → ℤ) (k i : ℕ) → k < n → i < 5
    → get_or (fives n f) (5 * k + i) 0 ≡ get_or (number_bytes (f k)) i 0
unfolding joined
fives-at zero f k i h l = absurd (omega arith)
fives-at (suc n) f k i h l = go (λ d. fives-at n f k i d l) (dec_lt k n)
  where
    go : (k < n → get_or (fives n f) (5 * k + i) 0 ≡ get_or (number_bytes (f k)) i 0) → Dec (k < n)
        → get_or (fives n f ++ number_bytes (f n)) (5 * k + i) 0 ≡ get_or (number_bytes (f k)) i 0
    go ih (yes d) =
        get_or-append (fives n f) (number_bytes (f n)) 0 (5 * k + i) (omega (arith, fives-length n f)) ∙ ih d
    go ih (no d) =
        let e : n ≡ k = omega arith in
        let at : 5 * k + i ≡ length (fives n f) + i = omega (arith, fives-length n f) in
        ap (λ j. get_or (fives n f ++ number_bytes (f n)) j 0) at
        ∙ get_or-append-add (fives n f) (number_bytes (f n)) i 0
        ∙ ap (λ k. get_or (number_bytes (f k)) i 0) e

-- the k-th number of the body
fives-number : (n : ℕ) (f : ℕ → ℤ) (k : ℕ) → k < n → nat_abs (f k) ≤ limit 3 → number_at (fives n f) k ≡ f k
fives-number n f k h small = number_read (fives n f) k (f k) (omega arith) (λ i l. fives-at n f k i h l)

-- ---- the bytes of a grid whose numbers keep their limit

-- The body of tag 19.
abbrev body_for : List ℤ → List ℕ
body_for grid = fives (length grid) (λ k. get_or grid k (pos 0))

abbrev Small : List ℤ → Type 0
Small grid = (k : ℕ) → k < length grid → nat_abs (get_or grid k (pos 0)) ≤ limit 3

body-numbers : (grid : List ℤ) → Small grid → numbers_in (length grid) (body_for grid) ≡ grid
body-numbers grid small =
    let n = length grid in
    let size = length-table 0 n (λ k. number_at (body_for grid) k) in
    ext_get_or (pos 0) (numbers_in n (body_for grid)) grid size
    λ i l.
    let inside : i < n = omega (arith, size) in
    get_d-table 0 n (λ k. number_at (body_for grid) k) i (pos 0) inside
    ∙ ap (λ k. number_at (body_for grid) k) (zero-add i)
    ∙ fives-number n (λ k. get_or grid k (pos 0)) i inside (small i inside)

body-within : (grid : List ℤ) → Small grid → all_within (limit 3) (length grid) (body_for grid) ≡ true
unfolding all_within
body-within grid small =
    every-intro (length grid) (λ k. leb (nat_abs (number_at (body_for grid) k)) (limit 3))
    (λ k h. le-leb (nat_abs (number_at (body_for grid) k)) (limit 3)
    (rw (fives-number (length grid) (λ k. get_or grid k (pos 0)) k h (small k h)) (small k h)))

-- ---- lengths

few : (W H : ℕ) → W ≤ 8 → H ≤ 8 → places W H 3 ≤ 4489
few W H hW hH =
    let w : functions W 3 ≤ 67 = omega arith in
    let h : functions H 3 ≤ 67 = omega arith in
    mul-le-mul w h

file-length : (W H : ℕ) (grid : List ℤ) → length (grid_file W H grid) ≡ 8 + 5 * length grid
unfolding grid_file
file-length W H grid =
    omega (
      arith,
      length-append (field_bytes 1 (W ∷ H ∷ [])) (field_bytes 19 (body_for grid)),
      fives-length (length grid) (λ k. get_or grid k (pos 0)),
    )

pub grid-length : GridLength
grid-length W H t cs = (
  omega (arith, file-length W H (grid_of W H t cs), grid-size W H t cs),
  λ hW hH. omega (arith, few W H hW hH),
)

-- ---- what is judged good

-- Both fields in their turn, and what was read of them.
record Judged (file : List ℕ) (g : Grid) : Type 0 where
  sides : Stands 1 2 2 file
  side_w : get_or (body_of file) 0 0 ≡ g.W
  side_h : get_or (body_of file) 1 0 ≡ g.H
  good_w : good_side g.W ≡ true
  good_h : good_side g.H ≡ true
  field : Stands 19 (5 * places g.W g.H 3) (5 * places g.W g.H 3) (rest_of file)
  within : all_within (limit 3) (places g.W g.H 3) (body_of (rest_of file)) ≡ true
  read : numbers_in (places g.W g.H 3) (body_of (rest_of file)) ≡ g.numbers
  end : rest_of (rest_of file) ≡ []

empty : (s : List ℕ) → end_cause s ≡ 0 → s ≡ []
empty [] e = refl
empty (b ∷ s) e =
    let none : length (b ∷ s) ≤ 0 = ltb-false 0 (length (b ∷ s)) (cause-off 14 (ltb 0 (length (b ∷ s))) e) in
    absurd (omega arith)

judged : (file : List ℕ) (g : Grid) → grid_contents file ≡ contains g → Judged file g
unfolding grid_contents sides_field grid_field
judged file g e =
    let p1 = part-accepted (sides_field file) _ g e in
    let W = p1.0.W in
    let H = p1.0.H in
    let n = places W H 3 in
    let c1 = checked-accepted 1 2 2 0 (λ b. good_sides (sides_in b)) sides_in file p1.0 p1.1 p1.2 in
    let good = both (good_side W) (good_side H) (sym (ap good_sides c1.2) ∙ c1.1) in
    let p2 = part-accepted (grid_field W H p1.1) _ g p1.3 in
    let c2 = checked-accepted 19 (5 * n) (5 * n) 3 (all_within (limit 3) n) (numbers_in n) (rest_of file) p2.0 p2.1
    (subst (λ r. grid_field W H r ≡ holds p2.0 p2.1) (sym c1.3) p2.2) in
    let u = unless-accepted (end_cause p2.1) _ g p2.3 in
    let same : ◌≡◌ {A = Grid} (record { W = W; H = H; numbers = p2.0 }) g = let e = u.1 in cc in
    subst (Judged file) same
    (record {
      sides = c1.0;
      side_w = ap (λ x. x.W) c1.2;
      side_h = ap (λ x. x.H) c1.2;
      good_w = good.0;
      good_h = good.1;
      field = c2.0;
      within = c2.1;
      read = c2.2;
      end = c2.3 ∙ empty p2.1 u.0;
    })

module _ (file : List ℕ) (g : Grid) (r : Judged file g) where
  abbrev n : ℕ
  n = places g.W g.H 3

  abbrev body : List ℕ
  body = body_of (rest_of file)

  numbers-size : length g.numbers ≡ n
  numbers-size = ap length (sym r.read) ∙ length-table 0 n (λ k. number_at body k)

  -- a number that was read is that of the body, and keeps its limit
  number_of : (k : ℕ) → k < n → get_or g.numbers k (pos 0) ≡ number_at body k
  number_of k h =
      ap (λ l. get_or l k (pos 0)) (sym r.read)
      ∙ get_d-table 0 n (λ k. number_at body k) k (pos 0) h
      ∙ ap (λ k. number_at body k) (zero-add k)

  number_small : (k : ℕ) → k < n → nat_abs (get_or g.numbers k (pos 0)) ≤ limit 3
  unfolding all_within
  number_small k h =
      rw (number_of k h)
      (leb-true (nat_abs (number_at body k)) (limit 3)
      (every_true n (λ k. leb (nat_abs (number_at body k)) (limit 3)) r.within k h))

  numbers-small : Small g.numbers
  numbers-small k h = number_small k (rw numbers-size at h)

  good-grid : GoodGrid g
  good-grid =
      record {
        side_w = r.good_w;
        side_h = r.good_h;
        size = numbers-size;
        within = λ a b ha hb.
            let inside = rw (mul_comm (functions g.H 3) (functions g.W 3)) at
            (place-below (functions g.W 3) (functions g.H 3) a b ha hb) in
            omega (arith, number_small (b * functions g.W 3 + a) inside);
      }

  same_body : Bytes file → body ≡ body_for g.numbers
  same_body bs =
      let m = length g.numbers in
      let f : ℕ → ℤ = λ k. get_or g.numbers k (pos 0) in
      numbers-determine body (fives m f) (body_bytes (rest_of file) (rest-bytes file bs))
      (joined_bytes (λ k. number_bytes (f k)) m (λ k _. number-bytes (f k)))
      m
      (omega (arith, body-length (rest_of file) r.field.whole, numbers-size, r.field.long, r.field.short))
      (fives-length m f)
      (λ k h. sym (number_of k (rw numbers-size at h)) ∙ sym (fives-number m f k h (numbers-small k h)))

two : (b : List ℕ) → length b ≡ 2 → b ≡ get_or b 0 0 ∷ get_or b 1 0 ∷ []
two [] e = absurd (omega arith)
two (x ∷ []) e = absurd (omega arith)
two (x ∷ y ∷ []) e = refl
two (x ∷ y ∷ z ∷ b) e = absurd (omega arith)

pub judged-good : JudgedGood
judged-good file g e = good-grid file g (judged file g e)

pub judged-length : JudgedLength
judged-length file g e =
    let r = judged file g e in
    let (_, hW) = good-side g.W r.good_w in
    let (_, hH) = good-side g.H r.good_h in
    let rest = rest_of file in
    let size : length file ≡ 8 + 5 * places g.W g.H 3 =
    omega (
      arith,
      r.sides.whole,
      r.sides.long,
      r.sides.short,
      r.field.whole,
      r.field.long,
      r.field.short,
      length-drop (3 + length_at file) file,
      length-drop (3 + length_at rest) rest,
      ap length r.end,
    ) in
    (size, omega (arith, few g.W g.H hW hH))

pub one-file-each : OneFileEach
unfolding grid_file
one-file-each file bs g e =
    let r = judged file g e in
    let n = places g.W g.H 3 in
    field-written 1 2 2 file bs r.sides
    ∙ ap₂ (λ b l. field_bytes 1 b ++ l)
    (two (body_of file) (body-length file r.sides.whole ∙ omega (arith, r.sides.long, r.sides.short))
    ∙ ap₂ (λ x y. x ∷ y ∷ []) r.side_w r.side_h)
    (field-written 19 (5 * n) (5 * n) (rest_of file) (rest-bytes file bs) r.field
    ∙ ap₂ (λ b l. field_bytes 19 b ++ l) (same_body file g r bs) r.end
    ∙ append-nil (field_bytes 19 (body_for g.numbers)))

-- ---- the grid of a table

-- the carried values of level 3 keep the limit
grid-small : (W H : ℕ) (t : List ℕ) (cs : List ℤ) → Sound W H t cs → Small (grid_of W H t cs)
grid-small W H t cs ok k h =
    let inside : k < functions H 3 * functions W 3 =
    rw (grid-size W H t cs, mul_comm (functions W 3) (functions H 3)) at h in
    let (a, b, ha, hb, at) = place-split (functions W 3) (functions H 3) k inside in
    subst (λ z. nat_abs z ≤ limit 3)
    (sym (ap (λ k. get_or (grid_of W H t cs) k (pos 0)) at ∙ grid-number W H t cs a b ha hb))
    (carried-fits W H t cs ok 3 a b (omega arith) ha hb)

module _ (W H : ℕ) (grid : List ℤ) (good_w : good_side W ≡ true) (good_h : good_side H ≡ true) where
  file-read : length grid ≡ places W H 3 → Small grid
      → grid_contents (grid_file W H grid) ≡ contains (record { W = W; H = H; numbers = grid })
  unfolding grid_contents grid_file sides_field grid_field
  file-read size small =
      let (_, hW) = good-side W good_w in
      let (_, hH) = good-side H good_h in
      let n = places W H 3 in
      let b = body_for grid in
      let long : length b ≡ 5 * n =
      fives-length (length grid) (λ k. get_or grid k (pos 0)) ∙ ap (λ n. 5 * n) size in
      let good = and_intro (good_side W) (good_side H) good_w good_h in
      ap (λ l. grid_contents (field_bytes 1 (W ∷ H ∷ []) ++ l)) (sym (append-nil (field_bytes 19 b)))
      ∙ rw (
        checked-read 1 2 2 1 (λ b. good_sides (sides_in b)) sides_in (W ∷ H ∷ []) (field_bytes 19 b ++ []) (omega arith)
            (omega arith) (omega arith) good,
        checked-read 19 (5 * n) (5 * n) 4 (all_within (limit 3) n) (numbers_in n) b []
            (omega (arith, few W H hW hH)) (omega arith) (omega arith)
            (subst (λ m. all_within (limit 3) m b ≡ true) size (body-within grid small)),
        ← size,
        body-numbers grid small,
      )

  file-bytes : Bytes (grid_file W H grid)
  unfolding grid_file
  file-bytes =
      let (_, hW) = good-side W good_w in
      let (_, hH) = good-side H good_h in
      append-bytes (field_bytes 1 (W ∷ H ∷ [])) (field_bytes 19 (body_for grid))
      (field-bytes 1 (W ∷ H ∷ []) (omega arith)
      (cons-bytes W (H ∷ []) (omega arith) (cons-bytes H [] (omega arith) nil-bytes)))
      (field-bytes 19 (body_for grid) (omega arith)
      (joined_bytes (λ k. number_bytes (get_or grid k (pos 0))) (length grid)
      (λ k _. number-bytes (get_or grid k (pos 0)))))

pub grid-loads : GridLoads
grid-loads W H t cs acc =
    let ok = sound W H t cs acc in
    let grid = grid_of W H t cs in (
      file-read W H grid ok.side-W ok.side-H (grid-size W H t cs) (grid-small W H t cs ok),
      file-bytes W H grid ok.side-W ok.side-H,
    )
