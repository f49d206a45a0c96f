-- What it is for a table to be acceptable, fact by fact, and the slice that holds given coefficients.
use mathlib.Core.Path.{◌≡◌, refl, sym, ap, ◌∙◌, subst}
use mathlib.Core.Bool.{Bool, true, false, not, ◌&&◌, ◌||◌}
use mathlib.Core.List.{List, [], ◌∷◌, ◌++◌, append_assoc, append-nil}
use Prim.Native.Nat.{ℕ, zero, suc, ◌+◌, ◌-◌, ◌*◌, ◌≤◌, ◌<◌}
use native.Mathlib.Nat.{mul_comm, add-zero, zero-add, suc-add, add-suc, le_refl}
use native.Mathlib.Decide.{dec_lt}
use native.Mathlib.Omega.{arith}
use lib.IntN.{ℤ, pos, negsuc, nat_abs}
use lib.Dec.{leb, eqb, T}
use borrow.Author.Tests.{leb-true, le-leb, eqb-true, eq-eqb}
use lib.ListN.{length, get_or, length-append, get_or-append}
use lib.Seq.{get_or-append-add}
use Rattle.finite.specs.Range.{every2, grid}
use Rattle.finite.proofs.Table.{length-grid, get_d-grid, place-below, place-inj}
use Rattle.finite.proofs.Tests.{every_true, every-intro, every2-true, every2-intro, both, and_intro}
use Rattle.surface.specs.Sheet.{good_side, functions}
use Rattle.surface.specs.Quadtree.{Quadtree, Parsed, none, found, parse, well_formed, level_at}
use Rattle.surface.specs.Support.{active}
use Rattle.surface.specs.Table.{cause, ◌or_else◌, tree_of, formed, levels, places, start, slots, place}
use Rattle.surface.specs.Table.{coefficients, slice_from, slice_of, limit, everywhere, within_limits, passive_zero}
use Rattle.surface.specs.Table.{region_cause, table_cause, Acceptable}
use Rattle.surface.proofs.Causes.{or_else-none, none-or_else, cause-none, none-cause}

-- ---- sides and trees

pub good-side : (n : ℕ) → good_side n ≡ true → (0 < n) × (n ≤ 8)
good-side n e = (leb-true 1 n (both (leb 1 n) (leb n 8) e).0, leb-true n 8 (both (leb 1 n) (leb n 8) e).1)

-- a slice of the form is one whole well-formed tree
pub record Formed (W H : ℕ) (t : List ℕ) : Type 0 where
  pub tree : Quadtree
  pub whole : parse 5 t ≡ found tree []
  pub shape : well_formed W H 5 0 0 tree ≡ true

pub formed-tree : (W H : ℕ) (t : List ℕ) → formed W H (tree_of t) ≡ true → Formed W H t
formed-tree W H t = go (parse 5 t) refl
  where
    no : {A : Type 0} → false ≡ true → A
    no e = absurd (subst T (sym e) tt)

    go : (p : Parsed) → parse 5 t ≡ p → formed W H p ≡ true → Formed W H t
    go none e f = no f
    go (found q []) e f = record { tree = q; whole = e; shape = f }
    go (found q (b ∷ s)) e f = no f

pub tree-formed : (W H : ℕ) (t : List ℕ) (f : Formed W H t) → formed W H (tree_of t) ≡ true
tree-formed W H t f = rw f.whole f.shape

pub levels-of : (W H : ℕ) (t : List ℕ) (f : Formed W H t) (q r : ℕ) → levels t q r ≡ level_at 5 f.tree q r
unfolding levels
levels-of W H t f q r = rw f.whole

-- a sheet and a tree with no cause 1 or 2
pub regions-good : (W H : ℕ) (t : List ℕ) → region_cause W H t ≡ 0
    → (0 < W) × (W ≤ 8) × (0 < H) × (H ≤ 8) × (formed W H (tree_of t) ≡ true)
unfolding region_cause
regions-good W H t e =
    let c = or_else-none (cause 1 (not (good_side W && good_side H))) (cause 2 (not (formed W H (tree_of t)))) e in
    let g = both (good_side W) (good_side H) (cause-none 0 (good_side W && good_side H) c.0) in
    let w = good-side W g.0 in
    let h = good-side H g.1 in
    (w.0, w.1, h.0, h.1, cause-none 1 (formed W H (tree_of t)) c.1)

-- ---- the coefficients' slice

pub start-step : (W H L : ℕ) → start W H (suc L) ≡ start W H L + places W H L
unfolding start
start-step W H L = refl

pub start-mono : (W H k L : ℕ) → start W H L ≤ start W H (k + L)
start-mono W H zero L = rw (zero-add L) (le_refl (start W H L))
start-mono W H (suc k) L = rw (suc-add k L) (omega (arith, start-mono W H k L, start-step W H (k + L)))

pub start-le : (W H L M : ℕ) → L ≤ M → start W H L ≤ start W H M
start-le W H L M h =
    let e : M - L + L ≡ M = omega arith in
    subst (λ k. start W H L ≤ start W H k) e (start-mono W H (M - L) L)

-- a level's part ends before a later level's starts
pub start-before : (W H L M : ℕ) → L < M → start W H L + places W H L ≤ start W H M
start-before W H L M h = subst (λ k. k ≤ start W H M) (start-step W H L) (start-le W H (suc L) M h)

module _ (W H : ℕ) (f : ℕ → ℕ → ℕ → ℤ) where
  abbrev part : ℕ → List ℤ
  part L = grid (functions W L) (functions H L) (f L)

  part_length : (L : ℕ) → length (part L) ≡ places W H L
  part_length L = length-grid (functions W L) (functions H L) (f L) ∙ mul_comm (functions H L) (functions W L)

  slice-from-length : (n L : ℕ) → start W H L + length (slice_from W H f L n) ≡ start W H (n + L)
  unfolding slice_from
  slice-from-length zero L = rw (zero-add L, add-zero (start W H L))
  slice-from-length (suc n) L =
      rw (suc-add n L, ← add-suc n L)
      (omega (
        arith,
        slice-from-length n (suc L),
        length-append (part L) (slice_from W H f (suc L) n),
        part_length L,
        start-step W H L,
      ))

  pub slice-length : length (slice_of W H f) ≡ slots W H
  unfolding start
  slice-length = omega (arith, slice-from-length 4 0)

  -- with one level more at the end
  pub slice-more : (n L : ℕ) → slice_from W H f L (suc n) ≡ slice_from W H f L n ++ part (L + n)
  unfolding slice_from
  slice-more zero L = append-nil (part L) ∙ ap part (sym (add-zero L))
  slice-more (suc n) L =
      ap (λ l. part L ++ l) (slice-more n (suc L))
      ∙ sym (append_assoc (part L) (slice_from W H f (suc L) n) (part (suc L + n)))
      ∙ ap (λ k. slice_from W H f L (suc n) ++ part k) (omega arith)

  -- a place of the first part
  in-part : (n L a b : ℕ) → a < functions W L → b < functions H L
      → get_or (slice_from W H f L (suc n)) (b * functions W L + a) (pos 0) ≡ f L a b
  unfolding slice_from
  in-part n L a b ha hb =
      get_or-append (part L) (slice_from W H f (suc L) n) (pos 0) (b * functions W L + a)
      (subst (λ t. b * functions W L + a < t) (sym (length-grid (functions W L) (functions H L) (f L)))
      (place-below (functions W L) (functions H L) a b ha hb))
      ∙ get_d-grid (functions W L) (functions H L) (f L) a b (pos 0) ha hb

  -- a place past the first part
  past-part : (n L p : ℕ)
      → get_or (slice_from W H f L (suc n)) (places W H L + p) (pos 0) ≡ get_or (slice_from W H f (suc L) n) p (pos 0)
  unfolding slice_from
  past-part n L p =
      subst (λ t. get_or (part L ++ slice_from W H f (suc L) n) (t + p) (pos 0) ≡ get_or (slice_from W H f (suc L) n) p
      (pos 0))
      (part_length L) (get_or-append-add (part L) (slice_from W H f (suc L) n) p (pos 0))

  -- a place p of level M = k + L, counted from where level L starts
  at_place : (k n L M p a b : ℕ) → k + L ≡ M → k < n → a < functions W M → b < functions H M
      → start W H L + p ≡ start W H M + (b * functions W M + a) → get_or (slice_from W H f L n) p (pos 0) ≡ f M a b
  at_place k zero L M p a b m h ha hb e = absurd (omega arith)
  at_place zero (suc n) L M p a b m h ha hb e =
      let same : L ≡ M = omega arith in
      let first : p ≡ b * functions W M + a = omega (arith, ap (λ t. start W H t) same) in
      rw (first, same) (in-part n M a b ha hb)
  at_place (suc k) (suc n) L M p a b m h ha hb e =
      let next : k + suc L ≡ M = omega arith in
      let mono : start W H (suc L) ≤ start W H M = subst (λ t. start W H (suc L) ≤ start W H t) next
      (start-mono W H k (suc L)) in
      let later : p ≡ places W H L + (p - places W H L) = omega (arith, start-step W H L) in
      ap (λ t. get_or (slice_from W H f L (suc n)) t (pos 0)) later
      ∙ past-part n L (p - places W H L)
      ∙ at_place k n (suc L) M (p - places W H L) a b next (omega arith) ha hb (omega (arith, start-step W H L))

  pub slice-coefficient : (L a b : ℕ) → L < 4 → a < functions W L → b < functions H L
      → coefficients W H (slice_of W H f) L a b ≡ f L a b
  unfolding coefficients start
  slice-coefficient L a b hL ha hb =
      at_place L 4 0 L (place W H L a b) a b (add-zero L) hL ha hb (zero-add (place W H L a b))

-- each function's place is before a later level's part, and in the slice
pub place-before : (W H L M a b : ℕ) → L < M → a < functions W L → b < functions H L → place W H L a b < start W H M
place-before W H L M a b h ha hb =
    omega (
      arith,
      place-below (functions W L) (functions H L) a b ha hb,
      mul_comm (functions W L) (functions H L),
      start-before W H L M h,
    )

pub place-in-slice : (W H L a b : ℕ) → L < 4 → a < functions W L → b < functions H L → place W H L a b < slots W H
place-in-slice W H L a b hL ha hb = place-before W H L 4 a b hL ha hb

-- two functions with one place are one function
pub place-unique : (W H L a b M c d : ℕ) → a < functions W L → b < functions H L → c < functions W M
    → d < functions H M → place W H L a b ≡ place W H M c d → (L ≡ M) × (a ≡ c) × (b ≡ d)
place-unique W H L a b M c d ha hb hc hd e = go (dec_lt L M) (dec_lt M L)
  where
    go : Dec (L < M) → Dec (M < L) → (L ≡ M) × (a ≡ c) × (b ≡ d)
    go (yes l) m = absurd (omega (arith, place-before W H L M a b l ha hb))
    go (no l) (yes m) = absurd (omega (arith, place-before W H M L c d m hc hd))
    go (no l) (no m) =
        let same : L ≡ M = omega arith in
        let p = place-inj (functions W M) a b c d (subst (λ K. a < functions W K) same ha) hc
        (omega (arith, subst (λ K. place W H K a b ≡ place W H M c d) same e)) in
        (same, p.0, p.1)

-- ---- tests at each function

module _ (W H : ℕ) (p : ℕ → ℕ → ℕ → Bool) where
  pub everywhere-true : everywhere W H p ≡ true → (L a b : ℕ) → L < 4 → a < functions W L → b < functions H L → p L
      a b ≡ true
  everywhere-true e L a b hL ha hb =
      every2-true (functions W L) (functions H L) (p L)
      (every_true 4 (λ L. every2 (functions W L) (functions H L) (λ a b. p L a b)) e L hL) a b ha hb

  pub everywhere-intro : ((L a b : ℕ) → L < 4 → a < functions W L → b < functions H L → p L a b ≡ true) → everywhere
      W H p ≡ true
  everywhere-intro h =
      every-intro 4 (λ L. every2 (functions W L) (functions H L) (λ a b. p L a b))
      (λ L hL. every2-intro (functions W L) (functions H L) (p L) (λ a b ha hb. h L a b hL ha hb))

-- ---- acceptable tables

pub record Sound (W H : ℕ) (t : List ℕ) (cs : List ℤ) : Type 0 where
  pub side-W : good_side W ≡ true
  pub side-H : good_side H ≡ true
  pub tree : Formed W H t
  pub size : length cs ≡ slots W H
  pub limits : (L a b : ℕ) → L < 4 → a < functions W L → b < functions H L
      → active W H (levels t) L a b ≡ true → nat_abs (coefficients W H cs L a b) ≤ limit L
  pub passive : (L a b : ℕ) → L < 4 → a < functions W L → b < functions H L
      → active W H (levels t) L a b ≡ false → coefficients W H cs L a b ≡ pos 0

pub sides : {W H : ℕ} {t : List ℕ} {cs : List ℤ} → Sound W H t cs → (0 < W) × (W ≤ 8) × (0 < H) × (H ≤ 8)
sides {W} {H} s =
    let w = good-side W s.side-W in
    let h = good-side H s.side-H in
    (w.0, w.1, h.0, h.1)

-- a test that is only asked where another passes, or fails
pub when-active : (t s : Bool) → (not t || s) ≡ true → t ≡ true → s ≡ true
when-active true s e p = e
when-active false s e p = absurd (subst T (sym p) tt)

when-passive : (t s : Bool) → (t || s) ≡ true → t ≡ false → s ≡ true
when-passive true s e p = absurd (subst T p tt)
when-passive false s e p = e

active-when : (t s : Bool) → (t ≡ true → s ≡ true) → (not t || s) ≡ true
active-when true s h = h refl
active-when false s h = refl

passive-when : (t s : Bool) → (t ≡ false → s ≡ true) → (t || s) ≡ true
passive-when true s h = refl
passive-when false s h = h refl

zero-of-abs : (z : ℤ) → nat_abs z ≡ 0 → z ≡ pos 0
zero-of-abs (pos n) e = ap pos e
zero-of-abs (negsuc n) e = absurd (omega arith)

pub sound : (W H : ℕ) (t : List ℕ) (cs : List ℤ) → Acceptable W H t cs → Sound W H t cs
unfolding table_cause region_cause within_limits passive_zero
sound W H t cs e =
    let c1 = cause 1 (not (good_side W && good_side H)) in
    let c2 = cause 2 (not (formed W H (tree_of t))) in
    let c3 = cause 3 (not (eqb (length cs) (slots W H))) in
    let c4 = cause 4 (not (within_limits W H (levels t) (coefficients W H cs))) in
    let c5 = cause 5 (not (passive_zero W H (levels t) (coefficients W H cs))) in
    let e12 = or_else-none (c1 or_else c2) (c3 or_else c4 or_else c5) e in
    let e1 = or_else-none c1 c2 e12.0 in
    let e3 = or_else-none c3 (c4 or_else c5) e12.1 in
    let e4 = or_else-none c4 c5 e3.1 in
    let sides = both (good_side W) (good_side H) (cause-none 0 (good_side W && good_side H) e1.0) in
    let good4 = cause-none 3 (within_limits W H (levels t) (coefficients W H cs)) e4.0 in
    let good5 = cause-none 4 (passive_zero W H (levels t) (coefficients W H cs)) e4.1 in
    record {
      side-W = sides.0;
      side-H = sides.1;
      tree = formed-tree W H t (cause-none 1 (formed W H (tree_of t)) e1.1);
      size = eqb-true (length cs) (slots W H) (cause-none 2 (eqb (length cs) (slots W H)) e3.0);
      limits = λ L a b hL ha hb p.
          leb-true (nat_abs (coefficients W H cs L a b)) (limit L)
          (when-active (active W H (levels t) L a b) (leb (nat_abs (coefficients W H cs L a b)) (limit L))
          (everywhere-true W H (λ L a b. not (active W H (levels t) L a b) || leb
          (nat_abs (coefficients W H cs L a b)) (limit L))
          good4 L a b hL ha hb) p);
      passive = λ L a b hL ha hb p.
          zero-of-abs (coefficients W H cs L a b)
          (eqb-true (nat_abs (coefficients W H cs L a b)) 0
          (when-passive (active W H (levels t) L a b) (eqb (nat_abs (coefficients W H cs L a b)) 0)
          (everywhere-true W H (λ L a b. active W H (levels t) L a b || eqb (nat_abs (coefficients W H cs L a b)) 0)
          good5 L a b hL ha hb) p));
    }

pub acceptable : (W H : ℕ) (t : List ℕ) (cs : List ℤ) → Sound W H t cs → Acceptable W H t cs
unfolding table_cause region_cause within_limits passive_zero
acceptable W H t cs s =
    let c1 = cause 1 (not (good_side W && good_side H)) in
    let c2 = cause 2 (not (formed W H (tree_of t))) in
    let c3 = cause 3 (not (eqb (length cs) (slots W H))) in
    let c4 = cause 4 (not (within_limits W H (levels t) (coefficients W H cs))) in
    let c5 = cause 5 (not (passive_zero W H (levels t) (coefficients W H cs))) in
    none-or_else (c1 or_else c2) (c3 or_else c4 or_else c5)
    (none-or_else c1 c2
    (none-cause 1 (good_side W && good_side H) (and_intro (good_side W) (good_side H) s.side-W s.side-H))
    (none-cause 2 (formed W H (tree_of t)) (tree-formed W H t s.tree)))
    (none-or_else c3 (c4 or_else c5)
    (none-cause 3 (eqb (length cs) (slots W H)) (eq-eqb (length cs) (slots W H) s.size))
    (none-or_else c4 c5
    (none-cause 4 (within_limits W H (levels t) (coefficients W H cs))
    (everywhere-intro W H (λ L a b. not (active W H (levels t) L a b) || leb (nat_abs (coefficients W H cs L a b))
    (limit L))
    (λ L a b hL ha hb. active-when (active W H (levels t) L a b) (leb (nat_abs (coefficients W H cs L a b)) (limit L))
    (λ p. le-leb (nat_abs (coefficients W H cs L a b)) (limit L) (s.limits L a b hL ha hb p)))))
    (none-cause 5 (passive_zero W H (levels t) (coefficients W H cs))
    (everywhere-intro W H (λ L a b. active W H (levels t) L a b || eqb (nat_abs (coefficients W H cs L a b)) 0)
    (λ L a b hL ha hb. passive-when (active W H (levels t) L a b) (eqb (nat_abs (coefficients W H cs L a b)) 0)
    (λ p. rw (s.passive L a b hL ha hb p)))))))
