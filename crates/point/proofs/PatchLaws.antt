-- The patch of a level from that of the level before it; under the rows as under the tree; the reading and the slopes.
use mathlib.Core.Path.{◌≡◌, refl, sym, ap, ap₂, ◌∙◌, subst}
use mathlib.Core.Bool.{Bool, true, cond}
use mathlib.Core.List.{List}
use Prim.Native.Nat.{ℕ, zero, suc, ◌+◌, ◌-◌, ◌*◌, ◌%◌, ◌^◌, ◌≤◌, ◌<◌, min}
use native.Mathlib.Nat.{le_refl, le_trans, mul-le-mul_left, pow-le-pow_right}
use native.Mathlib.Omega.{arith}
use lib.Dec.{leb}
use lib.IntN.{ℤ, pos, ◌*ℤ◌}
use lib.ListN.{length, get_or}
use Rattle.finite.specs.Range.{sum2}
use Rattle.finite.proofs.Bits.{bit-small}
use Rattle.finite.proofs.Sum.{sum2-cong}
use Rattle.surface.specs.Sheet.{steps, quarter_of, on_sheet}
use Rattle.surface.specs.Spline.{cell_of, piece}
use Rattle.surface.specs.Support.{least_under, in_region}
use Rattle.surface.specs.Patch.{subdivided, patch, stop_level}
use Rattle.surface.specs.Slopes.{piece_slope, table_slopes}
use Rattle.surface.specs.Table.{levels, coefficients, limit, slots, Acceptable, table_reading}
use Rattle.surface.proofs.PatchReading.{subdivided-cong}
use Rattle.surface.proofs.TableLaws.{sound, sides}
use Rattle.surface.proofs.Greatest.{stop-level}
use Rattle.surface.proofs.Around.{sheet-has}
use Rattle.surface.proofs.Demands.{patch-evaluates, any-level}
use Rattle.surface.proofs.Derivatives.{patch-slopes}
use Rattle.rows.specs.Rows.{levels_of, Nested}
use Rattle.rows.proofs.RowLaws.{rows-nested, rows-least, level-rows}
use Rattle.patch.specs.Patches.{entry, Bounded}
use Rattle.evaluation.specs.declared.Slopes.{Slopes}
use Rattle.evaluation.specs.Evaluated.{OfLevel, Evaluated, SlopesEvaluated, exact_slopes}
use Rattle.point.specs.OfTable.{OfTable}
use Rattle.point.specs.Patches.{PatchAt}
use Rattle.point.specs.declared.cell.Place.{Place}
use Rattle.point.specs.Places.{PlaceOf}

-- ---- one level on

module _ (W H : ℕ) (lev : ℕ → ℕ → ℕ) (coef : ℕ → ℕ → ℕ → ℤ) (u v L M k l : ℕ) (next : M ≡ suc L) where
  -- an entry by the cell (a, b) of level M = suc L
  abbrev entry_at : ℕ → ℕ → ℤ
  entry_at a b =
      cond (in_region W H lev M (a + k) (b + l)) (coef M (a + k) (b + l))
      (subdivided (a % 2) (b % 2) (patch W H lev coef u v L) k l)

  entry-is : entry_at (cell_of W M u) (cell_of H M v) ≡ patch W H lev coef u v M k l
  unfolding patch
  entry-is = rw next

  -- from what was found of it: whether it lies in the region, its own coefficient, and what the coarser patch p
  -- subdivides to
  pub next-entry : (p : ℕ → ℕ → ℤ) (a b : ℕ) (inside : Bool) {own coarse : ℤ} → k < 4 → l < 4
      → a ≡ cell_of W M u → b ≡ cell_of H M v
      → ((i j : ℕ) → i < 4 → j < 4 → p i j ≡ patch W H lev coef u v L i j)
      → inside ≡ in_region W H lev M (a + k) (b + l) → own ≡ coef M (a + k) (b + l)
      → coarse ≡ subdivided (a % 2) (b % 2) p k l → cond inside own coarse ≡ patch W H lev coef u v M k l
  next-entry p a b inside {own} {coarse} hk hl ea eb ep em eo es =
      ap (λ t. cond t own coarse) em
      ∙ ap₂ (cond (in_region W H lev M (a + k) (b + l))) eo
      (es ∙ subdivided-cong (a % 2) (b % 2) p (patch W H lev coef u v L) (omega arith) (omega arith) ep k l hk hl)
      ∙ ap₂ entry_at ea eb
      ∙ entry-is

-- ---- the rows in place of the tree

-- levels with the same least levels under the supports have the same patches
patch-cong : (W H : ℕ) (f g : ℕ → ℕ → ℕ) (coef : ℕ → ℕ → ℕ → ℤ) (u v : ℕ)
    → ((L a b : ℕ) → least_under W H f L a b ≡ least_under W H g L a b)
    → (L k l : ℕ) → k < 4 → l < 4 → patch W H f coef u v L k l ≡ patch W H g coef u v L k l
unfolding patch
patch-cong W H f g coef u v e zero k l hk hl = refl
patch-cong W H f g coef u v e (suc L) k l hk hl =
    let a = cell_of W (suc L) u in
    let b = cell_of H (suc L) v in
    ap₂ (λ m z. cond (leb (suc L) m) (coef (suc L) (a + k) (b + l)) z) (e (suc L) (a + k) (b + l))
    (subdivided-cong (a % 2) (b % 2) (patch W H f coef u v L) (patch W H g coef u v L) (omega arith) (omega arith)
    (patch-cong W H f g coef u v e L) k l hk hl)

-- a quarter square lies in at most three regions, so that a reading stops at level 3 at the latest
pub stop-small : (W H u v : ℕ) (rows : List ℕ) → 0 < W → 0 < H → stop_level W H (levels_of rows) u v ≤ 3
stop-small W H u v rows p_w p_h =
    let q = quarter_of W u in
    let r = quarter_of H v in
    rw (stop-level W H (levels_of rows) u v p_w p_h)
    (omega (
      arith,
      bit-small (get_or rows (0 * 32 + r) 0) q,
      bit-small (get_or rows (1 * 32 + r) 0) q,
      bit-small (get_or rows (2 * 32 + r) 0) q,
    ))

-- ---- an acceptable table

-- a point of the sheet, and a tree that the rows are of and with which the table is acceptable
abbrev pub Readable : ℕ → ℕ → List ℕ → List ℤ → ℕ → ℕ → Type 0
Readable W H rows cs u v = (u ≤ 128 * W) × (v ≤ 128 * H) × OfTable W H rows cs

module _ (W H : ℕ) (rows : List ℕ) (cs : List ℤ) (u v : ℕ) (given : Readable W H rows cs u v) where
  abbrev t : List ℕ
  t = given.2.0

  acc : Acceptable W H t cs
  acc = given.2.2

  by-tree : (L k l : ℕ) → k < 4 → l < 4
      → patch W H (levels_of rows) (coefficients W H cs) u v L k l ≡ patch W H (levels t) (coefficients W H cs) u v L
      k l
  by-tree =
      let n = sides (sound W H t cs acc) in
      patch-cong W H (levels_of rows) (levels t) (coefficients W H cs) u v
      (λ L a b. rows-least W H t rows L a b n.1 n.3 given.2.1)

  on-sheet : on_sheet W H u v ≡ true
  on-sheet = sheet-has W H u v given.0 given.1

  -- what `coarsest` asks
  pub point-ready : (0 < W) × (W ≤ 8) × (0 < H) × (H ≤ 8) × (u ≤ 128 * W) × (v ≤ 128 * H) × (length cs ≡ slots W H)
  point-ready =
      let s = sound W H t cs acc in
      let n = sides s in
      (n.0, n.1, n.2, n.3, given.0, given.1, s.size)

  -- each entry keeps its level's limit
  pub patch-bounded : (L m : ℕ) (p : List (List ℤ)) → L < 4 → limit L ≤ m → PatchAt W H rows cs u v L p → Bounded m p
  patch-bounded L m p hL hm at k l hk hl =
      rw (at k l hk hl ∙ by-tree L k l hk hl)
      (le_trans ((patch-evaluates W H t cs acc u v on-sheet).1 L k l hL hk hl) hm)

  -- what `finer` asks
  pub finer-ready : (M : ℕ) (p : List (List ℤ)) → 0 < M → M ≤ 3 → PatchAt W H rows cs u v (M - 1) p
      → (0 < W) × (W ≤ 8) × (0 < H) × (H ≤ 8) × (0 < M) × (M ≤ 3) × (u ≤ 128 * W) × (v ≤ 128 * H)
      × (length cs ≡ slots W H) × Bounded 131072000 p × PatchAt W H rows cs u v (M - 1) p
      × Nested rows
  finer-ready M p hM h3 at =
      let s = point-ready in
      let power : 64 ^ (M - 1) ≤ 4096 = pow-le-pow_right {n = 64} (omega arith) {i = M - 1} {j = 2} (omega arith) in
      let bounded = patch-bounded (M - 1) 131072000 p (omega arith) (mul-le-mul_left 32000 power) at in
      (s.0, s.1, s.2, s.3, hM, h3, s.4, s.5, s.6, bounded, at, rw given.2.1 (rows-nested (levels t)))

  -- the level at which a reading stops by the rows is that by the tree
  pub stop-tree : stop_level W H (levels_of rows) u v ≡ stop_level W H (levels t) u v
  stop-tree =
      let n = sides (sound W H t cs acc) in
      let q = quarter_of W u in
      let r = quarter_of H v in
      stop-level W H (levels_of rows) u v n.0 n.2
      ∙ ap (λ m. levels_of m q r) given.2.1
      ∙ level-rows t q r (omega (arith, n.0, n.1)) (omega (arith, n.2, n.3))
      ∙ sym (stop-level W H (levels t) u v n.0 n.2)

  -- what is evaluated of the patch of that level, by weights that are those of the point's place in its cell
  evaluated-at : (L : ℕ) (at : Place) (p : List (List ℤ)) (f g : ℕ → ℕ → ℕ → ℤ)
      → PlaceOf W H L u v at → PatchAt W H rows cs u v L p
      → sum2 4 4 (λ k l. f k at.r at.steps *ℤ g l at.s at.steps *ℤ entry p k l)
      ≡ sum2 4 4 (λ k l. f k (u - cell_of W L u * steps L) (steps L) *ℤ g l (v - cell_of H L v * steps L) (steps L)
      *ℤ patch W H (levels t) (coefficients W H cs) u v L k l)
  evaluated-at L at p f g place patched =
      sum2-cong 4 4 _ _
      (λ k l hk hl. ap₂ ◌*ℤ◌
      (ap₂ ◌*ℤ◌ (ap₂ (f k) place.into_u place.side) (ap₂ (g l) place.into_v place.side))
      (patched k l hk hl ∙ by-tree L k l hk hl))

  module _ (L : ℕ) (at : Place) (p : List (List ℤ)) (el : L ≡ stop_level W H (levels_of rows) u v)
      (place : PlaceOf W H L u v at) (found : PatchAt W H rows cs u v (stop_level W H (levels_of rows) u v) p) where
    low : L ≤ 3
    low = let n = sides (sound W H t cs acc) in rw el (stop-small W H u v rows n.0 n.2)

    patched : PatchAt W H rows cs u v L p
    patched = subst (λ L. PatchAt W H rows cs u v L p) (sym el) found

    -- what `evaluate` and `evaluate_slopes` ask
    pub evaluate-ready : (at.r ≤ at.steps) × (at.s ≤ at.steps) × OfLevel at.steps p
    evaluate-ready =
        let below : L < 4 = omega (arith, low) in (
          place.within_u,
          place.within_v,
          (L, below, place.side, patch-bounded L (limit L) p below (le_refl (limit L)) patched),
        )

    stops : min (stop_level W H (levels t) u v) 3 ≤ L
    stops = omega (arith, el ∙ stop-tree)

    -- the value of the patch of that level is the reading
    pub reading-of : (x : ℤ) → Evaluated at.steps p at.r at.s x → x ≡ table_reading W H t cs u v
    reading-of x e =
        let n = sides (sound W H t cs acc) in
        e
        ∙ evaluated-at L at p (λ k r s. pos (piece k r s)) (λ l r s. pos (piece l r s)) place patched
        ∙ sym (any-level W H (levels t) (coefficients W H cs) u v n.0 n.2 given.0 given.1 L low stops).1

    -- and its slopes are the slopes
    pub slopes-of : (x : Slopes) → SlopesEvaluated at.steps p at.r at.s x
        → exact_slopes x ≡ table_slopes W H t cs u v
    slopes-of x e =
        let n = sides (sound W H t cs acc) in
        let slopes =
        patch-slopes W H (levels t) (coefficients W H cs) u v n.0 n.2 given.0 given.1 L low stops in
        let watts = reading-of x.watts e.watts in
        let along_u =
        e.along_u ∙ evaluated-at L at p piece_slope (λ l r s. pos (piece l r s)) place patched ∙ sym slopes.0 in
        let along_v =
        e.along_v ∙ evaluated-at L at p (λ k r s. pos (piece k r s)) piece_slope place patched ∙ sym slopes.1 in
        λ i. record { watts = watts i; along_u = along_u i; along_v = along_v i }
