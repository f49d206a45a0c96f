-- The insertion of a box into a square: away from the box, in a single quarter, in a square that takes the level, and
-- in the four children.
use mathlib.Core.Path.{◌≡◌, refl, sym, ap, ap₂, ◌∙◌, subst}
use mathlib.Core.Bool.{Bool, true, false, ◌&&◌, cond, true≢false, and-false}
use mathlib.Core.List.{List}
use Prim.Native.Nat.{ℕ, ◌+◌, ◌-◌, ◌*◌, ◌/◌, ◌≤◌, ◌<◌, max}
use native.Mathlib.Decide.{dec_lt}
use native.Mathlib.Omega.{arith}
use borrow.Author.Tests.{lt-ltb, le-ltb}
use lib.ListN.{length}
use Rattle.finite.proofs.Tests.{both, lts-true, pick, between, between-intro}
use Rattle.surface.specs.Sheet.{Box}
use Rattle.surface.specs.Support.{in_box}
use Rattle.surface.specs.Carry.{raised}
use Rattle.boxes.specs.Boxes.{overlap, shares_area}
use Rattle.boxes.proofs.BoxLaws.{box_shares}
use Rattle.rows.specs.Rows.{in_rows, levels_of, Nested, above, in_span, Painted, Raised}
use Rattle.rows.proofs.Spans.{past-span, span-true}
use Rattle.rows.proofs.RowLaws.{four_levels, painted-four}
use Rattle.regions.specs.Regions.{Stands, LeafAt, Joined, BuiltFrom, named, TakesLevel, InsertedFrom, Inserted}
use Rattle.regions.proofs.BuildLaws.{Halved, built-one, built-leaf, built-four, built-all}
use Rattle.regions.proofs.PaintLaws.{painted-cong, painted-nested, level-inside, level-beside, three-levels}
use Rattle.regions.proofs.RegionLaws.{region-cong}

-- ---- squares and the box

apart : (x y side : ℕ) (box : Box) (q r : ℕ) → shares_area x y side box ≡ false → x ≤ q → q < x + side → y ≤ r
    → r < y + side → in_box box q r ≡ false
apart x y side box q r none lu hu lv hv =
    pick (in_box box q r) (λ t. t ≡ false)
    (λ e. absurd (true≢false (sym (box_shares box x y side q r lu hu lv hv e) ∙ none)))
    (λ _. refl)

-- a single quarter that shares area with the box lies in it
quarter-in : (x y : ℕ) (box : Box) → shares_area x y 1 box ≡ true → in_box box x y ≡ true
quarter-in x y box e =
    let s = both (overlap box.u0 box.u1 x 1) (overlap box.v0 box.v1 y 1) e in
    ap₂ ◌&&◌ (along box.u0 box.u1 x s.0) (along box.v0 box.v1 y s.1)
  where
    along : (lo hi q : ℕ) → overlap lo hi q 1 ≡ true → between lo hi q ≡ true
    along lo hi q o =
        let p : (q < hi) × (lo < q + 1) = lts-true q hi lo (q + 1) o in
        between-intro lo hi q (omega arith) p.0

-- ---- a tree by levels that agree in its square

built-cong : {x y side at next : ℕ} {f g : ℕ → ℕ → ℕ} {before after : List ℕ}
    → BuiltFrom x y side f at next before after
    → ((q r : ℕ) → x ≤ q → q < x + side → y ≤ r → r < y + side → f q r ≡ g q r)
    → BuiltFrom x y side g at next before after
built-cong {x} {y} {side} {at} {next} {f} {g} {before} {after} d same =
    record {
      size = d.size;
      forth = d.forth;
      room = d.room;
      tree = λ k e.
          subst (λ t. Stands (Rattle.surface.specs.Quadtree.bytes t) at next after)
          (region-cong k x y f g (λ q r a b c z. same q r a (omega arith) c (omega arith)))
          (d.tree k e);
      before-it = d.before-it;
    }

-- ---- nothing to do

pub inserted-none : {x y side at next : ℕ} {rows before after : List ℕ} (box : Box) (level : ℕ)
    → shares_area x y side box ≡ false → length rows ≡ 96
    → BuiltFrom x y side (levels_of rows) at next before after
    → InsertedFrom x y side box level rows rows at next before after
inserted-none {x} {y} {side} {at} {next} {rows} box level none size d =
    record {
      raises =
          record {
            size = size;
            bits = λ l q r hl hq hr.
                pick (in_span x side q && in_span y side r)
                (λ t. in_rows rows l q r ≡ max (in_rows rows l q r)
                (cond t (above l (named box level x y (q - x) (r - y))) 0))
                (λ e.
                let s = both (in_span x side q) (in_span y side r) e in
                let u = span-true x side q s.0 in
                let v = span-true y side r s.1 in
                let eq : x + (q - x) ≡ q = omega arith in
                let er : y + (r - y) ≡ r = omega arith in
                rw (eq, er, apart x y side box q r none u.0 u.1 v.0 v.1) (omega arith))
                (λ _. omega arith);
          };
      builds = built-cong d λ q r a b c e.
          sym (ap (λ t. cond t (max (levels_of rows q r) level) (levels_of rows q r))
          (apart x y side box q r none a b c e));
    }

-- ---- a single quarter

pub inserted-one : {x y side at next v : ℕ} {rows new before after : List ℕ} (box : Box) (level : ℕ) → side ≡ 1
    → shares_area x y side box ≡ true → x < 32 → y < 32 → level ≤ 3 → Nested rows → Raised x y 1 (λ _ _. level) rows new
    → v ≡ levels_of new x y → LeafAt v at next before after
    → InsertedFrom x y side box level rows new at next before after
inserted-one {x} {y} {side} {v = v} {rows} {new} box level one shared hx hy low nested up same l =
    record {
      raises = rw one (painted-cong up.painted λ i j hi hj.
          let ei : x + i ≡ x = omega arith in
          let ej : y + j ≡ y = omega arith in
          sym (rw (ei, ej, inside) refl));
      builds = built-one one (omega (arith, same, three-levels new x y))
          (same
          ∙ level-inside up.painted nested x y hx hy (omega arith) (omega arith) (omega arith) (omega arith) low
          ∙ sym (ap (λ t. cond t (max (levels_of rows x y) level) (levels_of rows x y)) inside)) l;
    }
  where
    inside : in_box box x y ≡ true
    inside = quarter-in x y box (rw one at shared)

-- ---- a square that takes the level

pub inserted-leaf : {x y side at next : ℕ} {rows new before after : List ℕ} (box : Box) (level : ℕ) → 1 ≤ side * side
    → level ≤ 3 → TakesLevel x y side box level rows → Raised x y side (λ _ _. level) rows new
    → LeafAt level at next before after → InsertedFrom x y side box level rows new at next before after
inserted-leaf {x} {y} {rows = rows} box level some low t up l =
    record {
      raises = painted-cong up.painted λ i j hi hj.
          sym (ap (λ t. cond t level 0)
          (t.inside (x + i) (y + j) (omega arith) (omega arith) (omega arith) (omega arith)));
      builds = built-leaf some low l λ q r a b c d.
          ap (λ t. cond t (max (levels_of rows q r) level) (levels_of rows q r)) (t.inside q r a b c d)
          ∙ omega (arith, t.low q r a b c d);
    }

-- ---- four children

module _ (box : Box) (level : ℕ) {x y h : ℕ} {m₀ m₁ m₂ m₃ : List ℕ}
    (p₁ : Painted x y h (named box level x y) m₀ m₁)
    (p₂ : Painted (x + h) y h (named box level (x + h) y) m₁ m₂)
    (p₃ : Painted x (y + h) h (named box level x (y + h)) m₂ m₃) where
  -- a later child's square is not changed before its turn
  second-old : (q r : ℕ) → q < 32 → r < 32 → x + h ≤ q → levels_of m₁ q r ≡ levels_of m₀ q r
  second-old q r hq hr l = level-beside p₁ q r hq hr (rw (past-span x h q l) refl)

  third-old : (q r : ℕ) → q < 32 → r < 32 → y + h ≤ r → levels_of m₂ q r ≡ levels_of m₀ q r
  third-old q r hq hr l =
      level-beside p₂ q r hq hr (rw (past-span y h r l) (and-false (in_span (x + h) h q)))
      ∙ level-beside p₁ q r hq hr (rw (past-span y h r l) (and-false (in_span x h q)))

  fourth-old : (q r : ℕ) → q < 32 → r < 32 → x + h ≤ q → y + h ≤ r → levels_of m₃ q r ≡ levels_of m₀ q r
  fourth-old q r hq hr l u =
      level-beside p₃ q r hq hr (rw (past-span x h q l) refl) ∙ third-old q r hq hr u

  painted-named : {m₄ : List ℕ} → Painted (x + h) (y + h) h (named box level (x + h) (y + h)) m₃ m₄
      → Painted x y (h + h) (named box level x y) m₀ m₄
  painted-named {m₄} p₄ =
      painted-cong
      (painted-four x y h (named box level x y) (named box level (x + h) y) (named box level x (y + h))
      (named box level (x + h) (y + h)) m₀ m₁ m₂ m₃ m₄ p₁ p₂ p₃ p₄)
      (λ i j _ _. quarters i j (dec_lt i h) (dec_lt j h))
    where
      quarters : (i j : ℕ) → Dec (i < h) → Dec (j < h)
          → four_levels h (named box level x y) (named box level (x + h) y) (named box level x (y + h))
          (named box level (x + h) (y + h)) i j
          ≡ named box level x y i j
      quarters i j (yes a) (yes b) = rw (lt-ltb i h a, lt-ltb j h b) refl
      quarters i j (no a) (yes b) =
          let e : x + h + (i - h) ≡ x + i = omega arith in
          rw (le-ltb i h (omega arith), lt-ltb j h b, e) refl
      quarters i j (yes a) (no b) =
          let e : y + h + (j - h) ≡ y + j = omega arith in
          rw (lt-ltb i h a, le-ltb j h (omega arith), e) refl
      quarters i j (no a) (no b) =
          let e : x + h + (i - h) ≡ x + i = omega arith in
          let f : y + h + (j - h) ≡ y + j = omega arith in
          rw (le-ltb i h (omega arith), le-ltb j h (omega arith), e, f) refl

-- the children's levels are the named ones, and their trees those of the new levels
pub inserted-four : {x y side at : ℕ} {box : Box} {level : ℕ} {m₀ m₁ m₂ m₃ m₄ : List ℕ} {p₁ p₂ p₃ p₄ next : ℕ}
    {o₀ o₁ o₂ o₃ o₄ new : List ℕ} → Halved side → x + side ≤ 32 → y + side ≤ 32
    → InsertedFrom x y (side / 2) box level m₀ m₁ (at + 1) p₁ o₀ o₁
    → InsertedFrom (x + side / 2) y (side / 2) box level m₁ m₂ p₁ p₂ o₁ o₂
    → InsertedFrom x (y + side / 2) (side / 2) box level m₂ m₃ p₂ p₃ o₂ o₃
    → InsertedFrom (x + side / 2) (y + side / 2) (side / 2) box level m₃ m₄ p₃ p₄ o₃ o₄
    → Joined at p₄ next o₄ new → InsertedFrom x y side box level m₀ m₄ at next o₀ new
inserted-four {x} {y} {side} {at} {box} {level} {m₀} {m₁} {m₂} {m₃} {m₄} s hx hy d₁ d₂ d₃ d₄ jn =
    let h = side / 2 in
    let whole : h + h ≡ side = omega (arith, s.twice) in
    record {
      raises = rw (← whole) (painted-named box level d₁.raises d₂.raises d₃.raises d₄.raises);
      builds = built-four s
          d₁.builds
          (built-cong d₂.builds λ q r a b c e. ap (raise q r)
          (second-old box level d₁.raises d₂.raises d₃.raises q r (omega arith) (omega arith) a))
          (built-cong d₃.builds λ q r a b c e. ap (raise q r)
          (third-old box level d₁.raises d₂.raises d₃.raises q r (omega arith) (omega arith) c))
          (built-cong d₄.builds λ q r a b c e. ap (raise q r)
          (fourth-old box level d₁.raises d₂.raises d₃.raises q r (omega arith) (omega arith) a c))
          jn;
    }
  where
    raise : ℕ → ℕ → ℕ → ℕ
    raise q r l = cond (in_box box q r) (max l level) l

-- ---- the whole

pub inserted-all : {box : Box} {level n : ℕ} {rows new old out : List ℕ} → Nested rows → level ≤ 3
    → InsertedFrom 0 0 32 box level rows new 0 n old out → Inserted box level rows new n out
inserted-all {box} {level} {n} {rows} {new} {old} {out} nested low d =
    let t = built-all (raised (levels_of rows) box level) d.builds in
    record {
      nested = painted-nested d.raises nested;
      levels = λ q r hq hr.
          level-inside d.raises nested q r hq hr (omega arith) (omega arith) (omega arith) (omega arith)
          (small (in_box box (0 + (q - 0)) (0 + (r - 0))))
          ∙ ap₂ (λ i j. max (levels_of rows q r) (cond (in_box box i j) level 0)) (omega arith) (omega arith)
          ∙ greater (in_box box q r) (levels_of rows q r);
      size = d.builds.size;
      fits = t.0;
      tree = t.1;
    }
  where
    greater : (t : Bool) (l : ℕ) → max l (cond t level 0) ≡ cond t (max l level) l
    greater true l = refl
    greater false l = omega arith

    small : (t : Bool) → cond t level 0 ≤ 3
    small true = low
    small false = omega arith
