-- What a walk finds and paints: a leaf, and a split whose children are painted one after another.
use mathlib.Core.Bool.{Bool, true, false, cond}
use mathlib.Core.List.{List}
use mathlib.Core.Path.{◌≡◌, refl, sym, ap, ◌∙◌, fun_ext, subst}
use Prim.Native.Nat.{ℕ, zero, suc, ◌+◌, ◌-◌, ◌*◌, ◌/◌, ◌^◌, ◌≤◌, ◌<◌}
use native.Mathlib.Nat.{one-le-pow}
use native.Mathlib.Decide.{dec_le}
use native.Mathlib.Omega.{arith}
use lib.Dec.{leb, ltb, lit<}
use lib.ListN.{length, get_or, replicate, get_or-replicate}
use borrow.Author.Tests.{le-leb, lt-leb, ne_eqb}
use Rattle.surface.specs.Sheet.{quarters}
use Rattle.surface.specs.Quadtree.{Quadtree, leaf, split, bytes, quadrant, well_formed, level_at}
use Rattle.surface.specs.Table.{tree_of, formed, regions_of, levels}
use Rattle.surface.proofs.TreeForm.{leaf-form, form-leaf}
use Rattle.surface.proofs.TreeLevels.{level_at-leaf}
use Rattle.rows.specs.Rows.{Painted, Raised, level_rows}
use Rattle.rows.proofs.RowLaws.{four_levels, painted-four, painted-rows}
use Rattle.quadtree.specs.Subtree.{Square, Subtree}
use Rattle.quadtree.specs.End.{nowhere, end_of, equal_bytes}
use Rattle.quadtree.specs.Judged.{Judged}
use Rattle.quadtree.proofs.SubtreeLaws.{subtree-leaf, subtree-split, tree-subtree}
use Rattle.quadtree.proofs.EndLaws.{past_end, tree-end, leaf-end, split-end}

-- ---- the form of a leaf

module _ (W H k x y side b : ℕ) (power : side ≡ 2 ^ k) where
  pub form-zero : b ≡ 0 → true ≡ well_formed W H k x y (leaf b)
  form-zero e = sym (form-leaf W H k x y b (record { level = omega arith; past_u = λ out. e; past_v = λ out. e }))

  pub form-high : 3 < b → false ≡ well_formed W H k x y (leaf b)
  unfolding well_formed
  form-high high = rw (lt-leb b 3 high)

  module _ (low : b ≤ 3) (some : b ≡ 0 → ⊥) where
    pub form-inside : x + side ≤ 4 * W → leb (y + side) (4 * H) ≡ well_formed W H k x y (leaf b)
    unfolding well_formed
    form-inside inside = rw (power, le-leb b 3 low, ne_eqb b 0 some, le-leb (x + 2 ^ k) (quarters W) (omega arith))

    pub form-outside : 4 * W < x + side → false ≡ well_formed W H k x y (leaf b)
    unfolding well_formed
    form-outside out = rw (le-leb b 3 low, ne_eqb b 0 some, lt-leb (x + 2 ^ k) (quarters W) (omega arith))

pub form-low : (W H k x y b : ℕ) → true ≡ well_formed W H k x y (leaf b) → b ≤ 3
form-low W H k x y b e = (leaf-form W H k x y b (sym e)).level

-- ---- what is found

same-painted : (x y : ℕ) {a b : ℕ} {f g : ℕ → ℕ → ℕ} (m n : List ℕ) → a ≡ b → f ≡ g → Painted x y a f m n
    → Painted x y b g m n
same-painted x y {a} {b} {f} {g} m n e d p =
    subst (λ lev. Painted x y b lev m n) d (subst (λ s. Painted x y s f m n) e p)

no-height : {side : ℕ} (k : ℕ) → side ≡ 2 ^ k → side ≡ 1 → k ≡ 0
no-height zero power one = refl
no-height (suc k) power one = absurd (omega (arith, one-le-pow k 2 (omega arith)))

module _ {W H x y side : ℕ} {t : List ℕ} {at : ℕ} {m : List ℕ} (few : length t < nowhere) (size : length m ≡ 96) where
  judged-none : ((k : ℕ) → side ≡ 2 ^ k → end_of W H k x y t at ≡ nowhere) → Judged W H x y side t at nowhere m m
  judged-none none =
      record {
        size = size;
        fit = λ f. f;
        inside = λ low. absurd (omega arith);
        ends = λ k p. sym (none k p);
        paints = λ low. absurd (omega arith);
      }

  pub judged-past : length t ≤ at → Judged W H x y side t at nowhere m m
  judged-past past = judged-none λ k p. past_end W H k x y t at past

  -- A leaf, by its form: a single quarter cannot split.
  module _ (inside : at < length t) (single : get_or t at 0 ≡ 4 → side ≡ 1) where
    pub judged-bad : ((k : ℕ) → side ≡ 2 ^ k → false ≡ well_formed W H k x y (leaf (get_or t at 0)))
        → Judged W H x y side t at nowhere m m
    judged-bad form = judged-none λ k p.
        leaf-end W H k x y t at inside (λ four. no-height k p (single four)) ∙ rw (← form k p)

    pub judged-leaf : {n : List ℕ} → ((k : ℕ) → side ≡ 2 ^ k → true ≡ well_formed W H k x y (leaf (get_or t at 0)))
        → Raised x y side (λ _ _. get_or t at 0) m n → Judged W H x y side t at (at + 1) m n
    judged-leaf {n} form up =
        record {
          size = up.painted.size;
          fit = up.fit;
          inside = λ low. omega arith;
          ends = λ k p. sym (leaf-end W H k x y t at inside (λ four. no-height k p (single four)) ∙ rw (← form k p));
          paints = λ _ k q p s.
              let low = form-low W H k x y (get_or t at 0) (form k p) in
              same-painted x y m n refl
              (fun_ext λ i. fun_ext λ j.
              sym (ap (λ r. level_at k r i j) (subtree-leaf k t at q s low) ∙ level_at-leaf k (get_or t at 0) i j))
              up.painted;
        }

-- ---- a split

split-levels : (k : ℕ) (sw se nw ne : Quadtree) (q r : ℕ)
    → four_levels (2 ^ k) (level_at k sw) (level_at k se) (level_at k nw) (level_at k ne) q r
    ≡ level_at (suc k) (split sw se nw ne) q r
unfolding level_at
split-levels k sw se nw ne q r = go (ltb q (2 ^ k)) (ltb r (2 ^ k))
  where
    go : (a b : Bool)
        → cond b
        (cond a (level_at k sw q r) (level_at k se (q - 2 ^ k) r))
        (cond a (level_at k nw q (r - 2 ^ k)) (level_at k ne (q - 2 ^ k) (r - 2 ^ k)))
        ≡ level_at k (quadrant a b sw se nw ne) (cond a q (q - 2 ^ k)) (cond b r (r - 2 ^ k))
    go true true = refl
    go false true = refl
    go true false = refl
    go false false = refl

four-levels : (k j h : ℕ) (sw se nw ne whole : Quadtree) → h ≡ 2 ^ j → k ≡ suc j → whole ≡ split sw se nw ne
    → (q r : ℕ) → four_levels h (level_at j sw) (level_at j se) (level_at j nw) (level_at j ne) q r ≡ level_at k whole q r
four-levels k j h sw se nw ne whole e f d q r = rw (e, f, d) (split-levels j sw se nw ne q r)

-- The end that a walk found is that of the tree that stands there, and it began in the slice.
module _ {W H x y side : ℕ} {t : List ℕ} {at p : ℕ} {m n : List ℕ} (few : length t < nowhere)
    (d : Judged W H x y side t at p m n) (good : p ≤ length t) (k : ℕ) (power : side ≡ 2 ^ k) where
  begun : at ≤ length t
  begun = go (dec_le at (length t))
    where
      go : Dec (at ≤ length t) → at ≤ length t
      go (yes h) = h
      go (no h) = absurd (omega (arith, d.ends k power ∙ past_end W H k x y t at (omega arith)))

  ended : (q : Quadtree) → Subtree k t at q → p ≡ at + length (bytes q)
  ended q s = go (well_formed W H k x y q) (d.ends k power ∙ tree-end W H k x y t at q s)
    where
      go : (b : Bool) → p ≡ cond b (at + length (bytes q)) nowhere → p ≡ at + length (bytes q)
      go true e = e
      go false e = absurd (omega arith)

module _ {W H x y side : ℕ} {t : List ℕ} {at p₁ p₂ p₃ p₄ : ℕ} {m₀ m₁ m₂ m₃ m₄ : List ℕ} (few : length t < nowhere)
    (inside : at < length t) (four : get_or t at 0 ≡ 4) (more : 1 < side)
    (d₁ : Judged W H x y (side / 2) t (at + 1) p₁ m₀ m₁)
    (d₂ : Judged W H (x + side / 2) y (side / 2) t p₁ p₂ m₁ m₂)
    (d₃ : Judged W H x (y + side / 2) (side / 2) t p₂ p₃ m₂ m₃)
    (d₄ : Judged W H (x + side / 2) (y + side / 2) (side / 2) t p₃ p₄ m₃ m₄) where
  four-end : (k : ℕ) → side ≡ 2 ^ k → cond (equal_bytes t (at + 1) p₄) nowhere p₄ ≡ end_of W H k x y t at
  four-end zero power = absurd (omega arith)
  four-end (suc j) power =
      let half : side / 2 ≡ 2 ^ j = omega arith in
      rw (d₄.ends j half, d₃.ends j half, d₂.ends j half, d₁.ends j half, half)
      (sym (split-end W H j x y t at few inside four))

  four-painted : p₄ ≤ length t → (k : ℕ) (q : Quadtree) → side ≡ 2 ^ k → Subtree k t at q
      → Painted x y side (level_at k q) m₀ m₄
  four-painted good₄ k q power stands =
      let s = subtree-split k t at q stands (omega arith) in
      let j = s.j in
      let h = side / 2 in
      let half : h ≡ 2 ^ j = omega (arith, power ∙ ap (λ n. 2 ^ n) s.height) in
      let good₃ = begun few d₄ good₄ j half in
      let good₂ = begun few d₃ good₃ j half in
      let good₁ = begun few d₂ good₂ j half in
      let e₁ = ended few d₁ good₁ j half s.sw s.first in
      let second : Subtree j t p₁ s.se = rw e₁ s.second in
      let e₂ = ended few d₂ good₂ j half s.se second in
      let third : Subtree j t p₂ s.nw = rw (e₂, e₁) s.third in
      let e₃ = ended few d₃ good₃ j half s.nw third in
      let fourth : Subtree j t p₃ s.ne = rw (e₃, e₂, e₁) s.fourth in
      same-painted x y m₀ m₄ (omega (arith, power ∙ ap (λ n. 2 ^ n) s.height))
      (fun_ext λ a. fun_ext λ b.
      four-levels k j h s.sw s.se s.nw s.ne q half s.height s.whole a b)
      (painted-four x y h (level_at j s.sw) (level_at j s.se) (level_at j s.nw) (level_at j s.ne)
      m₀ m₁ m₂ m₃ m₄
      (d₁.paints good₁ j s.sw half s.first)
      (d₂.paints good₂ j s.se half second)
      (d₃.paints good₃ j s.nw half third)
      (d₄.paints good₄ j s.ne half fourth))

  pub judged-split : (b : Bool) → equal_bytes t (at + 1) p₄ ≡ b → Judged W H x y side t at (cond b nowhere p₄) m₀ m₄
  judged-split b e =
      record {
        size = d₄.size;
        fit = λ f. d₄.fit (d₃.fit (d₂.fit (d₁.fit f)));
        inside = kept b;
        ends = λ k power. rw (← e) (four-end k power);
        paints = λ good. four-painted (d₄.inside (found b good));
      }
    where
      found : (b : Bool) → cond b nowhere p₄ ≤ length t → p₄ < nowhere
      found true good = absurd (omega arith)
      found false good = omega arith

      kept : (b : Bool) → cond b nowhere p₄ < nowhere → cond b nowhere p₄ ≤ length t
      kept true low = absurd (omega arith)
      kept false low = d₄.inside low

-- ---- what the calls ask

-- A slice is shorter than the position that stands for no end.
pub short : (n : ℕ) → n * 1 < 2 ^ 63 → n < nowhere
short n few = omega arith

pub side-some : {x y side : ℕ} → Square x y side → 1 ≤ side
side-some s = omega (arith, s.power, one-le-pow s.height 2 (omega arith))

-- A call at a child's square asks for a lesser side, and a square of more than a quarter.
pub child-asks : (x y side m u v : ℕ) → side ≡ m → Square x y side → 1 < side → (side ≡ 2 → ⊥) → u + side / 2 ≤ 32
    → v + side / 2 ≤ 32 → (side / 2 < m) × Square u v (side / 2) × (1 < side / 2)
child-asks x y side m u v e square some more in_u in_v = go square.height square.power
  where
    go : (k : ℕ) → side ≡ 2 ^ k → (side / 2 < m) × Square u v (side / 2) × (1 < side / 2)
    go zero power = absurd (omega arith)
    go (suc j) power = (omega arith, record { height = j; power = omega arith; in_u = in_u; in_v = in_v }, omega arith)

-- ---- the whole

-- the tree of a slice gives its rows
pub tree-rows : {W H : ℕ} {t after : List ℕ} {p : ℕ} → Judged W H 0 0 32 t 0 p (replicate 96 0) after
    → true ≡ formed W H (tree_of t) → p ≤ length t → after ≡ level_rows t
unfolding levels
tree-rows {W} {H} {t} {after} d e good =
    painted-rows (levels t) after
    (d.paints good 5 (regions_of (tree_of t)) refl (tree-subtree W H t (sym e)).1)
    (d.fit λ p h. rw (get_or-replicate {A = ℕ} 96 p 0 0 h) (lit< tt))
