-- A grid for which there is a table over the tree of level 0, and one for which there is none.
use mathlib.Core.Path.{◌≡◌, refl, sym, ap, ap₂, ◌∙◌}
use mathlib.Core.Bool.{true}
use mathlib.Core.List.{[], ◌∷◌}
use Prim.Native.Nat.{ℕ, zero, suc, ◌+◌, ◌*◌, ◌/◌, ◌<◌}
use native.Mathlib.Nat.{mul-mul-mul_comm}
use native.Mathlib.Omega.{arith}
use lib.IntN.{ℤ, pos, negsuc, neg_ℤ, nat_abs, ◌*ℤ◌, *ℤ_comm}
use lib.Dec.{eqb}
use lib.ListN.{get_or, replicate, get_or-replicate, get_or-append}
use borrow.Author.Tests.{eqb-true}
use Rattle.finite.specs.Range.{sum2, every, every2, least}
use Rattle.finite.proofs.Sum.{sum2-cong, sum2-scale}
use Rattle.finite.proofs.Int.{*ℤ-assoc}
use Rattle.finite.proofs.Tests.{every2-true}
use Rattle.surface.specs.Sheet.{functions, eighths}
use Rattle.surface.specs.Quadtree.{parse, well_formed, level_at}
use Rattle.surface.specs.Support.{least_under}
use Rattle.surface.specs.Truncation.{weight2}
use Rattle.surface.specs.Carry.{carried}
use Rattle.surface.specs.Patch.{stencil}
use Rattle.surface.specs.Table.{levels, start, coefficients, within_limits, passive_zero, region_cause, table_cause}
use Rattle.surface.specs.Table.{Acceptable}
use Rattle.surface.proofs.Carried.{carried-sum}
use Rattle.surface.proofs.Parents.{weights2-sum, parents2}
use Rattle.uniqueness.proofs.Grids.{carried-of-grid, grid-of-carried}
use Rattle.conversion.specs.Cases.{flat, sevens, SomeTable, NoTableThere}

-- every function has a square of level 0 under it
abbrev least-flat : ℕ → ℕ → ℕ → ℕ
least-flat L a b = least_under 1 1 (levels flat) L a b

all-0 : (every2 5 5 (λ a b. eqb (least-flat 1 a b) 0) ≡ true)
    × (every2 7 7 (λ a b. eqb (least-flat 2 a b) 0) ≡ true)
    × (every2 11 11 (λ a b. eqb (least-flat 3 a b) 0) ≡ true)
unfolding every least_under least eighths levels level_at parse
all-0 = (refl, refl, refl)

least-0 : (n L : ℕ) → every2 n n (λ a b. eqb (least-flat L a b) 0) ≡ true
    → (a b : ℕ) → a < n → b < n → least-flat L a b ≡ 0
least-0 n L e a b ha hb =
    eqb-true (least-flat L a b) 0 (every2-true n n (λ a b. eqb (least-flat L a b) 0) e a b ha hb)

-- ---- a table

sevens-good : Acceptable 1 1 flat sevens
unfolding table_cause region_cause within_limits passive_zero coefficients every least_under least eighths levels level_at
    parse well_formed start
sevens-good = refl

abbrev carry : ℕ → ℕ → ℕ → ℤ
carry L a b = carried 1 1 (levels flat) (coefficients 1 1 sevens) L a b

-- the weights of a child's parents add up to 64
carried_on : (L : ℕ) (x : ℤ) → ((a b : ℕ) → a < functions 1 L → b < functions 1 L → carry L a b ≡ x)
    → (a b : ℕ) → a < functions 1 (suc L) → b < functions 1 (suc L) → least-flat (suc L) a b ≡ 0
    → carry (suc L) a b ≡ x *ℤ pos 64
carried_on L x before a b ha hb low =
    let n = functions 1 L in
    carried-sum 1 1 (levels flat) (coefficients 1 1 sevens) L a b (omega (arith, low))
    ∙ sum2-cong n n (λ c d. weight2 c d a b *ℤ carry L c d) (λ c d. x *ℤ weight2 c d a b)
    (λ c d hc hd. ap (λ z. weight2 c d a b *ℤ z) (before c d hc hd) ∙ *ℤ_comm (weight2 c d a b) x)
    ∙ sum2-scale n n x (λ c d. weight2 c d a b)
    ∙ ap (λ z. x *ℤ z) (weights2-sum 1 1 L a b ha hb)

carried-0 : (a b : ℕ) → a < 4 → b < 4 → carry 0 a b ≡ pos 7
unfolding carried coefficients start
carried-0 a b ha hb =
    let k = 0 + (b * 4 + a) in
    let inside : k < 16 = omega arith in
    get_or-append (replicate 16 (pos 7)) (replicate 195 (pos 0)) (pos 0) k inside
    ∙ get_or-replicate 16 k (pos 7) (pos 0) inside

carried-1 : (a b : ℕ) → a < 5 → b < 5 → carry 1 a b ≡ pos 448
carried-1 a b ha hb = carried_on 0 (pos 7) carried-0 a b ha hb (least-0 5 1 all-0.0 a b ha hb)

carried-2 : (a b : ℕ) → a < 7 → b < 7 → carry 2 a b ≡ pos 28672
carried-2 a b ha hb = carried_on 1 (pos 448) carried-1 a b ha hb (least-0 7 2 all-0.1 a b ha hb)

carried-3 : (a b : ℕ) → a < 11 → b < 11 → carry 3 a b ≡ pos 1835008
carried-3 a b ha hb = carried_on 2 (pos 28672) carried-2 a b ha hb (least-0 11 3 all-0.2 a b ha hb)

pub some-table : SomeTable
some-table =
    grid-of-carried 1 1 flat sevens (replicate 121 (pos 1835008)) sevens-good
    λ a b ha hb.
    let inside : b * 11 + a < 121 = omega arith in
    carried-3 a b ha hb ∙ sym (get_or-replicate 121 (b * 11 + a) (pos 1835008) (pos 0) inside)

-- ---- no table

-- the parents of the first function are 0 and 1 in each direction, with weight 4
abbrev parent : ℕ → ℕ
parent i = get_or (1 ∷ 1 ∷ 0 ∷ []) i 0

four : (i : ℕ) → stencil 0 i ≡ 4 * parent i
four zero = refl
four (suc zero) = refl
four (suc (suc zero)) = refl
four (suc (suc (suc i))) = refl

sixteenfold : (i j : ℕ) (z : ℤ) → pos (stencil 0 i * stencil 0 j) *ℤ z
    ≡ pos 16 *ℤ (pos (parent i * parent j) *ℤ z)
sixteenfold i j z =
    ap (λ n. pos n *ℤ z) (ap₂ ◌*◌ (four i) (four j) ∙ fours (parent i) (parent j))
    ∙ *ℤ-assoc (pos 16) (pos (parent i * parent j)) z
  where
    fours : (m n : ℕ) → 4 * m * (4 * n) ≡ 16 * (m * n)
    fours m n = mul-mul-mul_comm 4 m 4 n

not-one : (z : ℤ) → pos 16 *ℤ z ≡ pos 1 → ⊥
not-one (pos n) e = let q : 16 * n ≡ 1 = ap nat_abs e in omega arith
not-one (negsuc n) e =
    let q : suc (16 * n + 15) ≡ 16 * suc n = omega arith in
    let one : suc (16 * n + 15) ≡ 1 = ap nat_abs (ap (λ k. neg_ℤ (pos k)) q ∙ e) in
    omega arith

pub no-table-there : NoTableThere
no-table-there cs reads =
    let f : ℕ → ℕ → ℤ = λ a b. carried 1 1 (levels flat) (coefficients 1 1 cs) 2 a b in
    let low = least-0 11 3 all-0.2 0 0 (omega arith) (omega arith) in
    let one = carried-of-grid 1 1 flat cs (pos 1 ∷ replicate 120 (pos 0)) reads 0 0 (omega arith) (omega arith) in
    let sixteen = carried-sum 1 1 (levels flat) (coefficients 1 1 cs) 2 0 0 (omega (arith, low))
    ∙ parents2 1 1 2 0 0 (omega arith) (omega arith) f
    ∙ sum2-cong 3 3 (λ i j. pos (stencil 0 i * stencil 0 j) *ℤ f (0 / 2 + i) (0 / 2 + j))
    (λ i j. pos 16 *ℤ (pos (parent i * parent j) *ℤ f (0 / 2 + i) (0 / 2 + j)))
    (λ i j hi hj. sixteenfold i j (f (0 / 2 + i) (0 / 2 + j)))
    ∙ sum2-scale 3 3 (pos 16) (λ i j. pos (parent i * parent j) *ℤ f (0 / 2 + i) (0 / 2 + j)) in
    not-one (sum2 3 3 (λ i j. pos (parent i * parent j) *ℤ f (0 / 2 + i) (0 / 2 + j))) (sym sixteen ∙ one)
