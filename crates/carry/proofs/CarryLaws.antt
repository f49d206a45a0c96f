-- Carried values: of level 0, and of a row from its marks and the sums along v of the level before it.
use mathlib.Core.Path.{◌≡◌, refl, sym, ap, ◌∙◌, subst}
use mathlib.Core.Bool.{cond}
use mathlib.Core.List.{List}
use Prim.Native.Nat.{ℕ, suc, ◌+◌, ◌-◌, ◌*◌, ◌/◌, ◌%◌, ◌^◌, ◌≤◌, ◌<◌}
use native.Mathlib.Nat.{zero-add, mul-one, mul_comm, mul-le-mul_left, mul-le-mul_right, pow-le-pow_right, le_trans}
use native.Mathlib.Numerals.{add-one}
use native.Mathlib.Omega.{arith}
use lib.IntN.{ℤ, pos, ◌*ℤ◌}
use lib.ListN.{length, get_or, take}
use Rattle.finite.specs.Range.{sum2}
use Rattle.finite.proofs.Sum.{sum-cong, sum2-cong}
use Rattle.finite.proofs.Table.{place-split, length-table, get_d-table}
use Rattle.surface.specs.Sheet.{eighths, functions}
use Rattle.surface.specs.Support.{in_region}
use Rattle.surface.specs.Truncation.{weight2}
use Rattle.surface.specs.Table.{places, start, slots, place, coefficients, limit}
use Rattle.surface.specs.Carry.{carried}
use Rattle.surface.specs.Patch.{stencil}
use Rattle.surface.proofs.Parents.{functions-step}
use Rattle.surface.proofs.TableLaws.{place-before, slice-coefficient}
use Rattle.rows.specs.Rows.{levels_of}
use Rattle.activity.specs.Marks.{marked, RegionRow}
use Rattle.activity.specs.declared.Marks.{Marks}
use Rattle.activity.proofs.WindowLaws.{functions-le}
use Rattle.coefficients.proofs.Parts.{part, part_length, level-at}
use Rattle.carry.specs.Carried.{CarriedFit, CarriedTo, carried_slice, Within, child_from, column_child}
use Rattle.carry.specs.Carried.{AlongV, carried_if, row_carried, NextRow}
use Rattle.carry.proofs.ChildLaws.{child-cong, two-scale, two-scale-from}
use Rattle.passive.proofs.RowLaws.{Rule}
use Rattle.passive.proofs.SliceLaws.{front_at, first-level, put, row-front}

-- a row's parents stand in the part of the coarser level
pub parents-fit : (W H L b n : ℕ) → n ≡ functions W L → b < functions H (L + 1)
    → (b / 2 + b % 2 + 2) * n ≤ places W H L
parents-fit W H L b n columns hb =
    let low : b < functions H (suc L) = subst (λ k. b < functions H k) (add-one L) hb in
    let rows : b / 2 + b % 2 + 2 ≤ functions H L = omega (arith, functions-step H L) in
    rw columns (omega (arith, mul-le-mul_right (functions W L) rows, mul_comm (functions W L) (functions H L)))

-- the coarser level has few columns
pub columns-few : (W L : ℕ) → W ≤ 8 → L < 3 → functions W L ≤ 35
columns-few W L hW hL = omega (arith, functions-step W L, functions-le W (suc L) hW hL)

-- the finer level has an odd number
pub columns-odd : (W L : ℕ) → functions W (L + 1) % 2 ≡ 1
columns-odd W L = rw (add-one L) (omega (arith, functions-step W L))

limit-coarse : (L : ℕ) → L < 3 → limit L ≤ 131072000
limit-coarse L h =
    let power : 64 ^ L ≤ 4096 = pow-le-pow_right {n = 64} (omega arith) {i = L} {j = 2} (omega arith) in
    omega (arith, mul-le-mul_left 32000 power)

-- a row of the next level, whatever the numbers of the level before it are
pub next_row : (W H L b first e : ℕ) (rows : List ℕ) (marks : Marks) (coarse own sums row : List ℤ)
    → e ≡ eighths (L + 1) → b < functions H (L + 1) → first ≤ b / 2
    → RegionRow W H (L + 1) b (L + 1) (levels_of rows) marks
    → AlongV (functions W L) (functions W L) (b - 2 * first) coarse sums → length own ≡ functions W (L + 1)
    → row ≡ row_carried (marked e marks) sums own → NextRow W H rows L b first coarse own row
next_row W H L b first e rows marks coarse own sums row side below low found along size new = (
  ap length new ∙ length-table 0 (length own) _ ∙ size,
  λ f stands a ha.
      let test : marked e marks a ≡ in_region W H (levels_of rows) (L + 1) a b =
      ap (λ e. marked e marks a) side ∙ found a ha in
      let sum = two-scale-from W H L a b first f coarse sums (subst (λ k. a < functions W k) (add-one L) ha)
      (subst (λ k. b < functions H k) (add-one L) below) low stands along.sums in
      ap (λ r. get_or r a (pos 0)) new
      ∙ get_d-table 0 (length own) (λ a. carried_if (marked e marks a) (get_or own a (pos 0)) sums a) a (pos 0)
      (omega (arith, size))
      ∙ ap (λ a. carried_if (marked e marks a) (get_or own a (pos 0)) sums a) (zero-add a)
      ∙ (λ i. cond (test i) (get_or own a (pos 0)) (sum i)),
)

module _ (W H : ℕ) (rows : List ℕ) (cs : List ℤ) where
  abbrev value : ℕ → ℕ → ℕ → ℤ
  value = carried W H (levels_of rows) (coefficients W H cs)

  -- a level's part has its carried values
  pub record Holds (L : ℕ) (s : List ℤ) : Type 0 where
    pub size : length s ≡ places W H L
    pub values : (a b : ℕ) → a < functions W L → b < functions H L
        → get_or s (b * functions W L + a) (pos 0) ≡ value L a b

  pub held : (L k first n : ℕ) (out : List ℤ) → L < 4 → first ≡ start W H L → n ≡ places W H L → first + n ≤ length out
      → start W H (L + 1) ≤ k → CarriedTo k W H rows cs out → Holds L (part first n out)
  unfolding coefficients
  held L k first n out hL begins sized fits low done = record {
    size = part_length first n out fits ∙ sized;
    values = λ a b ha hb.
        let here : place W H L a b < k = omega (arith, place-before W H L (L + 1) a b (omega arith) ha hb) in
        level-at W H L first n out begins sized a b ha hb
        ∙ front_at k out (carried_slice W H rows cs) (place W H L a b) (pos 0) done.front here
        ∙ slice-coefficient W H value L a b hL ha hb;
  }

  -- they are small enough for a sum of them
  pub holds-within : (L : ℕ) (s : List ℤ) → L < 3 → CarriedFit W H rows cs → Holds L s → Within 131072000 s
  holds-within L s hL fit h k l =
      let n = functions W L in
      let m = functions H L in
      let q = place-split n m k (omega (arith, h.size, mul_comm n m)) in
      let same : get_or s k (pos 0) ≡ value L q.0 q.1 =
      ap (λ k. get_or s k (pos 0)) q.4 ∙ h.values q.0 q.1 q.2 q.3 in
      rw same (le_trans (fit L q.0 q.1 (omega arith) q.2 q.3) (limit-coarse L hL))

  -- the first level is carried as it is
  pub level-zero : (n : ℕ) (out : List ℤ) → length cs ≡ slots W H → length out ≡ slots W H → n ≡ places W H 0
      → take n out ≡ take n cs → CarriedTo (start W H 1) W H rows cs out
  unfolding carried start
  level-zero n out size sized few e =
      let all : start W H 1 ≡ n = zero-add (places W H 0) ∙ sym few in
      record { size = sized; front = rw all (e ∙ first-level W H n value cs few size (λ a b ha hb. refl)) }

  -- a function of the next level, from the sums along v
  module _ (L b e : ℕ) (marks : Marks) (s sums : List ℤ) (side : e ≡ eighths (L + 1)) (below : b < functions H (L + 1))
      (found : RegionRow W H (L + 1) b (L + 1) (levels_of rows) marks) (h : Holds L s)
      (along : AlongV (functions W L) (functions W L) b s sums) where
    next-value : (a : ℕ) → a < functions W (L + 1)
        → carried_if (marked e marks a) (coefficients W H cs (L + 1) a b) sums a ≡ value (L + 1) a b
    unfolding carried
    next-value a ha =
        let one = add-one L in
        let within : a < functions W (suc L) = subst (λ k. a < functions W k) one ha in
        let test : marked e marks a ≡ in_region W H (levels_of rows) (L + 1) a b =
        ap (λ e. marked e marks a) side ∙ found a ha in
        let parents : child_from sums (a / 2) 1 a
        ≡ sum2 (functions W L) (functions H L) (λ c d. weight2 c d a b *ℤ value L c d) =
        sum-cong 3 (λ i. pos (stencil a i) *ℤ get_or sums (a / 2 + i * 1) (pos 0))
        (λ i. pos (stencil a i) *ℤ get_or sums (a / 2 + i) (pos 0))
        (λ i l. ap (λ k. pos (stencil a i) *ℤ get_or sums (a / 2 + k) (pos 0)) (mul-one i))
        ∙ child-cong W L a (λ i. get_or sums i (pos 0)) (column_child s (functions W L) b) within along.sums
        ∙ two-scale W H L a b s within (subst (λ k. b < functions H k) one below)
        ∙ sum2-cong (functions W L) (functions H L)
        (λ c d. weight2 c d a b *ℤ get_or s (d * functions W L + c) (pos 0)) (λ c d. weight2 c d a b *ℤ value L c d)
        (λ c d hc hd. ap (λ t. weight2 c d a b *ℤ t) (h.values c d hc hd)) in
        (λ i. cond (test i) (coefficients W H cs (L + 1) a b) (parents i))
        ∙ ap (λ k. cond (in_region W H (levels_of rows) k a b) (coefficients W H cs k a b)
        (sum2 (functions W L) (functions H L) (λ c d. weight2 c d a b *ℤ value L c d))) one
        ∙ ap (λ k. value k a b) (sym one)

    pub row-carried : (n from : ℕ) (out row : List ℤ) → L < 3 → n ≡ functions W (L + 1)
        → from ≡ start W H (L + 1) + b * n → length cs ≡ slots W H
        → row ≡ row_carried (marked e marks) sums (part from n cs) → length (put from n row out) ≡ slots W H
        → CarriedTo from W H rows cs out → CarriedTo (from + n) W H rows cs (put from n row out)
    row-carried n from out row hL columns begins sized new size done =
        let rule : Rule = λ t a z. carried_if t z sums a in
        record {
          size = size;
          front = row-front W H (L + 1) b n from columns begins (omega arith) below rule e marks value out cs cs row
              done.size sized refl new (λ a ha. next-value a (subst (λ k. a < k) columns ha)) done.front;
        }
