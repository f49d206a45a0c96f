-- The causes and the outcome of `set`.
use mathlib.Core.Path.{◌≡◌, refl, sym, ap, ap₂, ◌∙◌}
use mathlib.Core.Bool.{Bool, true, not, ◌&&◌}
use mathlib.Core.List.{List, [], ◌∷◌, ◌++◌}
use Prim.Native.Nat.{ℕ, zero, suc, ◌+◌, ◌-◌, ◌*◌, ◌≤◌, ◌<◌}
use native.Mathlib.Nat.{mul_comm, zero-add, suc-add}
use borrow.Author.Tests.{ltb-false}
use lib.Dec.{ltb}
use lib.IntN.{ℤ, nat_abs}
use lib.ListN.{length, set, take, drop, take-append-drop}
use lib.Seq.{set-append_left}
use Rattle.finite.proofs.Table.{place-below}
use Rattle.finite.proofs.Tests.{both}
use Rattle.surface.specs.Sheet.{functions}
use Rattle.surface.specs.Support.{active}
use Rattle.surface.specs.Table.{cause, ◌or_else◌, levels, places, start, slots, place, limit, table_cause}
use Rattle.surface.specs.Calls.{index_fits, index, set_cause}
use Rattle.surface.proofs.TableLaws.{sound, sides}
use Rattle.surface.proofs.Causes.{or_else-none, cause-none, cause-off}
use Rattle.coefficients.proofs.Parts.{part, part_length}

-- ---- the place in the level's part, and the part in the slice

pub in-part : (W H L a b n first size : ℕ) (cs : List ℤ) → n ≡ functions W L → size ≡ places W H L
    → a < functions W L → b < functions H L → first + size ≤ length cs → b * n + a < length (part first size cs)
in-part W H L a b n first size cs e sized ha hb h =
    let n = functions W L in
    let m = functions H L in
    rw (e, part_length first size cs h ∙ sized, mul_comm n m) (place-below n m a b ha hb)

-- an element set behind the first n
set-behind : (n k : ℕ) (cs : List ℤ) (z : ℤ) → take n cs ++ set (drop n cs) k z ≡ set cs (n + k) z
set-behind zero k cs z = rw (zero-add k)
set-behind (suc n) k [] z = refl
set-behind (suc n) k (x ∷ cs) z = rw (suc-add n k) (ap (λ l. x ∷ l) (set-behind n k cs z))

-- and in a part
set-inside : (first size k : ℕ) (cs : List ℤ) (z : ℤ) → k < length (part first size cs)
    → take first cs ++ (set (part first size cs) k z ++ drop (first + size - first) (drop first cs))
    ≡ set cs (first + k) z
set-inside first size k cs z h =
    let n = first + size - first in
    let rest = drop first cs in
    ap (λ l. take first cs ++ l)
    (sym (set-append_left (take n rest) (drop n rest) k z h) ∙ ap (λ l. set l k z) (take-append-drop n rest))
    ∙ set-behind first k cs z

pub set-place : (W H L a b n first size : ℕ) (cs x : List ℤ) (i j : ℤ) {z number : ℤ} → n ≡ functions W L
    → first ≡ start W H L → a ≡ index i → b ≡ index j → z ≡ number → b * n + a < length (part first size cs)
    → x ≡ set (part first size cs) (b * n + a) z
    → take first cs ++ (x ++ drop (first + size - first) (drop first cs))
    ≡ set cs (place W H L (index i) (index j)) number
set-place W H L a b n first size cs x i j {z} {number} e f p q r h w =
    ap (λ x. take first cs ++ (x ++ drop (first + size - first) (drop first cs))) w
    ∙ set-inside first size (b * n + a) cs z h
    ∙ ap₂ (set cs)
    (ap₂ (λ s n. s + (b * n + a)) f e ∙ ap₂ (λ a b. start W H L + (b * functions W L + a)) p q) r

-- ---- causes

-- of arguments that are equal
pub set_same : (W H : ℕ) (t : List ℕ) (cs : List ℤ) (L : ℕ) {i j k x y z : ℤ} → i ≡ x → j ≡ y → k ≡ z
    → set_cause W H t cs L i j k ≡ set_cause W H t cs L x y z
set_same W H t cs L {i} {j} {k} {x} {y} {z} p q r =
    ap (λ i. set_cause W H t cs L i j k) p ∙ ap₂ (set_cause W H t cs L x) q r

-- the sides of a table with none of the first five
pub table_none : (W H : ℕ) (t : List ℕ) (cs : List ℤ) → 0 ≡ table_cause W H t cs
    → (0 < W) × (W ≤ 8) × (0 < H) × (H ≤ 8)
table_none W H t cs e = sides (sound W H t cs (sym e))

-- what `set` needs of its arguments where no cause applies
pub record Settable (W H : ℕ) (cs : List ℤ) (L : ℕ) (i j : ℤ) : Type 0 where
  pub side-W : W ≤ 8
  pub side-H : H ≤ 8
  pub level : L ≤ 3
  pub size : length cs ≡ slots W H
  pub first : index_fits W L i ≡ true
  pub second : index_fits H L j ≡ true

module _ (W H : ℕ) (t : List ℕ) (cs : List ℤ) (L : ℕ) (i j number : ℤ) where
  abbrev fit : Bool
  fit = index_fits W L i && index_fits H L j && active W H (levels t) L (index i) (index j)

  -- no cause
  pub set-none : 0 ≡ set_cause W H t cs L i j number → Settable W H cs L i j
  unfolding set_cause
  set-none e =
      let c8 = cause 8 (ltb 3 L) in
      let c9 = cause 9 (not fit) in
      let c10 = cause 10 (ltb (limit L) (nat_abs number)) in
      let e5 = or_else-none (table_cause W H t cs) (c8 or_else c9 or_else c10) (sym e) in
      let e8 = or_else-none c8 (c9 or_else c10) e5.1 in
      let e9 = or_else-none c9 c10 e8.1 in
      let s = sound W H t cs e5.0 in
      let act = active W H (levels t) L (index i) (index j) in
      let f = both (index_fits W L i && index_fits H L j) act (cause-none 8 fit e9.0) in
      let k = both (index_fits W L i) (index_fits H L j) f.0 in
      record {
        side-W = (sides s).1;
        side-H = (sides s).3;
        level = ltb-false 3 L (cause-off 7 (ltb 3 L) e8.0);
        size = s.size;
        first = k.0;
        second = k.1;
      }
