-- Equal levels have one tree, and one level is a leaf.
use mathlib.Core.Path.{◌≡◌, sym, ◌∙◌}
use Prim.Native.Nat.{ℕ, ◌+◌, ◌^◌, ◌≤◌, ◌<◌}
use native.Mathlib.Omega.{arith}
use Rattle.surface.specs.Quadtree.{leaf, region_tree}
use Rattle.surface.proofs.TreeForm.{form-leaf}
use Rattle.surface.proofs.TreeLevels.{level_at-leaf, region_tree-ext, region_tree-levels}

pub region-cong : (k x y : ℕ) (f g : ℕ → ℕ → ℕ)
    → ((q r : ℕ) → x ≤ q → q < x + 2 ^ k → y ≤ r → r < y + 2 ^ k → f q r ≡ g q r)
    → region_tree k x y f ≡ region_tree k x y g
region-cong k x y f g same =
    region_tree-ext k x y f g
    (λ q r lq lr. same (x + q) (y + r) (omega arith) (omega arith) (omega arith) (omega arith))

pub region-leaf : (k x y v : ℕ) (lev : ℕ → ℕ → ℕ) → v ≤ 3
    → ((q r : ℕ) → x ≤ q → q < x + 2 ^ k → y ≤ r → r < y + 2 ^ k → lev q r ≡ v) → region_tree k x y lev ≡ leaf v
region-leaf k x y v lev low same =
    let W = x + 2 ^ k in
    let H = y + 2 ^ k in
    region_tree-levels W H k x y (leaf v) lev
    (form-leaf W H k x y v (record {
      level = low;
      past_u = λ out. absurd (omega arith);
      past_v = λ out. absurd (omega arith);
    }))
    (λ q r lq lr.
    same (x + q) (y + r) (omega arith) (omega arith) (omega arith) (omega arith) ∙ sym (level_at-leaf k v q r))
