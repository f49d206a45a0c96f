-- Each product is at most its weight times the bound of the four, and so all four together fit.
use Prim.Native.Nat.{ℕ, ◌+◌, ◌*◌, ◌^◌, ◌≤◌, ◌<◌}
use native.Mathlib.Nat.{le_refl, lt_of_le_of_lt, mul-le-mul_right}
use native.Mathlib.Omega.{arith}
use lib.Dec.{lit<}
use lib.IntN.{ℤ, pos, nat_abs, ◌*ℤ◌}
use lib.ListN.{get_or}
use mir.Syntax.{w64}
use mir.Val.{SFits, to_z, of_z}
use Rattle.evaluation.specs.Weights.{weighed}
use Rattle.patch.proofs.Size.{Holds, holds, times, add-fits, mul-fits, add_holds, mul_holds}
use Rattle.evaluation.proofs.weigh.Goals.{Start}
use Rattle.evaluation.proofs.weigh.Goals as goal

-- the four weights times the bound of the four
all : (s : Start)
    → let w = s.args.w in (nat_abs w.a + nat_abs w.b + nat_abs w.c + nat_abs w.d) * s.requires.1 < 2 ^ 63
all s = lt_of_le_of_lt (mul-le-mul_right s.requires.1 s.requires.2) s.requires.6

module _ (s : Start) (a : ℤ) (k : ℕ) (ha : nat_abs a ≤ s.requires.0) (hk : k < 4) where
  abbrev x : ℤ
  x = get_or s.args.x k (pos 0)

  weight : Holds (of_z w64 a) a (nat_abs a)
  weight = holds a (le_refl (nat_abs a)) (omega (arith, s.requires.4))

  value : Holds (of_z w64 x) x s.requires.1
  value = holds x (s.requires.3 k hk) s.requires.5

  small : nat_abs a * s.requires.1 < 2 ^ 63
  small = lt_of_le_of_lt (mul-le-mul_right s.requires.1 ha) s.requires.6

  product-fits : SFits w64 (to_z w64 (of_z w64 a) *ℤ to_z w64 (of_z w64 x))
  product-fits = mul-fits weight value small

  product : Holds (times (of_z w64 a) (of_z w64 x)) (a *ℤ x) (nat_abs a * s.requires.1)
  product = mul_holds weight value small

pub overflow_mul-result : goal.overflow_mul-result
overflow_mul-result c = product-fits (goal.at.overflow_mul-result c).Start c.args.w.a 0 (omega arith) (lit< tt)

pub overflow_mul-result-2 : goal.overflow_mul-result-2
overflow_mul-result-2 c = product-fits (goal.at.overflow_mul-result-2 c).Start c.args.w.b 1 (omega arith) (lit< tt)

pub overflow_add-result : goal.overflow_add-result
overflow_add-result c = let a = product (goal.at.overflow_add-result c).Start c.args.w.a 0 (omega arith) (lit< tt) in
    let b = product (goal.at.overflow_add-result c).Start c.args.w.b 1 (omega arith) (lit< tt) in
    add-fits a b (omega (arith, all (goal.at.overflow_add-result c).Start))

pub overflow_mul-result-3 : goal.overflow_mul-result-3
overflow_mul-result-3 c = product-fits (goal.at.overflow_mul-result-3 c).Start c.args.w.c 2 (omega arith) (lit< tt)

pub overflow_add-result-2 : goal.overflow_add-result-2
overflow_add-result-2 c = let a = product (goal.at.overflow_add-result-2 c).Start c.args.w.a 0 (omega arith) (lit< tt) in
    let b = product (goal.at.overflow_add-result-2 c).Start c.args.w.b 1 (omega arith) (lit< tt) in
    let d = product (goal.at.overflow_add-result-2 c).Start c.args.w.c 2 (omega arith) (lit< tt) in
    let t = all (goal.at.overflow_add-result-2 c).Start in
    add-fits (add_holds a b (omega arith)) d (omega arith)

pub overflow_mul-result-4 : goal.overflow_mul-result-4
overflow_mul-result-4 c = product-fits (goal.at.overflow_mul-result-4 c).Start c.args.w.d 3 (omega arith) (lit< tt)

pub overflow_add-result-3 : goal.overflow_add-result-3
overflow_add-result-3 c = let a = product (goal.at.overflow_add-result-3 c).Start c.args.w.a 0 (omega arith) (lit< tt) in
    let b = product (goal.at.overflow_add-result-3 c).Start c.args.w.b 1 (omega arith) (lit< tt) in
    let d = product (goal.at.overflow_add-result-3 c).Start c.args.w.c 2 (omega arith) (lit< tt) in
    let e = product (goal.at.overflow_add-result-3 c).Start c.args.w.d 3 (omega arith) (lit< tt) in
    let t = all (goal.at.overflow_add-result-3 c).Start in
    add-fits (add_holds (add_holds a b (omega arith)) d (omega arith)) e (omega arith)

pub returns : goal.returns
unfolding weighed
returns c = let a = product (goal.at.returns c).Start c.args.w.a 0 (omega arith) (lit< tt) in
    let b = product (goal.at.returns c).Start c.args.w.b 1 (omega arith) (lit< tt) in
    let d = product (goal.at.returns c).Start c.args.w.c 2 (omega arith) (lit< tt) in
    let e = product (goal.at.returns c).Start c.args.w.d 3 (omega arith) (lit< tt) in
    let t = all (goal.at.returns c).Start in
    (add_holds (add_holds (add_holds a b (omega arith)) d (omega arith)) e (omega arith)).same
