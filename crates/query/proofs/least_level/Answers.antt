-- Each way out of `least_level` gives the outcome of document 01.
use Rattle.std.proofs.lemmas.Result.{err_from_is_err_and}
use mathlib.Core.Path.{◌≡◌}
use Prim.Native.Nat.{ℕ, ◌≤◌}
use native.Mathlib.Omega.{arith}
use Rattle.finite.proofs.Minima.{least-le-top}
use Rattle.surface.specs.Sheet.{quarters}
use Rattle.surface.specs.Support.{in_box}
use Rattle.surface.specs.Table.{levels, region_cause}
use Rattle.surface.specs.Calls.{LevelsUnder, box_cause, least_outcome}
use Rattle.surface.proofs.Causes.{first, past}
use Rattle.surface.proofs.Greatest.{greatest_where-le}
use Rattle.surface.proofs.SmallLevels.{levels-small}
use Rattle.answers.proofs.AnswerLaws.{number-positive, refused-with, gives-with}
use Rattle.table.proofs.CauseLaws.{region-none, box-none}
use Rattle.query.proofs.least_level.Goals.{After-under-found, In_ok-box_cause, In_ok-region_cause}
use Rattle.query.proofs.least_level.Goals as goal

pub returns-in_err-region_cause : goal.returns-in_err-region_cause
unfolding least_outcome
returns-in_err-region_cause c =
    let p = err_from_is_err_and c.from_residual.result c.from_residual.ensures.1 in
    let e = c.in_err-region_cause.field-0.0 in
    rw (p.1, p.2) (refused-with e (first c.in_err-region_cause.ensures.0 (number-positive e) _) _)

-- past causes 1 and 2
none : (c : In_ok-region_cause)
    → let a = c.args in 0 ≡ region_cause a.w a.h a.tree.now
none c = c.in_ok-region_cause.ensures.0

pub box_cause-requires : goal.box_cause-requires
box_cause-requires c = let a = c.args in
    let sides = region-none a.w a.h a.tree.now (none c) in
    (sides.1, sides.2)

pub returns-in_err-box_cause : goal.returns-in_err-box_cause
unfolding least_outcome
returns-in_err-box_cause c =
    let p = err_from_is_err_and c.from_residual-in_err-box_cause.result c.from_residual-in_err-box_cause.ensures.1 in
    rw (p.1, p.2) (refused-with c.in_err-box_cause.field-0.0 (past c.in_ok-region_cause.ensures.0 c.in_err-box_cause.ensures) _)

-- past cause 7
inside : (c : In_ok-box_cause)
    → let a = c.args in 0 ≡ box_cause a.w a.h (record { u0 = a.u0; v0 = a.v0; u1 = a.u1; v1 = a.v1 })
inside c = c.in_ok-box_cause.ensures

pub under-found-requires : goal.under-found-requires
under-found-requires c = let a = c.args in
    let sides = region-none a.w a.h a.tree.now (none (goal.at.under-found-requires c).In_ok-region_cause) in
    (sides.1, sides.2, sides.3, box-none a.w a.h _ (inside c))

-- the levels found are at most 3, so that each is a byte
small : (c : After-under-found) → (c.under-found.result.least ≤ 3) × (c.under-found.result.greatest ≤ 3)
small c =
    let a = c.args in (
      rw c.under-found.ensures.lowest (least-le-top 3 (quarters a.w) _),
      rw c.under-found.ensures.highest
          (greatest_where-le a.w a.h (levels a.tree.now) (in_box (record { u0 = a.u0; v0 = a.v0; u1 = a.u1; v1 = a.v1 })) 3
          (λ q r _ _ _. levels-small a.tree.now q r)),
    )

pub overflow_cast-result : goal.overflow_cast-result
overflow_cast-result c = omega (arith, small (goal.at.overflow_cast-result c).After-under-found)

pub overflow_cast-result-2 : goal.overflow_cast-result-2
overflow_cast-result-2 c = omega (arith, small (goal.at.overflow_cast-result-2 c).After-under-found)

-- the same levels and count are the same answer
same-levels : {l m g k v n : ℕ} → l ≡ m → g ≡ k → v ≡ n
    → ◌≡◌ {A = LevelsUnder} (record { least = l; greatest = g; visited = v })
    (record { least = m; greatest = k; visited = n })
same-levels p q r = rw (p, q, r)

pub returns : goal.returns
unfolding least_outcome
returns c = let u = c.under-found.ensures in
    gives-with (past (none (goal.at.returns c).In_ok-region_cause) (inside (goal.at.returns c).In_ok-box_cause))
    (same-levels u.lowest u.highest u.counted)
