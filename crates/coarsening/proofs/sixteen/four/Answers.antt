-- Each number is the one that was read.
use mathlib.Core.Path.{◌≡◌, ◌∙◌}
use Prim.Native.Nat.{ℕ, ◌+◌, ◌*◌, ◌≤◌}
use native.Mathlib.Omega.{arith}
use borrow.Author.Rules.{sfits_of}
use lib.IntN.{pos}
use lib.ListN.{length}
use mir.Syntax.{w64}
use mir.ValLaws.{to_z-of_z}
use Rattle.coarsening.specs.Coarser.{number_of}
use Rattle.coarsening.proofs.SixteenLaws.{at-four, in_body, in-slice}
use Rattle.coarsening.proofs.sixteen.four.Goals.{Else-level-eq2, Then-level-eq2}
use Rattle.coarsening.proofs.sixteen.four.Goals as goal

-- four numbers stand in the body, or in the slice
body-long : (c : Then-level-eq2) → let a = c.args in 5 * (a.at + 4) ≤ length a.body.now
body-long c = c.requires.0.0 c.if-level-eq2.true

slice-long : (c : Else-level-eq2) → let a = c.args in a.at + 4 ≤ length a.fine.now
slice-long c = c.requires.0.1 c.if-level-eq2.false

pub returns-then-level-eq2 : goal.returns-then-level-eq2
returns-then-level-eq2 c = let a = c.args in
    let at : (from k : ℕ) → from ≡ a.at + k → _ = λ from k e.
    in_body a.level a.body.now a.fine.now from (a.at + k) c.if-level-eq2.true e in
    at-four (λ k z. z ≡ number_of a.level a.body.now a.fine.now (a.at + k)) (pos 0)
    (to_z-of_z w64 _ (sfits_of c.read.type_inv) ∙ c.read.ensures ∙ at a.at 0 (omega arith))
    (to_z-of_z w64 _ (sfits_of c.read-then-level-eq2.type_inv) ∙ c.read-then-level-eq2.ensures ∙ at (a.at + 1) 1 (omega arith))
    (to_z-of_z w64 _ (sfits_of c.read-then-level-eq2-2.type_inv) ∙ c.read-then-level-eq2-2.ensures ∙ at (a.at + 2) 2 (omega arith))
    (to_z-of_z w64 _ (sfits_of c.read-then-level-eq2-3.type_inv) ∙ c.read-then-level-eq2-3.ensures ∙ at (a.at + 3) 3 (omega arith))

pub returns : goal.returns
returns c = let a = c.args in
    let at : (from k : ℕ) → from ≡ a.at + k → _ = λ from k e.
    in-slice a.level a.body.now a.fine.now from (a.at + k) c.if-level-eq2.false e in
    at-four (λ k z. z ≡ number_of a.level a.body.now a.fine.now (a.at + k)) (pos 0)
    (to_z-of_z w64 _ (sfits_of c.result-1.given) ∙ at a.at 0 (omega arith))
    (to_z-of_z w64 _ (sfits_of c.result-2-1.given) ∙ at (a.at + 1) 1 (omega arith))
    (to_z-of_z w64 _ (sfits_of c.result-3-1.given) ∙ at (a.at + 2) 2 (omega arith))
    (to_z-of_z w64 _ (sfits_of c.result-4-1.given) ∙ at (a.at + 3) 3 (omega arith))

pub read-requires : goal.read-requires
read-requires c =
    omega (arith, body-long c)

pub read-requires-then-level-eq2 : goal.read-requires-then-level-eq2
read-requires-then-level-eq2 c =
    omega (arith, body-long (goal.at.read-requires-then-level-eq2 c).Then-level-eq2)

pub read-requires-then-level-eq2-2 : goal.read-requires-then-level-eq2-2
read-requires-then-level-eq2-2 c =
    omega (arith, body-long (goal.at.read-requires-then-level-eq2-2 c).Then-level-eq2)

pub read-requires-then-level-eq2-3 : goal.read-requires-then-level-eq2-3
read-requires-then-level-eq2-3 c =
    omega (arith, body-long (goal.at.read-requires-then-level-eq2-3 c).Then-level-eq2)

pub bounds-fine-at : goal.bounds-fine-at
bounds-fine-at c =
    omega (arith, slice-long c)

pub bounds-fine-at-2 : goal.bounds-fine-at-2
bounds-fine-at-2 c =
    omega (arith, slice-long (goal.at.bounds-fine-at-2 c).Else-level-eq2)

pub bounds-fine-at-3 : goal.bounds-fine-at-3
bounds-fine-at-3 c =
    omega (arith, slice-long (goal.at.bounds-fine-at-3 c).Else-level-eq2)

pub bounds-fine-at-4 : goal.bounds-fine-at-4
bounds-fine-at-4 c =
    omega (arith, slice-long (goal.at.bounds-fine-at-4 c).Else-level-eq2)
