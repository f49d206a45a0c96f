-- Each entry is what the call gives of the numbers that were read.
use mathlib.Core.Path.{◌≡◌}
use mathlib.Core.Bool.{Bool, false, cond}
use Prim.Native.Nat.{ℕ}
use lib.IntN.{ℤ, pos}
use lib.ListN.{get_or}
use borrow.Author.Rules.{sfits_of}
use Rattle.point.proofs.PointLaws.{at-four, chosen-read}
use Rattle.point.proofs.step.choose_row.Goals as goal

pub returns : goal.returns
returns c = let a = c.args in
    let inside : ℕ → Bool = λ l. get_or a.inside l false in
    let own : ℕ → ℤ = λ l. get_or a.own l (pos 0) in
    let coarse : ℕ → ℤ = λ l. get_or a.coarse l (pos 0) in
    at-four (λ l z. z ≡ cond (inside l) (own l) (coarse l)) (pos 0)
    (chosen-read (inside 0) (own 0) (coarse 0) (sfits_of c.choose.type_inv)
    (sfits_of c.choose-arg-1.given) (sfits_of c.choose-arg-2-1.given)
    c.choose.ensures)
    (chosen-read (inside 1) (own 1) (coarse 1) (sfits_of c.choose-2.type_inv)
    (sfits_of c.choose-arg-3-1.given) (sfits_of c.choose-arg-4-1.given)
    c.choose-2.ensures)
    (chosen-read (inside 2) (own 2) (coarse 2) (sfits_of c.choose-3.type_inv)
    (sfits_of c.choose-arg-5-1.given) (sfits_of c.choose-arg-6-1.given)
    c.choose-3.ensures)
    (chosen-read (inside 3) (own 3) (coarse 3) (sfits_of c.choose-4.type_inv)
    (sfits_of c.choose-arg-7-1.given) (sfits_of c.choose-arg-8-1.given)
    c.choose-4.ensures)
