-- Each child is what the calls give, at its parent's place.
use mathlib.Core.Path.{◌≡◌, ◌∙◌}
use native.Mathlib.Omega.{arith}
use lib.IntN.{◌+ℤ◌}
use borrow.Author.Rules.{sfits_of}
use Rattle.patch.specs.Steps.{even_of, placed}
use Rattle.patch.proofs.Lines.{given, odd_is, children-0, children-1, line}
use Rattle.patch.proofs.children.Goals as goal

pub returns-then-this-eq0 : goal.returns-then-this-eq0
returns-then-this-eq0 g c = let s = c.args in
    let p = s.r.now in
    let A = placed p s.i in
    let B = placed p s.j in
    let C = placed p s.k in
    let D = placed p s.l in
    let first = c.if-this-eq0.true in
    let a-is = given (sfits_of c.at-a.type_inv) c.at-a.ensures.0 in
    let b-is = given (sfits_of c.at-b.type_inv) c.at-b.ensures.0 in
    let c-is = given (sfits_of c.at-c.type_inv) c.at-c.ensures.0 in
    let d-is = given (sfits_of c.at-d.type_inv) c.at-d.ensures.0 in
    let ab-is = given (sfits_of c.pair-ab.type_inv) (c.pair-ab.ensures.0 ∙ (λ i. a-is i +ℤ b-is i)) in
    let bc-is = given (sfits_of c.pair-bc.type_inv) (c.pair-bc.ensures.0 ∙ (λ i. b-is i +ℤ c-is i)) in
    let cd-is = given (sfits_of c.pair-cd.type_inv) (c.pair-cd.ensures.0 ∙ (λ i. c-is i +ℤ d-is i)) in
    let i-is = given (sfits_of c.even.type_inv) (c.even.ensures ∙ (λ i. even_of (a-is i) (b-is i))) in
    let j-is = given (sfits_of c.odd_of_pairs.type_inv) (odd_is A B C c.odd_of_pairs.ensures bc-is b-is ab-is) in
    let k-call = c.even-then-this-eq0 in
    let k-is = given (sfits_of k-call.type_inv) (k-call.ensures ∙ (λ i. even_of (b-is i) (c-is i))) in
    let l-call = c.odd_of_pairs-then-this-eq0 in
    let l-is = given (sfits_of l-call.type_inv) (odd_is B C D l-call.ensures cd-is c-is bc-is) in
    rw first
    (line 0 p s.i s.j s.k s.l c.put.ensures c.put-then-this-eq0.ensures c.put-then-this-eq0-2.ensures
    c.put-then-this-eq0-3.ensures (children-0 A B C D i-is j-is k-is l-is))

pub returns-else-this-eq0 : goal.returns-else-this-eq0
returns-else-this-eq0 g c = let s = c.args in
    let p = s.r.now in
    let A = placed p s.i in
    let B = placed p s.j in
    let C = placed p s.k in
    let D = placed p s.l in
    let second : g.row.HALF ≡ 1 = omega (arith, c.if-this-eq0.false, c.requires.0) in
    let a-is = given (sfits_of c.at-a.type_inv) c.at-a.ensures.0 in
    let b-is = given (sfits_of c.at-b.type_inv) c.at-b.ensures.0 in
    let c-is = given (sfits_of c.at-c.type_inv) c.at-c.ensures.0 in
    let d-is = given (sfits_of c.at-d.type_inv) c.at-d.ensures.0 in
    let ab-is = given (sfits_of c.pair-ab.type_inv) (c.pair-ab.ensures.0 ∙ (λ i. a-is i +ℤ b-is i)) in
    let bc-is = given (sfits_of c.pair-bc.type_inv) (c.pair-bc.ensures.0 ∙ (λ i. b-is i +ℤ c-is i)) in
    let cd-is = given (sfits_of c.pair-cd.type_inv) (c.pair-cd.ensures.0 ∙ (λ i. c-is i +ℤ d-is i)) in
    let i-call = c.odd_of_pairs-else-this-eq0 in
    let i-is = given (sfits_of i-call.type_inv) (odd_is A B C i-call.ensures bc-is b-is ab-is) in
    let j-call = c.even-else-this-eq0 in
    let j-is = given (sfits_of j-call.type_inv) (j-call.ensures ∙ (λ i. even_of (b-is i) (c-is i))) in
    let k-call = c.odd_of_pairs-else-this-eq0-2 in
    let k-is = given (sfits_of k-call.type_inv) (odd_is B C D k-call.ensures cd-is c-is bc-is) in
    let l-call = c.even-else-this-eq0-2 in
    let l-is = given (sfits_of l-call.type_inv) (l-call.ensures ∙ (λ i. even_of (c-is i) (d-is i))) in
    rw second
    (line 1 p s.i s.j s.k s.l c.put-else-this-eq0.ensures c.put-else-this-eq0-2.ensures c.put-else-this-eq0-3.ensures
    c.put-else-this-eq0-4.ensures (children-1 A B C D i-is j-is k-is l-is))
