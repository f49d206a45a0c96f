-- What a slip is for: the commit of a slip that the table gave is the insertion, and leaves what the slip tells.
use mathlib.Core.Path.{◌≡◌, refl, sym, ap, ◌∙◌, subst}
use mathlib.Core.Bool.{true, not}
use mathlib.Core.List.{List, [], ◌∷◌}
use Prim.Native.Nat.{ℕ, zero, suc, ◌≤◌, ◌<◌}
use native.Mathlib.Omega.{arith}
use lib.IntN.{ℤ}
use lib.Dec.{eqb}
use lib.ListN.{length}
use borrow.Author.Tests.{eqb-true, eq-eqb, le-ltb}
use Rattle.finite.proofs.Tests.{both, pick}
use Rattle.surface.specs.Sheet.{Box}
use Rattle.surface.specs.Support.{least_where, greatest_where, in_box}
use Rattle.surface.specs.Table.{cause, ◌or_else◌, levels, slots, region_cause, table_cause}
use Rattle.surface.specs.Calls.{refused, gives, written, box_cause, outputs_cause, new_tree}
use Rattle.surface.specs.Calls.{new_coefficients, refinement_cause, insert_cause, insert_outcome, least_outcome}
use Rattle.surface.specs.Enquiry.{Slip, slip_of, enquiry_outcome, same_slip, slip_cause, commit_cause, commit_outcome}
use Rattle.surface.specs.Demands.{Contents}
use Rattle.surface.specs.Slips.{InsertsAsBefore, NineteenTold, SlipAccepted, Paid, SlipTells, SlipStays}
use Rattle.surface.proofs.Causes.{or_else-none, cause-none, none-cause}
use Rattle.surface.proofs.RefusalLaws.{answer-gives, answer-refused, OneOf, one-outputs}
use Rattle.surface.proofs.TableLaws.{sound, sides, acceptable}
use Rattle.surface.proofs.Insertion.{new-tree-again, insertion-sound}
use Rattle.surface.proofs.Steps.{accepted, committed-cases}

-- ---- two slips are the same exactly where they are equal

pub same_self : (s : Slip) → same_slip s s ≡ true
same_self s =
    rw (
      eq-eqb s.box.u0 _ refl,
      eq-eqb s.box.v0 _ refl,
      eq-eqb s.box.u1 _ refl,
      eq-eqb s.box.v1 _ refl,
      eq-eqb s.level _ refl,
      eq-eqb s.tree_length _ refl,
      eq-eqb s.active0 _ refl,
      eq-eqb s.active1 _ refl,
      eq-eqb s.active2 _ refl,
      eq-eqb s.active3 _ refl,
      eq-eqb s.visited _ refl,
    )

pub same-slip : (a b : Slip) → same_slip a b ≡ true → a ≡ b
same-slip a b e =
    let p10 = both _ (eqb a.visited b.visited) e in
    let p9 = both _ (eqb a.active3 b.active3) p10.0 in
    let p8 = both _ (eqb a.active2 b.active2) p9.0 in
    let p7 = both _ (eqb a.active1 b.active1) p8.0 in
    let p6 = both _ (eqb a.active0 b.active0) p7.0 in
    let p5 = both _ (eqb a.tree_length b.tree_length) p6.0 in
    let p4 = both _ (eqb a.level b.level) p5.0 in
    let p3 = both _ (eqb a.box.v1 b.box.v1) p4.0 in
    let p2 = both _ (eqb a.box.u1 b.box.u1) p3.0 in
    let p1 = both (eqb a.box.u0 b.box.u0) (eqb a.box.v0 b.box.v0) p2.0 in
    λ i. record {
      box = record {
        u0 = eqb-true a.box.u0 b.box.u0 p1.0 i;
        v0 = eqb-true a.box.v0 b.box.v0 p1.1 i;
        u1 = eqb-true a.box.u1 b.box.u1 p2.1 i;
        v1 = eqb-true a.box.v1 b.box.v1 p3.1 i;
      };
      level = eqb-true a.level b.level p4.1 i;
      tree_length = eqb-true a.tree_length b.tree_length p5.1 i;
      active0 = eqb-true a.active0 b.active0 p6.1 i;
      active1 = eqb-true a.active1 b.active1 p7.1 i;
      active2 = eqb-true a.active2 b.active2 p8.1 i;
      active3 = eqb-true a.active3 b.active3 p9.1 i;
      visited = eqb-true a.visited b.visited p10.1 i;
    }

-- so a commit is past 19 exactly with the slip that the table gives
own-slip : (W H : ℕ) (t : List ℕ) (box : Box) (n : ℕ) → slip_cause W H t (slip_of W H t box n) ≡ 0
unfolding slip_of
own-slip W H t box n =
    let s = slip_of W H t box n in
    none-cause 19 (same_slip s s) (same_self s)

given-slip : (W H : ℕ) (t : List ℕ) (s : Slip) → slip_cause W H t s ≡ 0 → s ≡ slip_of W H t s.box s.level
given-slip W H t s e =
    let own = slip_of W H t s.box s.level in
    same-slip s own (cause-none 18 (same_slip s own) e)

-- ---- "inserts as before"

commit-own : (W H : ℕ) (t : List ℕ) (cs : List ℤ) (box : Box) (n : ℕ) (tree_out : List ℕ) (numbers_out : List ℤ)
    → commit_outcome W H t cs (slip_of W H t box n) tree_out numbers_out ≡ insert_outcome W H t cs box n tree_out numbers_out
unfolding commit_outcome commit_cause insert_outcome insert_cause slip_of
commit-own W H t cs box n tree_out numbers_out =
    let new = new_tree t box n in
    ap (λ c. written (refinement_cause W H t cs box n or_else c or_else outputs_cause W H new tree_out numbers_out)
    (length new) new (new_coefficients W H t cs box n) tree_out numbers_out) (own-slip W H t box n)

pub inserts-as-before : InsertsAsBefore
unfolding enquiry_outcome insert_outcome insert_cause
inserts-as-before W H t cs box n tree_out numbers_out = (
  λ k e.
      let r = answer-refused (refinement_cause W H t cs box n) (slip_of W H t box n) k e in
      ap (λ c. written (c or_else outputs_cause W H new tree_out numbers_out) (length new) new numbers tree_out numbers_out)
      r.0
      ∙ nothing k r.1,
  λ s e.
      subst (λ s. commit_outcome W H t cs s tree_out numbers_out ≡ insert_outcome W H t cs box n tree_out numbers_out)
      (answer-gives (refinement_cause W H t cs box n) (slip_of W H t box n) s e).1
      (commit-own W H t cs box n tree_out numbers_out),
)
  where
    new : List ℕ
    new = new_tree t box n

    numbers : List ℤ
    numbers = new_coefficients W H t cs box n

    nothing : (k : ℕ) → 0 < k
        → written (k or_else outputs_cause W H new tree_out numbers_out) (length new) new numbers tree_out numbers_out
        ≡ record { result = refused k; tree = tree_out; numbers = numbers_out }
    nothing zero h = absurd (omega arith)
    nothing (suc k) h = refl

-- ---- 19

pub nineteen-told : NineteenTold
unfolding commit_outcome commit_cause
nineteen-told W H t cs s tree_out numbers_out z = (
  λ e own.
      let k = answer-refused (commit_cause W H t cs s tree_out numbers_out) _ 19 e in
      let none : slip_cause W H t s ≡ 0 =
      subst (λ x. slip_cause W H t x ≡ 0) (sym own) (own-slip W H t s.box s.level) in
      let last : outputs_cause W H new tree_out numbers_out ≡ 19 = rw (z, none) at k.0 in
      not-nineteen last,
  λ h. rw (z, slip-nineteen h),
)
  where
    new : List ℕ
    new = new_tree t s.box s.level

    not-nineteen : outputs_cause W H new tree_out numbers_out ≡ 19 → ⊥
    not-nineteen e =
        let js : List ℕ = 16 ∷ 17 ∷ [] in
        let o = subst (λ k. OneOf k js) e (one-outputs js refl refl W H new tree_out numbers_out) in
        absurd (let z : ◌≡◌ {A = ℕ} 0 1 = cc in omega arith)

    slip-nineteen : (s ≡ slip_of W H t s.box s.level → ⊥) → slip_cause W H t s ≡ 19
    slip-nineteen h =
        pick (same_slip s (slip_of W H t s.box s.level)) (λ b. cause 19 (not b) ≡ 19)
        (λ e. absurd (h (same-slip s _ e))) (λ _. refl)

-- ---- accepted, and paid

outputs-fit : (W H : ℕ) (tree tree_out : List ℕ) (numbers_out : List ℤ) → length tree ≤ length tree_out
    → length numbers_out ≡ slots W H → outputs_cause W H tree tree_out numbers_out ≡ 0
outputs-fit W H tree tree_out numbers_out h e =
    rw (eq-eqb (length numbers_out) (slots W H) e, le-ltb (length tree_out) (length tree) h)

own-accepted : (W H : ℕ) (t : List ℕ) (cs : List ℤ) (box : Box) (n : ℕ) → refinement_cause W H t cs box n ≡ 0
    → (tree_out : List ℕ) (numbers_out : List ℤ)
    → (slip_of W H t box n).tree_length ≤ length tree_out → length numbers_out ≡ slots W H
    → (commit_outcome W H t cs (slip_of W H t box n) tree_out numbers_out).result ≡ gives (slip_of W H t box n).tree_length
unfolding insert_outcome insert_cause slip_of
own-accepted W H t cs box n z tree_out numbers_out h l =
    ap (λ o. o.result) (commit-own W H t cs box n tree_out numbers_out)
    ∙ rw (z, outputs-fit W H (new_tree t box n) tree_out numbers_out h l)

pub slip-accepted : SlipAccepted
unfolding enquiry_outcome
slip-accepted W H t cs box n s e =
    let g = answer-gives (refinement_cause W H t cs box n) (slip_of W H t box n) s e in
    subst
    (λ s. (tree_out : List ℕ) (numbers_out : List ℤ) → s.tree_length ≤ length tree_out → length numbers_out ≡ slots W H
    → (commit_outcome W H t cs s tree_out numbers_out).result ≡ gives s.tree_length) g.1
    (own-accepted W H t cs box n g.0)

-- the table's own slip tells what stands over its new tree
own-paid : (W H : ℕ) (t : List ℕ) (cs : List ℤ) (box : Box) (n : ℕ) → refinement_cause W H t cs box n ≡ 0
    → (numbers : List ℤ)
    → Paid W H (slip_of W H t box n) (length (new_tree t box n)) (record { tree = new_tree t box n; numbers = numbers })
unfolding slip_of least_outcome table_cause
own-paid W H t cs box n z numbers =
    let a = accepted W H t cs box n z in
    let s = sound W H t cs a.0 in
    let new = new_tree t box n in
    let whole = acceptable W H _ _ (insertion-sound W H t cs s box n a.3 a.1 a.2) in
    let region = (or_else-none (region_cause W H new) _ whole).0 in
    let inside = (or_else-none (box_cause W H box) _ (or_else-none (table_cause W H t cs) _ z).1).0 in
    record {
      returned = refl;
      tree_length = refl;
      active0 = refl;
      active1 = refl;
      active2 = refl;
      active3 = refl;
      visited = (
        least_where W H (levels new) (in_box box),
        greatest_where W H (levels new) (in_box box),
        rw (region, inside),
      );
    }

pub slip-tells : SlipTells
unfolding commit_outcome
slip-tells W H c k n e =
    let t = c.tree in
    let s = k.slip in
    let new = new_tree t s.box s.level in
    let size = (answer-gives (commit_cause W H t c.numbers s k.tree_out k.numbers_out) (length new) n e).1 in
    let numbers = new_coefficients W H t c.numbers s.box s.level in
    let d : Contents = record { tree = new; numbers = numbers } in
    committed-cases W H c k (Paid W H s n)
    (λ m f. absurd (let z : ◌≡◌ {A = ℕ} 0 1 = cc in omega arith))
    (λ z own. subst (λ m. Paid W H s m d) size
    (subst (λ s. Paid W H s (length new) d) (sym (given-slip W H t s own))
    (own-paid W H t c.numbers s.box s.level z numbers)))

-- the new tree is its own new tree, and a slip tells of the new tree alone
own-again : (W H : ℕ) (t : List ℕ) (cs : List ℤ) (box : Box) (n : ℕ) → refinement_cause W H t cs box n ≡ 0
    → slip_of W H (new_tree t box n) box n ≡ slip_of W H t box n
unfolding slip_of
own-again W H t cs box n z =
    let a = accepted W H t cs box n z in
    let s = sound W H t cs a.0 in
    rw (new-tree-again W H t s.tree (sides s).1 (sides s).3 box n a.3 a.1 a.2)

pub slip-stays : SlipStays
slip-stays W H c k n e =
    let s = k.slip in
    committed-cases W H c k (λ d. slip_of W H d.tree s.box s.level ≡ s)
    (λ m f. absurd (let z : ◌≡◌ {A = ℕ} 0 1 = cc in omega arith))
    (λ z own. own-again W H c.tree c.numbers s.box s.level z ∙ sym (given-slip W H c.tree s own))
