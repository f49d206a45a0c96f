-- From the promises of the enquiry and of the commit to what a slip is for.
use mathlib.Core.Path.{◌≡◌, sym, ap, ◌∙◌, subst}
use mathlib.Core.List.{List}
use Prim.Native.Nat.{ℕ, zero, suc}
use native.Mathlib.Omega.{arith}
use Rattle.surface.specs.Calls.{gives, answer, refinement_cause}
use Rattle.surface.specs.Enquiry.{Slip, slip_of, enquiry_outcome, commit_outcome}
use Rattle.surface.specs.Demands.{Asked, Contents}
use Rattle.surface.specs.Slips.{Paid}
use Rattle.surface.proofs.RefusalLaws.{answer-gives}
use Rattle.surface.proofs.Slips.{slip-accepted, slip-tells}
use Rattle.answers.specs.Codes.{lent_slip, SlipTold}
use Rattle.demands.specs.DemandThree.{commit}
use Rattle.demands.specs.LinkedDemandThree.{kiln_commit}
use Rattle.demands.specs.LinkedPromises.{KilnEnquirePromise}
use Rattle.demands.specs.Slips.{SlipsOfCalls, SlipsOfLinked}
use Rattle.demands.proofs.Theorem.{left_step}
use Rattle.demands.proofs.LinkedDemandThree.{commit-told, linked-left-step}

pub slips-of-calls : SlipsOfCalls
slips-of-calls =
    record {
      taken = λ W H c e r m p q g h l.
          q.0
          ∙ slip-accepted W H c.tree c.numbers e.box e.level m.lent.slip (sym p ∙ g) m.lent.tree_out
          m.lent.numbers_out h l;
      paid = λ W H c m n p g.
          subst (Paid W H m.lent.slip n) (sym (left_step W H c (commit m) p))
          (slip-tells W H c m.lent n (sym p.0 ∙ g));
    }

-- an enquiry with code 0 gave the slip of its box and level that its numbers are
given-lent : (n : ℕ) (s : Slip) (code length₀ told visited₀ visited : ℕ) (active₀ active : List ℕ)
    → SlipTold (answer n s) code length₀ told active₀ active visited₀ visited → code ≡ 0
    → answer n s ≡ gives (lent_slip s.box s.level told active visited)
given-lent zero s code length₀ told visited₀ visited active₀ active t z = rw (t.1, t.2, t.3)
given-lent (suc n) s code length₀ told visited₀ visited active₀ active t z = absurd (omega (arith, t.0))

enquired : (W H : ℕ) (c : Contents) (e : Asked) (code length₀ told visited₀ visited : ℕ) (active₀ active : List ℕ)
    → KilnEnquirePromise W H c e code length₀ told active₀ active visited₀ visited → code ≡ 0
    → enquiry_outcome W H c.tree c.numbers e.box e.level
    ≡ gives (lent_slip e.box e.level told active visited)
unfolding enquiry_outcome slip_of
enquired W H c e =
    given-lent (refinement_cause W H c.tree c.numbers e.box e.level)
    (slip_of W H c.tree e.box e.level)

pub slips-of-linked : SlipsOfLinked
slips-of-linked =
    record {
      taken = λ W H c e code length₀ told visited₀ visited active₀ active m p z q same h l.
          let s = lent_slip e.box e.level told active visited in
          let k = m.lent in
          let given = slip-accepted W H c.tree c.numbers e.box e.level s
          (enquired W H c e code length₀ told visited₀ visited active₀ active p z) k.tree_out k.numbers_out h l in
          answer-gives m.code m.tree_length told
          (commit-told W H c k m.code m.tree_length₀ m.tree_length q.0
          ∙ ap (λ s. (commit_outcome W H c.tree c.numbers s k.tree_out k.numbers_out).result) same
          ∙ given);
      paid = λ W H c m p z.
          subst (Paid W H m.lent.slip m.tree_length) (sym (linked-left-step W H c (kiln_commit m) p))
          (slip-tells W H c m.lent m.tree_length
          (sym (commit-told W H c m.lent m.code m.tree_length₀ m.tree_length p.0)
          ∙ ap (λ k. answer k m.tree_length) z));
    }
