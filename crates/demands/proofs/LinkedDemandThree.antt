-- From the promises of the linked calls to demand 3: a code and the value beside it tell the defined outcome.
use mathlib.Core.Path.{◌≡◌, refl, sym, ap, ap₂, ◌∙◌}
use Prim.Native.Nat.{ℕ, zero, suc}
use lib.IntN.{ℤ}
use lib.ListN.{length}
use Rattle.surface.specs.Table.{table_reading}
use Rattle.surface.specs.Calls.{gives, answer, new_tree, reading_cause, exact_outcome}
use Rattle.surface.specs.Enquiry.{commit_cause, commit_outcome}
use Rattle.surface.specs.Demands.{Commit, Contents, left, outcome_of, Step, enquiry, commit, after_step}
use Rattle.surface.proofs.Demands.{linear-readings, bracketed-readings}
use Rattle.demands.specs.DemandThree.{standing, ReadingStays}
use Rattle.demands.proofs.Theorem.{list-moves-nothing}
use Rattle.answers.specs.Codes.{code_of, or_given, itself, NumberTold}
use Rattle.answers.proofs.CodeLaws.{told}
use Rattle.demands.specs.LinkedPromises.{KilnExactPromise}
use Rattle.demands.specs.LinkedDemandThree.{LinkedMade, kiln_enquire, kiln_commit, LinkedAsPromised}
use Rattle.demands.specs.LinkedDemandThree.{left_by_linked, LinkedReadingStays}
use Rattle.demands.specs.LinkedDemandThree.{LinearOfLinked, BracketedOfLinked, LinkedListsMoveNothing}
use Rattle.demands.specs.LinkedDemandThree.{LinkedDemandThree}

exact-told : (W H : ℕ) (c : Contents) (u v code : ℕ) (old n : ℤ) → KilnExactPromise W H c u v code old n
    → answer code n ≡ exact_outcome W H c.tree c.numbers u v
unfolding exact_outcome
exact-told W H c u v code old n p =
    told (reading_cause W H c.tree c.numbers u v) (table_reading W H c.tree c.numbers u v) old n code p

-- where the code is 0 the outcome gives the value beside it
pub exact-given : (W H : ℕ) (c : Contents) (u v code : ℕ) (old n : ℤ) → KilnExactPromise W H c u v code old n
    → code ≡ 0 → exact_outcome W H c.tree c.numbers u v ≡ gives n
exact-given W H c u v code old n p z = sym (exact-told W H c u v code old n p) ∙ ap (λ m. answer m n) z

pub commit-told : (W H : ℕ) (c : Contents) (k : Commit) (code old n : ℕ)
    → NumberTold (outcome_of W H c k).result code old n → answer code n ≡ (outcome_of W H c k).result
unfolding commit_outcome
commit-told W H c k code old n p =
    told (commit_cause W H c.tree c.numbers k.slip k.tree_out k.numbers_out)
    (length (new_tree c.tree k.slip.box k.slip.level)) old n code p

-- one call leaves the table that its outcome does
abbrev pub lent_by_linked : LinkedMade → Step
lent_by_linked (kiln_enquire m) = enquiry m.lent
lent_by_linked (kiln_commit m) = commit m.lent

pub linked-left-step : (W H : ℕ) (c : Contents) (m : LinkedMade) → LinkedAsPromised W H c m
    → left_by_linked c m ≡ after_step W H c (lent_by_linked m)
linked-left-step W H c (kiln_enquire m) p = refl
linked-left-step W H c (kiln_commit m) p =
    ap (λ r. left c r m.tree m.numbers)
    (commit-told W H c m.lent m.code m.tree_length₀ m.tree_length p.0)
    ∙ ap₂ (left c (outcome_of W H c m.lent).result) p.1 p.2

linear : LinearOfLinked
linear W H c₁ c₂ c₃ a b t u v code₁ code₂ code₃ old₁ old₂ old₃ n₁ n₂ n₃ p₁ p₂ p₃ z₁ z₂ z₃ =
    linear-readings W H c₁.tree c₂.tree c₃.tree c₁.numbers c₂.numbers c₃.numbers a b
    t.first t.second t.third t.regions.0 t.regions.1 t.places u v n₁ n₂ n₃
    (exact-given W H c₁ u v code₁ old₁ n₁ p₁ z₁) (exact-given W H c₂ u v code₂ old₂ n₂ p₂ z₂)
    (exact-given W H c₃ u v code₃ old₃ n₃ p₃ z₃)

bracketed : BracketedOfLinked
bracketed W H c u v code old n p z =
    bracketed-readings W H c.tree c.numbers u v n (exact-given W H c u v code old n p z)

-- the code of an answer, and the value that it gives
code-answer : (k : ℕ) (n : ℤ) → code_of (answer k n) ≡ k
code-answer zero n = refl
code-answer (suc k) n = refl

given-value : {n m : ℤ} → gives n ≡ gives m → n ≡ m
given-value {n} e = ap (λ o. or_given itself o n) e

-- an answer that stays, in codes and numerators
stays-coded : (W H : ℕ) (c : Contents) (u v code₀ code : ℕ) (n₀ n : ℤ)
    → ReadingStays W H c u v (answer code₀ n₀) (answer code n) → LinkedReadingStays W H c u v code₀ n₀ code n
stays-coded W H c u v code₀ code n₀ n s =
    let same = sym (code-answer code n) ∙ ap code_of s.same ∙ code-answer code₀ n₀ in
    record {
      same_code = same;
      same_numerator = λ z.
          given-value (ap (λ k. answer k n) (sym z) ∙ s.same ∙ ap (λ k. answer k n₀) (sym same ∙ z));
      given = λ on.
          let g = s.given on in
          (sym (code-answer code₀ n₀) ∙ ap code_of g.1, sym (code-answer code n) ∙ ap code_of g.2);
      between = λ z. s.between n (ap (λ k. answer k n) z);
    }

lists : LinkedListsMoveNothing
lists W H c ms acc k =
    let all = list-moves-nothing W H (LinkedAsPromised W H) left_by_linked lent_by_linked (linked-left-step W H) c ms acc k
    in (
      all.0,
      λ u v code₀ code old₀ n₀ old n p q.
          stays-coded W H c u v code₀ code n₀ n
          (all.1 u v (answer code₀ n₀) (answer code n) (exact-told W H c u v code₀ old₀ n₀ p)
          (exact-told W H (standing left_by_linked c ms) u v code old n q)),
    )

pub linked-demand-three : LinkedDemandThree
linked-demand-three = record { linear = linear; bracketed = bracketed; lists = lists }
