-- From the promises of the calls to demand 3: calls that keep their promise leave the tables of the defined outcomes.
use mathlib.Core.Path.{◌≡◌, refl, sym, ap, ap₂, ◌∙◌, subst}
use mathlib.Core.List.{List, [], ◌∷◌, map}
use Prim.Native.Nat.{ℕ}
use lib.IntN.{ℤ}
use Rattle.surface.specs.Table.{Acceptable, table_reading}
use Rattle.surface.specs.Calls.{Answer, exact_outcome}
use Rattle.surface.specs.Demands as steps
use Rattle.surface.specs.Demands.{Contents, left, outcome_of, Step, after_step, after_all}
use Rattle.surface.proofs.Demands.{reading-given, linear-readings, bracketed-readings, refinement-moves-no-reading}
use Rattle.answers.specs.Answers.{value_answer}
use Rattle.demands.specs.DemandThree.{Made, enquire, commit, MadeAsPromised, left_by, Kept, standing, ReadingStays}
use Rattle.demands.specs.DemandThree.{LinearOfCalls, BracketedOfCalls, ListsMoveNothing, DemandThree}

-- calls of one kind, each of which leaves the table of its outcome, leave as a list the table of all outcomes
stands : {M : Type 0} (W H : ℕ) (keeps : Contents → M → Type 0) (leaves : Contents → M → Contents)
    (lent : M → Step) → ((c : Contents) (m : M) → keeps c m → leaves c m ≡ after_step W H c (lent m))
    → (c : Contents) (ms : List M) → Kept keeps leaves c ms → standing leaves c ms ≡ after_all W H c (map lent ms)
unfolding standing Kept after_all
stands W H keeps leaves lent one c [] k = refl
stands W H keeps leaves lent one c (m ∷ ms) k =
    stands W H keeps leaves lent one (leaves c m) ms k.1
    ∙ ap (λ d. after_all W H d (map lent ms)) (one c m k.0)

-- so such a list leaves an acceptable table and moves no answer that is the outcome of the exact reading
pub list-moves-nothing : {M : Type 0} (W H : ℕ) (keeps : Contents → M → Type 0) (leaves : Contents → M → Contents)
    (lent : M → Step) → ((c : Contents) (m : M) → keeps c m → leaves c m ≡ after_step W H c (lent m))
    → (c : Contents) (ms : List M) → Acceptable W H c.tree c.numbers → Kept keeps leaves c ms
    → Acceptable W H (standing leaves c ms).tree (standing leaves c ms).numbers
    × ((u v : ℕ) (before after : Answer ℤ) → before ≡ exact_outcome W H c.tree c.numbers u v
    → after ≡ exact_outcome W H (standing leaves c ms).tree (standing leaves c ms).numbers u v
    → ReadingStays W H c u v before after)
list-moves-nothing W H keeps leaves lent one c ms acc k =
    let e = stands W H keeps leaves lent one c ms k in
    let all = refinement-moves-no-reading W H c (map lent ms) acc in (
      subst (λ d. Acceptable W H d.tree d.numbers) (sym e) all.0,
      λ u v before after p q.
          let f = q ∙ ap (λ d. exact_outcome W H d.tree d.numbers u v) e in
          let same = f ∙ (all.1 u v).0 ∙ sym p in
          let n = table_reading W H c.tree c.numbers u v in
          record {
            same = same;
            given = λ on.
                let g = p ∙ (reading-given W H c.tree c.numbers u v n).1 (acc, on, refl) in
                (n, g, same ∙ g);
            between = λ m g. (all.1 u v).1 m (sym f ∙ g);
          },
    )

-- one call leaves the table that its outcome does
abbrev pub lent_to : Made → Step
lent_to (enquire m) = steps.enquiry m.lent
lent_to (commit m) = steps.commit m.lent

pub left_step : (W H : ℕ) (c : Contents) (m : Made) → MadeAsPromised W H c m → left_by c m ≡ after_step W H c (lent_to m)
left_step W H c (enquire m) p = refl
left_step W H c (commit m) p =
    ap (λ r. left c r m.tree m.numbers) p.0
    ∙ ap₂ (left c (outcome_of W H c m.lent).result) p.1 p.2

linear : LinearOfCalls
linear W H c₁ c₂ c₃ a b t u v r₁ r₂ r₃ p₁ p₂ p₃ n₁ n₂ n₃ e₁ e₂ e₃ =
    linear-readings W H c₁.tree c₂.tree c₃.tree c₁.numbers c₂.numbers c₃.numbers a b
    t.first t.second t.third t.regions.0 t.regions.1 t.places u v n₁ n₂ n₃
    (sym p₁ ∙ e₁) (sym p₂ ∙ e₂) (sym p₃ ∙ e₃)

bracketed : BracketedOfCalls
bracketed W H c u v r p n e = bracketed-readings W H c.tree c.numbers u v n (sym p ∙ e)

lists : ListsMoveNothing
lists W H c ms acc k =
    let all = list-moves-nothing W H (MadeAsPromised W H) left_by lent_to (left_step W H) c ms acc k in
    (all.0, λ u v before after p q. all.1 u v (value_answer before) (value_answer after) p q)

pub demand-three : DemandThree
demand-three = record { linear = linear; bracketed = bracketed; lists = lists }
