-- From the promises of the calls to what agreement of figures means.
use mathlib.Core.Path.{◌≡◌, refl, sym, ap, ◌∙◌, subst}
use mathlib.Core.Bool.{true}
use Prim.Native.Nat.{ℕ}
use native.Mathlib.Omega.{arith}
use lib.IntN.{ℤ}
use Rattle.surface.specs.Sheet.{on_sheet}
use Rattle.surface.specs.Table.{Acceptable}
use Rattle.surface.specs.Calls.{gives, answer, exact_outcome}
use Rattle.surface.specs.Demands.{Commit, Contents, outcome_of, committed, Step, after_step}
use Rattle.surface.proofs.Around.{sheet-has}
use Rattle.surface.proofs.Demands.{reading-given}
use Rattle.demands.specs.DemandThree.{standing, MadeAsPromised, left_by, commit}
use Rattle.demands.specs.LinkedDemandThree.{LinkedAsPromised, left_by_linked, kiln_commit}
use Rattle.demands.proofs.Theorem.{list-moves-nothing, lent_to, left_step}
use Rattle.demands.proofs.LinkedDemandThree.{exact-given, commit-told, lent_by_linked, linked-left-step}
use Rattle.uniqueness.specs.OfCalls.{SameAnswer, SameNumerator, OneSurfaceBy, SixteenthsBy, OnlyLeft}
use Rattle.uniqueness.specs.OfCalls.{SameTableBy, SurfacesOfCalls, SurfacesOfLinked}
use Rattle.uniqueness.proofs.OneSurface.{sixteenths}
use Rattle.uniqueness.proofs.Carried.{same-regions, committed-again}

-- both outcomes are the same reading
abbrev SameOutcome : ℕ → ℕ → Contents → Contents → ℕ → ℕ → Type 0
SameOutcome W H c d u v =
    (n : ℤ) × (exact_outcome W H c.tree c.numbers u v ≡ gives n)
    × (exact_outcome W H d.tree d.numbers u v ≡ gives n)

-- tables that were read at the near corner are acceptable
both_read : (W H : ℕ) (c d : Contents) → SameOutcome W H c d 0 0
    → Acceptable W H c.tree c.numbers × Acceptable W H d.tree d.numbers
both_read W H c d (n, first, second) = (
  ((reading-given W H c.tree c.numbers 0 0 n).0 first).0,
  ((reading-given W H d.tree d.numbers 0 0 n).0 second).0,
)

corner : (W H : ℕ) → on_sheet W H 0 0 ≡ true
corner W H = sheet-has W H 0 0 (omega arith) (omega arith)

-- tables over one tree with the same outcomes every 8 steps
by-outcomes : SixteenthsBy SameOutcome
by-outcomes W H c d tree same =
    let s = d.tree in
    let (acc, acc') = both_read W H c d (same 0 0 (corner W H) refl refl) in
    let numbers = sixteenths W H s c.numbers d.numbers (subst (λ t. Acceptable W H t c.numbers) tree acc) acc'
    (λ u v on a b. let e = same u v on a b in
    subst (λ t. exact_outcome W H t c.numbers u v ≡ exact_outcome W H s d.numbers u v) tree (e.1 ∙ sym e.2)) in
    λ i. record { tree = tree i; numbers = numbers i }

-- a commit of the same box and level, by the tables that both leave
twice : (W H : ℕ) (c d e : Contents) (k later : Commit) (n : ℕ) → (outcome_of W H c k).result ≡ gives n
    → d ≡ committed W H c k → e ≡ committed W H d later → later.slip.box ≡ k.slip.box
    → later.slip.level ≡ k.slip.level → e ≡ d
twice W H c d e k later n given first second box level =
    second
    ∙ ap (λ d. committed W H d later) first
    ∙ committed-again W H c k later n given box level
    ∙ sym first

-- whichever answers the readings are told by, and whichever calls leave the tables of their outcomes
module _ {M : Type 0} (Same : ℕ → ℕ → Contents → Contents → ℕ → ℕ → Type 0)
    (told : (W H : ℕ) (c d : Contents) (u v : ℕ) → Same W H c d u v → SameOutcome W H c d u v)
    (keeps : ℕ → ℕ → Contents → M → Type 0) (leaves : Contents → M → Contents) (lent : M → Step)
    (step : (W H : ℕ) (c : Contents) (m : M) → keeps W H c m → leaves c m ≡ after_step W H c (lent m)) where
  some : SixteenthsBy Same
  some W H c d tree same = by-outcomes W H c d tree (λ u v on a b. told W H c d u v (same u v on a b))

  one : OneSurfaceBy Same
  one W H c d tree same = some W H c d tree (λ u v on _ _. same u v on)

  only : OnlyLeft Same keeps leaves
  only W H c d ms k tree same =
      let acc = (both_read W H c d (told W H c d 0 0 (same 0 0 (corner W H)))).0 in
      by-outcomes W H d (standing leaves c ms) tree
      (λ u v on _ _. let (n, first, second) = told W H c d u v (same u v on) in
      let stays = (list-moves-nothing W H (keeps W H) leaves lent (step W H) c ms acc k).1 u v _ _ refl refl in
      (n, second, stays.same ∙ first))

  regions : SameTableBy Same keeps leaves
  regions W H c d ms ns agree k l same =
      let (acc, acc') = both_read W H c d (told W H c d 0 0 (agree 0 0 (corner W H))) in
      let one = list-moves-nothing W H (keeps W H) leaves lent (step W H) c ms acc k in
      let two = list-moves-nothing W H (keeps W H) leaves lent (step W H) d ns acc' l in
      same-regions W H (standing leaves c ms) (standing leaves d ns) one.0 two.0 same
      (λ u v on. let e = told W H c d u v (agree u v on) in
      (one.1 u v _ _ refl refl).same ∙ e.1 ∙ sym e.2 ∙ sym (two.1 u v _ _ refl refl).same)

answer-told : (W H : ℕ) (c d : Contents) (u v : ℕ) → SameAnswer W H c d u v → SameOutcome W H c d u v
answer-told W H c d u v s = (s.reading, sym s.kept.0 ∙ s.given.0, sym s.kept.1 ∙ s.given.1)

numerator-told : (W H : ℕ) (c d : Contents) (u v : ℕ) → SameNumerator W H c d u v → SameOutcome W H c d u v
numerator-told W H c d u v s =
    let first : s.code₁ ≡ 0 = omega (arith, s.accepted) in
    let second : s.code₂ ≡ 0 = omega (arith, s.accepted) in (
      s.numerator₂,
      exact-given W H c u v s.code₁ s.old₁ s.numerator₁ s.kept.0 first ∙ ap gives s.same,
      exact-given W H d u v s.code₂ s.old₂ s.numerator₂ s.kept.1 second,
    )

pub surfaces-of-calls : SurfacesOfCalls
surfaces-of-calls =
    record {
      one = one SameAnswer answer-told MadeAsPromised left_by lent_to left_step;
      sixteenths = some SameAnswer answer-told MadeAsPromised left_by lent_to left_step;
      only = only SameAnswer answer-told MadeAsPromised left_by lent_to left_step;
      regions = regions SameAnswer answer-told MadeAsPromised left_by lent_to left_step;
      again = λ W H c m later n p given q box level.
          twice W H c (left_by c (commit m)) (left_by (left_by c (commit m)) (commit later)) m.lent later.lent n
          (sym p.0 ∙ given) (left_step W H c (commit m) p) (left_step W H (left_by c (commit m)) (commit later) q) box
          level;
    }

pub surfaces-of-linked : SurfacesOfLinked
surfaces-of-linked =
    record {
      one = one SameNumerator numerator-told LinkedAsPromised left_by_linked lent_by_linked linked-left-step;
      sixteenths = some SameNumerator numerator-told LinkedAsPromised left_by_linked lent_by_linked linked-left-step;
      only = only SameNumerator numerator-told LinkedAsPromised left_by_linked lent_by_linked linked-left-step;
      regions = regions SameNumerator numerator-told LinkedAsPromised left_by_linked lent_by_linked linked-left-step;
      again = λ W H c m later p zero q box level.
          let d = left_by_linked c (kiln_commit m) in
          twice W H c d (left_by_linked d (kiln_commit later)) m.lent later.lent m.tree_length
          (sym (commit-told W H c m.lent m.code m.tree_length₀ m.tree_length p.0)
          ∙ ap (λ k. answer k m.tree_length) zero)
          (linked-left-step W H c (kiln_commit m) p) (linked-left-step W H d (kiln_commit later) q) box level;
    }
