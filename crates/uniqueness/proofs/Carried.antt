-- A carried table is the only one over its tree with its readings.
use mathlib.Core.Path.{◌≡◌, refl, sym, ap, ap₂, ◌∙◌, subst}
use mathlib.Core.List.{List, [], ◌∷◌}
use Prim.Native.Nat.{ℕ}
use native.Mathlib.Omega.{arith}
use lib.IntN.{ℤ}
use Rattle.surface.specs.Table.{levels, Acceptable, table_reading}
use Rattle.surface.specs.Calls.{gives, new_tree, refinement_cause}
use Rattle.surface.specs.Demands.{Commit, Contents, outcome_of, committed, SameRegions, commit, after_all}
use Rattle.surface.proofs.TableLaws.{sound, sides}
use Rattle.surface.proofs.OneTree.{same-tree}
use Rattle.surface.proofs.Insertion.{new-tree-again}
use Rattle.surface.proofs.Around.{sheet-has}
use Rattle.surface.proofs.Steps.{accepted, committed-cases}
use Rattle.surface.proofs.Demands.{reading-given, refinement-moves-no-reading}
use Rattle.uniqueness.specs.OneSurface.{Agree, OnlyAfterAll, OnlyCarried, SameRegionsSameTable}
use Rattle.uniqueness.specs.OneSurface.{CommittedAgain}
use Rattle.uniqueness.proofs.OneSurface.{one-surface}

-- a table that agrees with an acceptable one is acceptable: it is read at the near corner
agreeing : (W H : ℕ) (s t : List ℕ) (c d : List ℤ) → Acceptable W H s c → Agree W H s c t d → Acceptable W H t d
agreeing W H s t c d acc agree =
    let on = sheet-has W H 0 0 (omega arith) (omega arith) in
    let n = table_reading W H s c 0 0 in
    ((reading-given W H t d 0 0 n).0 (sym (agree 0 0 on) ∙ (reading-given W H s c 0 0 n).1 (acc, on, refl))).0

pub only-after-all : OnlyAfterAll
only-after-all W H c ss acc =
    let k = refinement-moves-no-reading W H c ss acc in
    let d = after_all W H c ss in
    record {
      acceptable = k.0;
      agrees = λ u v on. sym (k.1 u v).0;
      only = λ others agrees.
          one-surface W H d.tree others d.numbers
          (agreeing W H c.tree d.tree c.numbers others acc agrees) k.0
          (λ u v on. sym (agrees u v on) ∙ sym (k.1 u v).0);
    }

pub only-carried : OnlyCarried
unfolding after_all
only-carried W H c k acc = only-after-all W H c (commit k ∷ []) acc

-- two acceptable tables with the same regions that agree are one
pub same-regions : (W H : ℕ) (d e : Contents) → Acceptable W H d.tree d.numbers
    → Acceptable W H e.tree e.numbers → SameRegions W H d.tree e.tree
    → Agree W H d.tree d.numbers e.tree e.numbers → d ≡ e
same-regions W H d e acc acc' same agree =
    let s = sound W H d.tree d.numbers acc in
    let tree = same-tree W H (sides s).1 (sides s).3 d.tree e.tree s.tree
    (sound W H e.tree e.numbers acc').tree same in
    let numbers = one-surface W H e.tree d.numbers e.numbers
    (subst (λ t. Acceptable W H t d.numbers) tree acc) acc'
    (subst (λ t. Agree W H t d.numbers e.tree e.numbers) tree agree) in
    λ i. record { tree = tree i; numbers = numbers i }

pub same-regions-same-table : SameRegionsSameTable
same-regions-same-table W H c d ss rs acc acc' agree same =
    let k = refinement-moves-no-reading W H c ss acc in
    let l = refinement-moves-no-reading W H d rs acc' in
    same-regions W H (after_all W H c ss) (after_all W H d rs) k.0 l.0 same
    (λ u v on. (k.1 u v).0 ∙ agree u v on ∙ sym (l.1 u v).0)

-- an accepted commit is one of a table, a box and a level that have no cause
commit-taken : (W H : ℕ) (c : Contents) (k : Commit) (n : ℕ) → (outcome_of W H c k).result ≡ gives n
    → (refinement_cause W H c.tree c.numbers k.slip.box k.slip.level ≡ 0)
    × ((committed W H c k).tree ≡ new_tree c.tree k.slip.box k.slip.level)
commit-taken W H c k n e =
    let new = new_tree c.tree k.slip.box k.slip.level in
    committed-cases W H c k
    (λ d. (refinement_cause W H c.tree c.numbers k.slip.box k.slip.level ≡ 0) × (d.tree ≡ new))
    (λ m f. absurd (let z : ◌≡◌ {A = ℕ} 0 1 = cc in omega arith))
    (λ z _. (z, refl))

-- and the same box at the same level leaves the new tree
same-tree-again : (W H : ℕ) (c : Contents) (k again : Commit) (n : ℕ) → (outcome_of W H c k).result ≡ gives n
    → again.slip.box ≡ k.slip.box → again.slip.level ≡ k.slip.level
    → (committed W H (committed W H c k) again).tree ≡ (committed W H c k).tree
same-tree-again W H c k again n e box level =
    let (z, new) = commit-taken W H c k n e in
    let a = accepted W H c.tree c.numbers k.slip.box k.slip.level z in
    let s = sound W H c.tree c.numbers a.0 in
    committed-cases W H (committed W H c k) again (λ f. f.tree ≡ (committed W H c k).tree) (λ _ _. refl)
    (λ _ _. ap₂ (new_tree (committed W H c k).tree) box level
    ∙ ap (λ t. new_tree t k.slip.box k.slip.level) new
    ∙ new-tree-again W H c.tree s.tree (sides s).1 (sides s).3 k.slip.box k.slip.level a.3 a.1
    a.2
    ∙ sym new)

pub committed-again : CommittedAgain
unfolding after_all
committed-again W H c k again n e box level =
    let acc = (accepted W H c.tree c.numbers k.slip.box k.slip.level (commit-taken W H c k n e).0).0 in
    let same : again.slip.level ≡ k.slip.level = omega arith in
    same-regions-same-table W H c c (commit k ∷ commit again ∷ []) (commit k ∷ []) acc acc (λ u v _. refl)
    (λ q r _ _. ap (λ t. levels t q r) (same-tree-again W H c k again n e box same))
