-- A list of steps, accepted and refused ones: the table stays acceptable and its readings stay, and so do its slopes.
use mathlib.Core.Path.{◌≡◌, refl, sym, ap, ◌∙◌, subst}
use mathlib.Core.Bool.{not, ◌&&◌}
use mathlib.Core.List.{List, [], ◌∷◌}
use Prim.Native.Nat.{ℕ, zero, suc, ◌≤◌}
use lib.IntN.{ℤ}
use lib.Dec.{leb, ltb}
use lib.ListN.{length, drop}
use lib.Seq.{take-append_seam}
use borrow.Author.Tests.{leb-true}
use Rattle.finite.proofs.Tests.{both}
use Rattle.surface.specs.Sheet.{Box, quarters}
use Rattle.surface.specs.Table.{cause, ◌or_else◌, table_cause, Acceptable, table_sum}
use Rattle.surface.specs.Calls.{refused, answer, afterwards, put, box_cause}
use Rattle.surface.specs.Calls.{outputs_cause, new_tree, new_coefficients, refinement_cause}
use Rattle.surface.specs.Enquiry.{slip_cause, commit_cause, commit_outcome}
use Rattle.surface.specs.Demands.{Commit, Contents, left, outcome_of, committed, Step}
use Rattle.surface.specs.Demands.{enquiry, commit, after_step, after_all}
use Rattle.surface.proofs.TableLaws.{sound, acceptable}
use Rattle.surface.proofs.Insertion.{insertion-sound, insertion-reading}
use Rattle.surface.proofs.Causes.{or_else-none, cause-none}

-- what the causes of an insertion exclude
pub accepted : (W H : ℕ) (t : List ℕ) (cs : List ℤ) (box : Box) (n : ℕ) → refinement_cause W H t cs box n ≡ 0
    → (table_cause W H t cs ≡ 0) × (box.u1 ≤ quarters W) × (box.v1 ≤ quarters H) × (n ≤ 3)
accepted W H t cs box n e =
    let inside = leb box.u1 (quarters W) && leb box.v1 (quarters H) in
    let area = ltb box.u0 box.u1 && ltb box.v0 box.v1 in
    let c8 = cause 8 (not (leb 1 n && leb n 3)) in
    let e1 = or_else-none (table_cause W H t cs) (box_cause W H box or_else c8) e in
    let e2 = or_else-none (box_cause W H box) c8 e1.1 in
    let b = (both area inside (cause-none 6 (area && inside) e2.0)).1 in
    let b2 = both (leb box.u1 (quarters W)) (leb box.v1 (quarters H)) b in
    let m = (both (leb 1 n) (leb n 3) (cause-none 7 (leb 1 n && leb n 3) e2.1)).1 in
    (e1.0, leb-true box.u1 (quarters W) b2.0, leb-true box.v1 (quarters H) b2.1, leb-true n 3 m)

-- a commit leaves the table it read, or the one it wrote
pub committed-cases : (W H : ℕ) (c : Contents) (k : Commit) (P : Contents → Type 0)
    → ((m : ℕ) → (outcome_of W H c k).result ≡ refused m → P c)
    → (refinement_cause W H c.tree c.numbers k.slip.box k.slip.level ≡ 0
    → slip_cause W H c.tree k.slip ≡ 0
    → P (record {
      tree = new_tree c.tree k.slip.box k.slip.level;
      numbers = new_coefficients W H c.tree c.numbers k.slip.box k.slip.level;
    }))
    → P (committed W H c k)
unfolding commit_outcome commit_cause
committed-cases W H c k P same new =
    go (commit_cause W H c.tree c.numbers k.slip k.tree_out k.numbers_out) refl
  where
    tree' : List ℕ
    tree' = new_tree c.tree k.slip.box k.slip.level

    numbers' : List ℤ
    numbers' = new_coefficients W H c.tree c.numbers k.slip.box k.slip.level

    go : (m : ℕ) → commit_cause W H c.tree c.numbers k.slip k.tree_out k.numbers_out ≡ m
        → P (left c (answer m (length tree')) (afterwards m k.tree_out (put tree' k.tree_out))
        (afterwards m k.numbers_out numbers'))
    go zero e =
        let late = slip_cause W H c.tree k.slip or_else outputs_cause W H tree' k.tree_out k.numbers_out in
        let e1 = or_else-none (refinement_cause W H c.tree c.numbers k.slip.box k.slip.level) late e in
        subst (λ l. P (record { tree = l; numbers = numbers' }))
        (sym (take-append_seam tree' (drop (length tree') k.tree_out)))
        (new e1.0
        (or_else-none (slip_cause W H c.tree k.slip) (outputs_cause W H tree' k.tree_out k.numbers_out)
        e1.1).0)
    go (suc m) e = same (suc m) (ap (λ m. answer m (length tree')) e)

-- one step: an enquiry, or a commit, accepted or refused
step_keeps : (W H : ℕ) (c : Contents) (s : Step) → Acceptable W H c.tree c.numbers
    → let d = after_step W H c s in
    Acceptable W H d.tree d.numbers
    × ((f : ℕ → ℕ → ℕ → ℤ) → table_sum W H d.tree d.numbers f ≡ table_sum W H c.tree c.numbers f)
step_keeps W H c (enquiry e) acc = (acc, λ f. refl)
step_keeps W H c (commit k) acc =
    let box = k.slip.box in
    let n = k.slip.level in
    committed-cases W H c k
    (λ d. Acceptable W H d.tree d.numbers
    × ((f : ℕ → ℕ → ℕ → ℤ) → table_sum W H d.tree d.numbers f ≡ table_sum W H c.tree c.numbers f))
    (λ _ _. (acc, λ f. refl))
    (λ e _. let a = accepted W H c.tree c.numbers box n e in
    let s = sound W H c.tree c.numbers acc in (
      acceptable W H _ _ (insertion-sound W H c.tree c.numbers s box n a.3 a.1 a.2),
      insertion-reading W H c.tree c.numbers s box n a.3 a.1 a.2,
    ))

pub all_keep : (W H : ℕ) (ss : List Step) (c : Contents) → Acceptable W H c.tree c.numbers
    → Acceptable W H (after_all W H c ss).tree (after_all W H c ss).numbers
    × ((f : ℕ → ℕ → ℕ → ℤ)
    → table_sum W H (after_all W H c ss).tree (after_all W H c ss).numbers f ≡ table_sum W H c.tree c.numbers f)
unfolding after_all
all_keep W H [] c acc = (acc, λ f. refl)
all_keep W H (s ∷ ss) c acc =
    let k = step_keeps W H c s acc in
    let m = all_keep W H ss (after_step W H c s) k.0 in
    (m.0, λ f. m.1 f ∙ k.1 f)
