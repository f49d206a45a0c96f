-- Demand 1 of the outcomes: each refusal has one of the call's numbers and leaves all lent memory, and no output
-- changes its length.
use mathlib.Core.Path.{◌≡◌, refl, sym, ap, ◌∙◌, subst}
use mathlib.Core.Logic.{◌↔◌}
use mathlib.Core.Bool.{not, ◌&&◌, cond}
use mathlib.Core.List.{List, [], ◌∷◌}
use Prim.Native.Nat.{ℕ, ◌^◌}
use native.Mathlib.Nat.{mul_comm}
use native.Mathlib.Omega.{arith}
use lib.IntN.{ℤ, nat_abs}
use lib.Dec.{leb, ltb, eqb}
use borrow.Author.Tests.{eqb-true}
use lib.ListN.{length, set, length-set}
use Rattle.finite.specs.Range.{grid}
use Rattle.finite.proofs.Table.{length-grid}
use Rattle.surface.specs.Sheet.{Box, good_side, functions, quarters}
use Rattle.surface.specs.Support.{active}
use Rattle.surface.specs.Truncation.{D}
use Rattle.surface.specs.Carry.{carried_over}
use Rattle.surface.specs.Table.{cause, ◌or_else◌, levels, places, place}
use Rattle.surface.specs.Table.{coefficients, limit, slice_of, region_cause, table_cause}
use Rattle.surface.specs.FloatReading.{Near, Meets}
use Rattle.surface.specs.Slopes.{NearSlopes, slopes_outcome}
use Rattle.surface.specs.Enquiry.{Slip, slip_of, enquiry_outcome, same_slip, slip_cause, commit_cause, commit_outcome}
use Rattle.surface.specs.Calls.{Answer, refused, gives, written, length_cause}
use Rattle.surface.specs.Calls.{outputs_cause, fresh_outcome, fresh_coefficients}
use Rattle.surface.specs.Calls.{new_levels, new_tree, new_coefficients, refinement_cause}
use Rattle.surface.specs.Calls.{set_cause, set_outcome, activity_bytes, activity_cause, activity_outcome, least_outcome}
use Rattle.surface.specs.Calls.{reading_cause, exact_outcome, display_outcome, cost_outcome, index_fits, index}
use Rattle.surface.specs.Demands.{RefusesWith, WritesAllOrNothing, WritesSliceOrNothing, Refusals}
use Rattle.surface.proofs.TableLaws.{slice-length}
use Rattle.surface.proofs.Causes.{or_else-assoc, or_else-none, cause-none}
use Rattle.surface.proofs.RefusalLaws.{OneOf, one-or, one-cause, one-region, one_table, one-reading}
use Rattle.surface.proofs.RefusalLaws.{sent, slice-or-nothing, table-or-nothing}
use Rattle.surface.proofs.SlopesGiven.{slopes-given}
use Rattle.surface.proofs.FileRefusals.{file-refusals, bench-refusals, save-refusals}
use Rattle.surface.proofs.GridRefusals.{write-grid-refusals, read-grid-refusals}

-- ---- the calls

fresh-refusals : (W H : ℕ) (number : ℤ) (tree_out : List ℕ) (numbers_out : List ℤ)
    → WritesAllOrNothing (1 ∷ 10 ∷ 16 ∷ 17 ∷ []) (fresh_outcome W H number tree_out numbers_out) tree_out numbers_out
unfolding fresh_outcome
fresh-refusals W H number tree_out numbers_out =
    let js : List ℕ = 1 ∷ 10 ∷ 16 ∷ 17 ∷ [] in
    let b1 = not (good_side W && good_side H) in
    let b10 = ltb (limit 0) (nat_abs number) in
    let slice = slice_of W H (fresh_coefficients number) in
    subst
    (λ c. WritesAllOrNothing {A = ℕ} js (written c 1 (0 ∷ []) slice tree_out numbers_out) tree_out numbers_out)
    (or_else-assoc (cause 1 b1) (cause 10 b10) (outputs_cause W H (0 ∷ []) tree_out numbers_out))
    (table-or-nothing js (cause 1 b1 or_else cause 10 b10) W H 1 (0 ∷ []) slice tree_out numbers_out
    (one-or (cause 1 b1) (cause 10 b10) js (one-cause 1 b1 js refl) (one-cause 10 b10 js refl)) refl refl
    (slice-length W H (fresh_coefficients number)))

one-refinement : (js : List ℕ) → OneOf 1 js → OneOf 2 js → OneOf 3 js → OneOf 4 js → OneOf 5 js → OneOf 7 js
    → OneOf 8 js → (W H : ℕ) (t : List ℕ) (cs : List ℤ) (box : Box) (n : ℕ) → OneOf (refinement_cause W H t cs box n) js
one-refinement js h1 h2 h3 h4 h5 h7 h8 W H t cs box n =
    let b7 = not (ltb box.u0 box.u1 && ltb box.v0 box.v1 &&
    (leb box.u1 (quarters W) && leb box.v1 (quarters H))) in
    let b8 = not (leb 1 n && leb n 3) in
    one-or (table_cause W H t cs) (cause 7 b7 or_else cause 8 b8) js (one_table js h1 h2 h3 h4 h5 W H t cs)
    (one-or (cause 7 b7) (cause 8 b8) js (one-cause 7 b7 js h7) (one-cause 8 b8 js h8))

enquiry-refusals : (W H : ℕ) (t : List ℕ) (cs : List ℤ) (box : Box) (level : ℕ)
    → RefusesWith (1 ∷ 2 ∷ 3 ∷ 4 ∷ 5 ∷ 7 ∷ 8 ∷ []) (enquiry_outcome W H t cs box level)
unfolding enquiry_outcome
enquiry-refusals W H t cs box level =
    let js : List ℕ = 1 ∷ 2 ∷ 3 ∷ 4 ∷ 5 ∷ 7 ∷ 8 ∷ [] in
    sent (refinement_cause W H t cs box level) _ js
    (one-refinement js refl refl refl refl refl refl refl W H t cs box level)

commit-refusals : (W H : ℕ) (t : List ℕ) (cs : List ℤ) (s : Slip) (tree_out : List ℕ) (numbers_out : List ℤ)
    → WritesAllOrNothing (1 ∷ 2 ∷ 3 ∷ 4 ∷ 5 ∷ 7 ∷ 8 ∷ 16 ∷ 17 ∷ 19 ∷ [])
    (commit_outcome W H t cs s tree_out numbers_out) tree_out numbers_out
unfolding commit_outcome commit_cause new_coefficients
commit-refusals W H t cs s tree_out numbers_out =
    let js : List ℕ = 1 ∷ 2 ∷ 3 ∷ 4 ∷ 5 ∷ 7 ∷ 8 ∷ 16 ∷ 17 ∷ 19 ∷ [] in
    let box = s.box in
    let c0 = refinement_cause W H t cs box s.level in
    let c19 = slip_cause W H t s in
    let tree = new_tree t box s.level in
    let new = carried_over W H (levels t) (new_levels t box s.level) (coefficients W H cs) in
    subst
    (λ c. WritesAllOrNothing {A = ℕ} js (written c (length tree) tree (slice_of W H new) tree_out numbers_out) tree_out
    numbers_out)
    (or_else-assoc c0 c19 (outputs_cause W H tree tree_out numbers_out))
    (table-or-nothing js (c0 or_else c19) W H (length tree) tree (slice_of W H new) tree_out numbers_out
    (one-or c0 c19 js (one-refinement js refl refl refl refl refl refl refl W H t cs box s.level)
    (one-cause 19 (not (same_slip s (slip_of W H t box s.level))) js refl)) refl refl (slice-length W H new))

set-refusals : (W H : ℕ) (t : List ℕ) (cs : List ℤ) (L : ℕ) (i j number : ℤ)
    → WritesSliceOrNothing (1 ∷ 2 ∷ 3 ∷ 4 ∷ 5 ∷ 8 ∷ 9 ∷ 10 ∷ []) (set_outcome W H t cs L i j number) cs
unfolding set_outcome set_cause
set-refusals W H t cs L i j number =
    let js : List ℕ = 1 ∷ 2 ∷ 3 ∷ 4 ∷ 5 ∷ 8 ∷ 9 ∷ 10 ∷ [] in
    let c0 = table_cause W H t cs in
    let b9 = not (index_fits W L i && index_fits H L j && active W H (levels t) L (index i) (index j)) in
    let b10 = ltb (limit L) (nat_abs number) in
    slice-or-nothing js (set_cause W H t cs L i j number) tt cs (set cs (place W H L (index i) (index j)) number)
    (one-or c0 (cause 8 (ltb 3 L) or_else cause 9 b9 or_else cause 10 b10) js
    (one_table js refl refl refl refl refl W H t cs)
    (one-or (cause 8 (ltb 3 L)) (cause 9 b9 or_else cause 10 b10) js (one-cause 8 (ltb 3 L) js refl)
    (one-or (cause 9 b9) (cause 10 b10) js (one-cause 9 b9 js refl) (one-cause 10 b10 js refl))))
    (λ _. length-set cs (place W H L (index i) (index j)) number)

activity-refusals : (W H : ℕ) (t : List ℕ) (L : ℕ) (out : List ℕ)
    → WritesSliceOrNothing (1 ∷ 2 ∷ 8 ∷ 16 ∷ []) (activity_outcome W H t L out) out
unfolding activity_outcome activity_cause activity_bytes
activity-refusals W H t L out =
    let js : List ℕ = 1 ∷ 2 ∷ 8 ∷ 16 ∷ [] in
    let c0 = region_cause W H t in
    let c8 = cause 8 (ltb 3 L) in
    let c16 = length_cause (places W H L) out in
    let b16 = eqb (length out) (places W H L) in
    let bits : ℕ → ℕ → ℕ = λ a b. cond (active W H (levels t) L a b) 1 0 in
    slice-or-nothing js (activity_cause W H t L out) tt out (grid (functions W L) (functions H L) bits)
    (one-or c0 (c8 or_else c16) js (one-region js refl refl W H t)
    (one-or c8 c16 js (one-cause 8 (ltb 3 L) js refl) (one-cause 16 (not b16) js refl)))
    (λ e. length-grid (functions W L) (functions H L) bits
    ∙ mul_comm (functions H L) (functions W L)
    ∙ sym (eqb-true (length out) (places W H L)
    (cause-none 15 b16 (or_else-none c8 c16 (or_else-none c0 (c8 or_else c16) e).1).1)))

-- ---- the readings

exact-refusals : (W H : ℕ) (t : List ℕ) (cs : List ℤ) (u v : ℕ)
    → RefusesWith (1 ∷ 2 ∷ 3 ∷ 4 ∷ 5 ∷ 6 ∷ []) (exact_outcome W H t cs u v)
unfolding exact_outcome
exact-refusals W H t cs u v =
    let js : List ℕ = 1 ∷ 2 ∷ 3 ∷ 4 ∷ 5 ∷ 6 ∷ [] in
    sent (reading_cause W H t cs u v) _ js (one-reading js refl refl refl refl refl refl W H t cs u v)

-- an answer that meets an exact outcome is refused exactly where that is, with its number
pub meets-refused : {A B : Type 0} (near : A → B → Type 0) (o : Answer A) (given : Answer B) → Meets near o given
    → (n : ℕ) → (given ≡ refused n) ↔ (o ≡ refused n)
meets-refused near (refused m) (refused k) e n = (
  λ h. let s : k ≡ n = cc in ap refused (sym e ∙ s),
  λ h. let s : m ≡ n = cc in ap refused (e ∙ s),
)
meets-refused near (refused m) (gives x) e n = absurd e
meets-refused near (gives y) (refused k) e n = absurd e
meets-refused near (gives y) (gives x) e n = (
  λ h. absurd (let z : ◌≡◌ {A = ℕ} 0 1 = cc in omega arith),
  λ h. absurd (let z : ◌≡◌ {A = ℕ} 0 1 = cc in omega arith),
)

-- ---- all of them

-- "For every input a call gives its full result, or one refusal number from document 01 and writes nothing."
pub refusals : Refusals
unfolding least_outcome exact_outcome display_outcome cost_outcome
refusals =
    record {
      fresh = fresh-refusals;
      enquiry = enquiry-refusals;
      commit = commit-refusals;
      set = set-refusals;
      activity = activity-refusals;
      least = λ W H t box.
          let b7 = not (ltb box.u0 box.u1 && ltb box.v0 box.v1
          && (leb box.u1 (quarters W) && leb box.v1 (quarters H))) in
          let js : List ℕ = 1 ∷ 2 ∷ 7 ∷ [] in
          sent (region_cause W H t or_else cause 7 b7) _ js
          (one-or (region_cause W H t) (cause 7 b7) js (one-region js refl refl W H t) (one-cause 7 b7 js refl));
      exact = exact-refusals;
      watts = λ W H t cs u v given m.
          let same = meets-refused (Near (2 ^ 30) D) (exact_outcome W H t cs u v) given m in
          (λ n e. exact-refusals W H t cs u v n ((same n).0 e), same);
      slopes = λ W H t cs u v given m.
          let same = meets-refused NearSlopes (slopes_outcome W H t cs u v) given m in
          let exactly = slopes-given.refusal W H t cs u v in (
            λ n e. exact-refusals W H t cs u v n ((exactly n).0 ((same n).0 e)),
            λ n. (λ e. (exactly n).0 ((same n).0 e), λ e. (same n).1 ((exactly n).1 e)),
          );
      display = λ W H t cs u v.
          let js : List ℕ = 1 ∷ 2 ∷ 3 ∷ 4 ∷ 5 ∷ 6 ∷ [] in
          sent (reading_cause W H t cs u v) _ js (one-reading js refl refl refl refl refl refl W H t cs u v);
      cost = λ W H t cs u v tariff.
          let js : List ℕ = 1 ∷ 2 ∷ 3 ∷ 4 ∷ 5 ∷ 6 ∷ 11 ∷ [] in
          sent (reading_cause W H t cs u v or_else cause 11 (ltb 99999 tariff)) _ js
          (one-or (reading_cause W H t cs u v) (cause 11 (ltb 99999 tariff)) js
          (one-reading js refl refl refl refl refl refl W H t cs u v) (one-cause 11 (ltb 99999 tariff) js refl));
      file = file-refusals;
      bench = bench-refusals;
      save = save-refusals;
      write_grid = write-grid-refusals;
      read_grid = read-grid-refusals;
    }
