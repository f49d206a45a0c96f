-- The refusals of file reading, by either loader, and of saving: each has one of the call's numbers; what is not
-- declined fills its slice.
use mathlib.Core.Path.{◌≡◌, refl, ap, ◌∙◌, subst}
use mathlib.Core.Bool.{Bool, true, false, not, cond}
use mathlib.Core.List.{List, [], ◌∷◌}
use Prim.Native.Nat.{ℕ, zero, suc, ◌+◌, ◌*◌, ◌≤◌}
use native.Mathlib.Nat.{mul_comm}
use native.Mathlib.Omega.{arith}
use lib.IntN.{ℤ}
use lib.Dec.{ltb, eqb}
use lib.ListN.{length, get_or, length-append}
use borrow.Author.Tests.{ltb-false}
use Rattle.finite.proofs.Table.{length-grid}
use Rattle.surface.specs.Sheet.{functions}
use Rattle.surface.specs.Support.{active_count}
use Rattle.surface.specs.Table.{◌or_else◌, tree_of, formed, levels, places, start, slots}
use Rattle.surface.specs.Table.{limit, table_cause}
use Rattle.surface.specs.Calls.{put}
use Rattle.surface.specs.Fields.{Judged, declined, contains, Part, holds, in_part, field, checked, all_within}
use Rattle.surface.specs.Note.{Note, none, noted, note_fits, note_field}
use Rattle.surface.specs.TableFile.{sides_in, good_sides, sides_field, tree_field, counts_agree, counts_field, loaded}
use Rattle.surface.specs.TableFile.{level_loaded, level_field, level_fields, Loaded, File, end_cause, file_contents}
use Rattle.surface.specs.TableFile.{file_outcome_of, file_outcome, file_of}
use Rattle.surface.specs.BenchLoading.{note_of, note_part, bench_outcome}
use Rattle.surface.specs.Saving.{note_cause, file_out_cause, save_cause, save_outcome}
use Rattle.surface.specs.Demands.{among, WritesAllOrNothing, WritesSliceOrNothing, TellsNote}
use Rattle.surface.proofs.JudgedLaws.{Told, bad, good, Heads, told-unless, told_in, told-field, told-checked}
use Rattle.surface.proofs.RefusalLaws.{one-or, one-cause, one_table, put-length}
use Rattle.surface.proofs.RefusalLaws.{slice-or-nothing, table-or-nothing}
use Rattle.surface.proofs.Causes.{or_else-none, cause-none, cause-off}

abbrev js-file : List ℕ
js-file = 1 ∷ 2 ∷ 4 ∷ 12 ∷ 13 ∷ 14 ∷ 15 ∷ 16 ∷ 17 ∷ 20 ∷ []

-- the numbers of a field's head and body are among them
heads : Heads js-file
heads = record { cut = refl; tag = refl; size = refl }

-- the counts, or nothing
told-counts : (n : ℕ → ℕ) (s : List ℕ) → Told js-file (Part (List ℕ)) (λ p. Unit) (counts_field n s)
unfolding counts_field
told-counts n s = go (eqb (get_or s 0 0) 3)
  where
    go : (t : Bool)
        → Told js-file (Part (List ℕ)) (λ p. Unit)
        (cond t (checked (field 3 8 8 s) 20 (counts_agree n) (λ b. b)) (holds [] s))
    go true = told-checked js-file heads (λ p. Unit) 3 8 8 20 (counts_agree n) (λ b. b) s refl λ b rest. tt
    go false = good tt

-- a note, or none
told-note : (s : List ℕ) → Told js-file (Part Note) (λ p. Unit) (note_field s)
unfolding note_field
told-note s = go (eqb (get_or s 0 0) 32)
  where
    go : (t : Bool)
        → Told js-file (Part Note) (λ p. Unit)
        (cond t (in_part (field 32 0 64 s) λ b rest. holds (noted b) rest) (holds none s))
    go true =
        told_in js-file (λ p. Unit) (λ p. Unit) (field 32 0 64 s) _ (told-field js-file heads 32 0 64 s)
        λ p u. good tt
    go false = good tt

-- the levels below n fill their part of the slice
abbrev Fills : ℕ → ℕ → ℕ → Part (List ℤ) → Type 0
Fills W H n p = length p.content ≡ start W H n

told-levels : (W H : ℕ) (lev : ℕ → ℕ → ℕ) (n : ℕ) (s : List ℕ)
    → Told js-file (Part (List ℤ)) (Fills W H n) (level_fields W H lev n s)
unfolding level_fields level_field start
told-levels W H lev zero s = good refl
told-levels W H lev (suc L) s =
    let k = active_count W H lev L in
    let sized : Part (List ℤ) → Type 0 = λ p. length p.content ≡ places W H L in
    told_in js-file (Fills W H (suc L)) (Fills W H L) (level_fields W H lev L s) _ (told-levels W H lev L s)
    λ before e. told_in js-file (Fills W H (suc L)) sized (level_field W H lev L before.rest) _
    (told-checked js-file heads sized (16 + L) (5 * k) (5 * k) 4 (all_within (limit L) k) (level_loaded W H lev L)
    before.rest refl
    λ b rest. length-grid (functions W L) (functions H L) (loaded W H lev L b)
    ∙ mul_comm (functions H L) (functions W L))
    λ p q. good (length-append before.content p.content ∙ omega (arith, e, q))

pub levels-size : (W H : ℕ) (lev : ℕ → ℕ → ℕ) (n : ℕ) (s : List ℕ) (cs : List ℤ) (rest : List ℕ)
    → level_fields W H lev n s ≡ holds cs rest → length cs ≡ start W H n
levels-size W H lev n s cs rest e = go (level_fields W H lev n s) (told-levels W H lev n s) e
  where
    go : (j : Judged (Part (List ℤ))) → Told js-file (Part (List ℤ)) (Fills W H n) j → j ≡ holds cs rest
        → length cs ≡ start W H n
    go (declined m) t e = absurd (let z : ◌≡◌ {A = ℕ} 0 1 = cc in omega arith)
    go (contains p) (good h) e =
        let same : p ≡ record { content = cs; rest = rest } = cc in subst (Fills W H n) same h

-- a file that is not declined fills its slice
told-file : (s : List ℕ) → Told js-file Loaded (λ f. length f.numbers ≡ slots f.W f.H) (file_contents s)
unfolding file_contents sides_field tree_field
told-file s =
    let filled : Loaded → Type 0 = λ f. length f.numbers ≡ slots f.W f.H in
    told_in js-file filled (λ p. Unit) (sides_field s) _
    (told-checked js-file heads (λ p. Unit) 1 2 2 1 (λ b. good_sides (sides_in b)) sides_in s refl λ b rest. tt)
    λ p u.
    let W = p.content.W in
    let H = p.content.H in
    told_in js-file filled (λ p. Unit) (tree_field W H p.rest) _
    (told-checked js-file heads (λ p. Unit) 2 1 1365 2 (λ t. formed W H (tree_of t)) (λ t. t) p.rest refl
    λ b rest. tt)
    λ t v. told_in js-file filled (λ p. Unit) (counts_field (active_count W H (levels t.content)) t.rest) _
    (told-counts (active_count W H (levels t.content)) t.rest)
    λ c w. told_in js-file filled (Fills W H 4) (level_fields W H (levels t.content) 4 c.rest) _
    (told-levels W H (levels t.content) 4 c.rest)
    λ cs h. told_in js-file filled (λ p. Unit) (note_field cs.rest) _ (told-note cs.rest)
    λ n x. told-unless js-file filled (end_cause n.rest) _
    (one-cause 15 (ltb 0 (length n.rest)) js-file refl) (good h)

pub file-refusals : (s tree_out : List ℕ) (numbers_out : List ℤ)
    → WritesAllOrNothing js-file (file_outcome s tree_out numbers_out) tree_out numbers_out
unfolding file_outcome
file-refusals s tree_out numbers_out = go (file_contents s) (told-file s)
  where
    go : (f : File) → Told js-file Loaded (λ f. length f.numbers ≡ slots f.W f.H) f
        → WritesAllOrNothing js-file (file_outcome_of f tree_out numbers_out) tree_out numbers_out
    go (declined n) (bad h) =
        record {
          number = λ m e. let same : n ≡ m = cc in subst (λ k. among k js-file ≡ true) same h;
          refusal = λ m e. (refl, refl);
          lengths = (refl, refl);
        }
    go (contains f) (good h) =
        table-or-nothing js-file 0 f.W f.H _ f.tree f.numbers tree_out numbers_out refl refl refl h

-- a refused call says that there is no note
pub bench-refusals : (s tree_out : List ℕ) (numbers_out : List ℤ)
    → WritesAllOrNothing js-file (bench_outcome s tree_out numbers_out).loaded tree_out numbers_out
    × TellsNote (bench_outcome s tree_out numbers_out)
unfolding bench_outcome
bench-refusals s tree_out numbers_out =
    (file-refusals s tree_out numbers_out, λ n e. ap (λ r. note_part r s (note_of (file_contents s))) e)

-- ---- saving

-- an output that 18 does not apply to holds the file, and a note that 14 does not apply to fits
pub file-fits : (W H : ℕ) (t : List ℕ) (cs : List ℤ) (note : Note) (out : List ℕ) → save_cause W H t cs note out ≡ 0
    → (length (file_of note W H t cs) ≤ length out) × (note_fits note ≡ true)
unfolding save_cause
file-fits W H t cs note out e =
    let file = file_of note W H t cs in
    let short = ltb (length out) (length file) in
    let late = (or_else-none (table_cause W H t cs) (note_cause note or_else file_out_cause file out) e).1 in
    let last = or_else-none (note_cause note) (file_out_cause file out) late in
    (ltb-false (length out) (length file) (cause-off 17 short last.1), cause-none 13 (note_fits note) last.0)

abbrev js-save : List ℕ
js-save = 1 ∷ 2 ∷ 3 ∷ 4 ∷ 5 ∷ 14 ∷ 18 ∷ []

pub save-refusals : (W H : ℕ) (t : List ℕ) (cs : List ℤ) (note : Note) (out : List ℕ)
    → WritesSliceOrNothing js-save (save_outcome W H t cs note out) out
unfolding save_outcome save_cause
save-refusals W H t cs note out =
    let file = file_of note W H t cs in
    let short = ltb (length out) (length file) in
    slice-or-nothing js-save (save_cause W H t cs note out) (length file) out (put file out)
    (one-or (table_cause W H t cs) (note_cause note or_else file_out_cause file out) js-save
    (one_table js-save refl refl refl refl refl W H t cs)
    (one-or (note_cause note) (file_out_cause file out) js-save (one-cause 14 (not (note_fits note)) js-save refl)
    (one-cause 18 short js-save refl)))
    (λ e. put-length file out (file-fits W H t cs note out e).0)
