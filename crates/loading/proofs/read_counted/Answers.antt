-- Each way out of `read_counted` gives the defined outcome.
use Rattle.std.specs.Prelude.{Result, Ok, Err}
use Rattle.std.proofs.lemmas.Result.{err_from_is_err_and}
use mathlib.Core.Path.{subst}
use mathlib.Core.List.{List}
use Prim.Native.Nat.{ℕ}
use lib.ListN.{drop}
use Rattle.surface.specs.Support.{active_count}
use Rattle.surface.specs.TableFile.{counts_field}
use Rattle.tablefile.proofs.CountsField.{counts-field-cong}
use Rattle.answers.specs.declared.Refusal.{Refusal}
use Rattle.activity.specs.Counts.{Counted}
use Rattle.rows.specs.Rows.{levels_of}
use Rattle.judging.specs.Judged.{sheet_w, sheet_h, count_of, judged_as}
use Rattle.judging.proofs.CountsLaws.{counts-declined, counts-passed}
use Rattle.loading.proofs.ReadLaws.{bench-declined}
use Rattle.loading.proofs.read_counted.Goals as goal

-- what the judged counts say, by the counts of the rows
told : (file rows counts : List ℕ) (end : ℕ) (r : Result ℕ Refusal)
    → Counted (sheet_w file) (sheet_h file) (levels_of rows) counts
    → judged_as r file (counts_field (count_of counts) (drop end file))
    → judged_as r file (counts_field (active_count (sheet_w file) (sheet_h file) (levels_of rows)) (drop end file))
told file rows counts end r n =
    subst (λ j. judged_as r file j)
    (counts-field-cong (count_of counts) (active_count (sheet_w file) (sheet_h file) (levels_of rows))
    (λ L h. (n L h).0) (drop end file))

pub returns-in_err-from : goal.returns-in_err-from
returns-in_err-from c = let a = c.args in
    let file = a.file.now in
    let p = err_from_is_err_and c.from_residual.result c.from_residual.ensures.1 in
    let declined = told file a.rows.now _ a.end (Err _) c.active_counts-counts.ensures c.in_err-from.ensures in
    rw (p.1, p.2)
    (bench-declined file a.tree_out.now a.numbers_out.now _
    (counts-declined file a.end (sheet_w file) (sheet_h file) a.rows.now c.requires _ declined))

pub read_levels-requires : goal.read_levels-requires
read_levels-requires c = let a = c.args in
    let file = a.file.now in (
      counts-passed file a.end (sheet_w file) (sheet_h file) a.rows.now c.requires c.in_ok-from.from
          (told file a.rows.now _ a.end (Ok c.in_ok-from.from) c.active_counts-counts.ensures c.in_ok-from.ensures),
      c.active_counts-counts.ensures,
    )
