use mathlib.Core.Path.{◌≡◌, sym, ap, ap₂, ◌∙◌, subst}
use Prim.Native.Nat.{◌-◌, ◌≤◌}
use native.Mathlib.Omega.{arith}
use lib.ListN.{length, take}
use Rattle.surface.specs.Table.{Acceptable}
use Rattle.surface.specs.Calls.{refused, gives}
use Rattle.surface.specs.TableFile.{FileResult, file_outcome}
use Rattle.tablefile.proofs.Theorems.{loads-acceptable}
use Rattle.answers.specs.Refusals.{number}
use Rattle.answers.specs.Answers.{loaded_told, file_answer}
use Rattle.corners.specs.Text.{table_text, corner_text}
use Rattle.fields.specs.Put.{Put}
use Rattle.corners.proofs.CornerLaws.{loaded-fits}
use Rattle.corners.proofs.FileText.{loaded-text, refused-text}
use Rattle.corners.proofs.text_into.Goals.{In-Ok}
use Rattle.corners.proofs.text_into.Goals as goal

-- what was loaded
abbrev found : In-Ok → FileResult
found k = loaded_told k.in-Ok.loaded

loaded : (k : In-Ok)
    → let a = k.args in
    (file_outcome a.file.now a.tree.now a.numbers.now).result ≡ gives (found k)
loaded k =
    sym (ap file_answer (sym k.in-Ok.is) ∙ k.read_file.ensures.0)

pub slice_bounds-table_text-end : goal.slice_bounds-table_text-end
slice_bounds-table_text-end c = let a = c.args in
    let k = (goal.at.slice_bounds-table_text-end c).In-Ok in
    subst (λ t. (found k).tree_length ≤ length t) (sym c.read_file.ensures.1)
    (loaded-fits a.file.now a.tree.now a.numbers.now (found k) (loaded k))

pub table_text-requires : goal.table_text-requires
table_text-requires c = let a = c.args in
    let r = found (goal.at.table_text-requires c).In-Ok in
    let o = file_outcome a.file.now a.tree.now a.numbers.now in
    let whole : r.tree_length ≡ r.tree_length - 0 = omega arith in (
      subst (λ n. Acceptable r.W r.H (take (r.tree_length - 0) c.read_file.new.tree_out) n)
          (sym c.read_file.ensures.2)
          (subst (λ t. Acceptable r.W r.H (take (r.tree_length - 0) t) o.numbers)
          (sym c.read_file.ensures.1)
          (subst (λ m. Acceptable r.W r.H (take m o.tree) o.numbers) whole
          (loads-acceptable a.file.now a.tree.now a.numbers.now r (loaded (goal.at.table_text-requires c).In-Ok)))),
      c.requires.2,
    )

whole-text : (k : In-Ok)
    → let r = found k in
    table_text r.W r.H (take (r.tree_length - 0) k.read_file.new.tree_out) k.read_file.new.numbers_out
    ≡ corner_text k.args.file.now
whole-text k =
    let a = k.args in
    let r = found k in
    let o = file_outcome a.file.now a.tree.now a.numbers.now in
    let whole : r.tree_length - 0 ≡ r.tree_length = omega arith in
    ap₂ (λ t n. table_text r.W r.H (take (r.tree_length - 0) t) n) k.read_file.ensures.1
    k.read_file.ensures.2
    ∙ ap (λ m. table_text r.W r.H (take m o.tree) o.numbers) whole
    ∙ loaded-text a.file.now a.tree.now a.numbers.now r (loaded k)

pub refused-requires : goal.refused-requires
refused-requires c = omega (
  arith,
  c.requires.2,
)

pub returns-in-Ok : goal.returns-in-Ok
returns-in-Ok c = let a = c.args in (
  subst (λ l. Put l 0 a.out.now c.table_text.result c.table_text.new.out) (whole-text (goal.at.returns-in-Ok c).In-Ok)
      c.table_text.ensures.0,
  c.table_text.ensures.1,
)

pub returns-in-Err : goal.returns-in-Err
returns-in-Err c = let a = c.args in
    let n = number c.in-Err.refusal in
    let e : (file_outcome a.file.now a.tree.now a.numbers.now).result ≡ refused n =
    sym (ap file_answer (sym c.in-Err.is) ∙ c.read_file.ensures.0) in
    let same = refused-text a.file.now a.tree.now a.numbers.now n c.requires.0 c.requires.1 e in
    (rw (← same, ← c.number.ensures) c.refused.ensures.0, omega (arith, c.refused.ensures.1))
