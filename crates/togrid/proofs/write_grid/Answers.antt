-- `write_grid` refuses with the table's cause or with 18, or writes the grid.
use Rattle.std.proofs.lemmas.Result.{err_from_is_err_and}
use mathlib.Core.Path.{◌≡◌, refl, sym, ap, ◌∙◌, subst}
use mathlib.Core.List.{List}
use Prim.Native.Nat.{ℕ, ◌+◌, ◌*◌}
use native.Mathlib.Omega.{arith}
use lib.ListN.{length}
use borrow.Author.Tests.{lt-ltb, le-ltb}
use Rattle.surface.specs.Table.{cause}
use Rattle.surface.specs.Grid.{grid_file, grid_of, write_grid_cause, write_grid_outcome}
use Rattle.surface.proofs.Causes.{first, past}
use Rattle.surface.proofs.TableLaws.{Sound, sound, sides}
use Rattle.answers.specs.declared.Refusal as Causes
use Rattle.answers.proofs.AnswerLaws.{number-positive, slice-refused, slice-done}
use Rattle.fields.specs.Put.{Put}
use Rattle.fields.proofs.PutLaws.{put_front}
use Rattle.togrid.specs.Strips.{value}
use Rattle.togrid.proofs.GridLaws.{checked, same-grid, body-size, file-size}
use Rattle.togrid.proofs.write_grid.Goals.{After-places-size, In_ok-check, Start}
use Rattle.togrid.proofs.write_grid.Goals as goal

pub returns-in_err-check : goal.returns-in_err-check
unfolding write_grid_outcome write_grid_cause
returns-in_err-check c = let p = err_from_is_err_and c.from_residual.result c.from_residual.ensures.1 in
    let e = c.in_err-check.field-0.0 in
    rw (p.1, p.2) (slice-refused e (first c.in_err-check.ensures.0 (number-positive e) _) _ _ _)

good : (c : In_ok-check)
    → let a = c.args in
    Sound a.w a.h a.tree.now a.numbers.now
good c =
    let a = c.args in
    sound a.w a.h a.tree.now a.numbers.now (sym c.in_ok-check.ensures.0)

pub places-size-requires : goal.places-size-requires
places-size-requires c = ((sides (good c)).1, (sides (good c)).3, omega arith)

-- the grid, and that its length is the one found
abbrev file : Start → List ℕ
file s = let a = s.args in grid_file a.w a.h (grid_of a.w a.h a.tree.now a.numbers.now)

found : (c : After-places-size)
    → let a = c.args in
    8 + 5 * c.places-size.result ≡ length (grid_file a.w a.h (grid_of a.w a.h a.tree.now a.numbers.now))
found c =
    let a = c.args in
    ap (λ n. 8 + 5 * n) c.places-size.ensures.0 ∙ file-size a.w a.h a.tree.now a.numbers.now

pub returns-then-grid_out-length : goal.returns-then-grid_out-length
unfolding write_grid_outcome write_grid_cause
returns-then-grid_out-length c =
    let start = (goal.at.returns-then-grid_out-length c).Start in
    let step = (goal.at.returns-then-grid_out-length c).After-places-size in
    let short = lt-ltb (length c.args.grid_out.now) (length (file start))
    (omega (arith, c.if-grid_out-length.true, found step)) in
    slice-refused Causes.TheVariants.FileOutputShort (past c.in_ok-check.ensures.0 (sym (ap (cause 18) short))) _ _ _

pub put_grid-requires : goal.put_grid-requires
put_grid-requires c = let check = c.check in
    let a = c.args in
    let g = good (goal.at.put_grid-requires c).In_ok-check in
    let rows = check.new.rows in (
      checked a.w a.h (sides g).1 (sides g).3 a.tree.now rows a.numbers.now
          (c.in_ok-check.ensures.1 refl) g,
      (sides g).2,
      ap (λ n. 5 * n) c.places-size.ensures.0
          ∙ body-size a.w a.h (value a.w a.h rows a.numbers.now 3),
      omega (arith, c.if-grid_out-length.false),
    )

pub returns : goal.returns
unfolding write_grid_outcome write_grid_cause
returns c =
    let passed = (goal.at.returns c).In_ok-check in
    let start = (goal.at.returns c).Start in
    let sized = (goal.at.returns c).After-places-size in
    let check = c.check in
    let a = c.args in
    let g = sides (good passed) in
    let out = a.grid_out.now in
    let after = c.put_grid.new.out in
    let enough = le-ltb (length out) (length (file start))
    (omega (arith, c.if-grid_out-length.false, found sized)) in
    slice-done (past c.in_ok-check.ensures.0 (sym (ap (cause 18) enough))) (found sized)
    (put_front (file start) out c.put_grid.result after
    (subst (λ g. Put (grid_file a.w a.h g) 0 out c.put_grid.result after)
    (same-grid a.w a.h g.1 g.3 a.tree.now check.new.rows a.numbers.now
    (c.in_ok-check.ensures.1 refl)) c.put_grid.ensures)) out
