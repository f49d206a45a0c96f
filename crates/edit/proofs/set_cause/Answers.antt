-- Each way out of `set_cause` gives the cause of document 01.
use Rattle.std.proofs.lemmas.Result.{err_from_is_err_and}
use mathlib.Core.Path.{◌≡◌, refl, sym, ap, ap₂, ◌∙◌}
use mathlib.Core.Bool.{Bool, not, ◌&&◌}
use Prim.Native.Nat.{ℕ}
use borrow.Author.Rules.{sfits_of}
use borrow.Author.Tests.{lt-ltb, le-ltb}
use lib.Dec.{ltb, eqb}
use lib.IntN.{ℤ, pos, nat_abs}
use mir.Syntax.{w64}
use mir.Val.{to_z, of_z}
use mir.ValLaws.{to_z-of_z}
use Rattle.surface.specs.Support.{active}
use Rattle.surface.specs.Table.{cause, ◌or_else◌, levels, limit, table_cause}
use Rattle.surface.specs.Calls.{index_fits, index, set_cause}
use Rattle.surface.proofs.Causes.{first, past}
use Rattle.rows.specs.Rows.{levels_of, level_rows}
use Rattle.rows.proofs.RowLaws.{rows-nested, rows-least}
use Rattle.coefficients.proofs.Sizes.{limit-below}
use Rattle.answers.proofs.AnswerLaws.{number-positive}
use Rattle.edit.proofs.SetLaws.{table_none}
use Rattle.edit.proofs.set_cause.Goals.{After-limit, After-past, After-settable, In_ok-check}
use Rattle.edit.proofs.set_cause.Goals as goal

pub returns-in_err-check : goal.returns-in_err-check
unfolding set_cause
returns-in_err-check c =
    let p = err_from_is_err_and c.from_residual.result c.from_residual.ensures.1 in
    rw (p.1, p.2) (first c.in_err-check.ensures.0 (number-positive c.in_err-check.field-0.0) _)

-- past the first five causes
none : (c : In_ok-check)
    → let a = c.args in 0 ≡ table_cause a.w a.h a.t.now a.numbers.now
none c = c.in_ok-check.ensures.0

-- the rows are those of the tree's levels
painted : (c : In_ok-check)
    → c.check.new.rows ≡ level_rows c.args.t.now
painted c = c.in_ok-check.ensures.1 refl

pub returns-then-level-gt3 : goal.returns-then-level-gt3
unfolding set_cause
returns-then-level-gt3 c = past (none (goal.at.returns-then-level-gt3 c).In_ok-check) (rw (lt-ltb 3 _ c.if-level-gt3.true))

pub settable-requires : goal.settable-requires
settable-requires c = let a = c.args in
    let f = table_none a.w a.h a.t.now a.numbers.now (none (goal.at.settable-requires c).In_ok-check) in
    (f.1, f.3, c.if-level-gt3.false, rw (painted (goal.at.settable-requires c).In_ok-check) (rows-nested (levels a.t.now)))

-- past cause 8, by the test of the function
may-set : (c : After-settable)
    → let a = c.args in
    c.settable.result
    ≡ (index_fits a.w a.level a.i
    && index_fits a.h a.level a.j
    && active a.w a.h (levels a.t.now) a.level (index a.i) (index a.j))
may-set c =
    let a = c.args in
    let rows = c.check.new.rows in
    let few = table_none a.w a.h a.t.now a.numbers.now ((let it : let a = c.args in 0 ≡ table_cause a.w a.h a.t.now a.numbers.now = c.in_ok-check.ensures.0 in it)) in
    let fit : ℤ → ℤ → Bool = λ i j. index_fits a.w a.level i && index_fits a.h a.level j
    && active a.w a.h (levels_of rows) a.level (index i) (index j) in
    c.settable.ensures
    ∙ ap₂ fit (to_z-of_z w64 a.i c.ranges.i) (to_z-of_z w64 a.j c.ranges.j)
    ∙ ap (λ l. index_fits a.w a.level a.i && index_fits a.h a.level a.j && eqb l a.level)
    (rows-least a.w a.h a.t.now rows a.level (index a.i) (index a.j) few.1 few.3
    ((let it : c.check.new.rows ≡ level_rows c.args.t.now = c.in_ok-check.ensures.1 refl in it)))

-- past the table and the level
by : {k : ℕ} (c : After-settable)
    → let a = c.args in
    k ≡ (cause 9 (not c.settable.result) or_else cause 10 (ltb (limit a.level) (nat_abs a.number)))
    → k ≡ set_cause a.w a.h a.t.now a.numbers.now a.level a.i a.j a.number
unfolding set_cause
by c e =
    let a = c.args in
    past ((let it : let a = c.args in 0 ≡ table_cause a.w a.h a.t.now a.numbers.now = c.in_ok-check.ensures.0 in it))
    (past (ap (cause 8) (sym (le-ltb 3 _ c.if-level-gt3.false)))
    (e ∙ ap (λ s. cause 9 (not s) or_else cause 10 (ltb (limit a.level) (nat_abs a.number))) (may-set c)))

-- the limit as the machine has it
bound : (c : After-limit)
    → let a = c.args in
    to_z w64 (of_z w64 c.limit.result) ≡ pos (limit a.level)
bound c = to_z-of_z w64 c.limit.result (sfits_of c.limit.type_inv) ∙ c.limit.ensures

pub past-requires : goal.past-requires
past-requires c = let a = c.args in
    (limit a.level, bound c, limit-below a.level c.if-level-gt3.false)

-- the number's test
size : (c : After-past)
    → let a = c.args in
    c.past.result ≡ ltb (limit a.level) (nat_abs a.number)
size c =
    c.past.ensures (limit c.args.level) ((let it : let a = c.args in
    to_z w64 (of_z w64 c.limit.result) ≡ pos (limit a.level) = to_z-of_z w64 c.limit.result (sfits_of c.limit.type_inv) ∙ c.limit.ensures in it))
    ∙ ap (λ z. ltb (limit c.args.level) (nat_abs z)) (to_z-of_z w64 c.args.number c.ranges.number)

pub returns-then-past : goal.returns-then-past
returns-then-past c = by (goal.at.returns-then-past c).After-settable (rw (c.if-not-settable.false, ← (size (goal.at.returns-then-past c).After-past), c.if-past.true))

pub returns : goal.returns
returns c = by (goal.at.returns c).After-settable (rw (c.if-not-settable.false, ← (size (goal.at.returns c).After-past), c.if-past.false))

pub returns-then-not-settable : goal.returns-then-not-settable
returns-then-not-settable c = by (goal.at.returns-then-not-settable c).After-settable (rw c.if-not-settable.true)
