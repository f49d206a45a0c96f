-- Each way out of `outputs_cause` gives the lowest of 16 and 17.
use mathlib.Core.Path.{◌≡◌, sym, ap, ◌∙◌}
use borrow.Author.Tests.{eq-eqb, ne_eqb, lt-ltb, le-ltb}
use Rattle.surface.specs.Table.{cause, slots}
use Rattle.surface.specs.Calls.{length_cause}
use Rattle.surface.proofs.Causes.{past}
use Rattle.coefficients.proofs.outputs_cause.Goals.{Else-numbers_out-start}
use Rattle.coefficients.proofs.outputs_cause.Goals as goal

pub returns-then-numbers_out-start : goal.returns-then-numbers_out-start
returns-then-numbers_out-start c = rw (ne_eqb _ _ (λ e. c.if-numbers_out-start.true (e ∙ sym c.start.ensures.0)))

-- past 16
fits : (c : Else-numbers_out-start)
    → let a = c.args in 0 ≡ length_cause (slots a.w a.h) a.numbers_out.now
fits c = rw (eq-eqb _ _ (c.if-numbers_out-start.false ∙ c.start.ensures.0))

pub returns-then-tree_out-bytes : goal.returns-then-tree_out-bytes
returns-then-tree_out-bytes c = past (fits (goal.at.returns-then-tree_out-bytes c).Else-numbers_out-start) (ap (cause 17) (sym (lt-ltb _ _ c.if-tree_out-bytes.true)))

pub returns : goal.returns
returns c = past (fits (goal.at.returns c).Else-numbers_out-start) (ap (cause 17) (sym (le-ltb _ _ c.if-tree_out-bytes.false)))
