-- `figures` gives the figures of the records held, or refuses with 22.
use Rattle.std.proofs.lemmas.Result.{err_from_is_err_and}
use mathlib.Core.Path.{◌≡◌, refl, sym, ◌∙◌}
use Prim.Native.Nat.{ℕ, zero, suc, ◌<◌}
use native.Mathlib.Nat.{zero-lt-suc}
use lib.ListN.{length}
use Rattle.surface.specs.Window.{figures_outcome}
use Rattle.answers.specs.Answers.{state_told}
use Rattle.answers.proofs.AnswerLaws.{refused-with, gives-with}
use Rattle.records.proofs.Places.{sound}
use Rattle.window.proofs.HeldLaws.{none-held, read_back}
use Rattle.window.proofs.figures.Goals as goal

positive : (n : ℕ) → (n ≡ 0 → ⊥) → 0 < n
positive zero h = absurd (h refl)
positive (suc n) h = zero-lt-suc n

pub returns-in_err-window_cause : goal.returns-in_err-window_cause
unfolding figures_outcome
returns-in_err-window_cause c =
    let p = err_from_is_err_and c.from_residual.result c.from_residual.ensures.1 in
    rw (p.1, p.2) (refused-with c.in_err-window_cause.field-0.0 c.in_err-window_cause.ensures _)

pub returns-then-state-eq0 : goal.returns-then-state-eq0
unfolding figures_outcome
returns-then-state-eq0 c = let a = c.args in
    gives-with c.in_ok-window_cause.ensures (none-held a.window.now (state_told a.state) c.if-state-eq0.true)

pub of_held-f-requires : goal.of_held-f-requires
of_held-f-requires c = let a = c.args in
    let z = sound (length a.window.now) (state_told a.state) (sym c.in_ok-window_cause.ensures) in
    let some : 0 < a.state.held = positive a.state.held c.if-state-eq0.false in
    (z.most, z.held, z.oldest, some)

pub returns : goal.returns
unfolding figures_outcome
returns c = let fits = c.struct_told-1.given in
    gives-with c.in_ok-window_cause.ensures
    (read_back fits.0.1 fits.1.0.1 fits.1.1.0.1 ∙ sym c.of_held-f.ensures)
