-- Each way out of `level_judge` says what the field of the level holds.
use Rattle.std.specs.Prelude.{Ok, Err}
use Rattle.std.proofs.lemmas.Result.{err_from_is_err_and}
use mathlib.Core.Path.{◌≡◌, refl, sym, ap, ◌∙◌}
use mathlib.Core.Bool.{Bool, true, false, not}
use Prim.Native.Nat.{ℕ}
use native.Mathlib.Omega.{arith}
use borrow.Author.Rules.{sfits_of}
use lib.IntN.{ℤ, nat_abs}
use lib.ListN.{drop}
use mir.Syntax.{w64}
use mir.Val.{SFits, of_z, to_z}
use mir.ValLaws.{to_z-of_z}
use Rattle.surface.specs.Support.{active_count}
use Rattle.surface.specs.Table.{cause}
use Rattle.surface.specs.Fields.{unless, holds, all_within}
use Rattle.surface.specs.TableFile.{level_loaded, level_field}
use Rattle.tablefile.proofs.SavedLevels.{limit-small}
use Rattle.fields.specs.Positions.{body_at}
use Rattle.fields.proofs.PositionLaws.{body-size}
use Rattle.judging.proofs.JudgeLaws.{level-faulty, level-told}
use Rattle.judging.proofs.level_judge.Goals.{After-within}
use Rattle.judging.proofs.level_judge.Goals as goal

pub returns-in_err-end : goal.returns-in_err-end
returns-in_err-end c = let a = c.args in
    let p = err_from_is_err_and c.from_residual.result c.from_residual.ensures.1 in
    rw (p.1, p.2)
    (tt, λ W H lev s. level-faulty W H lev a.level a.file.now a.at (Err _) a.count s c.in_err-end.ensures.0 _ refl)

-- the limit as the machine has it
bound : {z n : ℤ} → SFits w64 z → z ≡ n → to_z w64 (of_z w64 z) ≡ n
bound {z} fits e = to_z-of_z w64 z fits ∙ e

pub overflow_cast-most : goal.overflow_cast-most
overflow_cast-most c =
    rw (bound (sfits_of c.limit-most.type_inv) c.limit-most.ensures)
    (tt, omega (arith, limit-small c.args.level (omega (arith, c.requires.0))))

pub within-requires : goal.within-requires
within-requires c = let a = c.args in
    let k = c.in_ok-end.ensures.1 in (
      omega (arith, k.0, body-size a.file.now a.at c.in_ok-end.end k.2),
      rw (bound (sfits_of c.limit-most.type_inv) c.limit-most.ensures)
          (limit-small a.level (omega (arith, c.requires.0))),
    )

-- the field by the test of its numbers
told : (c : After-within) (t : Bool) → c.within.result ≡ t
    → let a = c.args in
    let end = c.in_ok-end.end in
    (W H : ℕ) (lev : ℕ → ℕ → ℕ) → a.count ≡ active_count W H lev a.level
    → level_field W H lev a.level (drop a.at a.file.now)
    ≡ unless (cause 4 (not t))
    (holds (level_loaded W H lev a.level (body_at a.file.now a.at end)) (drop end a.file.now))
told c t q W H lev s =
    let a = c.args in
    let end = c.in_ok-end.end in
    level-told W H lev a.level a.file.now a.at (Ok end) a.count s c.in_ok-end.ensures.0 end refl t
    (sym q
    ∙ c.within.ensures
    ∙ ap (λ z. all_within (nat_abs z) a.count (body_at a.file.now a.at end))
    (bound (sfits_of c.limit-most.type_inv) c.limit-most.ensures))

pub returns-then-not-within : goal.returns-then-not-within
returns-then-not-within c = (tt, told (goal.at.returns-then-not-within c).After-within false c.if-not-within.true)

pub returns : goal.returns
returns c = let inside = c.in_ok-end.ensures.1.2 in
    (inside, λ W H lev s. (inside, (_, told (goal.at.returns c).After-within true c.if-not-within.false W H lev s)))
