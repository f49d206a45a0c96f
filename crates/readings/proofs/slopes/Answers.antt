-- The f64s of what was read with its slopes, or its refusal.
use Rattle.std.proofs.lemmas.Result.{err_from_is_err_and}
use mathlib.Core.Path.{refl, subst}
use Prim.Native.Nat.{◌^◌}
use lib.IntN.{ℤ}
use mir.Syntax.{w64}
use mir.Val.{SFits, to_z, of_z}
use mir.ValLaws.{to_z-of_z}
use Rattle.surface.specs.Truncation.{D}
use Rattle.surface.specs.FloatReading.{Near}
use Rattle.surface.specs.Slopes.{slope_d}
use Rattle.evaluation.specs.Evaluated.{exact_slopes}
use Rattle.readings.proofs.ReadingLaws.{numerator-fits, slope-fits, slopes-given, slopes-refused}
use Rattle.readings.proofs.slopes.Goals as goal

-- what holds of a number as it is read back holds of it
read_back : (P : ℤ → Type 0) {z : ℤ} → SFits w64 z → P (to_z w64 (of_z w64 z)) → P z
read_back P {z} f p = subst P (to_z-of_z w64 z f) p

pub returns-in_err-x : goal.returns-in_err-x
returns-in_err-x c = let a = c.args in
    let p = err_from_is_err_and c.from_residual.result c.from_residual.ensures.1 in
    rw (p.1, p.2) (slopes-refused a.w a.h a.tree.now a.numbers.now a.u a.v _ c.in_err-x.ensures)

pub returns : goal.returns
returns c = let a = c.args in
    let x = c.in_ok-x.x in
    let found = c.in_ok-x.ensures in
    let whole = numerator-fits a.w a.h a.tree.now a.numbers.now a.u a.v x.watts found.0 in
    let fit = slope-fits a.w a.h a.tree.now a.numbers.now a.u a.v (exact_slopes x) (found.1 refl) in
    slopes-given a.w a.h a.tree.now a.numbers.now a.u a.v (found.1 refl)
    (record {
      watts = read_back (λ z. Near (2 ^ 30) D z c.watts.result) whole c.watts.ensures;
      along_u = read_back (λ z. Near (2 ^ 20) slope_d z c.slope.result) fit.0 c.slope.ensures;
      along_v = read_back (λ z. Near (2 ^ 20) slope_d z c.slope-2.result) fit.1 c.slope-2.ensures;
    })
