-- `carry_over` leaves carried values at active places, and 0 at passive ones.
use mathlib.Core.Path.{ap, ◌∙◌}
use mathlib.Core.Bool.{cond}
use lib.IntN.{pos}
use lib.ListN.{length}
use Rattle.surface.specs.Support.{active}
use Rattle.surface.specs.Carry.{carried}
use Rattle.surface.specs.Table.{coefficients}
use Rattle.surface.proofs.TableLaws.{slice-length, slice-coefficient}
use Rattle.rows.specs.Rows.{levels_of}
use Rattle.passive.specs.Cleared.{cleared}
use Rattle.surface.proofs.Slices.{slice-cong}
use Rattle.refinement.specs.Refined.{over_rows}
use Rattle.refinement.proofs.carry_over.Goals as goal

pub clear-requires : goal.clear-requires
clear-requires c = let p = c.requires in
    (p.0, p.1, ap length c.fill.ensures ∙ slice-length _ _ _, p.5)

pub returns : goal.returns
returns c = let a = c.args in
    let old = carried a.w a.h (levels_of a.rows.now) (coefficients a.w a.h a.numbers.now) in
    c.clear.ensures
    ∙ slice-cong a.w a.h (cleared a.w a.h a.new.now _)
    (over_rows a.w a.h a.rows.now a.new.now a.numbers.now)
    λ L x y hL hx hy. ap (λ z. cond (active a.w a.h (levels_of a.new.now) L x y) z (pos 0))
    (ap (λ s. coefficients a.w a.h s L x y) c.fill.ensures
    ∙ slice-coefficient a.w a.h old L x y hL hx hy)
