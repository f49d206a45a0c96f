-- `floating::slope` meets its contract: n is below 2^64 and n/(D/16) below 2^22, so two roundings stay within 2^-20.
use Rattle.std.proofs.Common.{◌^◌, sym, ap, ◌∙◌, subst, arith, lit≤, w64}
use lib.Ieee.{Float, binary64, div, of_int, of_bits}
use mir.ValLaws.{to_z-of_z}
use Rattle.surface.specs.Slopes.{slope_d}
use Rattle.surface.specs.FloatReading.{Near}
use Rattle.floating.proofs.FloatLaws.{Room, quotient-near, abs_mag}
use Rattle.floating.proofs.slope.Goals as goal

room : Room binary64 (2 ^ 20) slope_d 64 22
room = record { first = lit≤ tt; second = lit≤ tt; quotient = lit≤ tt; error = lit≤ tt }

-- the literal is 9 × 2^40
pub returns : goal.returns
unfolding of_bits
returns c = let n = c.args.n in
    let f = c.ranges.n in
    subst (λ (x : Float). Near (2 ^ 20) slope_d n (div binary64 x (of_bits binary64 4801400152730370048)))
    (sym (c.nearest_i64_to_f64.ensures ∙ ap (of_int binary64) (to_z-of_z w64 n f)))
    (quotient-near n 9 40 room (lit≤ tt) (omega (arith, abs_mag n, f.sfits)))
