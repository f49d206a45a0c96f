-- `floating::watts` meets its contract: n is below 2^64 and n/D below 2^18, so two roundings stay within 2^-30.
use Rattle.std.proofs.Common.{◌^◌, sym, ap, ◌∙◌, subst, arith, lit≤, w64}
use lib.Ieee.{Float, binary64, div, of_int, of_bits}
use mir.ValLaws.{to_z-of_z}
use Rattle.surface.specs.Truncation.{D}
use Rattle.surface.specs.FloatReading.{Near}
use Rattle.floating.proofs.FloatLaws.{Room, quotient-near, abs_mag}
use Rattle.floating.proofs.watts.Goals as goal

room : Room binary64 (2 ^ 30) D 64 18
room = record { first = lit≤ tt; second = lit≤ tt; quotient = lit≤ tt; error = lit≤ tt }

-- the literal is 9 × 2^44
pub returns : goal.returns
unfolding of_bits
returns c = let n = c.args.n in
    let f = c.ranges.n in
    subst (λ (x : Float). Near (2 ^ 30) D n (div binary64 x (of_bits binary64 4819414551239852032)))
    (sym (c.nearest_i64_to_f64.ensures ∙ ap (of_int binary64) (to_z-of_z w64 n f)))
    (quotient-near n 9 44 room (lit≤ tt) (omega (arith, abs_mag n, f.sfits)))
