-- A step along v and one along u, each of which makes entries at most 8 times larger.
use lib.Dec.{lit≤}
use native.Mathlib.Omega.{arith}
use Rattle.patch.proofs.Subdivision.{bounded-le, along-v-bounded, subdivides}
use Rattle.patch.proofs.FourByFour.{four-by-four}
use Rattle.patch.proofs.Lines.{along-v-four}
use Rattle.patch.proofs.subdivide.Goals as goal

pub along-requires : goal.along-requires
along-requires c = let g = c.requires.0 in
    let h = c.requires.1 in
    (omega arith, four-by-four c.args.p _ c.well_formed.0, bounded-le c.args.p (lit≤ tt) c.requires.2)

pub along-requires-2 : goal.along-requires-2
along-requires-2 c = let g = c.requires.0 in
    let h = c.requires.1 in (
      omega arith,
      rw c.along.ensures (along-v-four _ c.args.p),
      rw c.along.ensures (along-v-bounded 131072000 c.args.p _ (omega arith) c.requires.2),
    )

pub returns : goal.returns
returns c = rw (c.along-2.ensures, c.along.ensures)
    (subdivides c.args.p c.args.g c.args.h c.requires.0 c.requires.1)
