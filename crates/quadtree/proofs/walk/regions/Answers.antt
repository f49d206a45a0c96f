-- `regions` meets its contract: the root's tree has to end where the slice ends, and is painted over nothing.
use mathlib.Core.Path.{refl, sym, ap, ◌∙◌}
use native.Mathlib.Omega.{arith}
use lib.Dec.{eqb}
use lib.ListN.{length}
use borrow.Author.Tests.{eqb-true}
use Rattle.quadtree.proofs.EndLaws.{form-end}
use Rattle.quadtree.proofs.WalkLaws.{short, tree-rows}
use Rattle.quadtree.proofs.walk.regions.Goals as goal

pub walk-requires : goal.walk-requires
walk-requires c = let p = c.requires in
    (record { height = 5; power = refl; in_u = omega arith; in_v = omega arith }, omega arith, p.0, p.1, refl)

pub returns : goal.returns
returns c = let t = c.args.t.now in
    let found = c.walk.ensures in
    let form =
    ap (λ p. eqb p (length t)) (found.ends 5 refl) ∙ form-end c.args.w c.args.h t (short _ c.well_formed.0.1) in
    (form, λ e. tree-rows found (sym e ∙ form) (omega (arith, eqb-true c.walk.result (length t) e)))
