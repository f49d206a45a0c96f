-- The numbers are put one after the other.
use native.Mathlib.Omega.{arith}
use borrow.Author.Rules.{sfits_of}
use lib.ListN.{length-set}
use mir.Syntax.{w64}
use mir.ValLaws.{to_z-of_z}
use Rattle.coarsening.proofs.SixteenLaws.{four-put}
use Rattle.coarsening.proofs.sixteen.put_four.Goals as goal

pub bounds-s-at-2 : goal.bounds-s-at-2
bounds-s-at-2 c = simp length-set (omega arith)

pub bounds-s-at-3 : goal.bounds-s-at-3
bounds-s-at-3 c = simp length-set (omega arith)

pub bounds-s-at-4 : goal.bounds-s-at-4
bounds-s-at-4 c = simp length-set (omega arith)

pub returns : goal.returns
returns c = four-put c.args.at c.args.row c.args.s.now c.requires (to_z-of_z w64 _ (sfits_of c.s-1.given))
    (to_z-of_z w64 _ (sfits_of c.s-2-1.given)) (to_z-of_z w64 _ (sfits_of c.s-3-1.given))
    (to_z-of_z w64 _ (sfits_of c.s-4-1.given))
