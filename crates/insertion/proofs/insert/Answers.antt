-- `insert` leaves the regions that the box raises, with their tree, and tells the slip of each table whose they were.
use mathlib.Core.Path.{◌≡◌, sym, ap, ◌∙◌}
use Prim.Native.Nat.{◌≤◌}
use native.Mathlib.Nat.{sub-zero}
use native.Mathlib.Omega.{arith}
use lib.ListN.{length, take}
use lib.Seq.{length-take-le}
use Rattle.surface.specs.Enquiry.{slip_of}
use Rattle.surface.proofs.TableLaws.{Sound, sound, sides}
use Rattle.surface.proofs.Steps.{accepted}
use Rattle.boxes.specs.Boxes.{box_of}
use Rattle.insertion.proofs.NewTableLaws.{in-sheet, old-nested, old-size, refined-tree, refined-formed}
use Rattle.insertion.proofs.NewTableLaws.{refined-levels}
use Rattle.insertion.proofs.insert.Goals.{Start}
use Rattle.insertion.proofs.insert.Goals as goal

-- the table whose regions these are is acceptable, and the level at most 3
fit : (c : Start) → let a = c.args in Sound a.w a.h c.requires.0.0 c.requires.0.1.0 × (a.level ≤ 3)
fit c =
    let a = c.args in
    let (t, (cs, rows, none)) = c.requires.0 in
    let fits = accepted a.w a.h t cs (box_of a.b) a.level (sym none) in
    (sound a.w a.h t cs fits.0, fits.3)

pub insert-n-requires : goal.insert-n-requires
insert-n-requires c =
    let (t, (cs, rows, none)) = c.requires.0 in
    let level = (fit (goal.at.insert-n-requires c).Start).1 in
    (omega (arith, level), old-size t _ rows, old-nested t _ rows, c.requires.1)

pub slip_of-requires : goal.slip_of-requires
slip_of-requires c =
    let a = c.args in
    let (t, (cs, rows, none)) = c.requires.0 in
    let n = sides (fit (goal.at.slip_of-requires c).Start).0 in
    let out = c.insert-n.ensures in
    let whole = ap (λ k. take k c.insert-n.new.out) (sub-zero c.insert-n.result) in (
      n.1,
      n.3,
      out.nested,
      refined-formed t _ rows (box_of a.b) a.level out a.w a.h n.1 n.3 cs none _ whole,
      refined-levels t _ rows (box_of a.b) a.level out a.w a.h n.1 n.3 cs none _ whole,
      in-sheet a.w a.h t cs (box_of a.b) a.level none,
    )

pub returns : goal.returns
unfolding slip_of
returns c =
    let a = c.args in
    let (t, (cs, rows, none)) = c.requires.0 in
    let n = sides (fit (goal.at.returns c).Start).0 in
    let out = c.insert-n.ensures in
    let whole = ap (λ k. take k c.insert-n.new.out) (sub-zero c.insert-n.result) in
    let told = c.slip_of.ensures t (sym (refined-tree t _ rows (box_of a.b) a.level out a.w a.h n.1 n.3 cs _ whole)) in
    let counted : c.slip_of.result.length ≡ c.insert-n.result =
    ap (λ s. s.tree_length) told
    ∙ ap length (sym (refined-tree t _ rows (box_of a.b) a.level out a.w a.h n.1 n.3 cs _ whole))
    ∙ ap length whole ∙ length-take-le c.insert-n.result c.insert-n.new.out (omega (arith, out.fits, out.size)) in (
      λ t' cs' rows' none'.
          let n' = sides
          (sound a.w a.h t' cs' (accepted a.w a.h t' cs' (box_of a.b) a.level (sym none')).0) in
          c.slip_of.ensures t' (sym (refined-tree t' _ rows' (box_of a.b) a.level out a.w a.h n'.1 n'.3 cs' _ whole)),
      rw counted out,
    )
