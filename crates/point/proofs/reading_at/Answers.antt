-- The watts of `read_at`.
use mathlib.Core.Path.{◌∙◌}
use borrow.Author.Rules.{sfits_of}
use mir.Syntax.{w64}
use mir.ValLaws.{to_z-of_z}
use Rattle.point.proofs.reading_at.Goals as goal

pub returns : goal.returns
returns c = λ t painted acc.
    let read = c.read_at-read in
    to_z-of_z w64 read.result.watts (sfits_of read.type_inv.1.1.0.1) ∙ (read.ensures t painted acc).0
