use mathlib.Core.Path.{sym, ◌∙◌}
use native.Mathlib.Omega.{arith}
use Rattle.corners.proofs.CornerLaws.{names-none, names-some}
use Rattle.corners.proofs.places_named.Goals as goal

pub returns-then-file-lt-TREE_FIELD : goal.returns-then-file-lt-TREE_FIELD
returns-then-file-lt-TREE_FIELD c = (sym (names-none c.args.file.now c.if-file-lt-TREE_FIELD.true), omega arith)

pub returns : goal.returns
returns c = let e = c.places_of.ensures in
    (e.0 ∙ sym (names-some c.args.file.now c.if-file-lt-TREE_FIELD.false), e.1)
