-- Line by line: the parents of a line that is left are as they were, and four lines make the step.
use mathlib.Core.Path.{◌≡◌, ◌∙◌}
use native.Mathlib.Omega.{arith}
use Rattle.patch.proofs.Lines.{parents, done}
use Rattle.patch.proofs.each_line.Goals as goal

pub children-requires : goal.children-requires
children-requires g c = (
  c.requires.0,
  parents _ _ c.args.r.now c.requires.1 c.requires.2 c.loop-line.line c.loop-line-test.true
      c.loop-line.invariant c.place.ensures c.place-in-loop-line.ensures c.place-in-loop-line-2.ensures
      c.place-in-loop-line-3.ensures,
)

pub returns : goal.returns
returns g c =
    let all : c.loop-line.line ≡ 4 = omega arith in
    c.loop-line.invariant ∙ rw all (done _ _ c.args.r.now c.requires.1)
