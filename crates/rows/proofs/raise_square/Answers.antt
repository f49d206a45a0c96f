-- `raise_square` meets its contract: after l turns the span's bits are set in the square's rows of the first l levels.
use native.Mathlib.Omega.{arith}
use mathlib.Core.Path.{◌≡◌}
use Rattle.rows.proofs.MaskLaws.{mask-raised}
use Rattle.rows.proofs.raise_square.Goals as goal

pub returns : goal.returns
returns c = let a = c.args in
    let all : c.loop-l.l ≡ a.level = omega arith in
    mask-raised a.x a.y a.side a.level c.span-mask.result a.rows.now c.loop-l.rows
    c.requires.3
    c.requires.4
    c.span-mask.type_inv
    c.span-mask.ensures
    (rw (← all) c.loop-l.invariant)
