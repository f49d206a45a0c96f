use mathlib.Core.Path.{◌≡◌, subst}
use mathlib.Core.List.{◌++◌}
use Prim.Native.Nat.{◌+◌, ◌≤◌}
use native.Mathlib.Omega.{arith}
use lib.ListN.{length, length-append}
use mir.Syntax.{w64}
use mir.ValLaws.{to_z-of_z}
use Rattle.text.specs.Text.{decimal, signed, space, newline}
use Rattle.fields.specs.Put.{Put}
use Rattle.fields.proofs.PutLaws.{put_both}
use Rattle.text.proofs.TextLaws.{line-length, line-parts}
use Rattle.text.proofs.line.Goals.{After-signed-c, Start}
use Rattle.text.proofs.line.Goals as goal

-- the room that is lent, by the parts of the line
room : (s : Start)
    → let a = s.args in
    a.at + (length (decimal a.u) + 1 + (length (decimal a.v) + 1) + length (signed a.watts) + 1)
    ≤ length a.out.now
room s = let a = s.args in rw (line-length a.u a.v a.watts) at s.requires

numbers : (s : Start)
    → let a = s.args in
    (length (decimal a.u ++ space) ≡ length (decimal a.u) + 1)
    × (length (decimal a.v ++ space) ≡ length (decimal a.v) + 1)
numbers s = (length-append (decimal s.args.u) space, length-append (decimal s.args.v) space)

signed-put : (c : After-signed-c)
    → let a = c.args in
    Put (signed a.watts) c.spaced-b.result c.spaced-b.new.out c.signed-c.result c.signed-c.new.out
signed-put c =
    subst
    (λ z. Put (signed z) c.spaced-b.result c.spaced-b.new.out c.signed-c.result c.signed-c.new.out)
    (to_z-of_z w64 c.args.watts c.ranges.watts)
    c.signed-c.ensures

pub spaced-a-requires : goal.spaced-a-requires
spaced-a-requires c = omega (arith, room (goal.at.spaced-a-requires c).Start, numbers (goal.at.spaced-a-requires c).Start)

pub spaced-b-requires : goal.spaced-b-requires
spaced-b-requires c = omega (arith, room (goal.at.spaced-b-requires c).Start, numbers (goal.at.spaced-b-requires c).Start, c.spaced-a.ensures.0, c.spaced-a.auto.out)

pub signed-c-requires : goal.signed-c-requires
signed-c-requires c = rw (to_z-of_z w64 c.args.watts c.ranges.watts)
    (omega (
      arith,
      room (goal.at.signed-c-requires c).Start,
      numbers (goal.at.signed-c-requires c).Start,
      c.spaced-a.ensures.0,
      c.spaced-a.auto.out,
      c.spaced-b.ensures.0,
      c.spaced-b.auto.out,
    ))

pub put_byte-requires : goal.put_byte-requires
put_byte-requires c = omega (
  arith,
  room (goal.at.put_byte-requires c).Start,
  numbers (goal.at.put_byte-requires c).Start,
  c.spaced-a.ensures.0,
  c.spaced-a.auto.out,
  c.spaced-b.ensures.0,
  c.spaced-b.auto.out,
  (signed-put (goal.at.put_byte-requires c).After-signed-c).0,
  c.signed-c.auto.out,
)

pub returns : goal.returns
returns c = let x = c.args in
    let u = decimal x.u ++ space in
    let v = decimal x.v ++ space in
    let o = x.out.now in
    rw (← line-parts x.u x.v x.watts)
    (put_both (u ++ v ++ signed x.watts) newline x.at o c.signed-c.result c.signed-c.new.out
    c.put_byte.result c.put_byte.new.out
    (put_both (u ++ v) (signed x.watts) x.at o c.spaced-b.result c.spaced-b.new.out
    c.signed-c.result c.signed-c.new.out
    (put_both u v x.at o c.spaced-a.result c.spaced-a.new.out c.spaced-b.result c.spaced-b.new.out
    c.spaced-a.ensures c.spaced-b.ensures)
    (signed-put (goal.at.returns c).After-signed-c))
    c.put_byte.ensures)
