use mathlib.Core.List.{◌++◌}
use Prim.Native.Nat.{◌≤◌}
use native.Mathlib.Omega.{arith}
use lib.ListN.{length}
use Rattle.text.specs.Text.{decimal, refused_word, newline}
use Rattle.fields.proofs.PutLaws.{put_both}
use Rattle.text.proofs.TextLaws.{decimal-short, refused-parts}
use Rattle.text.proofs.refused.Goals.{Start}
use Rattle.text.proofs.refused.Goals as goal

-- a byte has at most three digits
short : (s : Start) → length (decimal s.args.n) ≤ 3
short s = decimal-short s.args.n 3 (omega arith) (omega (arith, s.ranges.n.fits))

pub put-a-requires : goal.put-a-requires
put-a-requires c = omega (arith, c.requires)

pub decimal-b-requires : goal.decimal-b-requires
decimal-b-requires c = omega (arith, c.put-a.ensures.0, c.put-a.auto.out, short (goal.at.decimal-b-requires c).Start, c.requires)

pub put_byte-requires : goal.put_byte-requires
put_byte-requires c = omega (
  arith,
  c.put-a.ensures.0,
  c.put-a.auto.out,
  c.decimal-b.ensures.0,
  c.decimal-b.auto.out,
  short (goal.at.put_byte-requires c).Start,
  c.requires,
)

pub returns : goal.returns
returns c = let n = decimal c.args.n in
    let o = c.args.out.now in
    let put =
    put_both (refused_word ++ n) newline 0 o c.decimal-b.result c.decimal-b.new.out c.put_byte.result
    c.put_byte.new.out
    (put_both refused_word n 0 o c.put-a.result c.put-a.new.out c.decimal-b.result
    c.decimal-b.new.out c.put-a.ensures c.decimal-b.ensures)
    c.put_byte.ensures in (
      rw (← refused-parts c.args.n) put,
      omega (arith, short (goal.at.returns c).Start, c.put-a.ensures.0, c.decimal-b.ensures.0, c.put_byte.ensures.0),
    )
