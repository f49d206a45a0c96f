-- `of_held` gives the figures of the records held: of one part of the window, or of two.
use native.Mathlib.Omega.{arith}
use lib.IntN.{ℤ, pos}
use lib.ListN.{length, get_or}
use Rattle.records.proofs.Places.{Sound}
use Rattle.window.proofs.HeldLaws.{told-straight, told-wrapped}
use Rattle.window.proofs.of_held.Goals.{Start}
use Rattle.window.proofs.of_held.Goals as goal

-- the state is sound
good : (s : Start)
    → Sound (length s.args.window.now) (record { held = s.args.held; oldest = s.args.oldest })
good s = record { some = omega (arith, s.requires); most = s.requires.0; held = s.requires.1; oldest = s.requires.2 }

-- the oldest record, and its size
abbrev oldest : Start → ℤ
oldest s = get_or s.args.window.now s.args.oldest (pos 0)

pub returns-then-end-places : goal.returns-then-end-places
returns-then-end-places c = let over = c.over.ensures in
    told-straight c.args.window.now c.args.oldest c.args.held (good (goal.at.returns-then-end-places c).Start) c.requires.3
    c.record-1.given c.if-end-places.true over.0 over.1 over.2

pub returns : goal.returns
returns c = let a = c.args in
    let later = c.over-later.ensures in
    let early = c.over-2.ensures in
    told-wrapped a.window.now a.oldest a.held (good (goal.at.returns c).Start) c.requires.3 c.record-1.given
    c.if-end-places.false later.0 later.1 later.2 early.0 early.1 early.2
