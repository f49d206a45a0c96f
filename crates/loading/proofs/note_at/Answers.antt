-- Each way out of `note_at` tells of the part.
use mathlib.Core.Path.{◌≡◌, ap}
use mathlib.Core.Bool.{true}
use Prim.Native.Nat.{ℕ, ◌+◌, ◌-◌, ◌≤◌, ◌<◌}
use native.Mathlib.Decide.{dec_lt}
use native.Mathlib.Omega.{arith}
use borrow.Author.Tests.{lt-ltb, le-ltb}
use Rattle.loading.proofs.note_at.Goals as goal

-- fewer bytes than a head are none
none_left : (at size : ℕ) → (at < size → at + 3 ≤ size) → size - at < 3 → size ≤ at
none_left at size h few = go (dec_lt at size)
  where
    go : Dec (at < size) → size ≤ at
    go (yes l) = absurd (omega (arith, h l))
    go (no l) = omega arith

pub returns-then-left-lt-HEAD : goal.returns-then-left-lt-HEAD
returns-then-left-lt-HEAD c = let a = c.args in
    rw (le-ltb a.at a.size (none_left a.at a.size c.requires.1 c.if-left-lt-HEAD.true))

pub overflow_add-result : goal.overflow_add-result
overflow_add-result c = omega (arith, c.if-left-lt-HEAD.false)

pub returns : goal.returns
returns c = let a = c.args in
    let there : a.at < a.size = omega (arith, c.if-left-lt-HEAD.false) in
    let same : a.size - a.at - 3 ≡ a.size - (a.at + 3) = omega arith in
    rw (lt-ltb a.at a.size there) (ap (λ n. record { stands = true; offset = a.at + 3; size = n }) same)
