-- `put_body` meets its contract: before each turn the rows over the strips below y are put.
use mathlib.Core.Path.{◌≡◌, ap, ◌∙◌, subst}
use mathlib.Core.List.{List}
use Prim.Native.Nat.{ℕ, ◌+◌, ◌-◌, ◌*◌, ◌≤◌}
use native.Mathlib.Omega.{arith}
use lib.ListN.{length}
use Rattle.finite.specs.Range.{joined}
use Rattle.surface.specs.Sheet.{functions}
use Rattle.fields.specs.Put.{Put}
use Rattle.fields.proofs.PutLaws.{put-none}
use Rattle.togrid.specs.Strips.{grid_row}
use Rattle.togrid.proofs.TextLaws.{joined-part, put-more, grid-bytes}
use Rattle.togrid.proofs.put_body.Goals.{After-loop-y, Start}
use Rattle.togrid.proofs.put_body.Goals as goal

-- what each row adds
abbrev texts : Start → ℕ → List ℕ
texts s = let a = s.args in grid_row a.w a.h a.rows.now a.numbers.now

pub loop-y-init : goal.loop-y-init
loop-y-init c = put-none (texts (goal.at.loop-y-init c).Start) c.args.at c.args.out.now

-- the rows that a strip adds to those before it are some of all
fits : (s : Start) (m n to : ℕ) (out : List ℕ) → Put (joined m (texts s)) s.args.at
    s.args.out.now to out → length out ≡ length s.args.out.now → m + n ≤ functions s.args.h 3
    → to + length (joined n (λ i. texts s (m + i))) ≤ length out
fits s m n to out put size h =
    let a = s.args in
    omega (
      arith,
      s.requires.2,
      put.0,
      joined-part (texts s) m n (functions a.h 3) h,
      ap length (grid-bytes a.w a.h a.rows.now a.numbers.now),
    )

pub put_strip-to-requires : goal.put_strip-to-requires
put_strip-to-requires c =
    let start = (goal.at.put_strip-to-requires c).Start in
    let loop = c.loop-y in
    let below = c.loop-y-test.true in (
      c.requires.0,
      omega (arith, below),
      omega arith,
      fits start (8 * loop.y) _ loop.to loop.out loop.invariant loop.auto.out (omega (arith, below)),
    )

pub loop-y-preserved : goal.loop-y-preserved
loop-y-preserved c =
    let start = (goal.at.loop-y-preserved c).Start in
    let loop = c.loop-y in
    let a = c.args in
    let after = c.put_strip-to.new.out in
    let next : 8 * loop.y + 8 ≡ 8 * (loop.y + 1) = omega arith in
    subst (λ m. Put (joined m (texts start)) a.at a.out.now c.put_strip-to.result after) next
    (put-more (texts start) (8 * loop.y) 8 a.at a.out.now loop.to loop.out c.put_strip-to.result
    after loop.invariant c.put_strip-to.ensures)

-- past the loop all strips but the last are put
rest : (c : After-loop-y)
    → let a = c.args in
    Put (joined (8 * (a.h - 1)) (grid_row a.w a.h a.rows.now a.numbers.now)) a.at a.out.now c.loop-y.to c.loop-y.out
rest c =
    let loop = c.loop-y in
    let a = c.args in
    let all : loop.y ≡ a.h - 1 = omega arith in
    subst (λ y. Put (joined (8 * y) (grid_row a.w a.h a.rows.now a.numbers.now)) a.at a.out.now loop.to loop.out) all
    loop.invariant

pub put_strip-requires : goal.put_strip-requires
put_strip-requires c =
    let start = (goal.at.put_strip-requires c).Start in
    let step = (goal.at.put_strip-requires c).After-loop-y in
    let loop = c.loop-y in
    let last = c.args.h - 1 in (
      c.requires.0,
      omega (arith, c.requires.1),
      omega arith,
      fits start (8 * last) _ loop.to loop.out (rest step) loop.auto.out (omega (arith, c.requires.1)),
    )

pub returns : goal.returns
returns c = let loop = c.loop-y in
    let a = c.args in
    let last = a.h - 1 in
    let after = c.put_strip.new.out in
    let all : 8 * last + 11 ≡ functions a.h 3 = omega (arith, c.requires.1) in
    subst (λ t. Put t a.at a.out.now c.put_strip.result after)
    (ap (λ m. joined m (texts (goal.at.returns c).Start)) all ∙ grid-bytes a.w a.h a.rows.now a.numbers.now)
    (put-more (texts (goal.at.returns c).Start) (8 * last) 11 a.at a.out.now loop.to loop.out c.put_strip.result
    after (rest (goal.at.returns c).After-loop-y) c.put_strip.ensures)
