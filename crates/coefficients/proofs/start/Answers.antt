use native.Mathlib.Omega.{arith}
use Rattle.coefficients.proofs.Sizes.{start-at, starts}
use Rattle.coefficients.proofs.start.Goals as goal

pub returns-then-level-eq0 : goal.returns-then-level-eq0
returns-then-level-eq0 c = omega (
  arith,
  start-at c.args.w c.args.h c.args.level 0
      c.if-level-eq0.true,
  starts c.args.w c.args.h,
)

pub returns-then-level-eq1 : goal.returns-then-level-eq1
returns-then-level-eq1 c = omega (
  arith,
  start-at c.args.w c.args.h
      c.args.level 1 c.if-level-eq1.true,
  starts c.args.w
      c.args.h,
)

pub returns-then-level-eq2 : goal.returns-then-level-eq2
returns-then-level-eq2 c = omega (
  arith,
  start-at c.args.w
      c.args.h c.args.level 2
      c.if-level-eq2.true,
  starts c.args.w
      c.args.h,
)

pub returns-then-level-eq3 : goal.returns-then-level-eq3
returns-then-level-eq3 c = omega (
  arith,
  start-at c.args.w
      c.args.h
      c.args.level 3 c.if-level-eq3.true,
  starts
      c.args.w
      c.args.h,
)

pub returns : goal.returns
returns c = omega (
  arith,
  start-at c.args.w
      c.args.h
      c.args.level 4 (omega arith),
  starts
      c.args.w
      c.args.h,
)
