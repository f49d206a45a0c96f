-- `back`: the patch that was found is put around the coarser cell, or one of its numbers is past the limit.
use mathlib.Core.Path.{◌≡◌, sym, ◌∙◌}
use mathlib.Core.Bool.{true≢false}
use Prim.Native.Nat.{◌+◌, ◌*◌, ◌^◌, ◌≤◌}
use native.Mathlib.Nat.{le_trans, pow-le-pow_right, mul-le-mul_left}
use native.Mathlib.Omega.{arith}
use borrow.Author.Rules.{sfits_of}
use lib.IntN.{pos}
use mir.Syntax.{w64}
use mir.Val.{to_z, of_z}
use mir.ValLaws.{to_z-of_z}
use Rattle.surface.specs.Sheet.{functions}
use Rattle.surface.specs.Table.{places, limit}
use Rattle.coarsening.specs.Coarser.{finer}
use Rattle.coarsening.proofs.BackLaws.{cell-fits, rows_fit, few, stand-less, step-found, step_past}
use Rattle.coarsening.proofs.back.Goals.{After-limit}
use Rattle.coarsening.proofs.back.Goals as goal

pub around-finer-requires : goal.around-finer-requires
around-finer-requires c = let a = c.args in
    let L = a.level + 1 in
    let n = c.functions-n.ensures.0 in
    let cx = cell-fits a.w L a.q (omega (arith, c.requires.2)) c.requires.3 in
    let cy = cell-fits a.h L a.r (omega (arith, c.requires.2)) c.requires.4 in
    let tall : c.cell_at-y.result + 4 ≤ functions a.h L = omega (arith, c.cell_at-y.ensures, cy) in
    let stands : (c.cell_at-y.result + 4) * c.functions-n.result ≤ places a.w a.h L =
    rw n (rows_fit (functions a.w L) a.h L c.cell_at-y.result tall) in
    let small = few a.w a.h L c.requires.0 c.requires.1 (omega (arith, c.requires.2)) in (
      omega (arith, c.cell_at-x.ensures, n, cx),
      stand-less a.level a.body.now a.fine.now _ _ stands c.requires.6,
      le_trans stands small,
    )

pub of_patch-patch-requires : goal.of_patch-patch-requires
of_patch-patch-requires c = let a = c.args in
    let L = a.level + 1 in
    let cx = cell-fits a.w L a.q (omega (arith, c.requires.2)) c.requires.3 in
    let cy = cell-fits a.h L a.r (omega (arith, c.requires.2)) c.requires.4 in (
      omega arith,
      omega arith,
      λ l k hl hk.
          let fit = c.requires.7 (c.cell_at-x.result + k) (c.cell_at-y.result + l)
          (omega (arith, c.cell_at-x.ensures, cx)) (omega (arith, c.cell_at-y.ensures, cy)) in
          rw (c.around-finer.ensures k l hk hl, c.functions-n.ensures.0) fit,
    )

-- the limit, as the machine reads it back
bound : (c : After-limit)
    → to_z w64 (of_z w64 c.limit.result)
    ≡ pos (limit c.args.level)
bound c = to_z-of_z w64 c.limit.result (sfits_of c.limit.type_inv) ∙ c.limit.ensures

pub within-requires : goal.within-requires
within-requires c = let L = c.args.level in
    let power : 64 ^ L ≤ 4096 = pow-le-pow_right {n = 64} (omega arith) {i = L} {j = 2} c.requires.2 in
    (limit L, bound c, omega (arith, mul-le-mul_left 32000 power))

pub returns-then-not-within : goal.returns-then-not-within
returns-then-not-within c = let a = c.args in
    let F = finer a.level a.body.now a.fine.now (functions a.w (a.level + 1)) in (
      λ e. absurd (true≢false (sym e)),
      λ _ C step. step_past a.w a.h a.level a.q a.r C c.of_patch-patch.result c.requires.2 c.requires.3
          c.requires.4
          (step-found a.level a.q a.r c.cell_at-x.result c.cell_at-y.result F c.around-finer.result
          c.of_patch-patch.result c.cell_at-x.ensures.0 c.cell_at-y.ensures.0
          (rw c.functions-n.ensures.0 at c.around-finer.ensures) c.of_patch-patch.ensures C step)
          ((c.within.ensures (limit a.level) (bound (goal.at.returns-then-not-within c).After-limit)).1 c.if-not-within.true),
    )

pub put_patch-requires : goal.put_patch-requires
put_patch-requires c = let a = c.args in
    let n = c.functions-m.ensures.0 in
    let cx = cell-fits a.w a.level a.q (omega (arith, c.requires.2)) c.requires.3 in
    let cy = cell-fits a.h a.level a.r (omega (arith, c.requires.2)) c.requires.4 in
    let tall : c.cell_at-2.result + 4 ≤ functions a.h a.level = omega (arith, c.cell_at-2.ensures, cy) in (
      omega (arith, c.cell_at.ensures, n, cx),
      rw (n, c.requires.5) (rows_fit (functions a.w a.level) a.h a.level c.cell_at-2.result tall),
      rw c.requires.5 (few a.w a.h a.level c.requires.0 c.requires.1 (omega (arith, c.requires.2))),
    )

pub returns : goal.returns
returns c = let a = c.args in
    let F = finer a.level a.body.now a.fine.now (functions a.w (a.level + 1)) in (
      λ _. record {
        patch = c.of_patch-patch.result;
        put = (rw (c.functions-m.ensures.0, c.cell_at.ensures.0, c.cell_at-2.ensures.0) at
            c.put_patch.ensures);
        within = (c.within.ensures (limit a.level) (bound (goal.at.returns c).After-limit)).0 c.if-not-within.false;
        found = step-found a.level a.q a.r c.cell_at-x.result c.cell_at-y.result F
            c.around-finer.result c.of_patch-patch.result c.cell_at-x.ensures.0 c.cell_at-y.ensures.0
            (rw c.functions-n.ensures.0 at c.around-finer.ensures) c.of_patch-patch.ensures;
      },
      λ c. absurd (true≢false c),
    )

pub cell_at-x-requires : goal.cell_at-x-requires
cell_at-x-requires c =
    (omega (arith, c.requires.2), omega (arith, c.requires.0, c.requires.3))

pub cell_at-y-requires : goal.cell_at-y-requires
cell_at-y-requires c =
    (omega (arith, c.requires.2), omega (arith, c.requires.1, c.requires.4))

pub cell_at-requires : goal.cell_at-requires
cell_at-requires c =
    (omega (arith, c.requires.2), omega (arith, c.requires.0, c.requires.3))

pub cell_at-requires-2 : goal.cell_at-requires-2
cell_at-requires-2 c =
    let s = c
    in (omega (arith, s.requires.2), omega (arith, s.requires.1, s.requires.4))
