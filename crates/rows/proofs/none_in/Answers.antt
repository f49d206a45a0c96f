-- `none_in` meets its contract: no square of the span lies in the region where the mask meets no bit of a row's word.
use mathlib.Core.Bool.{true≢false}
use mathlib.Core.Path.{sym, ◌∙◌}
use Prim.Native.Nat.{◌+◌, ◌*◌, ◌≤◌}
use native.Mathlib.Omega.{arith}
use lib.ListN.{length}
use Rattle.std.proofs.Common.{rules, tests}
use Rattle.std.proofs.lemmas.Iterator.{YieldsList-from_slice}
use Rattle.std.proofs.lemmas.Iterator.Search.{all_from_yields_List}
use Rattle.rows.proofs.NoneLaws.{clear, words, none-all, all-none}
use Rattle.rows.proofs.none_in.Goals as goal

pub returns : goal.returns
returns c = let a = c.args in
    let mask = c.span-mask.result in
    let fits : a.l * 32 + a.y + a.side ≤ length a.rows.now = omega (arith, c.told-rows) in
    let all = all_from_yields_List (clear mask) _ _ c.all.result c.all.ensures.ran
    (YieldsList-from_slice (words a.rows.now (a.l * 32 + a.y) a.side) cc) (λ x b q k. search (rules, tests)) in (
      λ e. none-all a.rows.now a.l a.x a.side mask a.y c.requires.2 fits c.span-mask.ensures (sym all ∙ e),
      λ e none. true≢false
          (sym (all-none a.rows.now a.l a.x a.side mask a.y c.requires.2 fits c.span-mask.ensures c.span-mask.type_inv none)
          ∙ sym all ∙ e),
    )
