-- Row l is taken l rows after the first.
use mathlib.Core.Path.{◌≡◌, refl, ap, ◌∙◌}
use mathlib.Core.List.{[]}
use Prim.Native.Nat.{ℕ, ◌+◌, ◌*◌, ◌≤◌}
use native.Mathlib.Nat.{add-mul}
use native.Mathlib.Omega.{arith}
use lib.IntN.{ℤ, pos}
use lib.ListN.{get_or}
use Rattle.coarsening.specs.Coarser.{Stand, number_of}
use Rattle.coarsening.proofs.SixteenLaws.{at-four, row-place, stand-fewer}
use Rattle.coarsening.proofs.sixteen.around.Goals.{Start}
use Rattle.coarsening.proofs.sixteen.around.Goals as goal

-- a row's numbers stand there
row-stands : (s : Start) (from : ℕ) → let a = s.args in
    from ≤ a.y * a.n + a.x + 3 * a.n
    → Stand a.level a.body.now a.fine.now (from + 4) × (from + 4 ≤ 4489)
row-stands s from h =
    let a = s.args in
    let inside : from + 4 ≤ (a.y + 4) * a.n = omega (arith, h, s.requires.0, add-mul a.y 4 a.n) in (
      stand-fewer a.level a.body.now a.fine.now ((a.y + 4) * a.n) (from + 4) inside s.requires.1,
      omega (arith, inside, s.requires.2),
    )

pub returns : goal.returns
returns c = λ k l hk hl.
    let a = c.args in
    let value : ℕ → ℤ = number_of a.level a.body.now a.fine.now in
    let first = a.y * a.n + a.x in
    let place : (l from : ℕ) → from ≡ first + l * a.n → value (from + k) ≡ value ((a.y + l) * a.n + (a.x + k)) =
    λ l from e. ap value (row-place a.n a.x a.y l k from e) in
    at-four (λ l row. get_or row k (pos 0) ≡ value ((a.y + l) * a.n + (a.x + k))) []
    (c.four.ensures k hk ∙ place 0 first (omega arith))
    (c.four-2.ensures k hk ∙ place 1 (first + a.n) (omega arith))
    (c.four-3.ensures k hk ∙ place 2 (first + 2 * a.n) refl)
    (c.four-4.ensures k hk ∙ place 3 (first + 3 * a.n) refl)
    l hl

pub four-requires : goal.four-requires
four-requires c =
    row-stands (goal.at.four-requires c).Start (c.args.y * c.args.n + c.args.x) (omega arith)

pub four-requires-2 : goal.four-requires-2
four-requires-2 c =
    row-stands (goal.at.four-requires-2 c).Start _ (omega arith)

pub four-requires-3 : goal.four-requires-3
four-requires-3 c =
    row-stands (goal.at.four-requires-3 c).Start _ (omega arith)

pub four-requires-4 : goal.four-requires-4
four-requires-4 c =
    row-stands (goal.at.four-requires-4 c).Start _ (omega arith)
