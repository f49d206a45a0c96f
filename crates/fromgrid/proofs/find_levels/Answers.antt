-- `find_levels`: level after level from the finer one.
use mathlib.Core.Path.{refl, sym, ◌∙◌, subst}
use mathlib.Core.Bool.{true≢false}
use native.Mathlib.Omega.{arith}
use lib.Dec.{lit≤}
use Rattle.surface.specs.Sheet.{functions}
use Rattle.rows.specs.Rows.{levels_of}
use Rattle.coarsening.specs.Coarser.{Backed, Whole}
use Rattle.fromgrid.specs.Converts.{in_rows}
use Rattle.fromgrid.proofs.LevelLaws.{body-small, passed-two, passed-one, passed_none}
use Rattle.fromgrid.proofs.find_levels.Goals.{then-back_level, else-back_level}
use Rattle.fromgrid.proofs.find_levels.Goals as goal

pub back_level-requires : goal.back_level-requires
back_level-requires c = let a = c.args in
    let o = c.requires.0 in (
      o.side-W.0,
      o.side-W.1,
      o.side-H.0,
      o.side-H.1,
      lit≤ tt,
      c.requires.3,
      (λ _. omega (arith, o.size), λ h. absurd (h refl)),
      λ x y hx hy. body-small a.w a.h a.body.now o x y hx hy,
    )

-- levels 2 and 1 are found
pub returns-then-back_level-2 : goal.returns-then-back_level-2
returns-then-back_level-2 c = let a = c.args in
    let o = c.requires.0 in
    let l₂ = c.back_level.new.coarse in
    let l₁ = c.if-back_level.level1 in
    let third = c.back_level-then-back_level-2 in
    elim c.if-back_level.branch [
      | then-back_level w ↦
          let two = c.back_level.ensures.0 w.if-back_level.true in
          let one = subst (λ l. Backed a.w a.h (levels_of a.rows.now) 1 (in_rows (functions a.w 2) l₂) Whole l)
          (sym w.level1-is) (w.back_level-then-back_level.ensures.0 (sym w.value-is ∙ c.if-back_level-2.true)) in (
            λ t. record { two = two; one = one; zero = third.ensures.0 t },
            λ t. passed_none a.w a.h o.side-W.0 o.side-H.0 (levels_of a.rows.now) a.body.now l₁ l₂ two one
                (third.ensures.1 t),
          )
      | else-back_level w ↦ absurd (true≢false (sym c.if-back_level-2.true ∙ w.value-is ∙ w.if-back_level.false))
    ]

-- one of them is not
pub returns-else-back_level-2 : goal.returns-else-back_level-2
returns-else-back_level-2 c = let a = c.args in
    let o = c.requires.0 in (
      λ t. absurd (true≢false (sym t ∙ c.if-back_level-2.false)),
      λ _. elim c.if-back_level.branch [
        | then-back_level w ↦ passed-one a.w a.h o.side-W.0 o.side-H.0 (levels_of a.rows.now) a.body.now
            c.back_level.new.coarse (c.back_level.ensures.0 w.if-back_level.true)
            (w.back_level-then-back_level.ensures.1 (sym w.value-is ∙ c.if-back_level-2.false))
        | else-back_level w ↦ passed-two a.w a.h o.side-W.0 o.side-H.0 (levels_of a.rows.now) a.body.now
            (c.back_level.ensures.1 w.if-back_level.false)
      ],
    )
