-- Before each turn the rows up to v are put after the header.
use mathlib.Core.Path.{◌≡◌, refl, ap₂, ◌∙◌, subst}
use mathlib.Core.List.{List, ◌++◌}
use Prim.Native.Nat.{ℕ, ◌+◌, ◌≤◌, ◌<◌}
use native.Mathlib.Numerals.{add-one}
use native.Mathlib.Omega.{arith}
use lib.IntN.{ℤ}
use Rattle.surface.proofs.TableLaws.{sound, sides}
use Rattle.finite.specs.Range.{joined}
use Rattle.rows.specs.Rows.{level_rows}
use Rattle.text.specs.Text.{header}
use Rattle.corners.specs.Text.{corner_line, table_text}
use Rattle.fields.specs.Put.{Put}
use Rattle.corners.proofs.CornerLaws.{tree-of}
use Rattle.fields.proofs.PutLaws.{put_both}
use Rattle.fields.proofs.PutLaws.{put_next, put-none}
use Rattle.corners.proofs.table_text.Goals.{After-regions, Start}
use Rattle.corners.proofs.table_text.Goals as goal

-- the header and the rows
table-parts : (W H : ℕ) (t : List ℕ) (cs : List ℤ)
    → header ++ joined (H + 1) (λ v. joined (W + 1) (corner_line W H t cs v)) ≡ table_text W H t cs
unfolding table_text
table-parts W H t cs =
    ap₂ (λ h w. header ++ joined h (λ v. joined w (corner_line W H t cs v))) (add-one H) (add-one W)

within : (c : Start) → let a = c.args in (0 < a.w) × (a.w ≤ 8) × (0 < a.h) × (a.h ≤ 8)
within c = sides (sound c.args.w c.args.h c.args.tree.now c.args.numbers.now c.requires.0)

pub regions-requires : goal.regions-requires
regions-requires c = let w = within (goal.at.regions-requires c).Start in (w.1, w.3)

-- the rows are those of the tree's levels
painted : (c : After-regions)
    → c.regions.new.rows ≡ level_rows c.args.tree.now
painted c =
    let a = c.args in
    c.regions.ensures.1 (c.regions.ensures.0 ∙ tree-of a.w a.h a.tree.now a.numbers.now c.requires.0)

pub header-at-requires : goal.header-at-requires
header-at-requires c = omega (arith, c.requires.1)

pub loop-v-init : goal.loop-v-init
loop-v-init c = let a = c.args in (
  refl,
  omega arith,
  put-none (λ v. joined (a.w + 1) (corner_line a.w a.h a.tree.now a.numbers.now v))
      c.header-at.result c.header-at.new.out,
)

pub row-at-requires : goal.row-at-requires
row-at-requires c = let taken = c.loop-v-test.true in (
  omega (arith, taken),
  (c.args.tree.now, painted (goal.at.row-at-requires c).After-regions, c.requires.0),
  omega (
    arith,
    taken,
    within (goal.at.row-at-requires c).Start,
    c.loop-v.invariant.0,
    c.loop-v.invariant.1,
    c.header-at.ensures.0,
    c.header-at.auto.out,
    c.requires.1,
  ),
)

pub overflow_add-v-end : goal.overflow_add-v-end
overflow_add-v-end c = omega (arith, within (goal.at.overflow_add-v-end c).Start)

pub loop-v-preserved : goal.loop-v-preserved
loop-v-preserved c = let a = c.args in
    let rows : ℕ → List ℕ = λ v. joined (a.w + 1) (corner_line a.w a.h a.tree.now a.numbers.now v) in (
      c.row-at.auto.out ∙ c.loop-v.invariant.0,
      omega (arith, c.row-at.ensures.1, c.loop-v.invariant.1),
      put_next c.loop-v.v rows (rows c.loop-v.v) c.header-at.result c.header-at.new.out c.loop-v.at
          c.loop-v.out c.row-at.result c.row-at.new.out c.loop-v.invariant.2
          (c.row-at.ensures.0 a.tree.now (painted (goal.at.loop-v-preserved c).After-regions) c.requires.0)
          refl,
    )

pub shape_of-out : goal.shape_of-out
shape_of-out c = c.loop-v.invariant.0 ∙ c.header-at.auto.out

pub returns : goal.returns
returns c = let a = c.args in
    let rows : ℕ → List ℕ = λ v. joined (a.w + 1) (corner_line a.w a.h a.tree.now a.numbers.now v) in
    let all : c.loop-v.v ≡ a.h + 1 = omega (arith, c.loop-v-test.false) in
    let r = c.header-at.result in
    let o = c.header-at.new.out in
    let put = subst (λ n. Put (joined n rows) r o c.loop-v.at c.loop-v.out) all c.loop-v.invariant.2 in (
      rw (← table-parts a.w a.h a.tree.now a.numbers.now)
          (put_both header (joined (a.h + 1) rows) 0 a.out.now r o c.loop-v.at c.loop-v.out
          c.header-at.ensures put),
      omega (arith, within (goal.at.returns c).Start, c.loop-v.invariant.1, c.header-at.ensures.0),
    )
