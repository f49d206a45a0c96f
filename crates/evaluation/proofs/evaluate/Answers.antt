-- The rows' sums are at most as many times the bound as the splines add up to, and so is the sum of these.
use mathlib.Core.Path.{◌≡◌, ◌∙◌, ap}
use borrow.Author.Rules.{rules, sfits_of}
use Rattle.surface.specs.Table.{limit}
use Rattle.evaluation.specs.Weights.{splines_of, whole, weighed_rows}
use Rattle.evaluation.proofs.Evaluation.{weights, rows_fit, sum_fits, sum-read, value, Sizes, sizes}
use Rattle.evaluation.proofs.evaluate.Goals.{After-weigh_rows, Start}
use Rattle.evaluation.proofs.evaluate.Goals as goal

-- the level's bounds
bounds : (s : Start) → Sizes s.args.n (limit s.requires.2.0)
bounds s = let (L, hL, at, b) = s.requires.2 in sizes s.args.n L hL at

pub splines_at-u-requires : goal.splines_at-u-requires
splines_at-u-requires c = search (rules, (bounds c).side)

pub splines_at-v-requires : goal.splines_at-v-requires
splines_at-v-requires c = search (rules, (bounds (goal.at.splines_at-v-requires c).Start).side)

pub weigh_rows-requires : goal.weigh_rows-requires
weigh_rows-requires c = let a = c.args in
    let (L, hL, at, b) = c.requires.2 in
    let z = bounds (goal.at.weigh_rows-requires c).Start in
    rows_fit (whole a.n) (limit L) (splines_of a.n a.s) a.p c.splines_at-v.ensures
    (weights a.n a.s c.requires.1) b z.whole-fits z.entry-fits z.row_fits

-- the rows
rows : (c : After-weigh_rows)
    → let a = c.args in c.weigh_rows.result ≡ weighed_rows (splines_of a.n a.s) a.p
rows c =
    c.weigh_rows.ensures ∙ ap (λ w. weighed_rows w c.args.p) c.splines_at-v.ensures

pub weigh-requires : goal.weigh-requires
weigh-requires c = let a = c.args in
    let (L, hL, at, b) = c.requires.2 in
    let z = bounds (goal.at.weigh-requires c).Start in
    sum_fits (whole a.n) (whole a.n) (limit L) (splines_of a.n a.r) (splines_of a.n a.s) a.p
    c.splines_at-u.ensures (rows c) (weights a.n a.r c.requires.0) (weights a.n a.s c.requires.1) b
    z.whole-fits z.row_fits z.value-fits

pub returns : goal.returns
returns c = let a = c.args in
    sum-read (splines_of a.n a.r) (splines_of a.n a.s) a.p c.splines_at-u.ensures (rows (goal.at.returns c).After-weigh_rows)
    (sfits_of c.weigh.type_inv) c.weigh.ensures
    ∙ value a.n a.p a.r a.s
