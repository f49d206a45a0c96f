-- The rows weighed by the splines are weighed by splines and by derivatives, those weighed by derivatives by splines.
use mathlib.Core.Path.{◌≡◌, ◌∙◌, ap}
use borrow.Author.Rules.{rules, sfits_of}
use Rattle.surface.specs.Table.{limit}
use Rattle.evaluation.specs.Weights.{splines_of, derivatives_of, whole, steepest, weighed_rows}
use Rattle.evaluation.proofs.Evaluation.{weights, slope-weights, rows_fit, sum_fits, sum-read}
use Rattle.evaluation.proofs.Evaluation.{value, slope-u, slope-v, Sizes, sizes}
use Rattle.evaluation.proofs.evaluate_slopes.Goals.{After-derivatives_at-slopes_u, After-derivatives_at-slopes_v, After-splines_at-splines_u, After-splines_at-splines_v, After-weigh_rows-rows, After-weigh_rows-sloping_rows, Start}
use Rattle.evaluation.proofs.evaluate_slopes.Goals as goal

-- the level's bounds
bounds : (s : Start) → Sizes s.args.n (limit s.requires.2.0)
bounds s = let (L, hL, at, b) = s.requires.2 in sizes s.args.n L hL at

pub splines_at-splines_u-requires : goal.splines_at-splines_u-requires
splines_at-splines_u-requires c = search (rules, (bounds c).side)

pub splines_at-splines_v-requires : goal.splines_at-splines_v-requires
splines_at-splines_v-requires c = search (rules, (bounds (goal.at.splines_at-splines_v-requires c).Start).side)

pub derivatives_at-slopes_u-requires : goal.derivatives_at-slopes_u-requires
derivatives_at-slopes_u-requires c = search (rules, (bounds (goal.at.derivatives_at-slopes_u-requires c).Start).side)

pub derivatives_at-slopes_v-requires : goal.derivatives_at-slopes_v-requires
derivatives_at-slopes_v-requires c = search (rules, (bounds (goal.at.derivatives_at-slopes_v-requires c).Start).side)

pub weigh_rows-rows-requires : goal.weigh_rows-rows-requires
weigh_rows-rows-requires c = let a = c.args in
    let (L, hL, at, b) = c.requires.2 in
    let z = bounds (goal.at.weigh_rows-rows-requires c).Start in
    rows_fit (whole a.n) (limit L) (splines_of a.n a.s) a.p c.splines_at-splines_v.ensures
    (weights a.n a.s c.requires.1) b z.whole-fits z.entry-fits z.row_fits

pub weigh_rows-sloping_rows-requires : goal.weigh_rows-sloping_rows-requires
weigh_rows-sloping_rows-requires c = let a = c.args in
    let (L, hL, at, b) = c.requires.2 in
    let z = bounds (goal.at.weigh_rows-sloping_rows-requires c).Start in
    rows_fit (steepest a.n) (limit L) (derivatives_of a.n a.s) a.p c.derivatives_at-slopes_v.ensures
    (slope-weights a.n a.s c.requires.1) b z.steepest-fits z.entry-fits z.slope-row-fits

-- both patches' rows, by the splines along v and by their derivatives
module _ (c : After-weigh_rows-sloping_rows) where
  abbrev one : After-weigh_rows-rows
  one = c.before

  abbrev along-v : After-derivatives_at-slopes_v
  along-v = one.before

  abbrev along-u : After-derivatives_at-slopes_u
  along-u = along-v.before

  abbrev v : After-splines_at-splines_v
  v = along-u.before

  abbrev u : After-splines_at-splines_u
  u = v.before

  abbrev start : Start
  start = u.before

  rows : let a = start.args in one.weigh_rows-rows.result ≡ weighed_rows (splines_of a.n a.s) a.p
  rows = one.weigh_rows-rows.ensures ∙ ap (λ w. weighed_rows w start.args.p) v.splines_at-splines_v.ensures

  slopes : let a = start.args in c.weigh_rows-sloping_rows.result ≡ weighed_rows (derivatives_of a.n a.s) a.p
  slopes = c.weigh_rows-sloping_rows.ensures ∙ ap (λ w. weighed_rows w start.args.p) along-v.derivatives_at-slopes_v.ensures

pub weigh-requires : goal.weigh-requires
weigh-requires c = let s = start c in
    let a = s.args in
    let (L, hL, at, b) = s.requires.2 in
    let z = bounds s in
    sum_fits (whole a.n) (whole a.n) (limit L) (splines_of a.n a.r) (splines_of a.n a.s) a.p
    (u c).splines_at-splines_u.ensures (rows c) (weights a.n a.r s.requires.0) (weights a.n a.s s.requires.1) b
    z.whole-fits z.row_fits z.value-fits

pub weigh-requires-2 : goal.weigh-requires-2
weigh-requires-2 c = let s = start (goal.at.weigh-requires-2 c).After-weigh_rows-sloping_rows in
    let a = s.args in
    let (L, hL, at, b) = s.requires.2 in
    let z = bounds s in
    sum_fits (steepest a.n) (whole a.n) (limit L) (derivatives_of a.n a.r) (splines_of a.n a.s) a.p
    (along-u (goal.at.weigh-requires-2 c).After-weigh_rows-sloping_rows).derivatives_at-slopes_u.ensures (rows (goal.at.weigh-requires-2 c).After-weigh_rows-sloping_rows) (slope-weights a.n a.r s.requires.0)
    (weights a.n a.s s.requires.1) b z.steepest-fits z.row_fits z.slope-u-fits

pub weigh-requires-3 : goal.weigh-requires-3
weigh-requires-3 c = let s = start (goal.at.weigh-requires-3 c).After-weigh_rows-sloping_rows in
    let a = s.args in
    let (L, hL, at, b) = s.requires.2 in
    let z = bounds s in
    sum_fits (whole a.n) (steepest a.n) (limit L) (splines_of a.n a.r) (derivatives_of a.n a.s) a.p
    (u (goal.at.weigh-requires-3 c).After-weigh_rows-sloping_rows).splines_at-splines_u.ensures (slopes (goal.at.weigh-requires-3 c).After-weigh_rows-sloping_rows) (weights a.n a.r s.requires.0) (slope-weights a.n a.s s.requires.1)
    b z.whole-fits z.slope-row-fits z.slope-v-fits

pub returns : goal.returns
returns c = let a = (start (goal.at.returns c).After-weigh_rows-sloping_rows).args in
    record {
      watts =
          sum-read (splines_of a.n a.r) (splines_of a.n a.s) a.p (u (goal.at.returns c).After-weigh_rows-sloping_rows).splines_at-splines_u.ensures (rows (goal.at.returns c).After-weigh_rows-sloping_rows)
          (sfits_of c.weigh.type_inv) c.weigh.ensures
          ∙ value a.n a.p a.r a.s;
      along_u =
          sum-read (derivatives_of a.n a.r) (splines_of a.n a.s) a.p (along-u (goal.at.returns c).After-weigh_rows-sloping_rows).derivatives_at-slopes_u.ensures
          (rows (goal.at.returns c).After-weigh_rows-sloping_rows) (sfits_of c.weigh-2.type_inv) c.weigh-2.ensures
          ∙ slope-u a.n a.p a.r a.s;
      along_v =
          sum-read (splines_of a.n a.r) (derivatives_of a.n a.s) a.p (u (goal.at.returns c).After-weigh_rows-sloping_rows).splines_at-splines_u.ensures (slopes (goal.at.returns c).After-weigh_rows-sloping_rows)
          (sfits_of c.weigh-3.type_inv) c.weigh-3.ensures
          ∙ slope-v a.n a.p a.r a.s;
    }
