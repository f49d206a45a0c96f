-- `over_tree`: a tree not of the form is refused, else the grid is converted over its regions.
use mathlib.Core.Path.{◌≡◌, sym, ap, ◌∙◌, subst}
use mathlib.Core.Bool.{true}
use mathlib.Core.List.{List}
use Prim.Native.Nat.{ℕ, ◌-◌, ◌≤◌}
use native.Mathlib.Nat.{le_of_eq}
use native.Mathlib.Omega.{arith}
use lib.IntN.{pos}
use lib.ListN.{length, take, drop, replicate, length-drop, length-replicate}
use lib.Seq.{length-take-le, take_all}
use Rattle.surface.specs.Table.{places, tree_of, formed, levels}
use Rattle.rows.specs.Rows.{levels_of, level_rows}
use Rattle.rows.proofs.RowLaws.{rows-nested}
use Rattle.answers.specs.Answers.{sheet_answer}
use Rattle.fromgrid.specs.Converts.{OfBody, Told}
use Rattle.fromgrid.proofs.RowLaws.{zeros-front, rooms}
use Rattle.fromgrid.proofs.Promise.{tree-refused, told-kept}
use Rattle.fromgrid.proofs.over_tree.Goals.{Else-not-regions}
use Rattle.fromgrid.proofs.over_tree.Goals as goal

pub returns-then-not-regions : goal.returns-then-not-regions
returns-then-not-regions c = let a = c.args in
    tree-refused a.grid.now a.tree.now a.w a.h c.requires
    a.numbers_out.now (sym c.regions.ensures.0 ∙ c.if-not-regions.true)

-- the tree is of the form, and the rows are those of its levels
whole : (e : Else-not-regions)
    → let a = e.args in formed a.w a.h (tree_of a.tree.now) ≡ true
whole e = sym e.regions.ensures.0 ∙ e.if-not-regions.false

painted : (e : Else-not-regions) → e.regions.new.rows ≡ level_rows e.args.tree.now
painted e = e.regions.ensures.1 e.if-not-regions.false

-- the room that is needed of each array
room : (e : Else-not-regions)
    → let a = e.args in
    let W = a.w in
    let H = a.h in
    (places W H 0 ≤ 121) × (places W H 1 ≤ 361) × (places W H 2 ≤ 1225)
room e = let g = e.requires in rooms _ _ g.side-W.1 g.side-H.1

-- a slice from a place to its end
to_end : (n : ℕ) (s : List ℕ) → take (length s - n) (drop n s) ≡ drop n s
to_end n s = take_all (length s - n) (drop n s) (le_of_eq (length-drop n s))

-- an array's front is as long as is needed
front : (n m k : ℕ) → n ≡ k → k ≤ m → n ≡ length (take n (replicate m (pos 0)))
front n m k e h = sym (length-take-le n (replicate m (pos 0)) (omega (arith, length-replicate m (pos 0))))

pub over_regions-requires : goal.over_regions-requires
over_regions-requires c = let g = c.requires in
    let (r₀, r₁, r₂) = room (goal.at.over_regions-requires c).Else-not-regions in (
      subst (OfBody c.args.w c.args.h) (sym (to_end 8 c.args.grid.now))
          record {
            side-W = g.side-W;
            side-H = g.side-H;
            size = length-drop 8 c.args.grid.now ∙ ap (λ k. k - 8) g.size ∙ omega arith;
            within = g.within;
          },
      rw (painted (goal.at.over_regions-requires c).Else-not-regions) (rows-nested (levels c.args.tree.now)),
      zeros-front c.places-n0.result 121 _ c.places-n0.ensures.0 r₀,
      zeros-front c.places-n1.result 361 _ c.places-n1.ensures.0 r₁,
      zeros-front c.places-n2.result 1225 _ c.places-n2.ensures.0 r₂,
    )

pub returns : goal.returns
returns c = let a = c.args in
    told-kept a.grid.now a.tree.now a.w a.h c.requires
    a.numbers_out.now _ (painted (goal.at.returns c).Else-not-regions) (whole (goal.at.returns c).Else-not-regions)
    (sheet_answer c.over_regions.result) c.over_regions.new.numbers_out
    (subst
    (λ b. Told a.w a.h (levels_of c.regions.new.rows) b
    a.numbers_out.now (sheet_answer c.over_regions.result) c.over_regions.new.numbers_out)
    (to_end 8 a.grid.now) c.over_regions.ensures)

pub slice_bounds-over_regions-end-2 : goal.slice_bounds-over_regions-end-2
slice_bounds-over_regions-end-2 c =
    front c.places-n0.result 121 _ c.places-n0.ensures.0
    (room (goal.at.slice_bounds-over_regions-end-2 c).Else-not-regions).0

pub slice_bounds-over_regions-end-3 : goal.slice_bounds-over_regions-end-3
slice_bounds-over_regions-end-3 c =
    front c.places-n1.result 361 _ c.places-n1.ensures.0
    (room (goal.at.slice_bounds-over_regions-end-3 c).Else-not-regions).1

pub slice_bounds-over_regions-end-4 : goal.slice_bounds-over_regions-end-4
slice_bounds-over_regions-end-4 c =
    front c.places-n2.result 1225 _ c.places-n2.ensures.0
    (room (goal.at.slice_bounds-over_regions-end-4 c).Else-not-regions).2
