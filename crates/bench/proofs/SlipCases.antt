-- The cases of the enquiry and of the commit: the slips compute, and the rest follows from the slip that S gives.
use mathlib.Core.Path.{◌≡◌, refl, ap, ap₂, ◌∙◌}
use mathlib.Core.Bool.{not}
use mathlib.Core.List.{[]}
use lib.ListN.{length}
use Rattle.finite.specs.Range.{every, count, total, least}
use Rattle.surface.specs.Sheet.{eighths}
use Rattle.surface.specs.Quadtree.{bytes, parse, well_formed, level_at, region_tree, visits}
use Rattle.surface.specs.Support.{least_under, active_in_row, active_count}
use Rattle.surface.specs.Table.{cause, ◌or_else◌, levels, start, coefficients, within_limits, passive_zero, region_cause}
use Rattle.surface.specs.Table.{table_cause}
use Rattle.surface.specs.Calls.{written, outputs_cause, new_tree, new_coefficients, refinement_cause}
use Rattle.surface.specs.Enquiry.{slip_of, enquiry_outcome, same_slip, commit_cause, commit_outcome}
use Rattle.bench.specs.Bench.{S, flat, box, slip, slip_s}
use Rattle.bench.specs.SlipCases.{OthersRefused, SlipCases}

-- the slip that S gives
own-slip : slip_of 1 1 flat (box 0 0 4 4) 1 ≡ slip_s
unfolding slip_of new_tree bytes region_tree active_count active_in_row total count least_under least eighths levels level_at
    parse visits
own-slip = refl

S-acceptable : table_cause 1 1 flat S ≡ 0
unfolding table_cause region_cause within_limits passive_zero every least_under least eighths levels level_at parse well_formed
    start coefficients
S-acceptable = refl

-- past insertion's checks, every other slip of that box and level is refused
others : OthersRefused
unfolding commit_outcome commit_cause
others s b l o tree_out numbers_out =
    let new = new_tree flat s.box s.level in
    let numbers = new_coefficients 1 1 flat S s.box s.level in
    let checked : refinement_cause 1 1 flat S s.box s.level ≡ 0 = rw (b, l, S-acceptable) in
    let own : slip_of 1 1 flat s.box s.level ≡ slip_s = rw (b, l) own-slip in
    let late = outputs_cause 1 1 new tree_out numbers_out in
    ap₂ (λ c same. written (c or_else cause 19 (not same) or_else late) (length new) new numbers tree_out numbers_out)
    checked (ap (same_slip s) own ∙ o)

pub slip-cases : SlipCases
unfolding enquiry_outcome commit_outcome commit_cause slip_of new_tree bytes region_tree active_count active_in_row total count
    least_under least eighths levels level_at parse well_formed visits table_cause region_cause within_limits passive_zero
    every start coefficients
slip-cases =
    record {
      of_s = refl;
      two_by_one = refl;
      shorter = refl;
      corner = refl;
      finer = refl;
      others = others;
      old_tree = ap (λ o. o.result) (others (slip (box 0 0 4 4) 1 1 16 0 0 0 1) refl refl refl [] []);
      old_length = ap (λ o. o.result) (others (slip (box 0 0 4 4) 1 1 0 25 0 0 4) refl refl refl [] []);
      old_counts = ap (λ o. o.result) (others (slip (box 0 0 4 4) 1 13 16 0 0 0 4) refl refl refl [] []);
      old_nodes = ap (λ o. o.result) (others (slip (box 0 0 4 4) 1 13 0 25 0 0 1) refl refl refl [] []);
      five = refl;
      seven = refl;
      eight = refl;
      sixteen = refl;
      seventeen = refl;
    }
