-- The definitions at work: the bench cases that compute outright and the further ones, so that a reader can hold them
-- to document 01.
use mathlib.Core.Path.{refl}
use Rattle.finite.specs.Range.{sum, every, count, total, least, greatest, table_from, joined, rows_from}
use Rattle.surface.specs.Sheet.{eighths}
use Rattle.surface.specs.Quadtree.{bytes, parse, well_formed, level_at, region_tree, visits}
use Rattle.surface.specs.Support.{least_under, active_in_row, active_count, active_before}
use Rattle.surface.specs.Spline.{cell_of, piece}
use Rattle.surface.specs.Truncation.{weight}
use Rattle.surface.specs.Carry.{carried}
use Rattle.surface.specs.Patch.{patch, patch_reading}
use Rattle.surface.specs.Table.{levels, start, coefficients, slice_from, within_limits, passive_zero, region_cause}
use Rattle.surface.specs.Table.{table_cause}
use Rattle.surface.specs.Calls.{fresh_outcome, new_tree, new_coefficients, insert_cause, insert_outcome, set_cause}
use Rattle.surface.specs.Calls.{set_outcome, activity_bytes, activity_cause, activity_outcome, least_outcome}
use Rattle.surface.specs.Calls.{reading_cause, exact_outcome, display_outcome, cost_outcome}
use Rattle.surface.specs.Enquiry.{slip_of, commit_cause, commit_outcome}
use Rattle.surface.specs.Fields.{field, all_within}
use Rattle.surface.specs.TableFile.{sides_field, tree_field, level_field, level_fields, file_contents, file_outcome}
use Rattle.surface.specs.TableFile.{counts_agree, counts_field, level_body, counts_body, file_with}
use Rattle.surface.specs.Note.{note_field}
use Rattle.surface.specs.BenchLoading.{bench_outcome}
use Rattle.surface.specs.Saving.{save_cause, save_outcome}
use Rattle.bench.specs.Bench.{Inserted, Visited, TwoByOne}
use Rattle.bench.specs.Cases.{InsideCell, Children, Shortest, Longest, EastBox, LimitFirst, NewTree, Activity}
use Rattle.bench.specs.Cases.{Sets, Fresh, LevelZero, SetsFine, Declined, LowestGiven, Files}
use Rattle.bench.specs.Cases.{CountedFiles, SavedFiles, NotedFiles, NotesRefused, SavedNotes, Heads}
use Rattle.bench.specs.Cases.{ContentsFirst, GreatestLevels}

-- ---- of the bench sheet

pub visited : Visited
unfolding least_outcome region_cause parse well_formed levels level_at least greatest visits
visited = refl

pub inserted : Inserted
unfolding commit_outcome commit_cause slip_of new_tree new_coefficients bytes region_tree carried weight sum table_cause
    region_cause within_limits passive_zero every least_under least eighths levels level_at parse well_formed start slice_from
    coefficients table_from rows_from active_count active_in_row total count visits
inserted = refl

pub two-by-one : TwoByOne
unfolding commit_outcome commit_cause slip_of new_tree new_coefficients bytes region_tree carried weight sum table_cause
    region_cause within_limits passive_zero every least_under least eighths levels level_at parse well_formed start slice_from
    coefficients table_from rows_from active_count active_in_row total count visits least_outcome greatest
two-by-one = (refl, refl)

-- ---- further cases

pub inside-cell : InsideCell
unfolding patch_reading patch sum cell_of piece least_under least eighths levels level_at parse coefficients start
inside-cell = refl

pub children : Children
unfolding least_outcome region_cause parse well_formed levels level_at least greatest visits
children = (refl, refl, refl)

pub greatest-levels : GreatestLevels
unfolding least_outcome region_cause parse well_formed levels level_at least greatest visits
greatest-levels = (refl, refl, refl)

pub shortest : Shortest
unfolding bytes region_tree
shortest = refl

pub longest : Longest
unfolding bytes region_tree
longest = refl

pub east-box : EastBox
unfolding insert_outcome insert_cause new_tree bytes region_tree table_cause region_cause within_limits passive_zero every
    least_under
    least eighths levels level_at parse well_formed start coefficients
east-box = refl

pub limit-first : LimitFirst
unfolding exact_outcome reading_cause table_cause region_cause within_limits passive_zero every least_under least eighths
    levels
    level_at parse well_formed start coefficients
limit-first = (refl, refl, refl, refl, refl, refl, refl)

pub new-tree : NewTree
unfolding insert_outcome insert_cause new_tree new_coefficients bytes region_tree carried weight sum table_cause region_cause
    within_limits passive_zero every least_under least eighths levels level_at parse well_formed start slice_from
    coefficients
    table_from rows_from
new-tree = (refl, refl, refl, refl, refl)

pub level-zero : LevelZero
unfolding insert_outcome insert_cause table_cause region_cause within_limits passive_zero every least_under least eighths
    levels level_at parse well_formed start coefficients
level-zero = refl

pub activity : Activity
unfolding activity_outcome activity_cause activity_bytes region_cause parse well_formed
activity = (refl, refl)

pub sets : Sets
unfolding set_outcome set_cause table_cause region_cause within_limits passive_zero every least_under least eighths levels
    level_at
    parse well_formed start coefficients
sets = (refl, refl, refl, refl, refl)

pub sets-fine : SetsFine
unfolding set_outcome set_cause table_cause region_cause within_limits passive_zero every least_under least eighths levels
    level_at parse well_formed start coefficients
sets-fine = (refl, refl)

pub fresh : Fresh
unfolding fresh_outcome start slice_from table_from rows_from
fresh = (refl, refl, refl, refl, refl)

pub declined : Declined
unfolding display_outcome cost_outcome reading_cause table_cause region_cause within_limits passive_zero every least_under
    least
    eighths levels level_at parse well_formed start coefficients
declined = (refl, refl, refl)

pub lowest-given : LowestGiven
unfolding exact_outcome reading_cause insert_outcome insert_cause set_outcome set_cause fresh_outcome least_outcome
    activity_outcome activity_cause table_cause region_cause within_limits passive_zero every least_under least eighths levels
    level_at parse well_formed start coefficients
lowest-given = (refl, refl, refl, refl, refl, refl, refl, refl)

pub files : Files
unfolding file_outcome file_contents sides_field tree_field counts_field level_field level_fields note_field field active_count
    active_in_row active_before all_within total count every least_under least eighths levels level_at parse well_formed start
    table_from rows_from
files = (refl, refl, refl, refl, refl, refl)

pub counted-files : CountedFiles
unfolding file_outcome file_contents sides_field tree_field counts_field counts_agree level_field level_fields note_field field
    active_count active_in_row active_before all_within total count every least_under least eighths levels level_at parse
    well_formed start table_from rows_from
counted-files = (refl, refl, refl, refl, refl, refl, refl, refl, refl, refl, refl, refl)

pub saved-files : SavedFiles
unfolding save_outcome save_cause file_with counts_body level_body joined active_count active_in_row total count table_cause
    region_cause within_limits passive_zero every least_under least eighths levels level_at parse well_formed start
    coefficients
saved-files = (refl, refl, refl, refl, refl)

pub noted-files : NotedFiles
unfolding bench_outcome file_outcome file_contents sides_field tree_field counts_field level_field level_fields note_field field
    active_count active_in_row active_before all_within total count every least_under least eighths levels level_at parse
    well_formed start table_from rows_from
noted-files = (refl, refl, refl, refl, refl, refl)

pub notes-refused : NotesRefused
unfolding file_outcome file_contents sides_field tree_field counts_field level_field level_fields note_field field active_count
    active_in_row active_before all_within total count every least_under least eighths levels level_at parse well_formed start
    table_from rows_from
notes-refused = (refl, refl, refl, refl, refl, refl, refl, refl, refl)

pub saved-notes : SavedNotes
unfolding save_outcome save_cause file_with counts_body level_body joined active_count active_in_row total count table_cause
    region_cause within_limits passive_zero every least_under least eighths levels level_at parse well_formed start
    coefficients
saved-notes = (refl, refl, refl, refl, refl)

pub heads : Heads
unfolding file_outcome file_contents sides_field tree_field counts_field level_field level_fields field parse well_formed
heads = (refl, refl, refl, refl, refl, refl, refl, refl)

pub contents-first : ContentsFirst
unfolding file_outcome file_contents sides_field tree_field counts_field level_field level_fields field active_count active_in_row
    all_within total count every least_under least eighths levels level_at parse well_formed
contents-first = (refl, refl)
