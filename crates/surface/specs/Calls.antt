-- Document 01, "Calls and what they decline": the whole outcome of each call on every input, as the answer and what
-- each lent buffer then holds. File reading is in TableFile and BenchLoading, saving in Saving, the slopes in Slopes;
-- the enquiry and the commit, to which document 02 splits insertion, are in Enquiry.
use Rattle.std.specs.Prelude.{◌≡◌, Bool, not, ◌&&◌, cond, List, [], ◌∷◌, ◌++◌, ℕ, zero, suc, ◌+◌, ◌*◌, ◌/◌, ℤ, pos, negsuc, nat_abs, ◌+ℤ◌, ◌*ℤ◌, leb, ltb, eqb, length, drop, set}
use Rattle.std.specs.Int.Signed.{le_z, lt_z}
use Rattle.finite.specs.Range.{grid}
use Rattle.surface.specs.Sheet.{Box, good_side, cells, functions, quarters, on_sheet}
use Rattle.surface.specs.Quadtree.{bytes, region_tree, visits}
use Rattle.surface.specs.Support.{active, least_where, greatest_where, in_box}
use Rattle.surface.specs.Truncation.{D}
use Rattle.surface.specs.Carry.{raised, carried_over}
use Rattle.surface.specs.Table.{cause, ◌or_else◌, tree_of, regions_of, levels, places, slots, place, coefficients}
use Rattle.surface.specs.Table.{slice_of, limit, region_cause, table_cause, table_reading}

-- ---- answers

-- A call gives its result, or one refusal number.
pub data Answer (A : Type 0) : Type 0 where
  refused : ℕ → Answer A
  gives : A → Answer A

-- By the cause found: 0 is none.
abbrev pub answer : {A : Type 0} → ℕ → A → Answer A
answer zero a = gives a
answer (suc n) a = refused (suc n)

-- What a lent buffer holds after the call: the old contents where a cause was found, else the new.
abbrev pub afterwards : {A : Type 0} → ℕ → A → A → A
afterwards zero old new = new
afterwards (suc n) old new = old

-- "On success, tree output past the tree is untouched." Bytes put at the front of a buffer, a tree or a file.
abbrev pub put : List ℕ → List ℕ → List ℕ
put bytes out = bytes ++ drop (length bytes) out

-- The outcome of a call that writes a table: the answer, the tree output and the numbers output.
pub record Written (A : Type 0) : Type 0 where
  pub result : Answer A
  pub tree : List ℕ
  pub numbers : List ℤ

abbrev pub written : {A : Type 0} → ℕ → A → List ℕ → List ℤ → List ℕ → List ℤ → Written A
written c a tree numbers tree_out numbers_out =
    record {
      result = answer c a;
      tree = afterwards c tree_out (put tree tree_out);
      numbers = afterwards c numbers_out numbers;
    }

-- An answer and both outputs are those of an outcome.
abbrev pub TableMeets : {A : Type 0} → Written A → Answer A → List ℕ → List ℤ → Type 0
TableMeets o result tree numbers = (result ≡ o.result) × (tree ≡ o.tree) × (numbers ≡ o.numbers)

-- The outcome of a call that writes to one lent buffer: the answer and the buffer.
pub record Done (A B : Type 0) : Type 0 where
  pub result : Answer A
  pub after : List B

abbrev pub done : {A B : Type 0} → ℕ → A → List B → List B → Done A B
done c a new lent = record { result = answer c a; after = afterwards c lent new }

-- An answer and the buffer are those of an outcome.
abbrev pub SliceMeets : {A B : Type 0} → Done A B → Answer A → List B → Type 0
SliceMeets o result after = (result ≡ o.result) × (after ≡ o.after)

-- ---- causes

-- 6: "point off the sheet"
abbrev pub point_cause : ℕ → ℕ → ℕ → ℕ → ℕ
point_cause W H u v = cause 6 (not (on_sheet W H u v))

-- 7: "box with no area, or past the sheet"
abbrev pub box_cause : ℕ → ℕ → Box → ℕ
box_cause W H b =
    cause 7
    (not (ltb b.u0 b.u1 && ltb b.v0 b.v1 && (leb b.u1 (quarters W) && leb b.v1 (quarters H))))

-- 16: "numbers or activity output not of the exact length"
abbrev pub length_cause : {A : Type 0} → ℕ → List A → ℕ
length_cause n out = cause 16 (not (eqb (length out) n))

-- 17: "tree output shorter than the tree"
abbrev pub tree_out_cause : List ℕ → List ℕ → ℕ
tree_out_cause tree out = cause 17 (ltb (length out) (length tree))

-- 16, then 17, of the outputs of a call that writes a table with this tree
abbrev pub outputs_cause : ℕ → ℕ → List ℕ → List ℕ → List ℤ → ℕ
outputs_cause W H tree tree_out numbers_out = length_cause (slots W H) numbers_out or_else tree_out_cause tree tree_out

-- ---- fresh table: "tree the one byte 0, all level 0 coefficients one number"; 10 is "number past its limit"

abbrev pub fresh_cause : ℕ → ℕ → ℤ → List ℕ → List ℤ → ℕ
fresh_cause W H number tree_out numbers_out =
    cause 1 (not (good_side W && good_side H))
    or_else cause 10 (ltb (limit 0) (nat_abs number))
    or_else outputs_cause W H (0 ∷ []) tree_out numbers_out

abbrev pub fresh_coefficients : ℤ → ℕ → ℕ → ℕ → ℤ
fresh_coefficients number L a b = cond (eqb L 0) number (pos 0)

-- The answer is the tree's length.
unfoldable pub fresh_outcome : ℕ → ℕ → ℤ → List ℕ → List ℤ → Written ℕ
fresh_outcome W H number tree_out numbers_out =
    written
    (fresh_cause W H number tree_out numbers_out)
    1
    (0 ∷ [])
    (slice_of W H (fresh_coefficients number))
    tree_out
    numbers_out

-- ---- insertion: "reads one table and writes another"; by document 02 it is an enquiry and a commit, one after the
-- other, and that these two are what is defined here is a theorem (Slips, InsertsAsBefore)

-- The levels after the insertion, and the one tree of them.
abbrev pub new_levels : List ℕ → Box → ℕ → ℕ → ℕ → ℕ
new_levels t box n = raised (levels t) box n

unfoldable pub new_tree : List ℕ → Box → ℕ → List ℕ
new_tree t box n = bytes (region_tree 5 0 0 (new_levels t box n))

unfoldable pub new_coefficients : ℕ → ℕ → List ℕ → List ℤ → Box → ℕ → List ℤ
new_coefficients W H t cs box n =
    slice_of W H (carried_over W H (levels t) (new_levels t box n) (coefficients W H cs))

-- The causes of what is read: the table, the box and the level. 8: "level not 1 to 3 (insert)"
abbrev pub refinement_cause : ℕ → ℕ → List ℕ → List ℤ → Box → ℕ → ℕ
refinement_cause W H t cs box n =
    table_cause W H t cs or_else box_cause W H box or_else cause 8 (not (leb 1 n && leb n 3))

-- Those of the outputs come after them.
unfoldable pub insert_cause : ℕ → ℕ → List ℕ → List ℤ → Box → ℕ → List ℕ → List ℤ → ℕ
insert_cause W H t cs box n tree_out numbers_out =
    refinement_cause W H t cs box n or_else outputs_cause W H (new_tree t box n) tree_out numbers_out

-- The answer is the new tree's length.
unfoldable pub insert_outcome : ℕ → ℕ → List ℕ → List ℤ → Box → ℕ → List ℕ → List ℤ → Written ℕ
insert_outcome W H t cs box n tree_out numbers_out =
    written
    (insert_cause W H t cs box n tree_out numbers_out)
    (length (new_tree t box n))
    (new_tree t box n)
    (new_coefficients W H t cs box n)
    tree_out
    numbers_out

-- ---- set: "writes its one place"

-- Function i "runs from −3 to W×2^L − 1"; its index is i + 3.
abbrev pub index_fits : ℕ → ℕ → ℤ → Bool
index_fits n L i = le_z (negsuc 2) i && lt_z i (pos (cells n L))

abbrev pub index : ℤ → ℕ
index i = nat_abs (i +ℤ pos 3)

-- 8: "level not ... 0 to 3 (set, activity)"; 9: "index out of range or function passive"; 10: "number past its limit"
unfoldable pub set_cause : ℕ → ℕ → List ℕ → List ℤ → ℕ → ℤ → ℤ → ℤ → ℕ
set_cause W H t cs L i j number =
    table_cause W H t cs
    or_else cause 8 (ltb 3 L)
    or_else cause 9 (not (index_fits W L i && index_fits H L j && active W H (levels t) L (index i) (index j)))
    or_else cause 10 (ltb (limit L) (nat_abs number))

-- Its answer is only that it was done.
unfoldable pub set_outcome : ℕ → ℕ → List ℕ → List ℤ → ℕ → ℤ → ℤ → ℤ → Done (Unit {0}) ℤ
set_outcome W H t cs L i j number =
    done (set_cause W H t cs L i j number) tt (set cs (place W H L (index i) (index j)) number) cs

-- ---- activity of a level: "one byte per place, 0 or 1"

unfoldable pub activity_bytes : ℕ → ℕ → List ℕ → ℕ → List ℕ
activity_bytes W H t L = grid (functions W L) (functions H L) (λ a b. cond (active W H (levels t) L a b) 1 0)

-- 8: "level not ... 0 to 3 (set, activity)"
unfoldable pub activity_cause : ℕ → ℕ → List ℕ → ℕ → List ℕ → ℕ
activity_cause W H t L out = region_cause W H t or_else cause 8 (ltb 3 L) or_else length_cause (places W H L) out

unfoldable pub activity_outcome : ℕ → ℕ → List ℕ → ℕ → List ℕ → Done (Unit {0}) ℕ
activity_outcome W H t L out =
    done (activity_cause W H t L out) tt (activity_bytes W H t L) out

-- ---- least level: "comes with the number of tree nodes visited"; document 02, Four: "also gives the greatest level
-- under the box, from the same visited nodes and with the same count"

pub record LevelsUnder : Type 0 where
  pub least : ℕ
  pub greatest : ℕ
  pub visited : ℕ

unfoldable pub least_outcome : ℕ → ℕ → List ℕ → Box → Answer LevelsUnder
least_outcome W H t box =
    answer (region_cause W H t or_else box_cause W H box)
    (record {
      least = least_where W H (levels t) (in_box box);
      greatest = greatest_where W H (levels t) (in_box box);
      visited = visits box 5 0 0 (regions_of (tree_of t));
    })

-- ---- readings, display and cost: they "take a table and a point, cost a tariff too"

unfoldable pub reading_cause : ℕ → ℕ → List ℕ → List ℤ → ℕ → ℕ → ℕ
reading_cause W H t cs u v = table_cause W H t cs or_else point_cause W H u v

-- "Exact: a signed i64 numerator over D"
unfoldable pub exact_outcome : ℕ → ℕ → List ℕ → List ℤ → ℕ → ℕ → Answer ℤ
exact_outcome W H t cs u v = answer (reading_cause W H t cs u v) (table_reading W H t cs u v)

-- "Floor division of a signed numerator"
abbrev pub floor_div : ℤ → ℕ → ℤ
floor_div (pos a) d = pos (a / d)
floor_div (negsuc a) d = negsuc (a / d)

-- "the exact watts are rounded to the nearest whole number, halves upward, also below zero": ⌊n/D + 1/2⌋
unfoldable pub whole_watts : ℤ → ℤ
whole_watts n = floor_div (pos 2 *ℤ n +ℤ pos D) (2 * D)

unfoldable pub display_outcome : ℕ → ℕ → List ℕ → List ℤ → ℕ → ℕ → Answer ℤ
display_outcome W H t cs u v = answer (reading_cause W H t cs u v) (whole_watts (table_reading W H t cs u v))

-- Document 02, Three: "the cost is rounded once, from the exact reading times the tariff over 1,000, halves upward.
-- Exact readings of zero or less still cost 0." Of n/D watts: ⌊n×tariff/(1,000×D) + 1/2⌋, which is 0 for n = 0
abbrev pub cost_of : ℤ → ℕ → ℕ
cost_of (pos n) tariff = (2 * (n * tariff) + 1000 * D) / (2 * (1000 * D))
cost_of (negsuc n) tariff = 0

-- 11: "tariff above 99,999"
unfoldable pub cost_outcome : ℕ → ℕ → List ℕ → List ℤ → ℕ → ℕ → ℕ → Answer ℕ
cost_outcome W H t cs u v tariff =
    answer (reading_cause W H t cs u v or_else cause 11 (ltb 99999 tariff))
    (cost_of (table_reading W H t cs u v) tariff)
