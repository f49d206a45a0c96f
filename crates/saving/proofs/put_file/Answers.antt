-- `put_file` meets its contract: the fields are put one after the other.
use mathlib.Core.Path.{◌≡◌, subst}
use mathlib.Core.List.{List, [], ◌∷◌, ◌++◌}
use Prim.Native.Nat.{ℕ, ◌+◌}
use native.Mathlib.Omega.{arith}
use lib.ListN.{length, get_or}
use Rattle.finite.specs.Range.{joined}
use Rattle.surface.specs.Table.{coefficients}
use Rattle.surface.specs.Fields.{field_bytes}
use Rattle.rows.specs.Rows.{levels_of}
use Rattle.surface.specs.Support.{active_count}
use Rattle.surface.specs.TableFile.{counts_body}
use Rattle.tablefile.proofs.CountsField.{counts-length}
use Rattle.fields.specs.Put.{Put}
use Rattle.fields.proofs.PutLaws.{put_both}
use Rattle.saving.specs.Saved.{level_under, file_under}
use Rattle.saving.proofs.FileLaws.{parts-size, counts-found}
use Rattle.saving.proofs.put_file.Goals.{After-put_counts-from, After-put_field-end, Start}
use Rattle.saving.proofs.put_file.Goals as goal

-- the fields of the levels
abbrev levels : Start → List ℕ
levels s =
    let a = s.args in
    joined 4 (level_under a.w a.h (levels_of a.rows.now) (coefficients a.w a.h a.numbers.now))

-- how long the parts are together
size : (s : Start)
    → let a = s.args in
    length
    (file_under a.w a.h a.tree.now (levels_of a.rows.now) (coefficients a.w a.h a.numbers.now))
    ≡ 19 + length a.tree.now + length (levels s)
size s =
    let a = s.args in
    parts-size a.w a.h a.tree.now (levels_of a.rows.now) (coefficients a.w a.h a.numbers.now)

pub put_sides-field-requires : goal.put_sides-field-requires
put_sides-field-requires c = let p = c.requires.0 in
    (p.small-W, p.small-H, omega (arith, c.requires.2, size (goal.at.put_sides-field-requires c).Start))

pub put_field-end-requires : goal.put_field-end-requires
put_field-end-requires c =
    let start = (goal.at.put_field-end-requires c).Start in
    omega (arith, c.requires.2, size start, c.put_sides-field.ensures.0, c.put_sides-field.auto.out)

pub put_counts-from-requires : goal.put_counts-from-requires
put_counts-from-requires c = omega (
  arith,
  c.requires.2,
  size (goal.at.put_counts-from-requires c).Start,
  c.put_sides-field.ensures.0,
  c.put_sides-field.auto.out,
  c.put_field-end.ensures.0,
  c.put_field-end.auto.out,
)

pub put_levels-requires : goal.put_levels-requires
put_levels-requires c = let p = c.requires.0 in (
  p.small-W,
  p.small-H,
  p.nested,
  p.size,
  p.spelt,
  c.requires.1,
  omega (
    arith,
    c.requires.2,
    size (goal.at.put_levels-requires c).Start,
    c.put_sides-field.ensures.0,
    c.put_sides-field.auto.out,
    c.put_field-end.ensures.0,
    c.put_field-end.auto.out,
    c.put_counts-from.ensures.0,
    c.put_counts-from.auto.out,
    counts-length (λ L. get_or c.args.counts L 0),
  ),
)

-- the fields of the sides and of the tree
front : (c : After-put_field-end)
    → let a = c.args in
    Put (field_bytes 1 (a.w ∷ a.h ∷ []) ++ field_bytes 2 a.tree.now) 0 a.out.now c.put_field-end.result
    c.put_field-end.new.out
front c =
    let a = c.args in
    put_both (field_bytes 1 (a.w ∷ a.h ∷ [])) (field_bytes 2 a.tree.now) 0 a.out.now c.put_sides-field.result
    c.put_sides-field.new.out c.put_field-end.result c.put_field-end.new.out c.put_sides-field.ensures
    c.put_field-end.ensures

-- and that of the counts
counted : (c : After-put_counts-from)
    → let a = c.args in
    Put
    (field_bytes 1 (a.w ∷ a.h ∷ [])
    ++ field_bytes 2 a.tree.now
    ++ field_bytes 3 (counts_body (active_count a.w a.h (levels_of a.rows.now)))) 0 a.out.now
    c.put_counts-from.result c.put_counts-from.new.out
counted c =
    let a = c.args in
    let found = counts-found a.w a.h (levels_of a.rows.now) a.counts c.requires.1 in
    put_both (field_bytes 1 (a.w ∷ a.h ∷ []) ++ field_bytes 2 a.tree.now) _ 0 a.out.now
    c.put_field-end.result c.put_field-end.new.out c.put_counts-from.result c.put_counts-from.new.out
    ((let it : let a = c.args in
    Put (field_bytes 1 (a.w ∷ a.h ∷ []) ++ field_bytes 2 a.tree.now) 0 a.out.now c.put_field-end.result
    c.put_field-end.new.out = let a = c.args in
    put_both (field_bytes 1 (a.w ∷ a.h ∷ [])) (field_bytes 2 a.tree.now) 0 a.out.now c.put_sides-field.result
    c.put_sides-field.new.out c.put_field-end.result c.put_field-end.new.out c.put_sides-field.ensures
    c.put_field-end.ensures in it))
    (subst (λ b. Put (field_bytes 3 b) c.put_field-end.result c.put_field-end.new.out c.put_counts-from.result
    c.put_counts-from.new.out) found c.put_counts-from.ensures)

pub returns : goal.returns
unfolding file_under
returns c =
    let start = (goal.at.returns c).Start in
    let step = (goal.at.returns c).After-put_counts-from in
    put_both _ (levels start) 0 c.args.out.now c.put_counts-from.result c.put_counts-from.new.out
    c.put_levels.result c.put_levels.new.out (counted step) c.put_levels.ensures
