-- `put_grid` meets its contract: the field of the sides, then that of the numbers.
use mathlib.Core.List.{[], ◌∷◌}
use Rattle.surface.specs.Fields.{field_bytes}
use Rattle.surface.specs.Grid.{grid_file}
use Rattle.fields.proofs.PutLaws.{put_both, put-field}
use Rattle.togrid.specs.Strips.{numbers_bytes, grid_by}
use Rattle.togrid.proofs.put_grid.Goals as goal

pub returns : goal.returns
unfolding grid_file
returns c = let a = c.args in
    let numbers = numbers_bytes (grid_by a.w a.h a.rows.now a.numbers.now) in
    let front = c.put_sides-field.new.out in
    let after = c.put_body.new.out in
    put_both (field_bytes 1 (a.w ∷ a.h ∷ [])) (field_bytes 19 numbers) 0 a.out.now c.put_sides-field.result front
    c.put_body.result after c.put_sides-field.ensures
    (put-field 19 a.size numbers c.put_sides-field.result front c.put_head-body.result
    c.put_head-body.new.out c.put_body.result after c.requires.2 c.put_head-body.ensures
    c.put_body.ensures)
