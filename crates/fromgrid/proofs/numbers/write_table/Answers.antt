-- `write_table` meets its contract: the four parts have their numbers one after the other, then passive ones are 0.
use Rattle.fromgrid.proofs.WriteLaws.{first-fits, second-fits, third-fits, last-fits, table-written}
use Rattle.fromgrid.proofs.numbers.write_table.Goals as goal

pub slice_bounds-read_row-end : goal.slice_bounds-read_row-end
slice_bounds-read_row-end c = let a = c.args in
    first-fits a.w a.h a.out.now c.requires.2 a.body.now a.level0.now a.level1.now a.level2.now
    c.places-first.ensures.0 c.places.ensures.0 c.places-2.ensures.0 c.places-3.ensures.0

pub slice_bounds-read_row-end-2 : goal.slice_bounds-read_row-end-2
slice_bounds-read_row-end-2 c = let a = c.args in
    second-fits a.w a.h a.out.now c.requires.2 a.body.now a.level0.now a.level1.now a.level2.now
    c.places-first.ensures.0 c.places.ensures.0 c.places-2.ensures.0 c.places-3.ensures.0
    c.read_row.new.row c.read_row.ensures

pub slice_bounds-read_row-end-3 : goal.slice_bounds-read_row-end-3
slice_bounds-read_row-end-3 c = let a = c.args in
    third-fits a.w a.h a.out.now c.requires.2 a.body.now a.level0.now a.level1.now a.level2.now
    c.places-first.ensures.0 c.places.ensures.0 c.places-2.ensures.0 c.places-3.ensures.0
    c.read_row.new.row c.read_row.ensures c.read_row-2.new.row c.read_row-2.ensures

pub slice_bounds-read_row-end-4 : goal.slice_bounds-read_row-end-4
slice_bounds-read_row-end-4 c = let a = c.args in
    last-fits a.w a.h a.out.now c.requires.2 a.body.now a.level0.now a.level1.now a.level2.now
    c.places-first.ensures.0 c.places.ensures.0 c.places-2.ensures.0 c.places-3.ensures.0
    c.read_row.new.row c.read_row.ensures c.read_row-2.new.row c.read_row-2.ensures
    c.read_row-3.new.row c.read_row-3.ensures

pub returns : goal.returns
returns c = let a = c.args in
    table-written a.w a.h a.out.now c.requires.2 a.body.now a.level0.now a.level1.now a.level2.now
    c.places-first.ensures.0 c.places.ensures.0 c.places-2.ensures.0 c.places-3.ensures.0
    c.read_row.new.row c.read_row.ensures c.read_row-2.new.row c.read_row-2.ensures
    c.read_row-3.new.row c.read_row-3.ensures c.read_row-4.new.row c.read_row-4.ensures
    a.rows.now c.clear.new.out c.clear.ensures
