use Rattle.answers.proofs.CodeLaws.{sheet-given, sheet-refused}
use Rattle.kiln.proofs.grids.kiln_read_grid.Goals as goal

pub returns-in-Ok : goal.returns-in-Ok
returns-in-Ok c = sheet-given c.in-Ok.sheet c.args.w.now c.args.h.now c.in-Ok.is c.read_grid.ensures

pub returns-in-Err : goal.returns-in-Err
returns-in-Err c =
    rw c.number.ensures (sheet-refused c.in-Err.refusal c.args.w.now c.args.h.now c.in-Err.is c.read_grid.ensures)
