use mathlib.Core.Path.{◌≡◌}
use mathlib.Core.Bool.{not}
use lib.Dec.{eqb}
use Rattle.patch.proofs.Lines.{lines_done}
use Rattle.patch.proofs.each_line.Given as goal

-- the lines before this one are done
abbrev pub invariant-loop-line : goal.invariant-loop-line
invariant-loop-line g l = l.r ≡ lines_done (not (eqb g.row.ALONG_V 0)) g.row.HALF l.initial.r l.line
