-- Before each turn the places below a are loaded.
use mathlib.Core.Path.{◌≡◌}
use Prim.Native.Nat.{◌+◌}
use Rattle.finite.specs.Range.{count}
use Rattle.surface.specs.Support.{active}
use Rattle.surface.specs.TableFile.{loaded}
use Rattle.rows.specs.Rows.{levels_of}
use Rattle.finite.proofs.Written.{written}
use Rattle.loading.proofs.load.load_row.Given as goal

abbrev pub invariant-loop-a : goal.invariant-loop-a
invariant-loop-a l =
    (l.at ≡ l.next + count l.a (λ c. active l.w l.h (levels_of l.rows) l.level c l.b))
    × (l.row ≡ written l.a (λ a. loaded l.w l.h (levels_of l.rows) l.level l.body a l.b) l.initial.row)
