-- Row j is put j rows after the first.
use mathlib.Core.Path.{refl}
use Prim.Native.Nat.{◌+◌, ◌*◌}
use Rattle.coarsening.proofs.SixteenLaws.{rows-put}
use Rattle.coarsening.proofs.sixteen.put_patch.Goals as goal

pub returns : goal.returns
returns c = let a = c.args in
    let at = a.y * a.n + a.x in
    rows-put a.n a.x a.y at (at + a.n) (at + 2 * a.n) (at + 3 * a.n) a.patch c.requires.0
    refl refl refl refl c.put_four.ensures c.put_four-2.ensures c.put_four-3.ensures
    c.put_four-4.ensures
