-- Eight times the bound fits.
use mathlib.Core.Path.{◌≡◌, ap, ◌∙◌}
use lib.Dec.{lit<}
use lib.IntN.{ℤ, pos, ◌+ℤ◌, ◌*ℤ◌, +ℤ_assoc, +ℤ_comm}
use Rattle.finite.proofs.Int.{add-*ℤ, one-*ℤ, +ℤ-left-comm}
use Rattle.patch.specs.Steps.{odd_of}
use Rattle.patch.proofs.Size.{literal, holds, add_holds, mul_holds}
use Rattle.patch.proofs.odd_of_pairs.Goals as goal

of-pairs : (x y z : ℤ) → y +ℤ z +ℤ pos 4 *ℤ y +ℤ (x +ℤ y) ≡ odd_of x y z
of-pairs x y z =
    let e : pos 6 *ℤ y ≡ pos 4 *ℤ y +ℤ (y +ℤ y) =
    add-*ℤ (pos 4) (pos 2) y ∙ ap (λ t. pos 4 *ℤ y +ℤ t) (add-*ℤ (pos 1) (pos 1) y ∙ rw (one-*ℤ y)) in
    rw e (simp (+ℤ_assoc, +ℤ_comm, +ℤ-left-comm))

pub returns : goal.returns
returns c x z e f = let yz = holds c.args.yz c.requires.0 (lit< tt) in
    let y = mul_holds (literal 4 (lit< tt)) (holds c.args.y c.requires.1 (lit< tt)) (lit< tt) in
    (add_holds (add_holds yz y (lit< tt)) (holds c.args.xy c.requires.2 (lit< tt)) (lit< tt)).same
    ∙ (λ i. f i +ℤ pos 4 *ℤ c.args.y +ℤ e i)
    ∙ of-pairs x c.args.y z
