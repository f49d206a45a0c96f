-- One row more is cleared.
use mathlib.Core.Path.{◌≡◌, ap, ◌∙◌, subst}
use mathlib.Core.List.{List}
use Prim.Native.Nat.{ℕ, ◌+◌, ◌*◌, ◌<◌}
use lib.IntN.{ℤ}
use lib.ListN.{length}
use Rattle.surface.specs.Sheet.{eighths, functions}
use Rattle.surface.specs.Table.{start, slots, coefficients}
use Rattle.rows.specs.Rows.{levels_of}
use Rattle.activity.specs.Marks.{marked, ActiveRow}
use Rattle.activity.specs.declared.Marks.{Marks}
use Rattle.coefficients.proofs.Parts.{part}
use Rattle.passive.specs.Cleared.{kept_if, row_cleared, cleared, ClearedTo}
use Rattle.passive.proofs.RowLaws.{Rule}
use Rattle.passive.proofs.SliceLaws.{put, row-front, row-rest}

pub row-cleared : (W H L b n from : ℕ) → n ≡ functions W L → from ≡ start W H L + b * n → L < 4 → b < functions H L
    → (e : ℕ) (rows : List ℕ) (marks : Marks) → e ≡ eighths L → ActiveRow W H L b (levels_of rows) marks
    → (before out row : List ℤ) → length out ≡ slots W H → row ≡ row_cleared (marked e marks) (part from n out)
    → ClearedTo from W H rows before out → ClearedTo (from + n) W H rows before (put from n row out)
row-cleared W H L b n from columns begins hL below e rows marks side found before out row size new done =
    let f = cleared W H rows before in
    let rule : Rule = λ t a z. kept_if t z in
    let same : (a : ℕ) → a < n → kept_if (marked e marks a) (coefficients W H before L a b) ≡ f L a b =
    λ a h. ap (λ t. kept_if t (coefficients W H before L a b))
    (ap (λ e. marked e marks a) side ∙ found a (subst (λ k. a < k) columns h)) in
    record {
      front = row-front W H L b n from columns begins hL below rule e marks f out out before row size size
          done.rest new same done.front;
      rest = row-rest W H L b n from columns begins hL below rule e marks f out out before row size size
          done.rest new same done.rest;
    }
