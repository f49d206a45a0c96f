-- What follows from the exact reading and the exact slopes, given or refused.
use mathlib.Core.Path.{◌≡◌, refl, sym, ap, ◌∙◌, subst}
use mathlib.Core.List.{List}
use Prim.Native.Nat.{ℕ, ◌*◌, ◌^◌, ◌≤◌, ◌<◌}
use borrow.Author.Tests.{lt-ltb}
use lib.Dec.{ltb, lit<}
use lib.IntN.{ℤ}
use mir.Syntax.{w64}
use mir.Val.{SFits}
use lib.Ieee.{Float}
use Rattle.finite.proofs.Signed.{abs-fits}
use Rattle.surface.specs.Sheet.{on_sheet}
use Rattle.surface.specs.Truncation.{D}
use Rattle.surface.specs.Table.{cause, ◌or_else◌, table_cause, Acceptable, table_reading}
use Rattle.surface.specs.Calls.{refused, gives, answer, point_cause, reading_cause, exact_outcome, whole_watts}
use Rattle.surface.specs.Calls.{display_outcome, cost_of, cost_outcome}
use Rattle.surface.specs.FloatReading.{Near, FloatMeets}
use Rattle.surface.specs.Slopes.{ExactSlopes, FloatSlopes, NearSlopes, slopes_outcome, SlopesMeet}
use Rattle.surface.proofs.Around.{on-sheet}
use Rattle.surface.proofs.Demands.{reading-fits}
use Rattle.surface.proofs.Derivatives.{slopes-fit}
use Rattle.surface.proofs.SlopesGiven.{slopes-given as given-slopes}
use Rattle.surface.proofs.Causes.{or_else-none, cause-none}
use Rattle.answers.proofs.AnswerLaws.{refused-by, gives-by, refused-before, gives-before}

module _ (W H : ℕ) (t : List ℕ) (cs : List ℤ) (u v : ℕ) where
  -- without a cause the table is acceptable, and the point lies on the sheet
  pub readable : 0 ≡ reading_cause W H t cs u v → Acceptable W H t cs × (u ≤ 128 * W) × (v ≤ 128 * H)
  unfolding reading_cause
  readable e =
      let c = or_else-none (table_cause W H t cs) (point_cause W H u v) (sym e) in
      let at = on-sheet W H u v (cause-none 5 (on_sheet W H u v) c.1) in
      (c.0, at.0, at.1)

  -- an exact reading is an i64
  pub numerator-fits : (x : ℤ) → gives x ≡ exact_outcome W H t cs u v → SFits w64 x
  numerator-fits x e = abs-fits x (reading-fits W H t cs u v x (sym e)) (lit< tt)

  -- and so are exact slopes
  pub slope-fits : (x : ExactSlopes) → gives x ≡ slopes_outcome W H t cs u v
      → SFits w64 x.along_u × SFits w64 x.along_v
  slope-fits x e =
      let f = slopes-fit W H t cs u v x (sym e) in
      (abs-fits x.along_u f.0 (lit< tt), abs-fits x.along_v f.1 (lit< tt))

  -- a record near the exact slopes, and the refusal of the exact reading
  pub slopes-given : {e : ExactSlopes} {x : FloatSlopes} → gives e ≡ slopes_outcome W H t cs u v → NearSlopes e x
      → SlopesMeet (slopes_outcome W H t cs u v) (gives x)
  slopes-given {x = x} e near = subst (λ o. SlopesMeet o (gives x)) e near

  pub slopes-refused : (m : ℕ) → refused m ≡ exact_outcome W H t cs u v
      → SlopesMeet (slopes_outcome W H t cs u v) (refused m)
  slopes-refused m e =
      subst (λ o. SlopesMeet o (refused m)) (sym ((given-slopes.refusal W H t cs u v m).1 (sym e))) refl

  module _ (x : ℤ) (e : gives x ≡ exact_outcome W H t cs u v) where
    pub watts-given : (y : Float) → Near (2 ^ 30) D x y → FloatMeets (exact_outcome W H t cs u v) (gives y)
    watts-given y n = subst (λ o. FloatMeets o (gives y)) e n

    pub display-given : gives (whole_watts x) ≡ display_outcome W H t cs u v
    unfolding display_outcome exact_outcome
    display-given = gives-by (reading_cause W H t cs u v) (table_reading W H t cs u v) whole_watts e

    pub tariff-refused : (tariff : ℕ) → 99999 < tariff → refused 11 ≡ cost_outcome W H t cs u v tariff
    unfolding cost_outcome exact_outcome
    tariff-refused tariff h =
        gives-before (reading_cause W H t cs u v) 11 (table_reading W H t cs u v) (λ n. cost_of n tariff) e
        ∙ ap (λ o. answer (reading_cause W H t cs u v or_else cause 11 o) (cost_of (table_reading W H t cs u v) tariff))
        (sym (lt-ltb 99999 tariff h))

  module _ (m : ℕ) (e : refused m ≡ exact_outcome W H t cs u v) where
    pub watts-refused : FloatMeets (exact_outcome W H t cs u v) (refused m)
    watts-refused = subst (λ o. FloatMeets o (refused m)) e refl

    pub display-refused : refused m ≡ display_outcome W H t cs u v
    unfolding display_outcome exact_outcome
    display-refused = refused-by (reading_cause W H t cs u v) (table_reading W H t cs u v) whole_watts e

    pub cost-refused : (tariff : ℕ) → refused m ≡ cost_outcome W H t cs u v tariff
    unfolding cost_outcome exact_outcome
    cost-refused tariff =
        refused-before (reading_cause W H t cs u v) (cause 11 (ltb 99999 tariff)) (table_reading W H t cs u v)
        (cost_of (table_reading W H t cs u v) tariff) e
