-- Where the slopes are given, that they are refused as the exact reading is, and that their watts keep their bound.
use mathlib.Core.Path.{◌≡◌, ap}
use Prim.Native.Nat.{ℕ, zero, suc}
use native.Mathlib.Omega.{arith}
use Rattle.surface.specs.Sheet.{on_sheet}
use Rattle.surface.specs.Table.{◌or_else◌, table_cause}
use Rattle.surface.specs.Calls.{Answer, refused, gives, answer, reading_cause, point_cause, exact_outcome}
use Rattle.surface.specs.FloatReading.{FloatMeets}
use Rattle.surface.specs.Slopes.{ExactSlopes, FloatSlopes, table_slopes, slopes_outcome, SlopesMeet}
use Rattle.surface.specs.Derivatives.{watts_of, SlopesGiven}
use Rattle.surface.proofs.Causes.{or_else-none, cause-none}
use Rattle.surface.proofs.RefusalLaws.{answer-gives, answer-refused}

-- two outcomes by one cause are refused alike
alike : {A B : Type 0} (c : ℕ) (a : A) (b : B) (n : ℕ) → answer c a ≡ refused n → answer c b ≡ refused n
alike zero a b n e = absurd (omega (arith, answer-refused 0 a n e))
alike (suc c) a b n e = ap refused (answer-refused (suc c) a n e).0

-- a record that meets the outcome by a cause has watts that meet the reading's by the same cause
watts-meet : (c : ℕ) (e : ExactSlopes) (given : Answer FloatSlopes) → SlopesMeet (answer c e) given
    → FloatMeets (answer c e.watts) (watts_of given)
watts-meet zero e (refused n) m = absurd m
watts-meet zero e (gives x) m = m.watts
watts-meet (suc c) e (refused n) m = m
watts-meet (suc c) e (gives x) m = absurd m

pub slopes-given : SlopesGiven
unfolding slopes_outcome exact_outcome reading_cause
slopes-given =
    record {
      given = λ W H t cs u v e. (
        λ h.
            let g = answer-gives (table_cause W H t cs or_else point_cause W H u v) (table_slopes W H t cs u v) e h in
            let c = or_else-none (table_cause W H t cs) (point_cause W H u v) g.0 in
            (c.0, cause-none 5 (on_sheet W H u v) c.1, g.1),
        λ h. rw (h.0, h.1, h.2),
      );
      refusal = λ W H t cs u v n. (
        alike (table_cause W H t cs or_else point_cause W H u v) _ _ n,
        alike (table_cause W H t cs or_else point_cause W H u v) _ _ n,
      );
      watts = λ W H t cs u v. watts-meet (table_cause W H t cs or_else point_cause W H u v) (table_slopes W H t cs u v);
    }
