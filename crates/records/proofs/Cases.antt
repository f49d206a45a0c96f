-- The run that is written out, by computing each call's outcome.
use Rattle.std.specs.Prelude.{Ok, Err}
use mathlib.Core.Path.{refl}
use Rattle.finite.specs.Range.{table_from}
use Rattle.surface.specs.Window.{record_outcome, folded, figures_outcome}
use Rattle.answers.specs.declared.Refusal.TheVariants.{Record}
use Rattle.records.specs.Lists.{Kept, standing}
use Rattle.records.specs.Run.{accepted}
use Rattle.records.specs.Cases.{RunWrittenOut}

pub run-written-out : RunWrittenOut
unfolding record_outcome Kept standing accepted figures_outcome folded table_from
run-written-out =
    record {
      calls = record {
        begun = refl;
        none = refl;
        made = (
          (Ok (record { held = 1; oldest = 1 }), (refl, refl), refl, refl),
          (
            (Err Record, (refl, refl), refl, refl),
            (
              (Ok (record { held = 2; oldest = 1 }), (refl, refl), refl, refl),
              ((Ok (record { held = 2; oldest = 0 }), (refl, refl), refl, refl), tt),
            ),
          ),
        );
      };
      linked = record {
        begun = refl;
        none = refl;
        made = (
          (0, ((refl, refl), refl), refl),
          ((23, ((refl, refl), refl), refl), ((0, ((refl, refl), refl), refl), ((0, ((refl, refl), refl), refl), tt))),
        );
      };
      taken = refl;
      last = refl;
      left = refl;
      told = refl;
    }
