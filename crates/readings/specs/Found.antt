-- What a reading is: the exact one, and where they are asked for the exact slopes too.
use Rattle.std.specs.Prelude.{◌≡◌, Bool, true, List, ℕ, ℤ, Result, Ok, Err}
use Rattle.surface.specs.Calls.{refused, gives, exact_outcome}
use Rattle.surface.specs.Slopes.{slopes_outcome}
use Rattle.evaluation.specs.declared.Slopes.{Slopes}
use Rattle.evaluation.specs.Evaluated.{exact_slopes}
use Rattle.answers.specs.declared.Refusal.{Refusal}
use Rattle.answers.specs.Refusals.{number}

abbrev pub FoundMeets : ℕ → ℕ → List ℕ → List ℤ → ℕ → ℕ → Bool → Result Slopes Refusal → Type 0
FoundMeets W H t cs u v sloped (Ok x) =
    (gives x.watts ≡ exact_outcome W H t cs u v)
    × (sloped ≡ true → gives (exact_slopes x) ≡ slopes_outcome W H t cs u v)
FoundMeets W H t cs u v sloped (Err e) = refused (number e) ≡ exact_outcome W H t cs u v
