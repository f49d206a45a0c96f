-- The refusals of both calls of a window: each has one of the call's numbers.
use mathlib.Core.Path.{refl}
use mathlib.Core.Bool.{not, ◌&&◌}
use mathlib.Core.List.{List, [], ◌∷◌}
use Prim.Native.Nat.{ℕ}
use lib.IntN.{ℤ, nat_abs}
use lib.Dec.{leb, ltb}
use lib.ListN.{length, set, length-set}
use Rattle.surface.specs.Table.{cause}
use Rattle.surface.specs.Window.{WindowState, window_cause, record_cause, new_place, new_state, record_outcome}
use Rattle.surface.specs.Window.{records_held, figures_of, figures_outcome}
use Rattle.surface.specs.Demands.{RefusesWith, WritesSliceOrNothing}
use Rattle.surface.specs.WindowDemands.{WindowRefusals}
use Rattle.surface.proofs.RefusalLaws.{OneOf, one-or, one-cause, sent, slice-or-nothing}

one-window : (js : List ℕ) → OneOf 22 js → (n : ℕ) (s : WindowState) → OneOf (window_cause n s) js
one-window js h n s =
    one-cause 22 (not (leb 1 n && leb n 1440 && (leb s.held n && ltb s.oldest n))) js h

pub record-refusals : (window : List ℤ) (s : WindowState) (watts : ℤ)
    → WritesSliceOrNothing (22 ∷ 23 ∷ []) (record_outcome window s watts) window
unfolding record_outcome
record-refusals window s watts =
    let js : List ℕ = 22 ∷ 23 ∷ [] in
    let n = length window in
    slice-or-nothing js (record_cause n s watts) (new_state n s) window (set window (new_place n s) watts)
    (one-or (window_cause n s) (cause 23 (ltb 32000 (nat_abs watts))) js (one-window js refl n s)
    (one-cause 23 (ltb 32000 (nat_abs watts)) js refl))
    (λ e. length-set window (new_place n s) watts)

pub figures-refusals : (window : List ℤ) (s : WindowState) → RefusesWith (22 ∷ []) (figures_outcome window s)
unfolding figures_outcome
figures-refusals window s =
    let js : List ℕ = 22 ∷ [] in
    sent (window_cause (length window) s) (figures_of (records_held window s)) js (one-window js refl (length window) s)

pub window-refusals : WindowRefusals
window-refusals = record { add_record = record-refusals; window_figures = figures-refusals }
