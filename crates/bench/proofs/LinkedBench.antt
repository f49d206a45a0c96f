-- The bench sheet's insertion among linked calls, by the bench sheet's own cases and by demand 3.
use mathlib.Core.Path.{refl, sym, subst}
use mathlib.Core.List.{[], ◌∷◌}
use lib.IntN.{pos}
use Rattle.surface.specs.Table.{Acceptable}
use Rattle.surface.specs.Demands.{Contents}
use Rattle.bench.specs.Bench.{S, carried_s, flat, box, refined, slip, slip_s}
use Rattle.bench.proofs.Bench.{bench-sheet}
use Rattle.bench.proofs.SlipCases.{slip-cases}
use Rattle.surface.proofs.Demands.{reading-given}
use Rattle.demands.specs.DemandThree.{Kept, standing}
use Rattle.answers.specs.Codes.{TableWritten}
use Rattle.demands.specs.LinkedDemandThree.{kiln_enquire, kiln_commit, LinkedAsPromised, left_by_linked}
use Rattle.bench.specs.LinkedBench.{table_s, past_the_sheet, enquired, old_slip, whole_sheet, enquired_finer}
use Rattle.bench.specs.LinkedBench.{bench_calls, bench-left, LinkedBench}
use Rattle.answers.proofs.CodeLaws.{slip-given, slip-refused, number-given}
use Rattle.demands.proofs.LinkedDemandThree.{linked-demand-three}

-- the box past the sheet is refused on every acceptable table
past : (c : Contents) → Acceptable 1 1 c.tree c.numbers → LinkedAsPromised 1 1 c (kiln_enquire past_the_sheet)
past c acc =
    slip-refused 7 77 78 past_the_sheet.active₀ (sym (bench-sheet.wide_box.1 c.tree c.numbers 1 acc))

told : LinkedAsPromised 1 1 table_s (kiln_enquire enquired)
told = slip-given slip_s 77 78 enquired.active₀ (sym slip-cases.of_s)

old : LinkedAsPromised 1 1 table_s (kiln_commit old_slip)
old =
    subst (λ o. TableWritten o 19 77 77 (9 ∷ []) [])
    (sym (slip-cases.others old_slip.lent.slip refl refl refl (9 ∷ []) [])) ((refl, refl), refl, refl)

whole : LinkedAsPromised 1 1 table_s (kiln_commit whole_sheet)
whole =
    subst (λ o. TableWritten o 0 77 13 whole_sheet.tree carried_s) (sym bench-sheet.inserted)
    ((refl, refl), refl, refl)

finer : LinkedAsPromised 1 1 (record { tree = refined; numbers = carried_s }) (kiln_enquire enquired_finer)
finer = slip-given (slip (box 3 0 4 1) 3 21 0 25 0 4 6) 77 78 enquired_finer.active₀ (sym slip-cases.finer)

S-acceptable : Acceptable 1 1 flat S
S-acceptable = ((reading-given 1 1 flat S 64 5 (pos 79164837199872000)).0 bench-sheet.slope.0).0

refined-acceptable : Acceptable 1 1 refined carried_s
unfolding Kept standing
refined-acceptable = (linked-demand-three.lists 1 1 table_s (kiln_commit whole_sheet ∷ []) S-acceptable (whole, tt)).0

made : Kept (LinkedAsPromised 1 1) left_by_linked table_s bench_calls
unfolding Kept
made =
    let refined-table : Contents = record { tree = refined; numbers = carried_s } in
    (past table_s S-acceptable, (told, (old, (whole, (past refined-table refined-acceptable, (finer, tt))))))

-- S reads 500×D by the bench sheet, and after the list by demand 3
pub linked-bench : LinkedBench
linked-bench =
    record {
      made = made;
      leaves = bench-left;
      reads = λ code old n p.
          let half = pos 79164837199872000 in
          let s = (linked-demand-three.lists 1 1 table_s bench_calls S-acceptable made).1 64 5 0 code old half old n
          (number-given half old (sym bench-sheet.slope.0)) p in
          (s.same_code, s.same_numerator s.same_code);
    }
