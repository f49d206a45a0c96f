-- The bench sheet's insertion among linked calls: a list that was made as promised, and the table that it leaves.
use Rattle.std.specs.Prelude.{◌≡◌, refl, List, [], ◌∷◌, ◌++◌, ℕ, ℤ, pos, replicate}
use Rattle.surface.specs.Demands.{Contents}
use Rattle.bench.specs.Bench.{S, carried_s, flat, box, refined, slip, slip_s}
use Rattle.demands.specs.DemandThree.{Kept, standing}
use Rattle.demands.specs.LinkedPromises.{KilnExactPromise}
use Rattle.demands.specs.LinkedDemandThree.{LinkedEnquire, LinkedCommit, LinkedMade, kiln_enquire, kiln_commit}
use Rattle.demands.specs.LinkedDemandThree.{LinkedAsPromised, left_by_linked}

-- "Box 0,0 to 5,4 gives 7": what stands at the enquiry's parameters stays.
abbrev pub past_the_sheet : LinkedEnquire
past_the_sheet =
    record {
      lent = record { box = box 0 0 5 4; level = 1 };
      length₀ = 77;
      active₀ = 9 ∷ 8 ∷ 7 ∷ 6 ∷ [];
      visited₀ = 78;
      code = 7;
      length = 77;
      active = 9 ∷ 8 ∷ 7 ∷ 6 ∷ [];
      visited = 78;
    }

-- "S, level 1 box 0,0 to 4,4: tree 4 4 4 1 and nine 0; 25 active", "4 nodes", as they are told.
abbrev pub enquired : LinkedEnquire
enquired =
    record {
      lent = record { box = box 0 0 4 4; level = 1 };
      length₀ = 77;
      active₀ = 9 ∷ 8 ∷ 7 ∷ 6 ∷ [];
      visited₀ = 78;
      code = 0;
      length = 13;
      active = 0 ∷ 25 ∷ 0 ∷ 0 ∷ [];
      visited = 4;
    }

-- A slip of S's own tree: 19, though neither output will do.
abbrev pub old_slip : LinkedCommit
old_slip =
    record {
      lent = record { slip = slip (box 0 0 4 4) 1 1 16 0 0 0 1; tree_out = 9 ∷ []; numbers_out = [] };
      tree_length₀ = 77;
      code = 19;
      tree_length = 77;
      tree = 9 ∷ [];
      numbers = [];
    }

-- The slip that was told: columns −32,000 to 96,000. The tree output has a byte more.
abbrev pub whole_sheet : LinkedCommit
whole_sheet =
    record {
      lent = record { slip = slip_s; tree_out = replicate 14 9; numbers_out = replicate 211 (pos 9) };
      tree_length₀ = 77;
      code = 0;
      tree_length = 13;
      tree = refined ++ (9 ∷ []);
      numbers = carried_s;
    }

-- An enquiry of the refined sheet that is accepted: nothing is inserted.
abbrev pub enquired_finer : LinkedEnquire
enquired_finer =
    record {
      lent = record { box = box 3 0 4 1; level = 3 };
      length₀ = 77;
      active₀ = 9 ∷ 8 ∷ 7 ∷ 6 ∷ [];
      visited₀ = 78;
      code = 0;
      length = 21;
      active = 0 ∷ 25 ∷ 0 ∷ 4 ∷ [];
      visited = 6;
    }

abbrev pub table_s : Contents
table_s = record { tree = flat; numbers = S }

-- From S: a refused enquiry, one that is not, a refused commit, one that is not; then the two enquiries again, which
-- read the refined table, and leave it.
abbrev pub bench_calls : List LinkedMade
bench_calls =
    kiln_enquire past_the_sheet
    ∷ kiln_enquire enquired
    ∷ kiln_commit old_slip
    ∷ kiln_commit whole_sheet
    ∷ kiln_enquire past_the_sheet
    ∷ kiln_enquire enquired_finer
    ∷ []

abbrev pub BenchLeft : Type 0
BenchLeft = standing left_by_linked table_s bench_calls ≡ record { tree = refined; numbers = carried_s }

-- It computes.
pub bench-left : BenchLeft
unfolding standing
bench-left = refl

-- The list was made as promised; "S at (64, 5): numerator 500×D", also after the list. Proved in
-- proofs/LinkedBench.antt.
pub record LinkedBench : Type 0 where
  pub made : Kept (LinkedAsPromised 1 1) left_by_linked table_s bench_calls
  pub leaves : BenchLeft
  pub reads : (code : ℕ) (old n : ℤ)
      → KilnExactPromise 1 1 (standing left_by_linked table_s bench_calls) 64 5 code old n
      → (code ≡ 0) × (n ≡ pos 79164837199872000)
