-- Cases of document 02's enquiry and commit on the bench sheet, which tell misreadings apart. Proved in
-- proofs/SlipCases.antt.
use Rattle.std.specs.Prelude.{◌≡◌, false, List, [], ℕ, ℤ, pos, replicate}
use Rattle.surface.specs.Calls.{refused, gives}
use Rattle.surface.specs.Enquiry.{Slip, enquiry_outcome, same_slip, commit_outcome}
use Rattle.bench.specs.Bench.{zeros, S, carried_s, flat700, flat, box, refined, slip, slip_s, slip_two_by_one}
use Rattle.bench.specs.Cases.{t17, stray}

-- Whatever else a slip of that box and level tells, S refuses it with 19, with any outputs.
abbrev pub OthersRefused : Type 0
OthersRefused =
    (s : Slip) → s.box ≡ box 0 0 4 4 → s.level ≡ 1 → same_slip s slip_s ≡ false
    → (tree_out : List ℕ) (numbers_out : List ℤ)
    → commit_outcome 1 1 flat S s tree_out numbers_out
    ≡ record { result = refused 19; tree = tree_out; numbers = numbers_out }

pub record SlipCases : Type 0 where
  -- over the new tree; S's own has one byte, 16 active functions, all of level 0, and one node
  pub of_s : enquiry_outcome 1 1 flat S (box 0 0 4 4) 1 ≡ gives slip_s
  -- "2 by 1, the same box: 16 active at level 0, 10 at level 1"
  pub two_by_one : enquiry_outcome 2 1 flat flat700 (box 0 0 4 4) 1 ≡ gives slip_two_by_one
  -- a tree of 17 bytes that becomes shorter: the slip is the one that S gives, and S takes it (BenchSheet, inserted)
  pub shorter : enquiry_outcome 1 1 t17 (zeros 211) (box 0 0 4 4) 1 ≡ gives slip_s
  -- the quarter in a corner, at level 3: four functions of level 3, i = 6 or 7 and j = −3 or −2, have their cut support
  -- in it, and no other function changes
  pub corner : enquiry_outcome 1 1 flat S (box 3 0 4 1) 3 ≡ gives (slip (box 3 0 4 1) 3 21 16 0 0 4 6)
  -- the same quarter of the refined sheet, whose 25 functions of level 1 stay active
  pub finer : enquiry_outcome 1 1 refined carried_s (box 3 0 4 1) 3 ≡ gives (slip (box 3 0 4 1) 3 21 0 25 0 4 6)
  -- of the whole sheet S takes that one slip alone, wherever it came from
  pub others : OthersRefused
  -- the slip of the old tree, in part or whole
  pub old_tree : (commit_outcome 1 1 flat S (slip (box 0 0 4 4) 1 1 16 0 0 0 1) [] []).result ≡ refused 19
  pub old_length : (commit_outcome 1 1 flat S (slip (box 0 0 4 4) 1 1 0 25 0 0 4) [] []).result ≡ refused 19
  pub old_counts : (commit_outcome 1 1 flat S (slip (box 0 0 4 4) 1 13 16 0 0 0 4) [] []).result ≡ refused 19
  pub old_nodes : (commit_outcome 1 1 flat S (slip (box 0 0 4 4) 1 13 0 25 0 0 1) [] []).result ≡ refused 19
  -- 19 is "after 8 and before 16": 5 before 7, 7 before 8, 8 before 19, and 16 and 17 after it
  pub five : (commit_outcome 1 1 flat stray (slip (box 0 0 5 4) 0 0 0 0 0 0 0) [] []).result ≡ refused 5
  pub seven : (commit_outcome 1 1 flat S (slip (box 0 0 5 4) 0 0 0 0 0 0 0) [] []).result ≡ refused 7
  pub eight : (commit_outcome 1 1 flat S (slip (box 0 0 4 4) 4 13 0 25 0 0 4) [] []).result ≡ refused 8
  pub sixteen : (commit_outcome 1 1 flat S slip_s [] []).result ≡ refused 16
  pub seventeen : (commit_outcome 1 1 flat S slip_s (replicate 12 9) (replicate 211 (pos 9))).result ≡ refused 17
