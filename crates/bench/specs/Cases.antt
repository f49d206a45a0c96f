-- Further cases, for what the bench sheet leaves open: each would tell a misreading of document 01 from the words.
-- Values that are not plain in the document were worked by an unrelated evaluator with fractions (tests/evaluator).
-- Cases of `insert_outcome` are of an enquiry and a commit of its slip (surface's Slips, InsertsAsBefore).
use Rattle.std.specs.Prelude.{◌≡◌, true, List, [], ◌∷◌, ◌++◌, ℕ, ◌+◌, ◌%◌, ℤ, pos, neg_ℤ}
use lib.ListN.{length, replicate, take}
use Rattle.surface.specs.Quadtree.{bytes, region_tree}
use Rattle.surface.specs.Table.{levels, coefficients, table_cause}
use Rattle.surface.specs.Patch.{patch_reading}
use Rattle.surface.specs.Calls.{refused, gives, fresh_outcome, insert_outcome, set_outcome, activity_outcome}
use Rattle.surface.specs.Calls.{least_outcome, exact_outcome, display_outcome, cost_outcome}
use Rattle.surface.specs.Note.{none, noted, NotePart, no_part}
use Rattle.surface.specs.TableFile.{file_outcome}
use Rattle.surface.specs.BenchLoading.{Benched, bench_outcome}
use Rattle.surface.specs.Saving.{save_outcome}
use Rattle.bench.specs.Bench.{rows, zeros, S, carried_s, flat, flat700, box, refined}

-- ---- readings

-- Inside a cell, in rows and columns that differ: only (−2, 0) is 1, at (5, 77).
abbrev pub InsideCell : Type 0
InsideCell = patch_reading 1 1 (levels flat) (coefficients 1 1 (zeros 13 ++ (pos 1 ∷ zeros 197))) 5 77 ≡ pos
    3821082142339

-- ---- region trees

-- "south-west, south-east, north-west and north-east children": level 0, a split, levels 2 and 3
abbrev pub mixed : List ℕ
mixed = 4 ∷ 0 ∷ 4 ∷ 0 ∷ 0 ∷ 1 ∷ 0 ∷ 2 ∷ 3 ∷ []

-- The north-west child alone; all nine nodes, with no early stop at level 0; a box that squares only touch.
abbrev pub Children : Type 0
Children =
    (least_outcome 8 8 mixed (box 0 16 16 32) ≡ gives (record { least = 2; greatest = 2; visited = 2 }))
    × (least_outcome 8 8 mixed (box 0 0 32 32) ≡ gives (record { least = 0; greatest = 3; visited = 9 }))
    × (least_outcome 2 2 refined (box 4 0 8 8) ≡ gives (record { least = 0; greatest = 0; visited = 5 }))

-- "the greatest level under the box": the western half, with level 3 beside it; the one leaf of level 1 alone; that
-- leaf and the south-western one, with levels 2 and 3 touched.
abbrev pub GreatestLevels : Type 0
GreatestLevels =
    (least_outcome 8 8 mixed (box 0 0 16 32) ≡ gives (record { least = 0; greatest = 2; visited = 3 }))
    × (least_outcome 8 8 mixed (box 17 9 18 10) ≡ gives (record { least = 1; greatest = 1; visited = 3 }))
    × (least_outcome 8 8 mixed (box 15 15 17 16) ≡ gives (record { least = 0; greatest = 1; visited = 4 }))

-- "of 1 to 1,365 bytes": both occur, on a sheet of one level and on one whose neighbours all differ.
abbrev pub Shortest : Type 0
Shortest = bytes (region_tree 5 0 0 (λ q r. 3)) ≡ 3 ∷ []

abbrev pub Longest : Type 0
Longest = length (bytes (region_tree 5 0 0 (λ q r. (q + r) % 2))) ≡ 1365

-- A box over the third cell along u: 4 4 0 4 1 and eight 0.
abbrev pub EastBox : Type 0
EastBox =
    (insert_outcome 3 1 flat (zeros 471) (box 8 0 12 4) 1 (replicate 13 9) (zeros 471)).tree
    ≡ 4 ∷ 4 ∷ 0 ∷ 4 ∷ 1 ∷ replicate 8 0

-- ---- refusals and lent memory

-- 4 before 5: an active number past its limit counts before an earlier passive number that is not 0.
abbrev pub LimitFirst : Type 0
LimitFirst =
    (table_cause 1 1 refined (pos 1 ∷ (zeros 15 ++ (pos 2048001 ∷ zeros 194))) ≡ 4)
    × (table_cause 1 1 refined (pos 1 ∷ (zeros 15 ++ (pos 2048000 ∷ zeros 194))) ≡ 5)
    × (table_cause 1 1 flat (pos 32001 ∷ zeros 210) ≡ 4)
    × (table_cause 1 1 flat (neg_ℤ (pos 32000) ∷ zeros 210) ≡ 0)
    × (exact_outcome 0 9 [] [] 999 999 ≡ refused 1)
    × (exact_outcome 1 1 [] [] 999 999 ≡ refused 2)
    × (exact_outcome 1 1 flat [] 999 999 ≡ refused 3)

-- 17 is about the new tree: raising the whole sheet merges t17 into 13 bytes. A refused call leaves both outputs.
abbrev pub t17 : List ℕ
t17 = 4 ∷ 4 ∷ 4 ∷ 4 ∷ 1 ∷ replicate 12 0

abbrev pub NewTree : Type 0
NewTree =
    (insert_outcome 1 1 t17 (zeros 211) (box 0 0 4 4) 1 (replicate 13 9) (replicate 211 (pos 7))
    ≡ record { result = gives 13; tree = refined; numbers = zeros 211 })
    × (insert_outcome 1 1 t17 (zeros 211) (box 0 0 4 4) 1 (replicate 12 9) (replicate 211 (pos 7))
    ≡ record { result = refused 17; tree = replicate 12 9; numbers = replicate 211 (pos 7) })
    × (insert_outcome 1 1 t17 (zeros 211) (box 0 0 4 4) 1 [] (pos 7 ∷ [])
    ≡ record { result = refused 16; tree = []; numbers = pos 7 ∷ [] })
    × ((insert_outcome 1 1 t17 (zeros 211) (box 0 0 4 4) 4 [] (pos 7 ∷ [])).result ≡ refused 8)
    × ((insert_outcome 1 1 t17 (zeros 211) (box 2 0 2 4) 4 [] (pos 7 ∷ [])).result ≡ refused 7)

-- "level not 1 to 3 (insert) or 0 to 3 (set, activity)": an insertion of level 0 is refused.
abbrev pub LevelZero : Type 0
LevelZero =
    insert_outcome 1 1 flat (zeros 211) (box 0 0 4 4) 0 (replicate 13 9) (replicate 211 (pos 7))
    ≡ record { result = refused 8; tree = replicate 13 9; numbers = replicate 211 (pos 7) }

abbrev pub Activity : Type 0
Activity =
    (activity_outcome 2 1 refined 0 (replicate 19 9) ≡ record { result = refused 16; after = replicate 19 9 })
    × (activity_outcome 2 1 refined 4 (replicate 19 9) ≡ record { result = refused 8; after = replicate 19 9 })

-- (0, −3) is the fourth place of S; (1, −3) is out of range; level 1 is passive.
abbrev pub Sets : Type 0
Sets =
    (set_outcome 1 1 flat S 0 (pos 0) (neg_ℤ (pos 3)) (pos 5)
    ≡ record {
      result = gives tt;
      after = neg_ℤ (pos 1000) ∷ pos 0 ∷ pos 1000 ∷ pos 5 ∷ lib.ListN.drop 4 S;
    })
    × (set_outcome 1 1 flat S 0 (pos 1) (neg_ℤ (pos 3)) (pos 5) ≡ record { result = refused 9; after = S })
    × (set_outcome 1 1 flat S 1 (pos 0) (pos 0) (pos 5) ≡ record { result = refused 9; after = S })
    × (set_outcome 1 1 flat S 4 (pos 1) (pos 0) (pos 5) ≡ record { result = refused 8; after = S })
    × (set_outcome 1 1 flat S 0 (pos 0) (pos 0) (pos 32001) ≡ record { result = refused 10; after = S })

-- "at most 32,000×64^L in size", of set at level 1: function (1, 1) has the last place of its level.
abbrev pub SetsFine : Type 0
SetsFine =
    (set_outcome 1 1 refined (zeros 211) 1 (pos 1) (pos 1) (pos 2048000)
    ≡ record { result = gives tt; after = zeros 40 ++ (pos 2048000 ∷ zeros 170) })
    × (set_outcome 1 1 refined (zeros 211) 1 (pos 1) (pos 1) (pos 2048001)
    ≡ record { result = refused 10; after = zeros 211 })

abbrev pub Fresh : Type 0
Fresh =
    (fresh_outcome 1 1 (pos 32000) (9 ∷ 8 ∷ []) (replicate 211 (pos 7))
    ≡ record { result = gives 1; tree = 0 ∷ 8 ∷ []; numbers = replicate 16 (pos 32000) ++ zeros 195 })
    × ((fresh_outcome 1 1 (neg_ℤ (pos 32001)) [] []).result ≡ refused 10)
    × ((fresh_outcome 0 9 (neg_ℤ (pos 32001)) [] []).result ≡ refused 1)
    × ((fresh_outcome 1 1 (pos 5) [] (replicate 210 (pos 7))).result ≡ refused 16)
    × (fresh_outcome 1 1 (pos 5) [] (replicate 211 (pos 7))
    ≡ record { result = refused 17; tree = []; numbers = replicate 211 (pos 7) })

abbrev pub Declined : Type 0
Declined =
    (display_outcome 1 1 flat S 129 0 ≡ refused 6)
    × (cost_outcome 1 1 flat S 64 5 100000 ≡ refused 11)
    × (cost_outcome 1 1 flat S 129 5 100000 ≡ refused 6)

-- A passive place of the unrefined sheet that is not 0.
abbrev pub stray : List ℤ
stray = zeros 16 ++ (pos 1 ∷ zeros 194)

-- "The lowest number that applies is given": 5 before 6, 7 and 8; 9 before 10; 10 before 16; 2 before 7 and 8.
abbrev pub LowestGiven : Type 0
LowestGiven =
    (exact_outcome 1 1 flat stray 129 0 ≡ refused 5)
    × ((insert_outcome 1 1 flat stray (box 0 0 5 4) 1 flat (zeros 211)).result ≡ refused 5)
    × ((insert_outcome 1 1 flat stray (box 0 0 4 4) 0 flat (zeros 211)).result ≡ refused 5)
    × ((set_outcome 1 1 flat stray 4 (pos 0) (pos 0) (pos 5)).result ≡ refused 5)
    × ((set_outcome 1 1 flat S 0 (pos 1) (pos 0) (pos 32001)).result ≡ refused 9)
    × ((fresh_outcome 1 1 (pos 32001) flat []).result ≡ refused 10)
    × (least_outcome 1 1 (1 ∷ []) (box 0 0 5 4) ≡ refused 2)
    × ((activity_outcome 1 1 (1 ∷ []) 4 []).result ≡ refused 2)

-- ---- the table file

-- Tag 1 with W and H and tag 2 with the tree, of S and of the 2 by 1 table of 700 watts: W comes before H.
abbrev pub front_s : List ℕ
front_s = 1 ∷ 0 ∷ 2 ∷ 1 ∷ 1 ∷ 2 ∷ 0 ∷ 1 ∷ 0 ∷ []

abbrev pub front700 : List ℕ
front700 = 1 ∷ 0 ∷ 2 ∷ 2 ∷ 1 ∷ 2 ∷ 0 ∷ 1 ∷ 0 ∷ []

-- Tag 16 with S's sixteen numbers of five bytes, or with twenty of 700; tags 17 to 19 empty.
abbrev pub levels_s : List ℕ
levels_s =
    (16 ∷ 0 ∷ 80 ∷ [])
    ++ (rows 4
    ((255 ∷ 255 ∷ 255 ∷ 252 ∷ 24 ∷ 0 ∷ 0 ∷ 0 ∷ 0 ∷ 0 ∷ [])
    ++ (0 ∷ 0 ∷ 0 ∷ 3 ∷ 232 ∷ 0 ∷ 0 ∷ 0 ∷ 7 ∷ 208 ∷ []))
    ++ (17 ∷ 0 ∷ 0 ∷ 18 ∷ 0 ∷ 0 ∷ 19 ∷ 0 ∷ 0 ∷ []))

abbrev pub levels700 : List ℕ
levels700 =
    (16 ∷ 0 ∷ 100 ∷ [])
    ++ (rows 20 (0 ∷ 0 ∷ 0 ∷ 2 ∷ 188 ∷ []) ++ (17 ∷ 0 ∷ 0 ∷ 18 ∷ 0 ∷ 0 ∷ 19 ∷ 0 ∷ 0 ∷ []))

-- Files lacking the counts, as document 01 has them.
abbrev pub file_s : List ℕ
file_s = front_s ++ levels_s

abbrev pub file700 : List ℕ
file700 = front700 ++ levels700

-- Document 02, "Counts in the file": tag 3 with these numbers of active functions, all below 256.
abbrev pub counts : ℕ → ℕ → ℕ → ℕ → List ℕ
counts n0 n1 n2 n3 = 3 ∷ 0 ∷ 8 ∷ 0 ∷ n0 ∷ 0 ∷ n1 ∷ 0 ∷ n2 ∷ 0 ∷ n3 ∷ []

-- The file of S, and the same with other bytes for its counts.
abbrev pub counted_s : List ℕ → List ℕ
counted_s field = front_s ++ (field ++ levels_s)

abbrev pub Files : Type 0
Files =
    (file_outcome file_s (9 ∷ 8 ∷ []) (replicate 211 (pos 7))
    ≡ record { result = gives (record { tree_length = 1; W = 1; H = 1 }); tree = 0 ∷ 8 ∷ []; numbers = S })
    × (file_outcome file700 (9 ∷ []) (replicate 341 (pos 7))
    ≡ record { result = gives (record { tree_length = 1; W = 2; H = 1 }); tree = flat; numbers = flat700 })
    × (file_outcome (take 100 file_s) (9 ∷ []) (pos 7 ∷ []) ≡ record
    { result = refused 12; tree = 9 ∷ []; numbers = pos 7 ∷ [] })
    × ((file_outcome (file_s ++ (0 ∷ [])) [] []).result ≡ refused 15)
    × ((file_outcome file_s [] []).result ≡ refused 16)
    × (file_outcome file_s [] (replicate 211 (pos 7)) ≡ record
    { result = refused 17; tree = []; numbers = replicate 211 (pos 7) })

-- "Files lacking it are still loaded"; with the counts S's file loads the same. A count that differs is 20, be it of
-- level 0 or 3 or with its bytes exchanged, "with the contents of tag 3": after its whole body, and before the cut head
-- of tag 16. Where neither tag 3 nor tag 16 stands it is 13, so also for a second tag 3; another length is 14.
abbrev pub CountedFiles : Type 0
CountedFiles =
    (file_outcome (counted_s (counts 16 0 0 0)) (9 ∷ 8 ∷ []) (replicate 211 (pos 7))
    ≡ record { result = gives (record { tree_length = 1; W = 1; H = 1 }); tree = 0 ∷ 8 ∷ []; numbers = S })
    × (file_outcome (counted_s (counts 17 0 0 0)) (9 ∷ []) (pos 7 ∷ []) ≡ record
    { result = refused 20; tree = 9 ∷ []; numbers = pos 7 ∷ [] })
    × ((file_outcome (counted_s (counts 16 0 0 1)) [] []).result ≡ refused 20)
    × ((file_outcome (counted_s (counts 0 0 0 16)) [] []).result ≡ refused 20)
    × ((file_outcome (counted_s (3 ∷ 0 ∷ 8 ∷ 16 ∷ 0 ∷ 0 ∷ 0 ∷ 0 ∷ 0 ∷ 0 ∷ 0 ∷ [])) [] []).result ≡ refused 20)
    × ((file_outcome (front_s ++ (counts 17 0 0 0 ++ (16 ∷ []))) [] []).result ≡ refused 20)
    × ((file_outcome (front_s ++ (counts 16 0 0 0 ++ (16 ∷ []))) [] []).result ≡ refused 12)
    × ((file_outcome (front_s ++ (3 ∷ 0 ∷ 8 ∷ 0 ∷ 17 ∷ 0 ∷ 0 ∷ 0 ∷ 0 ∷ 0 ∷ [])) [] []).result ≡ refused 12)
    × ((file_outcome (front_s ++ (3 ∷ 0 ∷ [])) [] []).result ≡ refused 12)
    × ((file_outcome (front_s ++ (counts 16 0 0 0 ++ counts 16 0 0 0)) [] []).result ≡ refused 13)
    × ((file_outcome (front_s ++ (4 ∷ 0 ∷ 8 ∷ [])) [] []).result ≡ refused 13)
    × ((file_outcome (front_s ++ (3 ∷ 0 ∷ 7 ∷ [])) [] []).result ≡ refused 14)

-- The file of S with level 1 on the whole sheet: no number of level 0, five rows of -32,000 to 96,000 of level 1.
abbrev pub file_refined : List ℕ
file_refined =
    (1 ∷ 0 ∷ 2 ∷ 1 ∷ 1 ∷ 2 ∷ 0 ∷ 13 ∷ [])
    ++ (refined ++ (counts 0 25 0 0 ++ ((16 ∷ 0 ∷ 0 ∷ 17 ∷ 0 ∷ 125 ∷ [])
    ++ (rows 5
    (255 ∷ 255 ∷ 255 ∷ 131 ∷ 0 ∷ 0 ∷ 0 ∷ 0 ∷ 0 ∷ 0 ∷ 0 ∷ 0 ∷ 0 ∷ 125 ∷ 0 ∷ 0 ∷ 0 ∷ 0 ∷ 250 ∷ 0 ∷ 0 ∷ 0 ∷ 1 ∷ 119 ∷ 0
    ∷ [])
    ++ (18 ∷ 0 ∷ 0 ∷ 19 ∷ 0 ∷ 0 ∷ [])))))

-- Document 02, "Saving a table": "The file's length is returned"; "bytes past the file are untouched"; 18 for an output
-- that is one byte shorter, "judged last": 4 comes before it. "Counts in the file": "The writer always puts it".
abbrev pub SavedFiles : Type 0
SavedFiles =
    (save_outcome 1 1 flat S none (replicate 114 7)
    ≡ record { result = gives 112; after = counted_s (counts 16 0 0 0) ++ (7 ∷ 7 ∷ []) })
    × (save_outcome 2 1 flat flat700 none (replicate 132 7)
    ≡ record { result = gives 132; after = front700 ++ (counts 20 0 0 0 ++ levels700) })
    × (save_outcome 1 1 refined carried_s none (replicate 169 7) ≡ record { result = gives 169; after = file_refined })
    × (save_outcome 1 1 flat S none (replicate 111 7) ≡ record { result = refused 18; after = replicate 111 7 })
    × (save_outcome 1 1 flat (pos 32001 ∷ zeros 210) none (7 ∷ []) ≡ record { result = refused 4; after = 7 ∷ [] })

-- Document 02, "A bench note": S's file of 101 bytes loads the same with a note after it. "kiln" stands from byte 104
-- on; a note of no bytes stands there; 64 bytes are a note. "with none there, or a refused call, it says none".
abbrev pub kiln : List ℕ
kiln = 107 ∷ 105 ∷ 108 ∷ 110 ∷ []

abbrev pub bench_s : List ℕ → Benched
bench_s note = bench_outcome (file_s ++ note) (9 ∷ 8 ∷ []) (replicate 211 (pos 7))

-- S, and this part of the file
abbrev pub read_s : NotePart → Benched
read_s part =
    record {
      loaded = record { result = gives (record { tree_length = 1; W = 1; H = 1 }); tree = 0 ∷ 8 ∷ []; numbers = S };
      note = part;
    }

abbrev pub NotedFiles : Type 0
NotedFiles =
    (bench_s (32 ∷ 0 ∷ 4 ∷ kiln) ≡ read_s (record { stands = true; offset = 104; size = 4 }))
    × (bench_s (32 ∷ 0 ∷ 0 ∷ []) ≡ read_s (record { stands = true; offset = 104; size = 0 }))
    × (bench_s (32 ∷ 0 ∷ 64 ∷ replicate 64 32) ≡ read_s (record { stands = true; offset = 104; size = 64 }))
    × (bench_s [] ≡ read_s no_part)
    × (bench_outcome (file_s ++ (32 ∷ 0 ∷ 4 ∷ kiln)) (9 ∷ []) (pos 7 ∷ [])
    ≡ record { loaded = record { result = refused 16; tree = 9 ∷ []; numbers = pos 7 ∷ [] }; note = no_part })
    × (file_outcome (file_s ++ (32 ∷ 0 ∷ 4 ∷ kiln)) (9 ∷ 8 ∷ []) (replicate 211 (pos 7)) ≡ (read_s no_part).loaded)

-- "malformed under 12 or 14", all before 16: a cut head, a length above 64 before the body's end, a cut body. "a byte
-- other than 32 is 15, and so is any byte past the note": also a second note. A note before tag 16 is 13.
abbrev pub NotesRefused : Type 0
NotesRefused =
    ((file_outcome (file_s ++ (32 ∷ [])) [] []).result ≡ refused 12)
    × ((file_outcome (file_s ++ (32 ∷ 0 ∷ [])) [] []).result ≡ refused 12)
    × ((file_outcome (file_s ++ (32 ∷ 0 ∷ 65 ∷ kiln)) [] []).result ≡ refused 14)
    × ((file_outcome (file_s ++ (32 ∷ 1 ∷ 0 ∷ [])) [] []).result ≡ refused 14)
    × ((file_outcome (file_s ++ (32 ∷ 0 ∷ 5 ∷ kiln)) [] []).result ≡ refused 12)
    × ((file_outcome (file_s ++ (33 ∷ 0 ∷ 65 ∷ [])) [] []).result ≡ refused 15)
    × ((file_outcome (file_s ++ (32 ∷ 0 ∷ 3 ∷ kiln)) [] []).result ≡ refused 15)
    × ((file_outcome (file_s ++ (32 ∷ 0 ∷ 0 ∷ 32 ∷ 0 ∷ 0 ∷ [])) [] []).result ≡ refused 15)
    × ((file_outcome (front_s ++ (32 ∷ 0 ∷ 0 ∷ levels_s)) [] []).result ≡ refused 13)

-- "The writer takes a note or none; a lent note above 64 bytes gives 14": after 4, before 18, and nothing is written.
abbrev pub SavedNotes : Type 0
SavedNotes =
    (save_outcome 1 1 flat S (noted kiln) (replicate 120 7)
    ≡ record { result = gives 119; after = counted_s (counts 16 0 0 0) ++ (32 ∷ 0 ∷ 4 ∷ kiln) ++ (7 ∷ []) })
    × (save_outcome 1 1 flat S (noted []) (replicate 115 7)
    ≡ record { result = gives 115; after = counted_s (counts 16 0 0 0) ++ (32 ∷ 0 ∷ 0 ∷ []) })
    × (save_outcome 1 1 flat S (noted kiln) (replicate 118 7) ≡ record { result = refused 18; after = replicate 118 7 })
    × (save_outcome 1 1 flat S (noted (replicate 65 32)) (7 ∷ []) ≡ record { result = refused 14; after = 7 ∷ [] })
    × ((save_outcome 1 1 flat (pos 32001 ∷ zeros 210) (noted (replicate 65 32)) []).result ≡ refused 4)

-- "whole head, tag, length, whole body, contents"
abbrev pub Heads : Type 0
Heads =
    ((file_outcome [] [] []).result ≡ refused 12)
    × ((file_outcome (16 ∷ []) [] []).result ≡ refused 12)
    × ((file_outcome (16 ∷ 0 ∷ 0 ∷ []) [] []).result ≡ refused 13)
    × ((file_outcome (1 ∷ 2 ∷ 0 ∷ []) [] []).result ≡ refused 14)
    × ((file_outcome (1 ∷ 0 ∷ 2 ∷ 1 ∷ []) [] []).result ≡ refused 12)
    × ((file_outcome (1 ∷ 0 ∷ 2 ∷ 1 ∷ 9 ∷ []) [] []).result ≡ refused 1)
    × ((file_outcome (1 ∷ 0 ∷ 2 ∷ 1 ∷ 1 ∷ 2 ∷ 0 ∷ 0 ∷ []) [] []).result ≡ refused 14)
    × ((file_outcome (1 ∷ 0 ∷ 2 ∷ 1 ∷ 1 ∷ 2 ∷ 0 ∷ 1 ∷ 1 ∷ []) [] []).result ≡ refused 2)

-- A 1 by 1 file that ends after tag 16's body: fifteen coefficients of 0 and one of 256×n + 1.
abbrev pub cut_after16 : ℕ → List ℕ
cut_after16 n = (1 ∷ 0 ∷ 2 ∷ 1 ∷ 1 ∷ 2 ∷ 0 ∷ 1 ∷ 0 ∷ 16 ∷ 0 ∷ 80 ∷ []) ++ (replicate 78 0 ++ (n ∷ 1 ∷ []))

-- A field's "contents" before the next head: 32,001 gives 4; with 31,745 what counts is that tag 17 is missing.
abbrev pub ContentsFirst : Type 0
ContentsFirst =
    ((file_outcome (cut_after16 125) [] []).result ≡ refused 4)
    × ((file_outcome (cut_after16 124) [] []).result ≡ refused 12)
