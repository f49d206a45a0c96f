-- Document 02, Nine: which table there is, of two grids on a sheet of 1 by 1, over the tree that keeps it at level 0.
-- For one there is a table and for the other there is none. Proved in proofs/Cases.antt, each under its name in small
-- letters.
use Rattle.std.specs.Prelude.{List, [], ◌∷◌, ◌++◌, ℕ, ℤ, pos, replicate}
use Rattle.surface.specs.Grid.{no_table, the_table, ConvertsTo}

abbrev pub flat : List ℕ
flat = 0 ∷ []

-- 7 watts for each function of level 0, and 0 for those of levels 1 to 3
abbrev pub sevens : List ℤ
sevens = replicate 16 (pos 7) ++ replicate 195 (pos 0)

-- 7 watts for each function of level 3, in units of 1/64^3 watt
abbrev pub SomeTable : Type 0
SomeTable = ConvertsTo 1 1 flat (replicate 121 (pos 1835008)) (the_table sevens)

-- One unit for the first function of level 3 and 0 for the others: no table, since over this tree the carried value of
-- that function is a multiple of 16.
abbrev pub NoTableThere : Type 0
NoTableThere = ConvertsTo 1 1 flat (pos 1 ∷ replicate 120 (pos 0)) no_table
