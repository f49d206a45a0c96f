-- Document 01, "The sheet and its grids": sides, cells, function indices and points.
-- Both directions are alike, so a definition takes the side n (W or H) that it speaks of.
use Rattle.std.specs.Prelude.{Bool, ◌&&◌, ℕ, ◌+◌, ◌-◌, ◌*◌, ◌/◌, ◌^◌, min, leb}

-- "The sheet is W by H cells of level 0, each side 1 to 8."
abbrev pub good_side : ℕ → Bool
good_side n = leb 1 n && leb n 8

-- "There are levels 0 to 3; each level halves the cells": the cells of level L along a side of n.
abbrev pub cells : ℕ → ℕ → ℕ
cells n L = n * 2 ^ L

-- "i runs from −3 to W×2^L − 1": the functions of level L along a side of n. Function i has the index a = i + 3.
abbrev pub functions : ℕ → ℕ → ℕ
functions n L = cells n L + 3

-- The side of a level L cell in level 3 cells, which are eighths of a level 0 cell: 8, 4, 2, 1.
unfoldable pub eighths : ℕ → ℕ
eighths L = 2 ^ (3 - L)

-- The same in steps: "steps of 1/128 cell", so 128, 64, 32, 16.
abbrev pub steps : ℕ → ℕ
steps L = 16 * eighths L

-- "A point is (u, v) ... 0 to 128×W and 0 to 128×H, far edges included."
abbrev pub on_sheet : ℕ → ℕ → ℕ → ℕ → Bool
on_sheet W H u v = leb u (128 * W) && leb v (128 * H)

-- "A quarter is a quarter of a level 0 cell's side": the quarter squares along a side of n.
abbrev pub quarters : ℕ → ℕ
quarters n = 4 * n

-- The quarter that holds a point, along a side of n; document 02, Four: "on a shared edge the one of greater u or v,
-- at a far edge the last".
abbrev pub quarter_of : ℕ → ℕ → ℕ
quarter_of n u = min (u / 32) (quarters n - 1)

-- "A box is two corners in whole quarters, low corner first, u before v."
pub record Box : Type 0 where
  pub u0 : ℕ
  pub v0 : ℕ
  pub u1 : ℕ
  pub v1 : ℕ

-- Document 02, Four: "the quarter square holding its point", as a box.
abbrev pub quarter_box : ℕ → ℕ → ℕ → ℕ → Box
quarter_box W H u v =
    record { u0 = quarter_of W u; v0 = quarter_of H v; u1 = quarter_of W u + 1; v1 = quarter_of H v + 1 }
