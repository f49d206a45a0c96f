-- `near_region` meets its contract: each column from the marks of four rows.
use mathlib.Core.Path.{refl}
use Prim.Native.Nat.{ℕ, ◌+◌, ◌*◌, ◌≤◌, ◌<◌}
use native.Mathlib.Nat.{add-zero}
use native.Mathlib.Omega.{arith}
use Rattle.surface.specs.Sheet.{functions}
use Rattle.rows.specs.Rows.{levels_of}
use Rattle.activity.proofs.ActiveLaws.{index-fits}
use Rattle.activity.proofs.NearLaws.{near-columns}
use Rattle.activity.proofs.WindowLaws.{eighths-le, eighths-some, row-size}
use lib.Dec.{lit<}
use Rattle.activity.proofs.near.near_region.Goals.{After-eighths-e, Start}
use Rattle.activity.proofs.near.near_region.Goals as goal

-- what a column asks of its place
asks : (c : After-eighths-e) (k : ℕ) → k < 4
    → ((c.args.a + k) * c.eighths-e.result ≤ 88) × (c.eighths-e.result ≤ 8)
asks c k hk =
    let level = c.args.level in
    let n = functions c.args.w level in
    let e = c.eighths-e.result in (
      index-fits n (c.args.a + k) e
          (row-size c.args.w level n e c.requires.0 c.requires.3 refl c.eighths-e.ensures)
          (omega (arith, c.eighths-e.ensures, eighths-some level))
          (omega (arith, c.requires.4)),
      omega (arith, c.eighths-e.ensures, eighths-le level),
    )

pub column-requires : goal.column-requires
column-requires c = let a = c.args.a in
    rw (add-zero a) at (asks (goal.at.column-requires c).After-eighths-e 0 (lit< tt))

pub returns : goal.returns
returns c = let side = c.eighths-e in
    let g = c.args in
    let lev = levels_of g.rows.now in
    near-columns g.w g.h g.level g.a g.b lev side.result side.ensures c.requires.4
    (record {
      row0 = rw side.ensures c.row-m0.ensures;
      row1 = rw side.ensures c.row-m1.ensures;
      row2 = rw side.ensures c.row-m2.ensures;
      row3 = rw side.ensures c.row-m3.ensures;
    })
    c.column.ensures c.column-2.ensures c.column-3.ensures
    c.column-4.ensures

pub column-requires-2 : goal.column-requires-2
column-requires-2 c =
    asks (goal.at.column-requires-2 c).After-eighths-e 1 (lit< tt)

pub column-requires-3 : goal.column-requires-3
column-requires-3 c =
    asks (goal.at.column-requires-3 c).After-eighths-e 2 (lit< tt)

pub column-requires-4 : goal.column-requires-4
column-requires-4 c =
    asks (goal.at.column-requires-4 c).After-eighths-e 3 (lit< tt)
