-- `region_words` meets its contract.
use Prim.Native.Nat.{ℕ, ◌≤◌}
use Rattle.surface.specs.Sheet.{eighths}
use Rattle.rows.specs.Rows.{levels_of}
use Rattle.activity.specs.Marks.{placed, RegionRow}
use Rattle.activity.specs.Over.{Over}
use Rattle.activity.proofs.RegionLaws.{words, MarkRun, fine-run, coarse-run, region-row}
use Rattle.activity.proofs.region_words.Goals.{After-runs-odd}
use Rattle.activity.proofs.region_words.Goals as goal

-- by the run of the marks
by : (c : After-runs-odd) (even : ℕ)
    → let a = c.args in
    MarkRun a.level c.padded.result (placed (eighths a.level) (words even c.runs-odd.result))
    → (H b : ℕ) → H ≤ 8 → Over H a.level b a.window
    → RegionRow a.w H a.level b a.region (levels_of a.rows.now)
    (placed (eighths a.level) (words even c.runs-odd.result))
by c even run H b hH over =
    let a = c.args in
    region-row a.w H a.level b a.region a.rows.now a.window.low a.window.high
    c.common-word.result c.padded.result _ c.requires.6 c.requires.0 hH c.requires.1 c.requires.4
    c.requires.5 over.0 over.1 c.common-word.ensures c.padded.ensures run

pub returns-then-level-eq3 : goal.returns-then-level-eq3
returns-then-level-eq3 c = let level = c.args.level in
    by (goal.at.returns-then-level-eq3 c).After-runs-odd _ (fine-run level c.padded.result c.runs-odd.result c.runs-odd.ensures c.if-level-eq3.true)

pub returns-else-level-eq3 : goal.returns-else-level-eq3
returns-else-level-eq3 c = by (goal.at.returns-else-level-eq3 c).After-runs-odd _ (coarse-run c.args.level c.padded.result c.runs-odd.result c.runs-odd.ensures c.requires.1
    c.if-level-eq3.false)
