-- `put_level` meets its contract: the head tells the length that the body has.
use mathlib.Core.Path.{◌≡◌, sym, ap, ◌∙◌}
use mathlib.Core.List.{List}
use Prim.Native.Nat.{ℕ, ◌+◌, ◌*◌}
use native.Mathlib.Omega.{arith}
use lib.ListN.{length}
use Rattle.surface.specs.TableFile.{level_body}
use Rattle.rows.specs.Rows.{levels_of}
use Rattle.tablefile.proofs.SavedLevels.{level-length}
use Rattle.fields.proofs.PutLaws.{put-field, put-empty}
use Rattle.saving.specs.Saved.{in_part}
use Rattle.saving.proofs.levels.put_level.Goals.{Start}
use Rattle.saving.proofs.levels.put_level.Goals as goal

-- the body
abbrev body : Start → List ℕ
body s = let a = s.args in level_body a.w a.h (levels_of a.rows.now) (in_part a.w a.part.now) a.level

-- five bytes for each active function
size : (s : Start) → 5 * s.args.count ≡ length (body s)
size s =
    let a = s.args in
    ap (λ n. 5 * n) s.requires.6
    ∙ sym (level-length a.w a.h (levels_of a.rows.now) (in_part a.w a.part.now) a.level)

pub returns-then-count-eq0 : goal.returns-then-count-eq0
returns-then-count-eq0 c =
    let start = (goal.at.returns-then-count-eq0 c).Start in
    let a = c.args in
    put-empty (16 + a.level) (5 * a.count) (body start) a.at a.out.now c.put_head-body.result
    c.put_head-body.new.out (size start) (omega (arith, c.if-count-eq0.true)) c.put_head-body.ensures

pub returns : goal.returns
returns c = let a = c.args in
    put-field (16 + a.level) (5 * a.count) (body (goal.at.returns c).Start) a.at a.out.now c.put_head-body.result
    c.put_head-body.new.out c.put_body.result c.put_body.new.out (size (goal.at.returns c).Start)
    c.put_head-body.ensures c.put_body.ensures
