-- `over_regions`: what was found is told.
use mathlib.Core.Path.{◌≡◌, refl, sym, ◌∙◌}
use mathlib.Core.Logic.{inl, inr}
use Prim.Native.Nat.{ℕ}
use lib.IntN.{ℤ}
use lib.ListN.{length}
use Rattle.surface.specs.Table.{slots}
use Rattle.rows.specs.Rows.{levels_of}
use Rattle.answers.specs.declared.Refusal as Causes
use Rattle.answers.proofs.AnswerLaws.{slice-refused, slice-done}
use Rattle.fromgrid.specs.Converts.{number_in, Fits, FoundAndAgree}
use Rattle.fromgrid.proofs.LevelLaws.{all_fit}
use Rattle.fromgrid.proofs.Promise.{wrong-length, right-length}
use Rattle.fromgrid.proofs.over_regions.Goals.{Else-not-convert, Else-numbers_out-start}
use Rattle.fromgrid.proofs.over_regions.Goals as goal

pub returns-then-not-convert : goal.returns-then-not-convert
returns-then-not-convert c = inl (c.convert.ensures.1 c.if-not-convert.true, refl, refl)

-- the numbers that were found
abbrev found : Else-not-convert → ℕ → ℕ → ℕ → ℤ
found e =
    let a = e.args in
    number_in a.w a.body.now e.convert.new.level0 e.convert.new.level1 e.convert.new.level2

converted : (e : Else-not-convert)
    → let a = e.args in
    FoundAndAgree a.w a.h (levels_of a.rows.now) a.body.now e.convert.new.level0 e.convert.new.level1
    e.convert.new.level2
converted e = e.convert.ensures.0 e.if-not-convert.false

fit : (e : Else-not-convert) → let a = e.args in Fits a.w a.h (levels_of a.rows.now) (found e)
fit e =
    let a = e.args in
    let o = e.requires.0 in
    all_fit a.w a.h o.side-W.0 o.side-H.0 (levels_of a.rows.now) a.body.now _ _ _
    (converted e).0 o (converted e).1

pub returns-then-numbers_out-start : goal.returns-then-numbers_out-start
returns-then-numbers_out-start c = let a = c.args in
    inr (
      found (goal.at.returns-then-numbers_out-start c).Else-not-convert,
      fit (goal.at.returns-then-numbers_out-start c).Else-not-convert,
      λ _ _. refl,
      slice-refused Causes.TheVariants.OutputLength
          (wrong-length (slots a.w a.h) a.numbers_out.now
          (λ z. c.if-numbers_out-start.true (z ∙ sym c.start.ensures.0))) _ _ a.numbers_out.now,
    )

-- past 16
size : (c : Else-numbers_out-start) → let a = c.args in length a.numbers_out.now ≡ slots a.w a.h
size c = c.if-numbers_out-start.false ∙ c.start.ensures.0

pub write_table-requires : goal.write_table-requires
write_table-requires c = let o = c.requires.0 in
    let l = (converted (goal.at.write_table-requires c).Else-not-convert).0 in (
      o.side-W.1,
      o.side-H.1,
      size (goal.at.write_table-requires c).Else-numbers_out-start,
      o.size,
      l.zero.size,
      l.one.size,
      l.two.size,
      c.requires.1,
    )

pub returns : goal.returns
returns c = let a = c.args in
    inr (
      found (goal.at.returns c).Else-not-convert,
      fit (goal.at.returns c).Else-not-convert,
      λ _ _. refl,
      slice-done
          (right-length (slots a.w a.h) a.numbers_out.now (size (goal.at.returns c).Else-numbers_out-start))
          refl c.write_table.ensures a.numbers_out.now,
    )
