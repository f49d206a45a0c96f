-- From the promises of the linked calls to the same: a code and what stands beside it tell the answer.
use mathlib.Core.Path.{◌≡◌, refl, sym, ap, ap₂, ◌∙◌}
use mathlib.Core.Bool.{true≢false}
use mathlib.Core.List.{List}
use Prim.Native.Nat.{ℕ, zero, suc}
use lib.IntN.{ℤ}
use lib.ListN.{length}
use Rattle.surface.specs.Table.{table_reading}
use Rattle.surface.specs.Calls.{Answer, refused, gives, answer, Done, SliceMeets, reading_cause, exact_outcome}
use Rattle.surface.specs.TableFile.{Sides}
use Rattle.surface.specs.Grid.{write_grid_cause, write_grid_outcome, grid_contents, read_grid_outcome, ReadGrid}
use Rattle.surface.specs.Demands.{Contents}
use Rattle.surface.proofs.GridRefusals.{read-grid-refusals}
use Rattle.answers.specs.Codes.{code_of, or_given, SheetWritten}
use Rattle.answers.proofs.CodeLaws.{told}
use Rattle.conversion.specs.OfCalls.{KilnWrote, KilnRead, KilnAsked, grid_bytes, ConversionOfLinked}
use Rattle.conversion.proofs.OfCalls.{conversion}

-- the code and the length, as an answer
wrote-linked : (W H : ℕ) (c : Contents) (out : List ℕ) (a : Answer ℕ) (after : List ℕ) → KilnWrote W H c out a after
    → SliceMeets (write_grid_outcome W H c.tree c.numbers out) a after
unfolding write_grid_outcome
wrote-linked W H c out a after (code, n₀, n, p, e) = (
  sym e
      ∙ told (write_grid_cause W H c.tree c.numbers out) (length (grid_bytes W H c)) n₀ n code p.0,
  p.1,
)

-- the code and what stands at both parameters; no refusal number is 0
sheet-told : (o : Done Sides ℤ) → ((n : ℕ) → o.result ≡ refused n → n ≡ 0 → ⊥)
    → (code w₀ w h₀ h : ℕ) (after : List ℤ) → SheetWritten o code w₀ w h₀ h after
    → SliceMeets o (answer code (record { W = w; H = h })) after
sheet-told o nonzero code w₀ w h₀ h after (c, ew, eh, left) = (go o.result nonzero c ew eh, left)
  where
    refused-by : (n : ℕ) (a : Sides) → (n ≡ 0 → ⊥) → answer n a ≡ refused n
    refused-by zero a h = absurd (h refl)
    refused-by (suc n) a h = refl

    go : (r : Answer Sides) → ((n : ℕ) → r ≡ refused n → n ≡ 0 → ⊥) → code ≡ code_of r
        → w ≡ or_given (λ s. s.W) r w₀ → h ≡ or_given (λ s. s.H) r h₀ → answer code (record { W = w; H = h }) ≡ r
    go (refused n) nonzero c ew eh =
        ap (λ k. answer k (record { W = w; H = h })) c ∙ refused-by n (record { W = w; H = h }) (nonzero n refl)
    go (gives s) nonzero c ew eh =
        ap (λ k. answer k (record { W = w; H = h })) c ∙ ap₂ (λ w h. gives (record { W = w; H = h })) ew eh

read-linked : (file t : List ℕ) (out : List ℤ) (a : Answer Sides) (after : List ℤ) → KilnRead file t out a after
    → ReadGrid file t out (λ o. SliceMeets o a after)
read-linked file t out a after (code, w₀, w, h₀, h, p, e) =
    let o = read_grid_outcome (grid_contents file) t p.converted out in
    let refusals = read-grid-refusals file t out p.converted p.right in
    let m = sheet-told o (λ n q z. true≢false (sym (refusals.number 0 (q ∙ ap refused z)))) code w₀ w h₀ h after
    p.outcome in
    record { converted = p.converted; right = p.right; outcome = (sym e ∙ m.0, m.1) }

asked-linked : (W H : ℕ) (c : Contents) (u v : ℕ) (a : Answer ℤ) → KilnAsked W H c u v a
    → a ≡ exact_outcome W H c.tree c.numbers u v
unfolding exact_outcome
asked-linked W H c u v a (code, n₀, n, p, e) =
    sym e
    ∙ told (reading_cause W H c.tree c.numbers u v) (table_reading W H c.tree c.numbers u v) n₀ n code p

pub conversion-of-linked : ConversionOfLinked
conversion-of-linked = conversion KilnWrote KilnRead KilnAsked wrote-linked read-linked asked-linked
