-- The theorems about the text: numbers, long input, and document 01's bench table and refusal.
use mathlib.Core.Path.{◌≡◌, refl, ap, ◌∙◌}
use mathlib.Core.List.{List, ◌++◌}
use Prim.Native.Nat.{ℕ, ◌*◌, ◌≤◌}
use lib.Dec.{lit<, lit≤}
use lib.IntN.{ℤ, pos}
use Rattle.finite.specs.Range.{sum, every, least, joined}
use Rattle.surface.specs.Sheet.{eighths}
use Rattle.surface.specs.Quadtree.{parse, well_formed, level_at}
use Rattle.surface.specs.Support.{least_under}
use Rattle.surface.specs.Spline.{cell_of, piece}
use Rattle.surface.specs.Truncation.{D}
use Rattle.surface.specs.Patch.{patch, patch_reading}
use Rattle.surface.specs.Table.{levels, start, coefficients, within_limits, passive_zero, region_cause, table_cause}
use Rattle.surface.specs.Table.{Acceptable}
use Rattle.surface.specs.Calls.{whole_watts}
use Rattle.surface.specs.Fields.{field}
use Rattle.surface.specs.TableFile.{sides_field, file_contents}
use Rattle.bench.specs.Bench.{S, flat}
use Rattle.surface.proofs.PatchReading.{patch-reading}
use Rattle.tablefile.proofs.LongLaws.{cut-contents}
use Rattle.tablefile.proofs.Saved.{saved-loads}
use Rattle.text.specs.Text.{width_within, decimal, header, refused_line, line}
use Rattle.corners.specs.Text.{corner_line}
use Rattle.corners.specs.Text.{table_text, text_of, corner_text}
use Rattle.corners.specs.Claims.{DecimalIsFewest, FrontDecides, BenchText, RefusedText}
use Rattle.text.proofs.TextLaws.{fewest-decimal}

pub decimal-is-fewest : DecimalIsFewest
decimal-is-fewest = fewest-decimal

pub front-decides : FrontDecides
unfolding corner_text
front-decides s n h = ap text_of (cut-contents s n h)

pub refused-text-12 : RefusedText
unfolding corner_text file_contents sides_field field refused_line decimal width_within
refused-text-12 = refl

-- ---- the bench table

S-acceptable : Acceptable 1 1 flat S
unfolding table_cause region_cause within_limits passive_zero every least_under least eighths levels level_at parse
    well_formed start coefficients
S-acceptable = refl

-- two rows of two lines
two-by-two : (f : ℕ → ℕ → List ℕ) (a b c d : List ℕ) → f 0 0 ≡ a → f 0 1 ≡ b → f 1 0 ≡ c → f 1 1 ≡ d
    → joined 2 (λ v. joined 2 (f v)) ≡ (a ++ b) ++ (c ++ d)
unfolding joined
two-by-two f a b c d p q r s = rw (p, q, r, s) refl

-- the line of a corner, by its patch
corner : (u v : ℕ) (n : ℤ) → 128 * u ≤ 128 → 128 * v ≤ 128
    → patch_reading 1 1 (levels flat) (coefficients 1 1 S) (128 * u) (128 * v) ≡ n
    → corner_line 1 1 flat S v u ≡ line u v (whole_watts n)
corner u v n hu hv r =
    ap (λ x. line u v (whole_watts x))
    (patch-reading 1 1 (levels flat) (coefficients 1 1 S) (128 * u) (128 * v) (lit< tt) (lit< tt) hu hv ∙ r)

bench-lines : joined 2 (λ v. joined 2 (corner_line 1 1 flat S v))
    ≡ (line 0 0 (whole_watts (pos 0)) ++ line 1 0 (whole_watts (pos (1000 * D))))
    ++ (line 0 1 (whole_watts (pos 0)) ++ line 1 1 (whole_watts (pos (1000 * D))))
unfolding every least_under least eighths levels level_at parse start coefficients patch_reading patch sum cell_of piece
bench-lines =
    two-by-two (corner_line 1 1 flat S) (line 0 0 (whole_watts (pos 0))) (line 1 0 (whole_watts (pos (1000 * D))))
    (line 0 1 (whole_watts (pos 0))) (line 1 1 (whole_watts (pos (1000 * D))))
    (corner 0 0 (pos 0) (lit≤ tt) (lit≤ tt) refl)
    (corner 1 0 (pos (1000 * D)) (lit≤ tt) (lit≤ tt) refl)
    (corner 0 1 (pos 0) (lit≤ tt) (lit≤ tt) refl)
    (corner 1 1 (pos (1000 * D)) (lit≤ tt) (lit≤ tt) refl)

pub bench-text : BenchText
unfolding corner_text table_text whole_watts line decimal width_within
bench-text counts note fits =
    ap text_of (saved-loads counts note 1 1 flat S S-acceptable fits).0 ∙ ap (λ l. header ++ l) bench-lines
