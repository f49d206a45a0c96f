-- The counts in a file: which files have them, and what they tell.
use mathlib.Core.Path.{◌≡◌, refl, sym, ap, ap₂, ◌∙◌}
use mathlib.Core.Bool.{Bool, true, false, cond}
use mathlib.Core.List.{List, [], ◌∷◌, ◌++◌, append_assoc}
use Prim.Native.Nat.{ℕ, ◌+◌, ◌*◌, ◌<◌}
use native.Mathlib.Omega.{arith}
use lib.Dec.{eqb}
use lib.ListN.{length, get_or, drop}
use lib.Seq.{get_or-take, drop-drop}
use Rattle.finite.specs.Range.{joined}
use Rattle.surface.specs.Support.{active_count}
use Rattle.surface.specs.Table.{levels, coefficients}
use Rattle.surface.specs.Fields.{length_at, field_bytes}
use Rattle.surface.specs.Note.{note_bytes}
use Rattle.surface.specs.TableFile.{Loaded, level_body, counts_body, file_with}
use Rattle.surface.proofs.TableLaws.{sound}
use Rattle.fields.proofs.FieldLaws.{body_of, rest_of, checked-accepted}
use Rattle.fields.proofs.Written.{checked-read}
use Rattle.tablefile.specs.Counts.{after_tree, CountsTell, CountsThere}
use Rattle.tablefile.proofs.CountsField.{counts-tell}
use Rattle.tablefile.proofs.FileLaws.{accepted, tree-end, has-counts}
use Rattle.tablefile.proofs.Saved.{tree-size, saved-loads}

-- ---- which files have them

-- what follows a written field
past-written : (tag : ℕ) (b rest : List ℕ) → length b < 65536 → rest_of (field_bytes tag b ++ rest) ≡ rest
past-written tag b rest small =
    (checked-accepted tag 0 65535 0 (λ b. true) (λ b. b) (field_bytes tag b ++ rest) b rest
    (checked-read tag 0 65535 1 (λ b. true) (λ b. b) b rest small (omega arith) (omega arith) refl)).3

-- tag 3 or 16 follows the sides and the tree
tag-due : (field : ℕ → List ℕ) (body last : List ℕ) (counts : Bool)
    → eqb (get_or (cond counts (field_bytes 3 body) [] ++ (joined 4 (λ L. field_bytes (16 + L) (field L)) ++ last)) 0 0) 3
    ≡ counts
unfolding joined
tag-due field body last true = refl
tag-due field body last false = refl

pub counts-there : CountsThere
unfolding file_with
counts-there counts note W H t cs acc fits =
    let s = file_with counts note W H t cs in
    let f : Loaded = record { W = W; H = H; tree = t; numbers = cs; note = note } in
    let body = counts_body (active_count W H (levels t)) in
    let field : ℕ → List ℕ = λ L. level_body W H (levels t) (coefficients W H cs) L in
    let tail = joined 4 (λ L. field_bytes (16 + L) (field L)) ++ note_bytes note in
    let rest = cond counts (field_bytes 3 body) [] ++ tail in
    let parts : s ≡ field_bytes 1 (W ∷ H ∷ []) ++ (field_bytes 2 t ++ rest) = simp (append_assoc) in
    has-counts s f (accepted s f (saved-loads counts note W H t cs acc fits).0)
    ∙ ap (λ s. eqb (get_or (rest_of (rest_of s)) 0 0) 3) parts
    ∙ ap (λ s. eqb (get_or (rest_of s) 0 0) 3) (past-written 1 (W ∷ H ∷ []) (field_bytes 2 t ++ rest) (omega arith))
    ∙ ap (λ s. eqb (get_or s 0 0) 3)
    (past-written 2 t rest (omega (arith, (tree-size W H t (sound W H t cs acc).tree).1)))
    ∙ tag-due field body (note_bytes note) counts

-- ---- what they tell

-- The counts that stand in a file are those of the table that it loads.
pub file-counts-tell : CountsTell
file-counts-tell s f e has L h =
    let r = accepted s f e in
    let x = rest_of (rest_of s) in
    let c = r.counts (sym (has-counts s f r) ∙ has) in
    let at = ap (drop 3) (tree-end s f r) ∙ drop-drop 3 (after_tree s) s in
    let inside : (i : ℕ) → i < 8 → get_or (drop (after_tree s + 3) s) i 0 ≡ get_or (body_of x) i 0 = λ i l.
    ap (λ l. get_or l i 0) (sym at)
    ∙ sym (get_or-take (length_at x) (drop 3 x) i 0 (omega (arith, c.field.long))) in
    ap₂ (λ a b. 256 * a + b) (inside (2 * L) (omega arith)) (inside (2 * L + 1) (omega arith))
    ∙ counts-tell (active_count f.W f.H (levels f.tree)) (body_of x) c.agree L h
