-- The text of a file by the answer that file reading gives, into buffers as the program lends them.
use mathlib.Core.Path.{◌≡◌, refl, sym, ap, ap₂, ◌∙◌}
use mathlib.Core.List.{List}
use Prim.Native.Nat.{ℕ, ◌+◌, ◌≤◌, ◌<◌}
use native.Mathlib.Omega.{arith}
use lib.IntN.{ℤ}
use lib.ListN.{length, get_or, take, drop}
use lib.Seq.{take-append_seam, get_or-take, get_or-drop}
use borrow.Author.Tests.{eq-eqb, le-ltb}
use Rattle.surface.specs.Table.{◌or_else◌, slots}
use Rattle.surface.specs.Calls.{refused, gives, length_cause, tree_out_cause}
use Rattle.surface.specs.Fields.{declined, contains, length_at}
use Rattle.surface.specs.TableFile.{Loaded, File, file_contents, FileResult, file_outcome_of, file_outcome}
use Rattle.surface.proofs.RefusalLaws.{answer-gives, answer-refused}
use Rattle.fields.proofs.FieldLaws.{body_of, rest_of, body-length}
use Rattle.tablefile.proofs.FileLaws.{accepted}
use Rattle.text.specs.Text.{refused_line}
use Rattle.corners.specs.Text.{table_text, text_of, corner_text}
use Rattle.corners.specs.Buffers.{places_of, places_named}
use Rattle.corners.proofs.CornerLaws.{names-some, on-sheet}

-- ---- what an accepted file says of the buffers

-- its first field has two bytes, the sides, after the three of its head
pub named-slots : (s : List ℕ) (f : Loaded) → file_contents s ≡ contains f → places_named s ≡ slots f.W f.H
named-slots s f e =
    let r = accepted s f e in
    let two : length_at s ≡ 2 = omega (arith, r.sides.long, r.sides.short) in
    let at : (i : ℕ) → i < 2 → get_or (body_of s) i 0 ≡ get_or s (3 + i) 0 =
    λ i h. get_or-take (length_at s) (drop 3 s) i 0 (omega arith) ∙ get_or-drop 3 s i 0 in
    names-some s (omega (arith, r.sides.whole))
    ∙ ap₂ places_of (sym (at 0 (omega arith)) ∙ r.side_w) (sym (at 1 (omega arith)) ∙ r.side_h)
    ∙ on-sheet f.W f.H (rw (r.good_w, r.good_h) refl)

pub tree-short : (s : List ℕ) (f : Loaded) → file_contents s ≡ contains f → length f.tree ≤ 1365
tree-short s f e =
    let r = accepted s f e in
    let size : length f.tree ≡ length_at (rest_of s) =
    ap length (sym r.tree_bytes) ∙ body-length (rest_of s) r.tree.whole in
    omega (arith, r.tree.short)

-- ---- the text by the answer

pub loaded-text : (file tree_out : List ℕ) (numbers_out : List ℤ) (r : FileResult)
    → (file_outcome file tree_out numbers_out).result ≡ gives r
    → table_text r.W r.H (take r.tree_length (file_outcome file tree_out numbers_out).tree)
    (file_outcome file tree_out numbers_out).numbers
    ≡ corner_text file
unfolding file_outcome corner_text
loaded-text file tree_out numbers_out r e = go (file_contents file) e
  where
    go : (g : File) → (file_outcome_of g tree_out numbers_out).result ≡ gives r
        → table_text r.W r.H (take r.tree_length (file_outcome_of g tree_out numbers_out).tree)
        (file_outcome_of g tree_out numbers_out).numbers
        ≡ text_of g
    go (declined n) e = absurd (let z : ◌≡◌ {A = ℕ} 0 1 = cc in omega arith)
    go (contains f) e =
        let c = length_cause (slots f.W f.H) numbers_out or_else tree_out_cause f.tree tree_out in
        let g = answer-gives c (record { tree_length = length f.tree; W = f.W; H = f.H }) r e in
        rw (g.0, ← g.1)
        (ap (λ t. table_text f.W f.H t f.numbers)
        (take-append_seam f.tree (drop (length f.tree) tree_out)))

-- 16 and 17 do not arise, so that a refusal's number is that of the file.
pub refused-text : (file tree_out : List ℕ) (numbers_out : List ℤ) (n : ℕ)
    → 1365 ≤ length tree_out → length numbers_out ≡ places_named file
    → (file_outcome file tree_out numbers_out).result ≡ refused n
    → refused_line n ≡ corner_text file
unfolding file_outcome corner_text
refused-text file tree_out numbers_out n room due e = go (file_contents file) refl e
  where
    go : (g : File) → file_contents file ≡ g → (file_outcome_of g tree_out numbers_out).result ≡ refused n
        → refused_line n ≡ text_of g
    go (declined m) s e = let same : n ≡ m = cc in ap refused_line same
    go (contains f) s e =
        let c = length_cause (slots f.W f.H) numbers_out or_else tree_out_cause f.tree tree_out in
        let a = answer-refused c (record { tree_length = length f.tree; W = f.W; H = f.H }) n e in
        let none : c ≡ 0 =
        rw (
          eq-eqb (length numbers_out) (slots f.W f.H) (due ∙ named-slots file f s),
          le-ltb (length tree_out) (length f.tree) (omega (arith, tree-short file f s)),
        )
        refl in
        absurd (omega (arith, a.0, a.1, none))
